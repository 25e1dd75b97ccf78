-- What is right (01, "Lines and fields"; 000, 3.3): the lines that a file has to be, and what they deliver, as a
-- grammar.
-- It names no state, no step and no refusal. `RightClaims` says that reading accepts exactly these.
-- Short names: m the model, u the undefined byte, p a topic's number, t a table's, l a line, f a field, i an
-- identification's field, os objects.
use Rattle.std.specs.Prelude.{ℕ, ◌+◌, ◌*◌, ◌≤◌, ◌<◌, ◌≡◌, Bool, true, false, List, [], ◌∷◌, ◌++◌, ℤ, pos, length}
use Rattle.std.specs.Prelude.{get_or, set, replicate}
use Rattle.meaning.specs.Bytes.{every, text_byte, prefix}
use Rattle.meaning.specs.Model.{Component, AttributeType, Reference, Coordinate, Number, Text, Date, Enumeration}
use Rattle.meaning.specs.Model.{Found, found, missing, Attribute, Model, mark_count, table_at}
use Rattle.meaning.specs.Model as model
use Rattle.meaning.specs.Field.{Field, no_field, fields_of, SCNT, slashes, MTID, MODL, TOPI, TABL, OBJE, STPT, LIPT}
use Rattle.meaning.specs.Field.{ARCP, ELIN, ETAB, ETOP, EMOD, ENDE}
use Rattle.meaning.specs.Value.{pair, number_of, date_of, enumeration_of, is_identification, is_undefined}
use Rattle.meaning.specs.Value.{is_undefined_twice}
use Rattle.meaning.specs.Row.{point_cells}
use Rattle.meaning.specs.Reading.{Content, same_name, Object}
use Rattle.meaning.specs.Table.{find_object}

-- ## What is delivered

-- a point: "0 STPT, 1 LIPT, 2 ARCP", and the values of its components
pub record Point : Type 0 where
  pub kind : ℕ
  pub values : List ℤ

-- what an object has for an attribute or a coordinate's component:
--   Undefined     nothing
--   OfValue       a number's, a date's or an enumeration's value
--   OfText        a text, which is the bytes of this field
--   OfReference   the object of table `target` whose identification is the bytes of this field
--   OfPoints      a line of these points
pub data Entry : Type 0 where
  Undefined : Entry
  OfValue : ℤ → Entry
  OfText : Field → Entry
  OfReference : (target : ℕ) → Field → Entry
  OfPoints : List Point → Entry

-- an object of a table, in model order one entry for each pair of its row
pub record Delivered : Type 0 where
  pub table : ℕ
  pub identification : Field
  pub entries : List Entry

pub record DeliveredTable : Type 0 where
  pub table : ℕ
  pub objects : List Delivered

pub record DeliveredTopic : Type 0 where
  pub topic : ℕ
  pub tables : List DeliveredTable

-- all objects "from 0 in file order"
unfoldable pub objects_of_tables : List DeliveredTable → List Delivered
objects_of_tables [] = []
objects_of_tables (t ∷ ts) = t.objects ++ objects_of_tables ts

unfoldable pub objects_of_topics : List DeliveredTopic → List Delivered
objects_of_topics [] = []
objects_of_topics (p ∷ ps) = objects_of_tables p.tables ++ objects_of_topics ps

-- ## Lines

-- a logical line: where it starts in the unfolded text, and its bytes
pub record Line : Type 0 where
  pub start : ℕ
  pub bytes : List ℕ

-- the lines with their starts: "The unfolded text is each logical line followed by one LF"
unfoldable pub with_starts : (start : ℕ) → List (List ℕ) → List Line
with_starts start [] = []
with_starts start (l ∷ ls) = record { start = start; bytes = l } ∷ with_starts (start + length l + 1) ls

-- the line's fields are this code and then these
pub record Coded (code : List ℕ) (l : Line) (others : List Field) : Type 0 where
  pub first : Field
  pub fields : fields_of l.start l.bytes ≡ first ∷ others
  pub reads : first.bytes ≡ code

-- the line is this code and nothing else
abbrev pub Alone : List ℕ → Line → Type 0
Alone code l = Coded code l []

-- ## Fields

-- "A field that is the undefined byte alone is undefined. Two undefined bytes as a field: this and all remaining fields
-- are undefined"
pub record Defined (u : ℕ) (f : Field) : Type 0 where
  pub one : is_undefined u f ≡ false
  pub two : is_undefined_twice u f ≡ false

-- the field is a number of this component, of this value: shape and bounds are right
abbrev pub IsNumber : Component → Field → ℤ → Type 0
IsNumber c f v = number_of c f.bytes ≡ pair (pos 1) v

-- what a defined field means, by its attribute's type
pub data Means : AttributeType → Field → Entry → Type 0 where
  number : {c : Component} {f : Field} {v : ℤ} → IsNumber c f v → Means (Number c) f (OfValue v)
  date : {f : Field} {v : ℤ} → date_of f.bytes ≡ pair (pos 1) v → Means Date f (OfValue v)
  enumeration : {leaves : ℕ} {f : Field} {v : ℤ} → enumeration_of leaves f.bytes ≡ pair (pos 1) v
      → Means (Enumeration leaves) f (OfValue v)
  text : {longest : ℕ} {f : Field} → every text_byte f.bytes ≡ true → length f.bytes ≤ longest
      → Means (Text longest) f (OfText f)
  reference : {target : ℕ} {f : Field} → is_identification f.bytes ≡ true
      → Means (Reference target) f (OfReference target f)

-- "An identification is never one or two undefined bytes"
pub record Identification (u : ℕ) (i : Field) : Type 0 where
  pub defined : Defined u i
  pub shape : is_identification i.bytes ≡ true

-- ## A line attribute: "STPT, then one or more of LIPT or ARCP LIPT, then ELIN"

-- the fields of a point and their values: "Points are never undefined"
pub data Values (u : ℕ) : List Component → List Field → List ℤ → Type 0 where
  none : Values u [] [] []
  one : {c : Component} {cs : List Component} {f : Field} {fs : List Field} {v : ℤ} {vs : List ℤ} → Defined u f
      → IsNumber c f v → Values u cs fs vs → Values u (c ∷ cs) (f ∷ fs) (v ∷ vs)

-- a line of this code, and a point's fields
pub record PointLine (u : ℕ) (cs : List Component) (code : List ℕ) (l : Line) (vs : List ℤ) : Type 0 where
  pub others : List Field
  pub coded : Coded code l others
  pub values : Values u cs others vs

-- forms are "1 straight, 2 arc, 3 both"
abbrev pub HasStraights : ℕ → Type 0
HasStraights forms = forms ≡ 2 → ⊥

abbrev pub HasArcs : ℕ → Type 0
HasArcs forms = forms ≡ 1 → ⊥

-- "LIPT or ARCP LIPT"
pub data Segment (u forms : ℕ) (cs : List Component) : List Line → List Point → Type 0 where
  straight : {l : Line} {vs : List ℤ} → HasStraights forms → PointLine u cs LIPT l vs
      → Segment u forms cs (l ∷ []) (record { kind = 1; values = vs } ∷ [])
  arc : {a l : Line} {vs ws : List ℤ} → HasArcs forms → PointLine u cs ARCP a vs → PointLine u cs LIPT l ws
      → Segment u forms cs (a ∷ l ∷ []) (record { kind = 2; values = vs } ∷ record { kind = 1; values = ws } ∷ [])

-- "one or more"
pub data Segments (u forms : ℕ) (cs : List Component) : List Line → List Point → Type 0 where
  last : {ls : List Line} {ps : List Point} → Segment u forms cs ls ps → Segments u forms cs ls ps
  more : {ls others : List Line} {ps qs : List Point} → Segment u forms cs ls ps → Segments u forms cs others qs
      → Segments u forms cs (ls ++ others) (ps ++ qs)

-- the lines from STPT to ELIN, and the points of the line
pub data Drawn (u forms : ℕ) (cs : List Component) : List Line → List Point → Type 0 where
  drawn : {l e : Line} {ls : List Line} {vs : List ℤ} {ps : List Point} → PointLine u cs STPT l vs
      → Segments u forms cs ls ps → Alone ELIN e
      → Drawn u forms cs (l ∷ (ls ++ (e ∷ []))) (record { kind = 0; values = vs } ∷ ps)

-- ## An object: "OBJE: identification, then the fields of all attributes but lines. Line attributes follow in order"
-- (000, 3.3, in 01's subset: ObjektD = 'OBJE' TransferId AttributD)

-- how many fields an attribute has on the OBJE line: a coordinate one for each component, a line none
unfoldable pub field_count : AttributeType → ℕ
field_count (Reference target) = 1
field_count (Coordinate cs) = length cs
field_count (Number c) = 1
field_count (Text longest) = 1
field_count Date = 1
field_count (Enumeration leaves) = 1
field_count (model.Line forms cs) = 0

abbrev pub undefined_field : (u : ℕ) → Field
undefined_field u = record { start = 0; bytes = u ∷ [] }

-- "Two undefined bytes as a field: this and all remaining fields are undefined": what the fields of a line stand for,
-- themselves; or in place of two undefined bytes, which are the last field, one undefined field or more
pub data StandFor (u : ℕ) : (written meant : List Field) → Type 0 where
  themselves : {fs : List Field} → StandFor u fs fs
  remaining : (fs : List Field) (f : Field) (more : ℕ) → is_undefined_twice u f ≡ true
      → StandFor u (fs ++ (f ∷ [])) (fs ++ replicate (1 + more) (undefined_field u))

-- all these fields are undefined
abbrev pub AllUndefined : (u : ℕ) → List Field → Type 0
AllUndefined u [] = Unit {0}
AllUndefined u (f ∷ fs) = (is_undefined u f ≡ true) × AllUndefined u fs

unfoldable pub value_entries : List ℤ → List Entry
value_entries [] = []
value_entries (v ∷ vs) = OfValue v ∷ value_entries vs

-- the fields of one attribute and its entries:
--   value        its field
--   coordinate   a field for each component
--   undefined    all its fields, where it is optional: a coordinate is not mixed
pub data AttributeEntries (u : ℕ) : (optional : Bool) → AttributeType → List Field → List Entry → Type 0 where
  value : {o : Bool} {type : AttributeType} {f : Field} {e : Entry} → Defined u f → Means type f e
      → AttributeEntries u o type (f ∷ []) (e ∷ [])
  coordinate : {o : Bool} {cs : List Component} {fs : List Field} {vs : List ℤ} → Values u cs fs vs
      → AttributeEntries u o (Coordinate cs) fs (value_entries vs)
  undefined : {type : AttributeType} {fs : List Field} → 1 ≤ field_count type → length fs ≡ field_count type
      → AllUndefined u fs → AttributeEntries u true type fs (replicate (length fs) Undefined)

-- the entries of an object's attributes, from the fields of its OBJE line and the lines that follow it
pub data Entries (u : ℕ) : List Attribute → List Field → List Line → List Entry → Type 0 where
  -- no field is missing and none is extra
  done : Entries u [] [] [] []
  fields : {a : Attribute} {others : List Attribute} {fs gs : List Field} {ls : List Line} {es others' : List Entry}
      → AttributeEntries u a.optional a.type fs es → Entries u others gs ls others'
      → Entries u (a ∷ others) (fs ++ gs) ls (es ++ others')
  -- a line attribute has no field, but lines: "ELIN alone is an undefined line", where it is optional
  undrawn : {a : Attribute} {others : List Attribute} {forms : ℕ} {cs : List Component} {fs : List Field} {l : Line}
      {ls : List Line} {es : List Entry}
      → a.type ≡ model.Line forms cs → a.optional ≡ true → Alone ELIN l → Entries u others fs ls es
      → Entries u (a ∷ others) fs (l ∷ ls) (Undefined ∷ es)
  along : {a : Attribute} {others : List Attribute} {forms : ℕ} {cs : List Component} {fs : List Field}
      {these ls : List Line} {points : List Point} {es : List Entry}
      → a.type ≡ model.Line forms cs → Drawn u forms cs these points → Entries u others fs ls es
      → Entries u (a ∷ others) fs (these ++ ls) (OfPoints points ∷ es)

-- an object of table t
pub data ObjectLines (m : Model) (t : ℕ) : List Line → Delivered → Type 0 where
  object : {l : Line} {ls : List Line} {i : Field} {fs gs : List Field} {es : List Entry} → Coded OBJE l (i ∷ fs)
      → Identification m.undefined i → StandFor m.undefined fs gs
      → Entries m.undefined (table_at m.tables t).attributes gs ls es
      → ObjectLines m t (l ∷ ls) (record { table = t; identification = i; entries = es })

-- any number of objects of table t
pub data Objects (m : Model) (t : ℕ) : List Line → List Delivered → Type 0 where
  none : Objects m t [] []
  more : {ls others : List Line} {o : Delivered} {os : List Delivered} → ObjectLines m t ls o → Objects m t others os
      → Objects m t (ls ++ others) (o ∷ os)

-- ## Tables and topics: "Topics and tables come in model order; topics and optional tables may be left out"
-- (000, 3.3, in 01's subset: TabellenD = 'TABL' Tabellen-Name NL { ObjektD } 'ETAB' NL, ThemaD = 'TOPI' Themen-Name NL
-- { TabellenD } 'ETOP')

-- no table of topic p is mandatory, from table `from` on and before table `to`
abbrev pub AllOptional : Model → (p from to : ℕ) → Type 0
AllOptional m p from to = (n : ℕ) → from ≤ n → n < to → (table_at m.tables n).topic ≡ p
    → (table_at m.tables n).optional ≡ true

-- tables of topic p, from table `from` on; "Topic and table names compare by their first 24 bytes"
pub data Tables (m : Model) (p : ℕ) : (from : ℕ) → List Line → List DeliveredTable → Type 0 where
  none : {from : ℕ} → AllOptional m p from (length m.tables) → Tables m p from [] []
  more : {from t : ℕ} {l e : Line} {f : Field} {ls others : List Line} {os : List Delivered} {ds : List DeliveredTable}
      → from ≤ t → t < length m.tables → (table_at m.tables t).topic ≡ p → AllOptional m p from t
      → Coded TABL l (f ∷ []) → same_name (table_at m.tables t).name f.bytes ≡ true → Objects m t ls os
      → Alone ETAB e → Tables m p (t + 1) others ds
      → Tables m p from (l ∷ (ls ++ (e ∷ others))) (record { table = t; objects = os } ∷ ds)

-- topics, from topic `from` on
pub data Topics (m : Model) : (from : ℕ) → List Line → List DeliveredTopic → Type 0 where
  none : {from : ℕ} → Topics m from [] []
  more : {from p : ℕ} {l e : Line} {f : Field} {ls others : List Line} {ts : List DeliveredTable}
      {ds : List DeliveredTopic}
      → from ≤ p → p < length m.topics → Coded TOPI l (f ∷ []) → same_name (get_or m.topics p []) f.bytes ≡ true
      → Tables m p 0 ls ts → Alone ETOP e
      → Topics m (p + 1) others ds → Topics m from (l ∷ (ls ++ (e ∷ others))) (record { topic = p; tables = ts } ∷ ds)

-- ## The file
-- (000, 3.3, in 01's subset: Beschreibung = { Beschreibungszeile } '////' NL, Transferfile = 'SCNT' NL Beschreibung
-- 'MTID' Transfer-Name NL ModellD 'ENDE' NL, ModellD = 'MODL' Modell-Name NL { ThemaD } 'EMOD' NL)

-- "description lines up to the first line beginning with ////, which must be that field alone"
pub data Description : List Line → Type 0 where
  last : {l : Line} → prefix slashes l.bytes ≡ true → Alone slashes l → Description (l ∷ [])
  more : {l : Line} {ls : List Line} → prefix slashes l.bytes ≡ false → Description ls → Description (l ∷ ls)

-- "SCNT; description lines ..; MTID with the transfer name; MODL with the model name; topics; EMOD; ENDE; nothing
-- after"
pub data File (m : Model) : List Line → List DeliveredTopic → Type 0 where
  file : {scnt mtid modl emod ende : Line} {f g : Field} {ds ls : List Line} {ts : List DeliveredTopic}
      → Alone SCNT scnt → Description ds → Coded MTID mtid (f ∷ []) → f.bytes ≡ m.transfer
      → Coded MODL modl (g ∷ []) → g.bytes ≡ m.name → Topics m 0 ls ts → Alone EMOD emod → Alone ENDE ende
      → File m (scnt ∷ (ds ++ (mtid ∷ modl ∷ (ls ++ (emod ∷ ende ∷ []))))) ts

-- what an object beyond the last is taken for
abbrev pub no_object : Delivered
no_object = record { table = 0; identification = no_field; entries = [] }

abbrev pub identification_at : List Delivered → ℕ → List ℕ
identification_at os n = (get_or os n no_object).identification.bytes

-- "Equal means equal bytes; identifications are unique in the file"
abbrev pub Unique : List Delivered → Type 0
Unique os = (i j : ℕ) → i < j → j < length os → identification_at os i ≡ identification_at os j → ⊥

-- some object of table `target` has this identification
pub record Names (os : List Delivered) (target : ℕ) (identification : List ℕ) : Type 0 where
  pub number : ℕ
  pub within : number < length os
  pub table : (get_or os number no_object).table ≡ target
  pub same : identification_at os number ≡ identification

-- an entry that is a reference names an object of its table
abbrev pub IsNamed : List Delivered → Entry → Type 0
IsNamed os Undefined = Unit {0}
IsNamed os (OfValue v) = Unit {0}
IsNamed os (OfText f) = Unit {0}
IsNamed os (OfReference target f) = Names os target f.bytes
IsNamed os (OfPoints ps) = Unit {0}

-- all references of an object do
abbrev pub AllNamed : List Delivered → List Entry → Type 0
AllNamed os [] = Unit {0}
AllNamed os (e ∷ es) = IsNamed os e × AllNamed os es

-- and of these objects
abbrev pub Referred : (all os : List Delivered) → Type 0
Referred all [] = Unit {0}
Referred all (o ∷ os) = AllNamed all o.entries × Referred all os

-- the lines ls are right and deliver ds: structure and values, identifications, references
pub record Right (m : Model) (ls : List (List ℕ)) (ds : List DeliveredTopic) : Type 0 where
  pub file : File m (with_starts 0 ls) ds
  pub unique : Unique (objects_of_topics ds)
  pub references : Referred (objects_of_topics ds) (objects_of_topics ds)

-- ## The table that they are (01, "The table")

-- the objects as references look for them: table and identification
unfoldable pub names_of : List Delivered → List Object
names_of [] = []
names_of (o ∷ os) = record { table = o.table; identification = o.identification.bytes } ∷ names_of os

-- "the number of the object, from 0 in file order"
unfoldable pub number_cell : Found → ℤ
number_cell (found n) = pos n
number_cell missing = pos 0

-- "Undefined is 0 0. Number, date, enumeration: 1 and the value. Text: 1 plus length, start. Reference: 1 and the
-- number of the object, from 0 in file order. Line: 1 plus its count of points, its first point", where k points stand
-- before
unfoldable pub entry_cells : List Object → (k : ℕ) → List Entry → List ℤ
entry_cells os k [] = []
entry_cells os k (Undefined ∷ es) = pos 0 ∷ pos 0 ∷ entry_cells os k es
entry_cells os k (OfValue v ∷ es) = pos 1 ∷ v ∷ entry_cells os k es
entry_cells os k (OfText f ∷ es) = pos (1 + length f.bytes) ∷ pos f.start ∷ entry_cells os k es
entry_cells os k (OfReference target f ∷ es) = pos 1 ∷ number_cell (find_object target 0 f.bytes os)
    ∷ entry_cells os k es
entry_cells os k (OfPoints ps ∷ es) = pos (1 + length ps) ∷ pos k ∷ entry_cells os (k + length ps) es

-- the points of an object's lines, and of all objects
unfoldable pub entry_points : List Entry → List Point
entry_points [] = []
entry_points (Undefined ∷ es) = entry_points es
entry_points (OfValue v ∷ es) = entry_points es
entry_points (OfText f ∷ es) = entry_points es
entry_points (OfReference target f ∷ es) = entry_points es
entry_points (OfPoints ps ∷ es) = ps ++ entry_points es

unfoldable pub points_of : List Delivered → List Point
points_of [] = []
points_of (o ∷ os) = entry_points o.entries ++ points_of os

unfoldable pub cells_of_points : List Point → List ℤ
cells_of_points [] = []
cells_of_points (p ∷ ps) = point_cells p.kind p.values ++ cells_of_points ps

-- "An object's row: table number, start and length of the identification in the unfolded text, then in model order one
-- pair per attribute"
unfoldable pub rows_cells : List Object → (k : ℕ) → List Delivered → List ℤ
rows_cells names k [] = []
rows_cells names k (o ∷ os) =
    (pos o.table ∷ pos o.identification.start ∷ pos (length o.identification.bytes)
    ∷ entry_cells names k o.entries)
    ++ rows_cells names (k + length (entry_points o.entries)) os

-- "A row list holds each row's first cell"
unfoldable pub row_list : (cell : ℕ) → List Delivered → List ℕ
row_list cell [] = []
row_list cell (o ∷ os) = cell ∷ row_list (cell + (3 + 2 * length o.entries)) os

-- "Marks: one byte per topic, then per table, 1 where delivered"
unfoldable pub mark_tables : (topics : ℕ) → List DeliveredTable → List ℕ → List ℕ
mark_tables topics [] marks = marks
mark_tables topics (t ∷ ts) marks = mark_tables topics ts (set marks (topics + t.table) 1)

unfoldable pub mark_topics : (topics : ℕ) → List DeliveredTopic → List ℕ → List ℕ
mark_topics topics [] marks = marks
mark_topics topics (p ∷ ps) marks = mark_topics topics ps (mark_tables topics p.tables (set marks p.topic 1))

-- marks, row list, cells and points of what is delivered
unfoldable pub table_of : Model → List DeliveredTopic → Content
table_of m ds =
    let os : List Delivered = objects_of_topics ds in
    record {
      marks = mark_topics (length m.topics) ds (replicate (mark_count m) 0);
      rows = row_list 0 os;
      cells = rows_cells (names_of os) 0 os;
      points = cells_of_points (points_of os);
    }
