-- Why a line is refused (01, "Lines and fields" and "Refusal numbers"): where a file has come to, which lines may
-- follow there, and for a line that may not its number and field, one rule for each row of 01's table. In the words of
-- `Right` and of the grammar of values (`Shapes`); it names no step of reading, and of its states only how far the
-- lines of a line attribute have come. A point that may follow is said by `PointLine` of `Right`, a wrong one by
-- `Shapes`: `NumberExactly` (ValueClaims) says that both mean the same numbers.
-- Short names: m the model, u the undefined byte, p a topic's number, t a table's, l a line, f a field, i an
-- identification's field, fs fields, ps the pairs that are left, cs components.
use Rattle.std.specs.Prelude.{ℕ, ◌+◌, ◌*◌, ◌≤◌, ◌<◌, ◌≡◌, Bool, true, false, List, [], ◌∷◌, ◌++◌, ℤ, length, get_or}
use Rattle.meaning.specs.Bytes.{prefix}
use Rattle.meaning.specs.Model.{Component, AttributeType, Number, Model, table_at}
use Rattle.meaning.specs.Field.{Field, SCNT, slashes, MTID, MOTR, MODL, TOPI, TABL, OBJE, STPT, LIPT, ARCP, ELIN}
use Rattle.meaning.specs.Field.{ETAB, ETOP, EMOD, ENDE}
use Rattle.meaning.specs.Value.{is_identification, is_undefined, is_undefined_twice}
use Rattle.meaning.specs.Row.{Pair, OfAttribute, OfComponent, OfLine, pairs_of}
use Rattle.meaning.specs.Reading.{LineState, unstarted, started, in_arc, reached, Rooms, same_name}
use Rattle.meaning.specs.Shapes.{WrongShape, OutsideDomain, RightValue}
use Rattle.meaning.specs.Right.{Line, Coded, Alone, Defined, Identification, PointLine, HasStraights}
use Rattle.meaning.specs.Right.{HasArcs, AllOptional}

-- ## Where a file has come to

--   start             before SCNT
--   in_description    behind SCNT, before ////
--   before_transfer   behind ////
--   before_model      behind MTID
--   topics_from p     behind MODL or a topic: topic p or a later one may follow
--   tables_from p t   in topic p: its table t or a later one may follow
--   objects_in t      in table t
--   line_in ..        in the lines of a line attribute of an object of table t: how far they have come, whether the
--                     attribute is optional, its forms and components, and the pairs of the object's row behind it
--   before_end        behind EMOD
--   end               behind ENDE
pub data Place : Type 0 where
  start in_description before_transfer before_model : Place
  topics_from : (p : ℕ) → Place
  tables_from : (p t : ℕ) → Place
  objects_in : (t : ℕ) → Place
  line_in : (t : ℕ) → LineState → (optional : Bool) (forms : ℕ) → List Component → List Pair → Place
  before_end end : Place

-- "Line attributes follow in order": behind an object's fields or a line attribute, with these pairs left
unfoldable pub behind_pair : (t : ℕ) → List Pair → Place
behind_pair t [] = objects_in t
behind_pair t (OfAttribute o type ∷ ps) = behind_pair t ps
behind_pair t (OfComponent c ∷ ps) = behind_pair t ps
behind_pair t (OfLine o forms cs ∷ ps) = line_in t unstarted o forms cs ps

-- ## Which lines may follow

-- topic q or table t is one of this name that may follow: "Topics and tables come in model order", "Topic and table
-- names compare by their first 24 bytes"
pub record TopicOf (m : Model) (from : ℕ) (name : List ℕ) (q : ℕ) : Type 0 where
  pub later : from ≤ q
  pub within : q < length m.topics
  pub named : same_name (get_or m.topics q []) name ≡ true

pub record TableOf (m : Model) (p from : ℕ) (name : List ℕ) (t : ℕ) : Type 0 where
  pub later : from ≤ t
  pub within : t < length m.tables
  pub topic : (table_at m.tables t).topic ≡ p
  pub named : same_name (table_at m.tables t).name name ≡ true

-- a line of this code alone leads from a place to another
pub data Bare (m : Model) : Place → (code : List ℕ) → Place → Type 0 where
  scnt : Bare m start SCNT in_description
  emod : {p : ℕ} → Bare m (topics_from p) EMOD before_end
  etop : {p from : ℕ} → AllOptional m p from (length m.tables) → Bare m (tables_from p from) ETOP (topics_from (p + 1))
  etab : {t : ℕ} → Bare m (objects_in t) ETAB (tables_from (table_at m.tables t).topic (t + 1))
  elin : {t forms : ℕ} {o : Bool} {cs : List Component} {ps : List Pair}
      → Bare m (line_in t reached o forms cs ps) ELIN (behind_pair t ps)
  -- "ELIN alone is an undefined line"
  undrawn : {t forms : ℕ} {cs : List Component} {ps : List Pair}
      → Bare m (line_in t unstarted true forms cs ps) ELIN (behind_pair t ps)
  ende : Bare m before_end ENDE end

-- a line of this code and this name does
pub data Titled (m : Model) : Place → (code name : List ℕ) → Place → Type 0 where
  mtid : Titled m before_transfer MTID m.transfer before_model
  modl : Titled m before_model MODL m.name (topics_from 0)
  topi : {from q : ℕ} {name : List ℕ} → TopicOf m from name q → Titled m (topics_from from) TOPI name (tables_from q 0)
  tabl : {p from t : ℕ} {name : List ℕ} → TableOf m p from name t → AllOptional m p from t
      → Titled m (tables_from p from) TABL name (objects_in t)

-- a line is begun and not within an arc
pub data Drawing : LineState → Type 0 where
  behind_start : Drawing started
  behind_point : Drawing reached

-- a line of this code and of a point of these components does
pub data Pointed : Place → (code : List ℕ) → List Component → Place → Type 0 where
  stpt : {t forms : ℕ} {o : Bool} {cs : List Component} {ps : List Pair}
      → Pointed (line_in t unstarted o forms cs ps) STPT cs (line_in t started o forms cs ps)
  straight : {t forms : ℕ} {s : LineState} {o : Bool} {cs : List Component} {ps : List Pair} → Drawing s
      → HasStraights forms → Pointed (line_in t s o forms cs ps) LIPT cs (line_in t reached o forms cs ps)
  arc : {t forms : ℕ} {s : LineState} {o : Bool} {cs : List Component} {ps : List Pair} → Drawing s
      → HasArcs forms → Pointed (line_in t s o forms cs ps) ARCP cs (line_in t in_arc o forms cs ps)
  arc_end : {t forms : ℕ} {o : Bool} {cs : List Component} {ps : List Pair}
      → Pointed (line_in t in_arc o forms cs ps) LIPT cs (line_in t reached o forms cs ps)

-- ## The fields of an object

-- may the field of a pair be undefined, and defined? `before` says whether the field before was defined: a coordinate's
-- further component is undefined exactly where the one before is
abbrev pub MayBeUndefined : (before : Bool) → Pair → Type 0
MayBeUndefined before (OfAttribute o type) = o ≡ true
MayBeUndefined before (OfComponent c) = before ≡ false
MayBeUndefined before (OfLine o forms cs) = Unit {0}

abbrev pub MayBeDefined : (before : Bool) → Pair → Type 0
MayBeDefined before (OfAttribute o type) = Unit {0}
MayBeDefined before (OfComponent c) = before ≡ true
MayBeDefined before (OfLine o forms cs) = ⊥

-- a pair has a field on the OBJE line, of this type; a line attribute has none
pub data FieldType : Pair → AttributeType → Type 0 where
  of_attribute : {o : Bool} {type : AttributeType} → FieldType (OfAttribute o type) type
  of_component : {c : Component} → FieldType (OfComponent c) (Number c)

-- one of these is mandatory
pub data IsMandatory : List Pair → Type 0 where
  here : {type : AttributeType} {ps : List Pair} → IsMandatory (OfAttribute false type ∷ ps)
  later : {p : Pair} {ps : List Pair} → IsMandatory ps → IsMandatory (p ∷ ps)

-- the fields that are left are right for the pairs that are left
pub data RightFields (u : ℕ) : (before : Bool) → List Pair → List Field → Type 0 where
  done : {b : Bool} → RightFields u b [] []
  -- a line attribute has no field
  line : {b o : Bool} {forms : ℕ} {cs : List Component} {ps : List Pair} {fs : List Field} → RightFields u b ps fs
      → RightFields u b (OfLine o forms cs ∷ ps) fs
  defined : {b : Bool} {p : Pair} {type : AttributeType} {ps : List Pair} {f : Field} {fs : List Field} → Defined u f
      → MayBeDefined b p → FieldType p type → RightValue type f.bytes → RightFields u true ps fs
      → RightFields u b (p ∷ ps) (f ∷ fs)
  undefined : {b : Bool} {p : Pair} {type : AttributeType} {ps : List Pair} {f : Field} {fs : List Field}
      → is_undefined u f ≡ true → MayBeUndefined b p → FieldType p type → RightFields u false ps fs
      → RightFields u b (p ∷ ps) (f ∷ fs)
  -- "Two undefined bytes as a field: this and all remaining fields are undefined"
  twice : {b : Bool} {p : Pair} {type : AttributeType} {ps : List Pair} {f : Field} → is_undefined_twice u f ≡ true
      → MayBeUndefined b p → FieldType p type → (IsMandatory ps → ⊥) → RightFields u b (p ∷ ps) (f ∷ [])

-- "fields left to right (a missing one, then 12, 13, 14 ..) .. then an extra field": why these fields, the first of
-- which is at this place of the line, are refused
pub data FieldReason (u : ℕ) : (before : Bool) (place : ℕ) → List Pair → List Field → (number field : ℕ) → Type 0 where
  line : {b o : Bool} {place forms n k : ℕ} {cs : List Component} {ps : List Pair} {fs : List Field}
      → FieldReason u b place ps fs n k → FieldReason u b place (OfLine o forms cs ∷ ps) fs n k
  -- 11: "field missing or extra"
  missing : {b : Bool} {place : ℕ} {p : Pair} {type : AttributeType} {ps : List Pair} → FieldType p type
      → FieldReason u b place (p ∷ ps) [] 11 place
  extra : {b : Bool} {place : ℕ} {f : Field} {fs : List Field} → FieldReason u b place [] (f ∷ fs) 11 place
  -- 12: "undefined where not allowed, mixed coordinate"
  undefined : {b : Bool} {place : ℕ} {p : Pair} {type : AttributeType} {ps : List Pair} {f : Field} {fs : List Field}
      → is_undefined u f ≡ true → FieldType p type → (MayBeUndefined b p → ⊥)
      → FieldReason u b place (p ∷ ps) (f ∷ fs) 12 place
  mixed : {b : Bool} {place : ℕ} {p : Pair} {type : AttributeType} {ps : List Pair} {f : Field} {fs : List Field}
      → Defined u f → FieldType p type → (MayBeDefined b p → ⊥) → FieldReason u b place (p ∷ ps) (f ∷ fs) 12 place
  -- "two undefined bytes that cover a mandatory field are 12 where they stand"
  covers : {b : Bool} {place : ℕ} {p : Pair} {type : AttributeType} {ps : List Pair} {f : Field} {fs : List Field}
      → is_undefined_twice u f ≡ true → FieldType p type → (MayBeUndefined b p → IsMandatory ps)
      → FieldReason u b place (p ∷ ps) (f ∷ fs) 12 place
  -- nothing may stand behind two undefined bytes
  behind_twice : {b : Bool} {place : ℕ} {p : Pair} {type : AttributeType} {ps : List Pair} {f g : Field}
      {fs : List Field}
      → is_undefined_twice u f ≡ true → FieldType p type → MayBeUndefined b p → (IsMandatory ps → ⊥)
      → FieldReason u b place (p ∷ ps) (f ∷ g ∷ fs) 11 (place + 1)
  -- 13: "field has wrong shape"
  shape : {b : Bool} {place : ℕ} {p : Pair} {type : AttributeType} {ps : List Pair} {f : Field} {fs : List Field}
      → Defined u f → MayBeDefined b p → FieldType p type → WrongShape type f.bytes
      → FieldReason u b place (p ∷ ps) (f ∷ fs) 13 place
  -- 14: "outside its domain, text too long"
  domain : {b : Bool} {place : ℕ} {p : Pair} {type : AttributeType} {ps : List Pair} {f : Field} {fs : List Field}
      → Defined u f → MayBeDefined b p → FieldType p type → OutsideDomain type f.bytes
      → FieldReason u b place (p ∷ ps) (f ∷ fs) 14 place
  -- a field that is right, and the reason stands behind it
  behind_defined : {b : Bool} {place n k : ℕ} {p : Pair} {type : AttributeType} {ps : List Pair} {f : Field}
      {fs : List Field}
      → Defined u f → MayBeDefined b p → FieldType p type → RightValue type f.bytes
      → FieldReason u true (place + 1) ps fs n k → FieldReason u b place (p ∷ ps) (f ∷ fs) n k
  behind_undefined : {b : Bool} {place n k : ℕ} {p : Pair} {type : AttributeType} {ps : List Pair} {f : Field}
      {fs : List Field}
      → is_undefined u f ≡ true → MayBeUndefined b p → FieldType p type → FieldReason u false (place + 1) ps fs n k
      → FieldReason u b place (p ∷ ps) (f ∷ fs) n k

-- ## The fields of a point: "Points are never undefined"

pub data PointReason (u : ℕ) : (place : ℕ) → List Component → List Field → (number field : ℕ) → Type 0 where
  missing : {place : ℕ} {c : Component} {cs : List Component} → PointReason u place (c ∷ cs) [] 11 place
  extra : {place : ℕ} {f : Field} {fs : List Field} → PointReason u place [] (f ∷ fs) 11 place
  undefined : {place : ℕ} {c : Component} {cs : List Component} {f : Field} {fs : List Field} → (Defined u f → ⊥)
      → PointReason u place (c ∷ cs) (f ∷ fs) 12 place
  shape : {place : ℕ} {c : Component} {cs : List Component} {f : Field} {fs : List Field} → Defined u f
      → WrongShape (Number c) f.bytes → PointReason u place (c ∷ cs) (f ∷ fs) 13 place
  domain : {place : ℕ} {c : Component} {cs : List Component} {f : Field} {fs : List Field} → Defined u f
      → OutsideDomain (Number c) f.bytes → PointReason u place (c ∷ cs) (f ∷ fs) 14 place
  behind : {place n k : ℕ} {c : Component} {cs : List Component} {f : Field} {fs : List Field} → Defined u f
      → RightValue (Number c) f.bytes → PointReason u (place + 1) cs fs n k
      → PointReason u place (c ∷ cs) (f ∷ fs) n k

-- ## A line that may follow

-- what a line adds: nothing, an object with this identification and so many cells, or a point
pub data Gain : Type 0 where
  nothing : Gain
  object : (identification : List ℕ) (cells : ℕ) → Gain
  point : Gain

-- the identification is one of those used before: "Equal means equal bytes"
pub data Used (i : List ℕ) : List (List ℕ) → Type 0 where
  here : {used : List (List ℕ)} → Used i (i ∷ used)
  later : {j : List ℕ} {used : List (List ℕ)} → Used i used → Used i (j ∷ used)

-- the pairs of a row of table t
abbrev pub pairs_in : Model → (t : ℕ) → List Pair
pairs_in m t = pairs_of (table_at m.tables t).attributes

-- the line l may follow at a place, where these identifications are used; it leads to another place and adds something
pub data Follows (m : Model) (used : List (List ℕ)) : Place → Line → Place → Gain → Type 0 where
  bare : {x y : Place} {code : List ℕ} {l : Line} → Bare m x code y → Alone code l → Follows m used x l y nothing
  titled : {x y : Place} {code : List ℕ} {l : Line} {f : Field} → Titled m x code f.bytes y → Coded code l (f ∷ [])
      → Follows m used x l y nothing
  -- "description lines up to the first line beginning with ////, which must be that field alone"
  described : {l : Line} → prefix slashes l.bytes ≡ false → Follows m used in_description l in_description nothing
  divided : {l : Line} → prefix slashes l.bytes ≡ true → Alone slashes l
      → Follows m used in_description l before_transfer nothing
  -- "OBJE: identification, then the fields of all attributes but lines"
  obje : {t : ℕ} {l : Line} {i : Field} {fs : List Field} → Coded OBJE l (i ∷ fs) → Identification m.undefined i
      → (Used i.bytes used → ⊥) → RightFields m.undefined true (pairs_in m t) fs
      → Follows m used (objects_in t) l (behind_pair t (pairs_in m t)) (object i.bytes (3 + 2 * length (pairs_in m t)))
  pointed : {x y : Place} {code : List ℕ} {l : Line} {cs : List Component} {vs : List ℤ} → Pointed x code cs y
      → PointLine m.undefined cs code l vs → Follows m used x l y point

-- ## Why a line may not

-- the codes that may stand at a place, MOTR in place of MTID among them; in the description it is another matter
unfoldable pub codes_at : Place → List (List ℕ)
codes_at start = SCNT ∷ []
codes_at in_description = []
codes_at before_transfer = MTID ∷ MOTR ∷ []
codes_at before_model = MODL ∷ []
codes_at (topics_from p) = TOPI ∷ EMOD ∷ []
codes_at (tables_from p t) = TABL ∷ ETOP ∷ []
codes_at (objects_in t) = OBJE ∷ ETAB ∷ []
codes_at (line_in t unstarted o forms cs ps) = STPT ∷ ELIN ∷ []
codes_at (line_in t started o forms cs ps) = LIPT ∷ ARCP ∷ []
codes_at (line_in t in_arc o forms cs ps) = LIPT ∷ []
codes_at (line_in t reached o forms cs ps) = LIPT ∷ ARCP ∷ ELIN ∷ []
codes_at before_end = ENDE ∷ []
codes_at end = []

-- the line has none of these codes
abbrev pub NoneOf : List (List ℕ) → Line → Type 0
NoneOf [] l = Unit {0}
NoneOf (code ∷ codes) l = ((fs : List Field) → Coded code l fs → ⊥) × NoneOf codes l

-- a field has to follow the code: a name or an identification
pub data NeedsField : Place → (code : List ℕ) → Type 0 where
  mtid : NeedsField before_transfer MTID
  modl : NeedsField before_model MODL
  topi : {p : ℕ} → NeedsField (topics_from p) TOPI
  tabl : {p t : ℕ} → NeedsField (tables_from p t) TABL
  obje : {t : ℕ} → NeedsField (objects_in t) OBJE

-- why the line l may not follow at a place, where these identifications are used: its number and its field
-- "A line: code (7, 8, 18), then fields left to right (a missing one, then 12, 13, 14 or 9, 10), with 15 after the
-- identification's shape; then an extra field"
pub data Reason (m : Model) (used : List (List ℕ)) : Place → Line → (number field : ℕ) → Type 0 where
  -- 7: "another line code expected"
  other_code : {x : Place} {l : Line} → (x ≡ in_description → ⊥) → NoneOf (codes_at x) l → Reason m used x l 7 1
  other_division : {l : Line} → prefix slashes l.bytes ≡ true → ((fs : List Field) → Coded slashes l fs → ⊥)
      → Reason m used in_description l 7 1
  -- 8: "MOTR in place of MTID"
  motr : {l : Line} {fs : List Field} → Coded MOTR l fs → Reason m used before_transfer l 8 1
  -- 18: "straight or arc not in the forms"
  no_straights : {t : ℕ} {s : LineState} {o : Bool} {cs : List Component} {ps : List Pair} {l : Line} {fs : List Field}
      → Drawing s → Coded LIPT l fs → Reason m used (line_in t s o 2 cs ps) l 18 1
  no_arcs : {t : ℕ} {s : LineState} {o : Bool} {cs : List Component} {ps : List Pair} {l : Line} {fs : List Field}
      → Drawing s → Coded ARCP l fs → Reason m used (line_in t s o 1 cs ps) l 18 1
  -- 9: "name wrong or not in order"
  other_transfer : {l : Line} {f : Field} {fs : List Field} → Coded MTID l (f ∷ fs) → (f.bytes ≡ m.transfer → ⊥)
      → Reason m used before_transfer l 9 2
  other_model : {l : Line} {f : Field} {fs : List Field} → Coded MODL l (f ∷ fs) → (f.bytes ≡ m.name → ⊥)
      → Reason m used before_model l 9 2
  no_topic : {from : ℕ} {l : Line} {f : Field} {fs : List Field} → Coded TOPI l (f ∷ fs)
      → ((q : ℕ) → TopicOf m from f.bytes q → ⊥) → Reason m used (topics_from from) l 9 2
  no_table : {p from : ℕ} {l : Line} {f : Field} {fs : List Field} → Coded TABL l (f ∷ fs)
      → ((t : ℕ) → TableOf m p from f.bytes t → ⊥) → Reason m used (tables_from p from) l 9 2
  -- 10: "mandatory table skipped": 2 at TABL, 1 at ETOP
  skipped : {p from t : ℕ} {l : Line} {f : Field} {fs : List Field} → Coded TABL l (f ∷ fs)
      → TableOf m p from f.bytes t → (AllOptional m p from t → ⊥) → Reason m used (tables_from p from) l 10 2
  skipped_last : {p from : ℕ} {l : Line} {fs : List Field} → Coded ETOP l fs
      → (AllOptional m p from (length m.tables) → ⊥) → Reason m used (tables_from p from) l 10 1
  -- 11: "field missing or extra"
  no_field : {x : Place} {code : List ℕ} {l : Line} → NeedsField x code → Coded code l [] → Reason m used x l 11 2
  behind_code : {x y : Place} {code : List ℕ} {l : Line} {f : Field} {fs : List Field} → Bare m x code y
      → Coded code l (f ∷ fs) → Reason m used x l 11 2
  behind_division : {l : Line} {f : Field} {fs : List Field} → prefix slashes l.bytes ≡ true
      → Coded slashes l (f ∷ fs) → Reason m used in_description l 11 2
  behind_name : {x y : Place} {code : List ℕ} {l : Line} {f g : Field} {fs : List Field} → Titled m x code f.bytes y
      → Coded code l (f ∷ g ∷ fs) → Reason m used x l 11 3
  -- 12: "ELIN alone for a mandatory line is 12 at field 1"
  undrawn : {t forms : ℕ} {cs : List Component} {ps : List Pair} {l : Line} {fs : List Field} → Coded ELIN l fs
      → Reason m used (line_in t unstarted false forms cs ps) l 12 1
  -- 12, 13 and 15 of an identification: "An identification is never one or two undefined bytes (12)"
  undefined_identification : {t : ℕ} {l : Line} {i : Field} {fs : List Field} → Coded OBJE l (i ∷ fs)
      → (Defined m.undefined i → ⊥) → Reason m used (objects_in t) l 12 2
  no_identification : {t : ℕ} {l : Line} {i : Field} {fs : List Field} → Coded OBJE l (i ∷ fs)
      → Defined m.undefined i → is_identification i.bytes ≡ false → Reason m used (objects_in t) l 13 2
  used_twice : {t : ℕ} {l : Line} {i : Field} {fs : List Field} → Coded OBJE l (i ∷ fs)
      → Identification m.undefined i → Used i.bytes used → Reason m used (objects_in t) l 15 2
  -- 11 to 14 of an object's other fields, from field 3 on, and of a point's, from field 2 on
  of_fields : {t n k : ℕ} {l : Line} {i : Field} {fs : List Field} → Coded OBJE l (i ∷ fs)
      → Identification m.undefined i → (Used i.bytes used → ⊥)
      → FieldReason m.undefined true 3 (pairs_in m t) fs n k → Reason m used (objects_in t) l n k
  of_point : {x y : Place} {n k : ℕ} {code : List ℕ} {l : Line} {cs : List Component} {fs : List Field}
      → Pointed x code cs y → Coded code l fs → PointReason m.undefined 2 cs fs n k → Reason m used x l n k

-- ## Behind some lines

unfoldable pub used_with : Gain → List (List ℕ) → List (List ℕ)
used_with nothing used = used
used_with (object i n) used = used ++ (i ∷ [])
used_with point used = used

unfoldable pub cells_with : Gain → ℕ → ℕ
cells_with nothing cells = cells
cells_with (object i n) cells = cells + n
cells_with point cells = cells

-- "A point is four cells"
unfoldable pub points_with : Gain → ℕ → ℕ
points_with nothing points = points
points_with (object i n) points = points
points_with point points = points + 4

-- these lines, from the first of a file on, have come to this place: with the identifications that they use, and the
-- counts of cells and of cells of points that they deliver
pub data Reached (m : Model) : List Line → Place → (used : List (List ℕ)) (cells points : ℕ) → Type 0 where
  none : Reached m [] start [] 0 0
  more : {ls : List Line} {l : Line} {x y : Place} {used : List (List ℕ)} {cells points : ℕ} {g : Gain}
      → Reached m ls x used cells points → Follows m used x l y g
      → Reached m (ls ++ (l ∷ [])) y (used_with g used) (cells_with g cells) (points_with g points)

-- there is room for what they deliver: a row for each identification
pub record Within (rooms : Rooms) (used : List (List ℕ)) (cells points : ℕ) : Type 0 where
  pub for_rows : length used ≤ rooms.rows
  pub for_cells : cells ≤ rooms.cells
  pub for_points : points ≤ rooms.points
