-- The identifications of a content as lines join it: the three first cells of a row are never written again. Assumes nothing.
use Prim.Native.Nat.{ℕ, ◌+◌, ◌-◌, ◌≤◌}
use native.Mathlib.Omega.{arith}
use mathlib.Core.Path.{◌≡◌, refl, sym, ap, ◌∙◌}
use mathlib.Core.List.{List, [], ◌∷◌, ◌++◌}
use lib.IntN.{ℤ, pos}
use lib.ListN.{length, get_or, set, length-append, length-set, get_or-append}
use lib.Seq.{get_or-append_seam, get_or-append-add, get_or-set_other}
use Rattle.meaning.specs.Model.{Model}
use Rattle.meaning.specs.Field.{Field, fields_of, OBJE}
use Rattle.meaning.specs.Row.{Pair, OfAttribute, OfComponent, OfLine}
use Rattle.meaning.specs.Reading.{line_code_of, Move, move, LineAttribute, line_attributes, Underway, Due, opening, description, transfer, model_name, topic_from, table_from, object_of, line_of, closing, nothing, due_lines, Content, with_row, with_line, point_count, Rooms, Object, stretch, object_at, objects_of}
use Rattle.meaning.specs.Lines.{go, line_due}
use Rattle.meaning.specs.Right.{Line, Coded}
use Rattle.meaning.specs.Reasons.{Place, Gain, object, Follows, used_with, cells_with, points_with}
use Rattle.meaning.specs.Reasons as reasons
use Rattle.meaning.proofs.Tests.Unequal.{no_go}
use Rattle.meaning.proofs.Reading.Stretches.{AllStand}
use Rattle.meaning.proofs.Reading.PointsRead.{LineStep, skip, finish, adds, line_step}
use Rattle.meaning.proofs.Right.Steps.{step_at}
use Rattle.meaning.proofs.Right.Places.{identifications_in, UsedIn, Effect, marked, drawn, stored, pointed}
use Rattle.meaning.proofs.Right.StepNames.{used_length}
use Rattle.meaning.proofs.Right.BackLines.{FrameStep, scnt, described, ends, mtid, modl, ende, TopicStep, emod, topi, TableStep, etop, tabl, ObjectStep, etab, obje, opening_step, description_step, transfer_step, model_step, closing_step, topic_step, table_step, object_step}

-- ## Rows whose first cells stay

-- the three first cells of each row stand before this cell
abbrev pub RowsBefore : (cell : ℕ) → List ℕ → Type 0
RowsBefore cell [] = Unit {0}
RowsBefore cell (row ∷ rows) = (row + 3 ≤ cell) × RowsBefore cell rows

rows_later : (cell cell' : ℕ) (rows : List ℕ) → cell ≤ cell' → RowsBefore cell rows → RowsBefore cell' rows
rows_later cell cell' [] le h = tt
rows_later cell cell' (row ∷ rows) le h = (omega (arith, h.0), rows_later cell cell' rows le h.1)

rows_more : (cell row : ℕ) (rows : List ℕ) → RowsBefore cell rows → row + 3 ≤ cell → RowsBefore cell (rows ++ (row ∷ []))
rows_more cell row [] h k = (k, tt)
rows_more cell row (r ∷ rows) h k = (h.0, rows_more cell row rows h.1 k)

module _ (own : List ℕ) where
  -- cells that agree before this cell have the same objects
  objects_agree : (cell : ℕ) (cs ds : List ℤ) (rows : List ℕ) → ((n : ℕ) → n + 1 ≤ cell → get_or ds n (pos 0) ≡ get_or cs n (pos 0)) → RowsBefore cell rows → objects_of own ds rows ≡ objects_of own cs rows
  unfolding objects_of object_at
  objects_agree cell cs ds [] e h = refl
  objects_agree cell cs ds (row ∷ rows) e h =
      let k = h.0 in
      rw (e row (omega arith), e (row + 1) (omega arith), e (row + 2) (omega arith), objects_agree cell cs ds rows e h.1)

  objects_longer : (cs xs : List ℤ) (rows : List ℕ) → RowsBefore (length cs) rows → objects_of own (cs ++ xs) rows ≡ objects_of own cs rows
  objects_longer cs xs rows h = objects_agree (length cs) cs (cs ++ xs) rows (λ n l. get_or-append cs xs (pos 0) n (omega arith)) h

  objects_set : (cell : ℕ) (cs : List ℤ) (x : ℤ) (rows : List ℕ) → RowsBefore cell rows → objects_of own (set cs cell x) rows ≡ objects_of own cs rows
  objects_set cell cs x rows h = objects_agree cell cs (set cs cell x) rows (λ n l. get_or-set_other cs cell n x (pos 0) (λ e. omega arith)) h

  objects_append : (cs : List ℤ) (rows others : List ℕ) → objects_of own cs (rows ++ others) ≡ objects_of own cs rows ++ objects_of own cs others
  unfolding objects_of
  objects_append cs [] others = refl
  objects_append cs (row ∷ rows) others = rw (objects_append cs rows others)

  object_last : (cs xs : List ℤ) (t start size : ℕ) → objects_of own (cs ++ (pos t ∷ pos start ∷ pos size ∷ xs)) (length cs ∷ []) ≡ record { table = t; identification = stretch own start size } ∷ []
  unfolding objects_of object_at
  object_last cs xs t start size =
      let row : List ℤ = pos t ∷ pos start ∷ pos size ∷ xs in
      rw (get_or-append_seam cs (pos t) (pos start ∷ pos size ∷ xs) (pos 0), get_or-append-add cs row 1 (pos 0), get_or-append-add cs row 2 (pos 0))

-- ## Where lines are written

-- the pairs of these line attributes stand at this cell or behind it
abbrev pub CellsFrom : (cell : ℕ) → List LineAttribute → Type 0
CellsFrom cell [] = Unit {0}
CellsFrom cell (a ∷ others) = (cell ≤ a.cell) × CellsFrom cell others

-- and of the line attributes that are due
abbrev pub LinesFrom : (cell : ℕ) → Due → Type 0
LinesFrom cell opening = Unit {0}
LinesFrom cell description = Unit {0}
LinesFrom cell transfer = Unit {0}
LinesFrom cell model_name = Unit {0}
LinesFrom cell (topic_from p) = Unit {0}
LinesFrom cell (table_from p t) = Unit {0}
LinesFrom cell (object_of t) = Unit {0}
LinesFrom cell (line_of w) = CellsFrom cell (w.attribute ∷ w.others)
LinesFrom cell closing = Unit {0}
LinesFrom cell nothing = Unit {0}

attributes_from : (cell from : ℕ) (ps : List Pair) → cell ≤ from → CellsFrom cell (line_attributes from ps)
unfolding line_attributes
attributes_from cell from [] le = tt
attributes_from cell from (OfAttribute o type ∷ ps) le = attributes_from cell (from + 2) ps (omega arith)
attributes_from cell from (OfComponent c ∷ ps) le = attributes_from cell (from + 2) ps (omega arith)
attributes_from cell from (OfLine o forms cs ∷ ps) le = (le, attributes_from cell (from + 2) ps (omega arith))

lines_due : (cell t first : ℕ) (others : List LineAttribute) → CellsFrom cell others → LinesFrom cell (due_lines t first others)
unfolding due_lines
lines_due cell t first [] h = tt
lines_due cell t first (a ∷ others) h = h

-- ## What a line keeps

-- a cell behind the three first ones of every row, and before the pairs of the line attributes that are due
pub record Kept (due : Due) (c : Content) : Type 0 where
  pub cell : ℕ
  pub rows : RowsBefore cell c.rows
  pub within : cell ≤ length c.cells
  pub lines : LinesFrom cell due

-- what a line made of the objects: they stayed, or the one of its identification joined them
pub data Named (own : List ℕ) (l : Line) (c b : Content) : Type 0 where
  stayed : objects_of own b.cells b.rows ≡ objects_of own c.cells c.rows → Named own l c b
  joined : (t : ℕ) (i : Field) (fs : List Field) → Coded OBJE l (i ∷ fs)
      → objects_of own b.cells b.rows ≡ objects_of own c.cells c.rows ++ (record { table = t; identification = i.bytes } ∷ []) → Named own l c b

pub record KeptOn (own : List ℕ) (l : Line) (c : Content) (due : Due) (b : Content) : Type 0 where
  pub kept : Kept due b
  pub named : Named own l c b

module _ (m : Model) (rooms : Rooms) (own : List ℕ) (c : Content) (l : Line) where
  -- another due, and the same rows and cells
  kept_same : {due : Due} (k : Kept due c) (d : Due) (b : Content) → b.rows ≡ c.rows → b.cells ≡ c.cells → LinesFrom k.cell d → KeptOn own l c d b
  kept_same k d b r e h = record {
    kept = record { cell = k.cell; rows = rw r k.rows; within = rw e k.within; lines = h };
    named = stayed (rw (r, e));
  }

  kept_frame : {due : Due} → Kept due c → (d : Due) (b : Content) → FrameStep m l c due d b → KeptOn own l c d b
  kept_frame k _ _ (scnt a) = kept_same k description c refl refl tt
  kept_frame k _ _ (described e) = kept_same k description c refl refl tt
  kept_frame k _ _ (ends e a) = kept_same k transfer c refl refl tt
  kept_frame k _ _ (mtid f h e) = kept_same k model_name c refl refl tt
  kept_frame k _ _ (modl f h e) = kept_same k (topic_from 0) c refl refl tt
  kept_frame k _ _ (ende a) = kept_same k nothing c refl refl tt

  kept_topic : {due : Due} (from : ℕ) → Kept due c → (d : Due) (b : Content) → TopicStep m from l c d b → KeptOn own l c d b
  kept_topic from k _ _ (emod a) = kept_same k closing c refl refl tt
  kept_topic from k _ _ (topi p f h e) = kept_same k (table_from p 0) _ refl refl tt

  kept_table : {due : Due} (p from : ℕ) → Kept due c → (d : Due) (b : Content) → TableStep m p from l c d b → KeptOn own l c d b
  kept_table p from k _ _ (etop a e) = kept_same k (topic_from (p + 1)) c refl refl tt
  kept_table p from k _ _ (tabl t f h e o) = kept_same k (object_of t) _ refl refl tt

  -- a row joins: its three first cells are behind all others, and its line attributes behind them
  kept_row : {due : Due} → Kept due c → (d : Due) (t : ℕ) (i : Field) (fs : List Field) (xs : List ℤ) → Coded OBJE l (i ∷ fs) → AllStand own (fields_of l.start l.bytes) → LinesFrom (length c.cells + 3) d
      → KeptOn own l c d (with_row (pos t ∷ pos i.start ∷ pos (length i.bytes) ∷ xs) c)
  kept_row k d t i fs xs h stand lines =
      let row : List ℤ = pos t ∷ pos i.start ∷ pos (length i.bytes) ∷ xs in
      let n : ℕ = length c.cells in
      let old : RowsBefore n c.rows = rows_later k.cell n c.rows k.within k.rows in
      let st : AllStand own (h.first ∷ (i ∷ fs)) = rw h.fields at stand in
      let there : objects_of own (c.cells ++ row) (n ∷ []) ≡ record { table = t; identification = i.bytes } ∷ [] =
      object_last own c.cells xs t i.start (length i.bytes) ∙ ap (λ (s : List ℕ). record { table = t; identification = s } ∷ []) st.1.0 in
      record {
        kept = record {
          cell = n + 3;
          rows = rows_more (n + 3) n c.rows (rows_later n (n + 3) c.rows (omega arith) old) (omega arith);
          within = omega (arith, length-append c.cells row);
          lines = lines;
        };
        named = joined t i fs h (objects_append own (c.cells ++ row) c.rows (n ∷ []) ∙ rw (objects_longer own c.cells row c.rows old, there));
      }

  kept_object : {due : Due} (t : ℕ) → Kept due c → AllStand own (fields_of l.start l.bytes) → (d : Due) (b : Content) → ObjectStep m own t l c d b → KeptOn own l c d b
  kept_object t k stand _ _ (etab a) = kept_same k _ c refl refl tt
  kept_object t k stand _ _ (obje i fs xs h ident fresh given) =
      kept_row k _ t i fs xs h stand (lines_due (length c.cells + 3) t (point_count c) _ (attributes_from (length c.cells + 3) (length c.cells + 3) _ (omega arith)))

  kept_line : (w : Underway) → Kept (line_of w) c → (v : Move) (d : Due) (b : Content) → LineStep w c (line_code_of (fields_of l.start l.bytes)) v d b → KeptOn own l c d b
  unfolding with_line
  kept_line w k _ _ _ (skip o) = kept_same k _ c refl refl (lines_due k.cell w.table w.first w.others k.lines.1)
  kept_line w k _ _ _ finish =
      let a : ℕ = w.attribute.cell in
      let x : ℤ = pos (1 + (point_count c - w.first)) in
      let y : ℤ = pos w.first in
      let from : k.cell ≤ a = k.lines.0 in
      let one = length-set c.cells a x in
      let two = length-set (set c.cells a x) (a + 1) y in
      let size : k.cell ≤ length c.cells = k.within in
      record {
        kept = record { cell = k.cell; rows = k.rows; within = omega arith; lines = lines_due k.cell w.table (point_count c) w.others k.lines.1 };
        named = stayed (objects_set own (a + 1) (set c.cells a x) y c.rows (rows_later k.cell (a + 1) c.rows (omega arith) k.rows) ∙ objects_set own a c.cells x c.rows (rows_later k.cell a c.rows from k.rows));
      }
  kept_line w k _ _ _ (adds vs form within) = kept_same k _ _ refl refl k.lines

  pub kept_step : (due d : Due) (b : Content) → Kept due c → AllStand own (fields_of l.start l.bytes) → step_at m rooms own due c l ≡ go d b → KeptOn own l c d b
  unfolding line_due
  kept_step opening d b k stand e = kept_frame k d b (opening_step m rooms own l c d b e)
  kept_step description d b k stand e = kept_frame k d b (description_step m rooms own l c d b e)
  kept_step transfer d b k stand e = kept_frame k d b (transfer_step m rooms own l c d b e)
  kept_step model_name d b k stand e = kept_frame k d b (model_step m rooms own l c d b e)
  kept_step (topic_from from) d b k stand e = kept_topic from k d b (topic_step m rooms own l c d b from e)
  kept_step (table_from p from) d b k stand e = kept_table p from k d b (table_step m rooms own l c d b p from e)
  kept_step (object_of t) d b k stand e = kept_object t k stand d b (object_step m rooms own l c d b t e)
  kept_step (line_of w) d b k stand e =
      let fs : List Field = fields_of l.start l.bytes in
      kept_line w k (move w.state (line_code_of fs)) d b (line_step m rooms own w fs c (move w.state (line_code_of fs)) d b e)
  kept_step closing d b k stand e = kept_frame k d b (closing_step m rooms own l c d b e)
  kept_step nothing d b k stand e = absurd (no_go 7 1 d b e)

-- ## What is used

identifications_append : (os ds : List Object) → identifications_in (os ++ ds) ≡ identifications_in os ++ identifications_in ds
unfolding identifications_in
identifications_append [] ds = refl
identifications_append (o ∷ os) ds = rw (identifications_append os ds)

-- a line that adds an object has its identification
gain_field : (m : Model) (used : List (List ℕ)) {x y : Place} {l : Line} {g : Gain} → Follows m used x l y g → (b : List ℕ) (n : ℕ) → g ≡ object b n → (i : Field) (fs : List Field) → Coded OBJE l (i ∷ fs) → i.bytes ≡ b
gain_field m used (reasons.Follows.bare h a) b n e i fs k = absurd (let z : ◌≡◌ {A = ℕ} 0 1 = cc in omega arith)
gain_field m used (reasons.Follows.titled h a) b n e i fs k = absurd (let z : ◌≡◌ {A = ℕ} 0 1 = cc in omega arith)
gain_field m used (reasons.Follows.described h) b n e i fs k = absurd (let z : ◌≡◌ {A = ℕ} 0 1 = cc in omega arith)
gain_field m used (reasons.Follows.divided h a) b n e i fs k = absurd (let z : ◌≡◌ {A = ℕ} 0 1 = cc in omega arith)
gain_field m used (reasons.Follows.obje {i = j} {fs = gs} h ident fresh right) b n e i fs k =
    let same : k.first ∷ (i ∷ fs) ≡ h.first ∷ (j ∷ gs) = sym k.fields ∙ h.fields in
    let alike : i ≡ j = cc in
    let bytes : j.bytes ≡ b = cc in
    ap (λ (f : Field). f.bytes) alike ∙ bytes
gain_field m used (reasons.Follows.pointed h a) b n e i fs k = absurd (let z : ◌≡◌ {A = ℕ} 0 1 = cc in omega arith)

module _ (m : Model) (own : List ℕ) (used : List (List ℕ)) (c b : Content) (l : Line) (k : UsedIn own c used) where
  stayed_used : objects_of own b.cells b.rows ≡ objects_of own c.cells c.rows → UsedIn own b used
  stayed_used h = rw h k

  joined_used : (o : Object) → objects_of own b.cells b.rows ≡ objects_of own c.cells c.rows ++ (o ∷ []) → UsedIn own b (used ++ (o.identification ∷ []))
  unfolding identifications_in
  joined_used o h = ap identifications_in h ∙ (identifications_append (objects_of own c.cells c.rows) (o ∷ []) ∙ rw k)

  -- no object joins where there are as many rows
  none_joined : b.rows ≡ c.rows → Named own l c b → UsedIn own b used
  none_joined e (stayed h) = stayed_used h
  none_joined e (joined t i fs coded h) =
      let more = used_length own b (used ++ (i.bytes ∷ [])) (joined_used _ h) in
      absurd (omega (arith, more, used_length own c used k, ap length e, length-append used (i.bytes ∷ [])))

  -- and one does where there is a row more
  one_joined : {x y : Place} (i : List ℕ) (n row : ℕ) → Follows m used x l y (object i n) → b.rows ≡ c.rows ++ (row ∷ []) → Named own l c b → UsedIn own b (used ++ (i ∷ []))
  one_joined i n row f e (stayed h) =
      let same = used_length own b used (stayed_used h) in
      absurd (omega (arith, same, used_length own c used k, ap length e, length-append c.rows (row ∷ [])))
  one_joined i n row f e (joined t j fs coded h) = rw (gain_field m used f i n refl j fs coded) at (joined_used _ h)

pub used_on : (m : Model) (own : List ℕ) (used : List (List ℕ)) {c b : Content} {x y : Place} {l : Line} {g : Gain} → Follows m used x l y g → Effect g c b → Named own l c b → UsedIn own c used → UsedIn own b (used_with g used)
unfolding used_with with_line
used_on m own used {c = c} {b = b} {l = l} f (marked r e p) h k = none_joined m own used c b l k r h
used_on m own used {c = c} {b = b} {l = l} f (drawn w) h k = none_joined m own used c b l k refl h
used_on m own used {c = c} {b = b} {l = l} f (stored t i xs) h k = one_joined m own used c b l k i.bytes (3 + length xs) (length c.cells) f refl h
used_on m own used {c = c} {b = b} {l = l} f (pointed four e) h k = none_joined m own used c b l k refl h

-- ## Counts

pub cells_on : {c b : Content} {g : Gain} → Effect g c b → length b.cells ≡ cells_with g (length c.cells)
unfolding cells_with with_line
cells_on (marked r e p) = ap length e
cells_on (drawn w) = simp length-set
cells_on {c = c} (stored t i xs) = omega (arith, length-append c.cells (pos t ∷ pos i.start ∷ pos (length i.bytes) ∷ xs))
cells_on (pointed four e) = refl

pub points_on : {c b : Content} {g : Gain} → Effect g c b → length b.points ≡ points_with g (length c.points)
unfolding points_with with_line
points_on (marked r e p) = ap length p
points_on (drawn w) = refl
points_on (stored t i xs) = refl
points_on {c = c} (pointed four e) = length-append c.points four ∙ rw e

pub rows_on : {c b : Content} {g : Gain} → Effect g c b → (used : List (List ℕ)) → length used ≡ length c.rows → length b.rows ≡ length (used_with g used)
unfolding used_with with_line
rows_on (marked r e p) used h = ap length r ∙ sym h
rows_on (drawn w) used h = sym h
rows_on {c = c} (stored t i xs) used h = omega (arith, h, length-append c.rows (length c.cells ∷ []), length-append used (i.bytes ∷ []))
rows_on (pointed four e) used h = sym h
