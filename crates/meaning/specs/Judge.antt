-- The judge of a lent table (01, refusal 19), by a walk over its marks, rows, pairs and points that reads no lines.
-- "row list, cells, points and marks must be exactly those of a reading": that it says the same as `is_table` is proved
-- (WritingClaims, JudgedExactly).
-- Short names: m the model, c a table's content, cs its cells, u the undefined byte, ps the pairs that are left, k the
-- points before, a b the cells of a pair.
use Rattle.std.specs.Prelude.{ℕ, zero, suc, ◌+◌, ◌*◌, ◌-◌, ◌/◌, ◌%◌, ◌^◌, Bool, true, false, not, ◌&&◌, ◌||◌, List}
use Rattle.std.specs.Prelude.{[], ◌∷◌, ◌++◌, leb, ltb, eqb, ℤ, pos, nat_abs, length, drop, get_or}
use Rattle.std.specs.Int.Signed.{lt_z}
use Rattle.meaning.specs.Bytes.{choose, all_of, text_byte, every, same}
use Rattle.meaning.specs.Model.{Component, AttributeType, Reference, Coordinate, Number, Text, Date, Enumeration}
use Rattle.meaning.specs.Model.{Line, Found, found, missing, Table, Model, table_at}
use Rattle.meaning.specs.Value.{within, is_day}
use Rattle.meaning.specs.Row.{Pair, OfAttribute, OfComponent, OfLine, pairs_of}
use Rattle.meaning.specs.Reading.{LineState, unstarted, started, in_arc, reached, LineCode, stpt, lipt, arcp}
use Rattle.meaning.specs.Reading.{other, Move, unexpected, undefined_line, ended, point, move, is_forbidden}
use Rattle.meaning.specs.Reading.{Content, Object, cell_at, is_used}
use Rattle.meaning.specs.Writing.{Lent, counts_fit, content_of, stretch_bytes, identification_bytes, is_delivered}

-- ## Cells

-- is a cell this number?
unfoldable pub cell_is : ℤ → ℕ → Bool
cell_is a n = not (lt_z a (pos n)) && not (lt_z (pos n) a)

-- "Undefined is 0 0": the second cell of a pair whose first is 0, which only an optional attribute has
unfoldable pub judge_undefined : (optional : Bool) (b : ℤ) → Bool
judge_undefined o b = o && cell_is b 0

-- "a stretch outside the lent text is 19"
-- "Identification, reference, text: bytes 21 to 7E, C0 to FF without D7 and F7", and never "one or two undefined bytes"
unfoldable pub judge_stretch : (u : ℕ) (text : List ℕ) (start : ℤ) (size : ℕ) → Bool
judge_stretch u text start size = all_of
    (not (lt_z start (pos 0))
    ∷ leb (nat_abs start + size) (length text)
    ∷ every text_byte (stretch_bytes text start size)
    ∷ not (same (stretch_bytes text start size) (u ∷ []))
    ∷ not (same (stretch_bytes text start size) (u ∷ u ∷ []))
    ∷ [])

-- ## Points

-- the line code of a point's first cell: "0 STPT, 1 LIPT, 2 ARCP"
unfoldable pub kind_code_of : (kind : ℤ) → LineCode
kind_code_of kind =
    choose (cell_is kind 0) stpt
    (choose (cell_is kind 1) lipt
    (choose (cell_is kind 2) arcp
    other))

-- "east; north; height or 0": each value is within its component's domain, and 0 where there is no component
unfoldable pub are_within : List Component → List ℤ → Bool
are_within [] [] = true
are_within [] (v ∷ values) = cell_is v 0 && are_within [] values
are_within (x ∷ ks) [] = false
are_within (x ∷ ks) (v ∷ values) = within x v && are_within ks values

-- may a line end here? "one or more of LIPT or ARCP LIPT, then ELIN"
unfoldable pub is_reached : LineState → Bool
is_reached unstarted = false
is_reached started = false
is_reached in_arc = false
is_reached reached = true

-- where a move is to a point, what follows from its state; every other move is not one of a point
abbrev pub after_point : Move → (LineState → Bool) → Bool
after_point unexpected next = false
after_point undefined_line next = false
after_point ended next = false
after_point (point kind state) next = next state

-- so many points that end a line, from a line state on: "STPT, then one or more of LIPT or ARCP LIPT, then ELIN"
unfoldable pub judge_points : (forms : ℕ) → List Component → LineState → ℕ → List ℤ → Bool
judge_points forms ks state zero points = is_reached state
judge_points forms ks state (suc n) points =
    let code : LineCode = kind_code_of (get_or points 0 (pos 0)) in
    after_point (move state code) (λ next. all_of
    (not (is_forbidden forms state code)
    ∷ are_within ks (get_or points 1 (pos 0) ∷ get_or points 2 (pos 0) ∷ get_or points 3 (pos 0) ∷ [])
    ∷ judge_points forms ks next n (drop 4 points)
    ∷ []))

-- ## Pairs

-- "Date: eight digits", and a day that exists (02, 1)
unfoldable pub judge_date : ℤ → Bool
judge_date b = all_of
    (not (lt_z b (pos 0))
    ∷ lt_z b (pos (10 ^ 8))
    ∷ is_day (nat_abs b / 10000) (nat_abs b / 100 % 100) (nat_abs b % 100)
    ∷ [])

-- "Enumeration: 1 to 18 digits, below the count of leaves"
unfoldable pub judge_leaf : (leaves : ℕ) → ℤ → Bool
judge_leaf leaves b = all_of
    (not (lt_z b (pos 0))
    ∷ lt_z b (pos (10 ^ 18))
    ∷ lt_z b (pos leaves)
    ∷ [])

-- "Reference: 1 and the number of the object", which is of the target's table
unfoldable pub judge_reference : Content → (target : ℕ) → ℤ → Bool
judge_reference c target b =
    let row : ℕ = get_or c.rows (nat_abs b) 0 in
    all_of
    (not (lt_z b (pos 0))
    ∷ lt_z b (pos (length c.rows))
    ∷ ltb row (length c.cells)
    ∷ cell_is (get_or c.cells row (pos 0)) target
    ∷ [])

-- the pair of an attribute whose first cell is not 0: "Number, date, enumeration: 1 and the value. Text: 1 plus length,
-- start. Reference: 1 and the number of the object". No pair is of a coordinate as a whole, and lines are judged by
-- `judge_line`
unfoldable pub judge_value : (u : ℕ) (text : List ℕ) → Content → AttributeType → (a b : ℤ) → Bool
judge_value u text c (Reference target) a b = cell_is a 1 && judge_reference c target b
judge_value u text c (Coordinate ks) a b = false
judge_value u text c (Number x) a b = cell_is a 1 && within x b
judge_value u text c (Text longest) a b =
    all_of (not (lt_z a (pos 2)) ∷ leb (nat_abs a - 1) longest ∷ judge_stretch u text b (nat_abs a - 1) ∷ [])
judge_value u text c Date a b = cell_is a 1 && judge_date b
judge_value u text c (Enumeration leaves) a b = cell_is a 1 && judge_leaf leaves b
judge_value u text c (Line forms ks) a b = false

-- a coordinate's further component is undefined exactly where the first one is
unfoldable pub judge_component : (before : Bool) → Component → (a b : ℤ) → Bool
judge_component true x a b = cell_is a 1 && within x b
judge_component false x a b = cell_is a 0 && cell_is b 0

-- "Line: 1 plus its count of points, its first point", which is the next one
unfoldable pub judge_line : Content → (k forms : ℕ) → List Component → (a b : ℤ) → Bool
judge_line c k forms ks a b = all_of
    (not (lt_z a (pos 2))
    ∷ cell_is b k
    ∷ leb (4 * (k + (nat_abs a - 1))) (length c.points)
    ∷ judge_points forms ks unstarted (nat_abs a - 1) (drop (4 * k) c.points)
    ∷ [])

-- fine, with so many points before what follows; or not fine
unfoldable pub fine_if : Bool → ℕ → Found
fine_if test k = choose test (found k) missing

-- one pair: the count of points before what follows, or missing where the pair is not fine
unfoldable pub judge_pair : (u : ℕ) (text : List ℕ) → Content → (before : Bool) (k : ℕ) → Pair → (a b : ℤ) → Found
judge_pair u text c before k (OfAttribute o type) a b =
    fine_if (choose (cell_is a 0) (judge_undefined o b) (judge_value u text c type a b)) k
judge_pair u text c before k (OfComponent x) a b = fine_if (judge_component before x a b) k
judge_pair u text c before k (OfLine o forms ks) a b =
    choose (cell_is a 0) (fine_if (judge_undefined o b) k) (fine_if (judge_line c k forms ks a b) (k + (nat_abs a - 1)))

-- is what is before the next pair defined? Only a further component asks
unfoldable pub defined_behind : (before : Bool) → Pair → (a : ℤ) → Bool
defined_behind before (OfAttribute o type) a = not (cell_is a 0)
defined_behind before (OfComponent x) a = before
defined_behind before (OfLine o forms ks) a = before

-- what follows where something is fine
abbrev pub after_found : {A : Type 0} → Found → A → (ℕ → A) → A
after_found (found k) not-fine next = next k
after_found missing not-fine next = not-fine

-- "in model order one pair per attribute, per component for coordinates": the pairs of a row, whose cells are cs
unfoldable pub judge_pairs : (u : ℕ) (text : List ℕ) → Content → (before : Bool) (k : ℕ) → List Pair → List ℤ → Found
judge_pairs u text c before k [] cs = found k
judge_pairs u text c before k (p ∷ ps) cs =
    after_found (judge_pair u text c before k p (get_or cs 0 (pos 0)) (get_or cs 1 (pos 0))) missing
    (λ k'. judge_pairs u text c (defined_behind before p (get_or cs 0 (pos 0))) k' ps (drop 2 cs))

-- ## Rows

-- the objects of a table, each with its table and the bytes of its identification
unfoldable pub lent_objects : (text : List ℕ) → List ℤ → (rows : List ℕ) → List Object
lent_objects text cs [] = []
lent_objects text cs (row ∷ rows) = record {
  table = cell_at cs row;
  identification = identification_bytes text cs row;
} ∷ lent_objects text cs rows

-- the pairs of a row that starts at this cell, and the cell where the next one has to start
abbrev pub pairs_at : Model → List ℤ → (at : ℕ) → List Pair
pairs_at m cs at = pairs_of (table_at m.tables (cell_at cs at)).attributes

abbrev pub row_end : Model → List ℤ → (at : ℕ) → ℕ
row_end m cs at = at + (3 + 2 * length (pairs_at m cs at))

-- "An object's row: table number, start and length of the identification in the unfolded text": the row that starts at
-- this cell, behind these rows. Its table is no earlier than the one before, and delivered; the row lies within the
-- cells; "identifications are unique in the file"
unfoldable pub judge_row : Model → (text : List ℕ) → Content → (least at : ℕ) (before : List ℕ) → Bool
judge_row m text c least at before =
    let cs : List ℤ = c.cells in
    all_of
    (not (lt_z (get_or cs at (pos 0)) (pos least))
    ∷ lt_z (get_or cs at (pos 0)) (pos (length m.tables))
    ∷ is_delivered c (length m.topics + cell_at cs at)
    ∷ leb (row_end m cs at) (length cs)
    ∷ not (lt_z (get_or cs (at + 2) (pos 0)) (pos 1))
    ∷ judge_stretch m.undefined text (get_or cs (at + 1) (pos 0)) (cell_at cs (at + 2))
    ∷ not (is_used (identification_bytes text cs at) (lent_objects text cs before))
    ∷ [])

-- "A row list holds each row's first cell": these rows, behind the rows before, from this cell and point on, to the
-- last of each. `least` is the least table that may come: "Topics and tables come in model order"
unfoldable pub judge_rows : Model → (text : List ℕ) → Content → (least at k : ℕ) (before rows : List ℕ) → Bool
judge_rows m text c least at k before [] = all_of
    (eqb at (length c.cells)
    ∷ eqb (4 * k) (length c.points)
    ∷ [])
judge_rows m text c least at k before (row ∷ rows) = all_of
    (eqb row at
    ∷ judge_row m text c least at before
    ∷ after_found (judge_pairs m.undefined text c true k (pairs_at m c.cells at) (drop (at + 3) c.cells)) false
    (λ k'. judge_rows m text c (cell_at c.cells at) (row_end m c.cells at) k' (before ++ (at ∷ [])) rows)
    ∷ [])

-- ## Marks

-- "Marks: one byte per topic, then per table, 1 where delivered"
unfoldable pub is_mark : ℕ → Bool
is_mark b = leb b 1

-- "topics and optional tables may be left out": a table is delivered only in a delivered topic, and is optional where
-- it is left out of one. n counts the tables, which stand behind so many topics
unfoldable pub judge_tables : (topics : ℕ) → Content → (n : ℕ) → List Table → Bool
judge_tables topics c n [] = true
judge_tables topics c n (table ∷ others) = all_of
    ((not (is_delivered c (topics + n)) || is_delivered c table.topic)
    ∷ (is_delivered c (topics + n) || not (is_delivered c table.topic) || table.optional)
    ∷ judge_tables topics c (n + 1) others
    ∷ [])

-- ## A table

-- is a lent table one that some lines read as?
unfoldable pub judge : Model → Lent → Bool
judge m t = all_of
    (counts_fit m t
    ∷ every is_mark (content_of m t).marks
    ∷ judge_tables (length m.topics) (content_of m t) 0 m.tables
    ∷ judge_rows m t.text (content_of m t) 0 0 0 [] (content_of m t).rows
    ∷ [])
