-- Reading back (01, refusal 19): "writing: no lines read as this table".
-- Short names: m the model, c a table's content, cs its cells, ps the pairs that are left.
use Rattle.std.specs.Prelude.{ℕ, ◌+◌, ◌-◌, Bool, true, false, not, ◌&&◌, List, [], ◌∷◌, leb, eqb, ℤ, pos, nat_abs}
use Rattle.std.specs.Prelude.{length, drop, get_or}
use Rattle.std.specs.Int.Signed.{lt_z}
use Rattle.meaning.specs.Bytes.{choose, all_of, same}
use Rattle.meaning.specs.Unfold.{unfolded_text}
use Rattle.meaning.specs.Model.{AttributeType, Reference, Coordinate, Number, Text, Date, Enumeration, Line}
use Rattle.meaning.specs.Model.{Model, table_at}
use Rattle.meaning.specs.Row.{Pair, OfAttribute, OfComponent, OfLine, pairs_of}
use Rattle.meaning.specs.Reading.{Content, start_of, Rooms, stretch, cell_at}
use Rattle.meaning.specs.Lines.{Run, ran, stopped, read_lines}
use Rattle.meaning.specs.Table.{Resolved, resolved, unresolved, resolve}
use Rattle.meaning.specs.Writing.{Lent, counts_fit, content_of, lines_of}

-- ## A table as objects, the starts of their texts aside

-- what a table shows:
--   of_cells   two cells of a pair: undefined, a value, the object of a reference, a line's count and first point
--   of_bytes   the bytes of a text or of an identification
--   outside    a stretch outside the text, which shows nothing
pub data Shown : Type 0 where
  of_cells : (a b : ℤ) → Shown
  of_bytes : List ℕ → Shown
  outside : Shown

-- does a stretch of so many bytes lie in the text?
unfoldable pub is_within : (text : List ℕ) (start : ℤ) (size : ℕ) → Bool
is_within text start size = not (lt_z start (pos 0)) && leb (nat_abs start + size) (length text)

-- "a stretch outside the lent text is 19": the stretch from this start on, where a cell says its length plus `more`:
-- 1 for a text, 0 for an identification
unfoldable pub shown_stretch : (text : List ℕ) (start : ℤ) (more : ℕ) (cell : ℤ) → Shown
shown_stretch text start more cell =
    let size : ℕ = nat_abs cell - more in
    choose (not (lt_z cell (pos more)) && is_within text start size)
    (of_bytes (stretch text (nat_abs start) size))
    outside

unfoldable pub is_text : AttributeType → Bool
is_text (Reference t) = false
is_text (Coordinate cs) = false
is_text (Number c) = false
is_text (Text longest) = true
is_text Date = false
is_text (Enumeration leaves) = false
is_text (Line forms cs) = false

-- is a pair's second cell the start of a text, where its first cell is a?
unfoldable pub has_start : Pair → (a : ℤ) → Bool
has_start (OfAttribute o type) a = is_text type && not (eqb (nat_abs a) 0)
has_start (OfComponent c) a = false
has_start (OfLine o forms cs) a = false

-- a row's pairs, whose cells are cs
unfoldable pub shown_pairs : (text : List ℕ) → List Pair → List ℤ → List Shown
shown_pairs text [] cs = []
shown_pairs text (p ∷ ps) cs =
    let a : ℤ = get_or cs 0 (pos 0) in
    let b : ℤ = get_or cs 1 (pos 0) in
    choose (has_start p a) (shown_stretch text b 1 a) (of_cells a b) ∷ shown_pairs text ps (drop 2 cs)

-- an object: its table, its identification and its pairs
pub record ShownObject : Type 0 where
  pub table : ℤ
  pub identification : Shown
  pub pairs : List Shown

unfoldable pub shown_objects : Model → (text : List ℕ) → List ℤ → (rows : List ℕ) → List ShownObject
shown_objects m text cs [] = []
shown_objects m text cs (row ∷ rows) = record {
  table = get_or cs row (pos 0);
  identification = shown_stretch text (get_or cs (row + 1) (pos 0)) 0 (get_or cs (row + 2) (pos 0));
  pairs = shown_pairs text (pairs_of (table_at m.tables (cell_at cs row)).attributes) (drop (row + 3) cs);
} ∷ shown_objects m text cs rows

-- ## The same table

unfoldable pub same_cells : List ℤ → List ℤ → Bool
same_cells [] [] = true
same_cells [] (b ∷ k) = false
same_cells (a ∷ l) [] = false
same_cells (a ∷ l) (b ∷ k) = all_of (not (lt_z a b) ∷ not (lt_z b a) ∷ same_cells l k ∷ [])

-- what lies outside the text equals nothing, not even itself
unfoldable pub same_shown : Shown → Shown → Bool
same_shown (of_cells a b) (of_cells a' b') = same_cells (a ∷ b ∷ []) (a' ∷ b' ∷ [])
same_shown (of_cells a b) (of_bytes s) = false
same_shown (of_cells a b) outside = false
same_shown (of_bytes s) (of_cells a b) = false
same_shown (of_bytes s) (of_bytes s') = same s s'
same_shown (of_bytes s) outside = false
same_shown outside x = false

unfoldable pub same_pairs : List Shown → List Shown → Bool
same_pairs [] [] = true
same_pairs [] (y ∷ ys) = false
same_pairs (x ∷ xs) [] = false
same_pairs (x ∷ xs) (y ∷ ys) = same_shown x y && same_pairs xs ys

unfoldable pub same_objects : List ShownObject → List ShownObject → Bool
same_objects [] [] = true
same_objects [] (y ∷ ys) = false
same_objects (x ∷ xs) [] = false
same_objects (x ∷ xs) (y ∷ ys) = all_of
    (same_cells (x.table ∷ []) (y.table ∷ [])
    ∷ same_shown x.identification y.identification
    ∷ same_pairs x.pairs y.pairs
    ∷ same_objects xs ys
    ∷ [])

-- "row list, cells, points and marks must be exactly those of a reading"; 19 "ignores .. the starts of texts and
-- identifications", which compare by their bytes
unfoldable pub same_table : Model → (text : List ℕ) → Content → (text' : List ℕ) → Content → Bool
same_table m text c text' c' = all_of
    (same c.marks c'.marks
    ∷ same c.rows c'.rows
    ∷ eqb (length c.cells) (length c'.cells)
    ∷ same_objects (shown_objects m text c.cells c.rows) (shown_objects m text' c'.cells c'.rows)
    ∷ same_cells c.points c'.points
    ∷ [])

-- ## Lines that read as a table

unfoldable pub is_resolved_as : Model → (text : List ℕ) → Content → (text' : List ℕ) → Content → Resolved → Bool
is_resolved_as m text c text' c' (unresolved object field) = false
is_resolved_as m text c text' c' (resolved cs) = same_table m text (record {
  marks = c.marks;
  rows = c.rows;
  cells = cs;
  points = c.points;
}) text' c'

unfoldable pub is_run_as : Model → (text text' : List ℕ) → Content → Run → Bool
is_run_as m text text' c' (stopped number line field) = false
is_run_as m text text' c' (ran s) = is_resolved_as m text s.content text' c' (resolve m text s.content)

-- do these lines read as the table of this text and content? There is room for no more than it has
unfoldable pub reads_as : Model → List (List ℕ) → (text : List ℕ) → Content → Bool
reads_as m ls text c =
    let rooms : Rooms = record {
      text = 0;
      marks = 0;
      rows = length c.rows;
      cells = length c.cells;
      points = length c.points;
    } in
    is_run_as m (unfolded_text ls) text c (read_lines m rooms (unfolded_text ls) (start_of m) ls)

-- does a lent table fit its counts, and do its own lines read as it?
unfoldable pub is_table : Model → Lent → Bool
is_table m t = all_of
    (counts_fit m t
    ∷ reads_as m (lines_of m t.text (content_of m t)) t.text (content_of m t)
    ∷ [])
