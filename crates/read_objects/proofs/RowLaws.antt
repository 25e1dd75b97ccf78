-- A row that joins the table: what it means, and what then holds. Assumes nothing.
use Prim.Native.Nat.{ℕ, ◌+◌, ◌*◌, ◌-◌, ◌≤◌, ◌<◌, min}
use native.Mathlib.Omega.{arith}
use mathlib.Core.Path.{◌≡◌, refl, sym, ap, ◌∙◌}
use mathlib.Core.Bool.{true, false, ◌||◌}
use mathlib.Core.List.{List, [], ◌∷◌, ◌++◌}
use lib.Dec.{leb, ltb}
use lib.IntN.{ℤ, pos, nat_abs}
use lib.ListN.{length, take, drop, set, get_or, length-set, length-drop}
use lib.Seq.{sets, length-take-le, get_or-set_same, take-set-le}
use borrow.Author.Count.{below_more}
use borrow.Author.Tests.{leb-false, ltb-false, lt-leb, le-ltb}
use Rattle.meaning.specs.Bytes.{refuse}
use Rattle.meaning.specs.Model.{Model, table_at}
use Rattle.meaning.specs.Field.{Field}
use Rattle.meaning.specs.Row.{Cells, cells, refused, pairs_of, pair_cells}
use Rattle.meaning.specs.Reading.{stretch, cell_at, objects_of, is_used, Content, Rooms, point_count, with_row, line_attributes, due_lines}
use Rattle.meaning.specs.Lines.{Step, go, no, store_row}
use Rattle.model_records.specs.Records.{model_at, pairs_at}
use Rattle.value_read.specs.Meant.{field_of}
use Rattle.table_index.specs.Index.{hash_of, insert_of}
use Rattle.table_index.specs.Holds.{IndexedTable}
use Rattle.table_index.proofs.More.{held_more}
use Rattle.read_objects.specs.declared.OpenTable.{OpenTable}
use Rattle.read_state.specs.declared.State.{State}
use Rattle.std.specs.Prelude.{Result, Ok, Err}
use Rattle.base.specs.declared.reasons.Reason.TheVariants.{TableFull}
use Rattle.base.specs.declared.reasons.Refusal.{Refusal}
use Rattle.base.specs.Reasons.{number_of}
use Rattle.read_state.specs.Meaning.{content_of, step_of}
use Rattle.table.specs.Rows.{row_size, RowsLaidOut}
use Rattle.read_objects.specs.Tables.{TableHolds}
use Rattle.read_polylines.proofs.Ways.{point_count_lem}
use borrow.Rule.Slice.PartMut.{put_mid, mid_of}
use Rattle.read_objects.proofs.Tables.{tables_few}
use Rattle.read_objects.specs.Fields.{Ends}
use Rattle.read_objects.specs.Rows.{RowFull, Fills, BehindRow, RowAdds}
use Rattle.read_objects.proofs.Cells.{lent, row_stored, row_front, row_first, row_length, one_listed}
use Rattle.meaning.proofs.Lists.{first_same}
use Rattle.meaning.proofs.Right.FieldReasons.{cells_size}
use Rattle.meaning.proofs.Tests.Refuse.{neither}

-- ## Room

pub room_rows : (a b c d : ℕ) → (leb a b || ltb c d) ≡ false → b < a
room_rows a b c d e = leb-false a b (neither (leb a b) (ltb c d) e).0

pub room_cells : (a b c d : ℕ) → (leb a b || ltb c d) ≡ false → d ≤ c
room_cells a b c d e = ltb-false c d (neither (leb a b) (ltb c d) e).1

-- the table's number and a row's size stay small
pub table_small : (m : Model) (b : List ℕ) (h : OpenTable) → TableHolds m b h → h.table < length b
table_small m b h t = omega (arith, t.table, tables_few m b h.at _ _ t.here.standing)

-- ## The fields in the part of the cells that is lent

pub fills_lent : (meant : Cells) (most used from : ℕ) (cs ys : List ℤ) (r : Result ℕ Refusal) → from ≡ min (used + 3) (length cs) → Ends meant most 0 (mid_of from (length cs - from) cs) ys r
    → Fills meant most (used + 3) cs (put_mid from (length cs - from) cs ys) r
fills_lent meant most used from cs ys (Err f) l e = e
fills_lent meant most used from cs ys (Ok n) l e = record {
  values = e.values;
  meaning = e.meaning;
  size = omega (arith, e.size);
  few = e.few;
  stored = λ h.
      let z : from ≡ used + 3 = omega arith in
      lent e.values from cs ys (omega (arith, e.size)) e.stored ∙ ap (λ (a : ℕ). sets cs a e.values) z;
}

-- ## What a row means

module _ (m : Model) (rooms : Rooms) (text : List ℕ) (t : ℕ) (i : Field) (c : Content) (values : List ℤ) where
  row_count : 3 + length values ≡ length (pos t ∷ pos i.start ∷ pos (length i.bytes) ∷ values)
  row_count = omega arith

  store_lacks : (leb rooms.rows (length c.rows) || ltb rooms.cells (length c.cells + (3 + length values))) ≡ true → store_row m rooms text t i c (cells values) ≡ no 16 0
  unfolding store_row refuse
  store_lacks e = rw (rw row_count at e)

  store_goes : (leb rooms.rows (length c.rows) || ltb rooms.cells (length c.cells + (3 + length values))) ≡ false
      → store_row m rooms text t i c (cells values) ≡ go (due_lines t (point_count c) (line_attributes (length c.cells + 3) (pairs_of (table_at m.tables t).attributes))) (with_row (pos t ∷ pos i.start ∷ pos (length i.bytes) ∷ values) c)
  unfolding store_row refuse
  store_goes e = rw (rw row_count at e)

-- ## One row more

module _ (m : Model) (n used used' t : ℕ) (rows rows' : List ℕ) (cs cs' : List ℤ) (within : (o : ℕ) → o < n → get_or rows o 0 + 2 < used) (d : RowsLaidOut m n used rows cs)
    (rows_same : take n rows' ≡ take n rows) (cells_same : take used cs' ≡ take used cs) (at_row : get_or rows' n 0 ≡ used) (at_table : get_or cs' used (pos 0) ≡ pos t)
    (table : t < length m.tables) (fits : used + row_size m t ≤ used') where
  same_row : (o : ℕ) → o < n → get_or rows' o 0 ≡ get_or rows o 0
  same_row o l = first_same rows rows' n o 0 rows_same l

  same_table_lem : (o : ℕ) → o < n → cell_at cs' (get_or rows' o 0) ≡ cell_at cs (get_or rows o 0)
  same_table_lem o l = ap (cell_at cs') (same_row o l) ∙ ap nat_abs (first_same cs cs' used (get_or rows o 0) (pos 0) cells_same (omega (arith, within o l)))

  new_table : cell_at cs' (get_or rows' n 0) ≡ t
  new_table = ap (cell_at cs') at_row ∙ ap nat_abs at_table

  laid_more : RowsLaidOut m (n + 1) used' rows' cs'
  laid_more = record {
    table = below_more (λ (o : ℕ). cell_at cs' (get_or rows' o 0) < length m.tables) n (λ o l. rw (same_table_lem o l) (d.table o l)) (rw new_table table);
    ends = below_more (λ (o : ℕ). get_or rows' o 0 + row_size m (cell_at cs' (get_or rows' o 0)) ≤ used') n
        (λ o l. rw (same_table_lem o l, same_row o l) (omega (arith, d.ends o l, fits)))
        (rw (new_table, at_row) fits);
    apart = λ o p l g. below_more (λ (q : ℕ). o < q → get_or rows' o 0 + row_size m (cell_at cs' (get_or rows' o 0)) ≤ get_or rows' q 0) n
        (λ q k j. rw (same_table_lem o (omega arith), same_row o (omega arith), same_row q k) (d.apart o q j k))
        (λ j. rw (same_table_lem o j, same_row o j, at_row) (d.ends o j)) p g l;
  }

  behind_rows_lem : (o : ℕ) → o < n + 1 → get_or rows' o 0 + 2 < used + 3
  behind_rows_lem = below_more (λ (o : ℕ). get_or rows' o 0 + 2 < used + 3) n (λ o l. omega (arith, same_row o l, within o l)) (omega (arith, at_row))

-- ## A row of the line's fields

module _ (b text : List ℕ) (seed : ℕ) (here : OpenTable) (s : State) (start size : ℕ) (u : ℕ) (fs : List Field) (rows : List ℕ) (cs : List ℤ) (index : List ℕ)
    (held : IndexedTable seed text s.rows s.cells rows cs index) where
  abbrev meant : Rooms → Content → Step
  meant = λ rooms c. store_row (model_at b) rooms text here.table (field_of start (stretch text start size)) c (pair_cells u true 3 (pairs_at b here.at) fs)

  rows_length : length (take s.rows rows) ≡ s.rows
  rows_length = length-take-le s.rows rows held.known.listed.in_rows

  cells_length : length (take s.cells cs) ≡ s.cells
  cells_length = length-take-le s.cells cs held.cells_in

  pub fields_refused : (rows' : List ℕ) (cs' : List ℤ) (index' : List ℕ) (f : Refusal) → pair_cells u true 3 (pairs_at b here.at) fs ≡ refused (number_of f.reason) f.field → RowAdds b text seed s meant rows rows' cs cs' index index' (Err f)
  unfolding store_row
  fields_refused rows' cs' index' f e = record { step = λ j rooms marks points x y z. rw e; holds = λ marks points h. tt }

  module _ (most n : ℕ) (cs₁ : List ℤ) (full : RowFull (pair_cells u true 3 (pairs_at b here.at) fs) most (s.cells + 3) n cs cs₁) where
    room_is_lem : (j : ℕ) (rooms : Rooms) (marks : List ℕ) (points : List ℤ) → rooms.rows ≡ length rows → rooms.cells ≡ length cs
        → (leb rooms.rows (length (content_of j s marks rows cs points).rows) || ltb rooms.cells (length (content_of j s marks rows cs points).cells + (3 + length full.values))) ≡ (leb (length rows) s.rows || ltb (length cs) (s.cells + (3 + n)))
    room_is_lem j rooms marks points x y = rw (x, y, rows_length, cells_length, full.size)

    pub lacks : (rows' : List ℕ) (cs' : List ℤ) (index' : List ℕ) (m : ℕ) → m ≡ length cs → (leb (length rows) s.rows || ltb m (s.cells + (3 + n))) ≡ true → RowAdds b text seed s meant rows rows' cs cs' index index' (Err (record { reason = TableFull; field = 0 }))
    lacks rows' cs' index' m q e = record {
      step = λ j rooms marks points x y z. rw full.meaning (sym (store_lacks (model_at b) rooms text here.table (field_of start (stretch text start size)) (content_of j s marks rows cs points) full.values (room_is_lem j rooms marks points x y ∙ rw q at e)));
      holds = λ marks points h. tt;
    }

    -- the row joins the table
    module _ (rows' : List ℕ) (cs' : List ℤ) (index' : List ℕ) (hash : ℕ) (r : State) (holds : TableHolds (model_at b) b here)
        (room_rows : s.rows < length rows) (room_cells : s.cells + (3 + n) ≤ length cs) (in_text : start + size ≤ length text)
        (listed : rows' ≡ set rows s.rows s.cells)
        (stored : cs' ≡ sets cs₁ s.cells (pos here.table ∷ pos start ∷ pos size ∷ []))
        (linked : index' ≡ insert_of index (length rows) s.rows hash)
        (behind : BehindRow b here s (3 + n) r) where
      cells_are : cs' ≡ sets (sets cs (s.cells + 3) full.values) s.cells (pos here.table ∷ pos start ∷ pos size ∷ [])
      cells_are = stored ∙ ap (λ (l : List ℤ). sets l s.cells (pos here.table ∷ pos start ∷ pos size ∷ [])) (full.stored (omega arith))

      rows_more : take (s.rows + 1) rows' ≡ take s.rows rows ++ (s.cells ∷ [])
      rows_more = ap (take (s.rows + 1)) listed ∙ one_listed rows s.rows s.cells room_rows

      cells_more : take (s.cells + (3 + n)) cs' ≡ take s.cells cs ++ (pos here.table ∷ pos start ∷ pos size ∷ full.values)
      cells_more = ap (take (s.cells + (3 + n))) cells_are ∙ row_stored cs s.cells n _ _ _ full.values (sym full.size) room_cells

      size_is : length (take size (drop start text)) ≡ size
      size_is = length-take-le size (drop start text) (omega (arith, length-drop start text))

      pairs_many : n ≡ 2 * length (pairs_of (table_at (model_at b).tables here.table).attributes)
      pairs_many = full.size ∙ cells_size u (pairs_at b here.at) fs true 3 full.values full.meaning ∙ rw holds.attributes

      has_room : (leb (length rows) s.rows || ltb (length cs) (s.cells + (3 + n))) ≡ false
      has_room = rw (lt-leb (length rows) s.rows room_rows, le-ltb (length cs) (s.cells + (3 + n)) room_cells)

      joins_step : (j : ℕ) (rooms : Rooms) (marks : List ℕ) (points : List ℤ) → rooms.rows ≡ length rows → rooms.cells ≡ length cs → 4 * s.points ≤ length points
          → step_of b j (Ok r) marks rows' cs' points ≡ meant rooms (content_of j s marks rows cs points)
      joins_step j rooms marks points x y z =
          rw (full.meaning, store_goes (model_at b) rooms text here.table (field_of start (stretch text start size)) (content_of j s marks rows cs points) full.values (room_is_lem j rooms marks points x y ∙ has_room))
          (rw (behind.due, behind.rows, behind.cells, behind.points, rows_more, cells_more, point_count_lem points s.points z, cells_length, size_is, holds.attributes))

      module _ (unused : is_used (stretch text start size) (objects_of text (take s.cells cs) (take s.rows rows)) ≡ false) (hashed : hash ≡ hash_of seed (stretch text start size)) where
        at_row_lem : get_or rows' s.rows 0 ≡ s.cells
        at_row_lem = ap (λ (l : List ℕ). get_or l s.rows 0) listed ∙ get_or-set_same rows s.rows s.cells 0 room_rows

        rows_kept : take s.rows rows' ≡ take s.rows rows
        rows_kept = ap (take s.rows) listed ∙ take-set-le s.rows rows s.rows s.cells (omega arith)

        cells_kept : take s.cells cs' ≡ take s.cells cs
        cells_kept = ap (take s.cells) cells_are ∙ row_front cs s.cells n _ _ _ full.values (sym full.size) room_cells

        at_table_lem : get_or cs' s.cells (pos 0) ≡ pos here.table
        at_table_lem = ap (λ (l : List ℤ). get_or l s.cells (pos 0)) cells_are ∙ row_first cs s.cells n _ _ _ full.values (sym full.size) room_cells (pos 0)

        cells_count : length cs' ≡ length cs
        cells_count = ap length cells_are ∙ row_length cs s.cells n _ _ _ full.values (sym full.size) room_cells

        objects : IndexedTable seed text (s.rows + 1) (s.cells + (3 + n)) rows' cs' index'
        objects =
            held_more seed text s.rows s.cells rows cs index held (s.cells + (3 + n)) rows' cs' here.table start size full.values
            (ap length listed ∙ length-set rows s.rows s.cells) cells_count room_rows room_cells rows_more cells_more in_text unused index' (length rows) hash refl hashed linked

        pub joins : RowAdds b text seed s meant rows rows' cs cs' index index' (Ok r)
        joins = record {
          step = joins_step;
          holds = λ marks points h. record {
            due = rw (behind.rows, behind.cells, behind.points) (behind.holds rows' (behind_rows_lem (model_at b) s.rows s.cells (s.cells + (3 + n)) here.table rows rows' cs cs' held.within h.laid rows_kept cells_kept at_row_lem at_table_lem holds.table (omega (arith, pairs_many))));
            objects = rw (behind.rows, behind.cells) objects;
            laid = rw (behind.rows, behind.cells) (laid_more (model_at b) s.rows s.cells (s.cells + (3 + n)) here.table rows rows' cs cs' held.within h.laid rows_kept cells_kept at_row_lem at_table_lem holds.table (omega (arith, pairs_many)));
            points_fit = rw behind.points h.points_fit;
            marks_fit = h.marks_fit;
          };
        }
