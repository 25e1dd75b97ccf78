-- Walks over the rows of a table, and over the tables of its model. Assumes nothing.
use Prim.Native.Nat.{ℕ, suc, ◌+◌, ◌-◌, ◌≤◌, ◌<◌}
use native.Mathlib.Omega.{arith}
use native.Mathlib.Numerals.{add-one}
use mathlib.Core.Path.{◌≡◌, refl, sym, ap, ap₂, ◌∙◌}
use mathlib.Core.Bool.{Bool, true, false, not, ◌&&◌}
use mathlib.Core.List.{List, [], ◌∷◌, ◌++◌, append_assoc}
use lib.Dec.{eqb}
use lib.IntN.{ℤ}
use lib.ListN.{length, take, drop, get_or, drop_of_length-le}
use lib.Seq.{drop-cons}
use borrow.Author.Tests.{ne_eqb, eq-eqb}
use Rattle.meaning.specs.Bytes.{choose}
use Rattle.meaning.specs.Model.{Model, no_table, table_at}
use Rattle.meaning.specs.Field.{TABL, ETAB}
use Rattle.meaning.specs.Row.{Pair, pairs_of}
use Rattle.meaning.specs.Reading.{Content, cell_at}
use Rattle.meaning.specs.Writing.{object_lines, row_lines, rows_of_table, rows_behind_table, is_delivered, table_lines, lines_bytes}
use Rattle.meaning.specs.Width.{cut_lines}
use Rattle.model_records.specs.declared.places.Shape.{Shape}
use Rattle.model_records.specs.declared.places.Places.{Places}
use Rattle.model_records.specs.Records.{next_at, model_at, pairs_at}
use Rattle.model_records.specs.Places.{table_place, topic_of, TableRecord, RecordsPlaced}
use Rattle.model_records.proofs.Types.{payload_part}
use Rattle.write_lines.specs.declared.Put.{Put}
use Rattle.write_lines.specs.Puts.{Puts}
use Rattle.write_lines.specs.declared.style.LineStyle.{LineStyle}
use Rattle.write_file.specs.declared.walk.RowsWritten.{RowsWritten}
use Rattle.write_file.specs.Styles.{cut_of}
use Rattle.write_file.specs.Walks.{lines_of_table, TableEnd, TableTurn}
use Rattle.write_objects.proofs.Joined.{cut_lines_append}
use Rattle.write_file.proofs.Frames.{no_lines, put_none}
use Rattle.meaning.proofs.Lists.{drop_next}

-- ## Rows

-- the next row
pub take_next : (rows : List ℕ) (i to : ℕ) → i < to → to ≤ length rows → take (to - i) (drop i rows) ≡ get_or rows i 0 ∷ take (to - (i + 1)) (drop (i + 1) rows)
take_next rows i to l h =
    let z : to - i ≡ suc (to - (i + 1)) = omega arith in
    ap₂ (λ (n : ℕ) (rs : List ℕ). take n rs) z (drop-cons rows i 0 (omega arith)) ∙ ap (λ (n : ℕ). get_or rows i 0 ∷ take (to - (i + 1)) (drop n rows)) (sym (add-one i))

-- the rows from `row` to i are of table t
pub record TableRun (t : ℕ) (cells : List ℤ) (rows : List ℕ) (row i : ℕ) : Type 0 where
  pub order : row ≤ i
  pub within : i ≤ length rows
  pub first : (j : ℕ) → i ≤ j → j ≤ length rows → take (j - i) (drop i rows) ≡ rows_of_table t cells (drop i rows) → take (j - row) (drop row rows) ≡ rows_of_table t cells (drop row rows)
  pub rest : rows_behind_table t cells (drop i rows) ≡ rows_behind_table t cells (drop row rows)

module _ (t : ℕ) (cells : List ℤ) (rows : List ℕ) (row : ℕ) where
  module _ (i : ℕ) (r : TableRun t cells rows row i) (h : i < length rows) where
    pub run_on : cell_at cells (get_or rows i 0) ≡ t → TableRun t cells rows row (i + 1)
    unfolding rows_of_table rows_behind_table choose
    run_on e =
        let same : eqb (cell_at cells (get_or rows i 0)) t ≡ true = eq-eqb _ _ e in
        let of : rows_of_table t cells (drop i rows) ≡ get_or rows i 0 ∷ rows_of_table t cells (drop (i + 1) rows) = rw (drop_next rows i 0 h, same) in
        let behind : rows_behind_table t cells (drop i rows) ≡ rows_behind_table t cells (drop (i + 1) rows) = rw (drop_next rows i 0 h, same) in
        record {
          order = omega (arith, r.order);
          within = omega arith;
          first = λ j a b k. r.first j (omega arith) b (take_next rows i j (omega arith) b ∙ ap (λ (rs : List ℕ). get_or rows i 0 ∷ rs) k ∙ sym of);
          rest = sym behind ∙ r.rest;
        }

    pub run_stop : (cell_at cells (get_or rows i 0) ≡ t → ⊥) → TableEnd t cells rows row i
    unfolding rows_of_table rows_behind_table choose
    run_stop n =
        let other : eqb (cell_at cells (get_or rows i 0)) t ≡ false = ne_eqb _ _ n in
        let none : i - i ≡ 0 = omega arith in
        record {
          order = r.order;
          within = r.within;
          first = r.first i (omega arith) (omega arith) (rw (none, drop_next rows i 0 h, other) refl);
          rest = rw (drop_next rows i 0 h) (rw (drop_next rows i 0 h, other) at r.rest);
        }

  pub run_end : (i : ℕ) → TableRun t cells rows row i → length rows ≤ i → TableEnd t cells rows row (length rows)
  unfolding rows_of_table rows_behind_table
  run_end i r h =
      let no_row : drop i rows ≡ [] = drop_of_length-le rows {i = i} h in
      let none : i - i ≡ 0 = omega arith in
      let end : length rows ≡ i = omega (arith, r.within) in
      rw end record {
        order = r.order;
        within = r.within;
        first = r.first i (omega arith) r.within (rw (none, no_row) refl);
        rest = no_row ∙ (rw no_row at r.rest);
      }

-- the lines of the next object, and of no object
module _ (mark width : ℕ) (m : Model) (text : List ℕ) (c : Content) (ps : List Pair) (rows : List ℕ) (i : ℕ) where
  pub rows_turn : i < length rows → cut_lines mark width (lines_bytes (row_lines m text c ps (drop i rows)))
      ≡ cut_lines mark width (lines_bytes (object_lines m text c ps (get_or rows i 0))) ++ cut_lines mark width (lines_bytes (row_lines m text c ps (drop (i + 1) rows)))
  unfolding row_lines
  rows_turn h = rw (drop_next rows i 0 h) (cut_lines_append mark width (object_lines m text c ps (get_or rows i 0)) (row_lines m text c ps (drop (i + 1) rows)))

  pub rows_end : length rows ≤ i → cut_lines mark width (lines_bytes (row_lines m text c ps (drop i rows))) ≡ []
  unfolding row_lines lines_bytes cut_lines
  rows_end h = rw (drop_of_length-le rows {i = i} h) refl

-- ## Tables

-- the record of table t is at this byte, the next record at that one
module _ (b : List ℕ) (shape : Shape) (places : Places) (h : RecordsPlaced b shape places) (t : ℕ) (l : t < shape.tables) (at : ℕ) (e : at ≡ table_place places t) where
  record_of : TableRecord (model_at b) b t at
  record_of = rw e (h.noted.table t l)

  module _ (next : ℕ) (n : next ≡ next_at b at) where
    pub table_name : take (next - (at + 5)) (drop (at + 5) b) ≡ (table_at (model_at b).tables t).name
    table_name = rw n (payload_part b at 1 (at + 5) (omega arith) ∙ record_of.name)

    pub table_pairs : pairs_at b next ≡ pairs_of (table_at (model_at b).tables t).attributes
    table_pairs = rw n (ap pairs_of record_of.attributes)

-- table t is passed: the test is whether it is one of topic p that is delivered
module _ (b : List ℕ) (shape : Shape) (places : Places) (text : List ℕ) (c : Content) (s : LineStyle) (p t row : ℕ) (put : Put) (e : List ℕ)
    (h : RecordsPlaced b shape places) (l : t < shape.tables) (r : Bool)
    (test : r ≡ (eqb (topic_of places t) p && not (eqb (get_or c.marks (shape.topics + t) 0) 0))) where
  tested : (eqb (table_at (model_at b).tables t).topic p && is_delivered c (length (model_at b).topics + t)) ≡ r
  tested = rw (← h.noted.owner t l, ← h.topics) (sym test)

  table_next_lem : drop t (model_at b).tables ≡ table_at (model_at b).tables t ∷ drop (t + 1) (model_at b).tables
  table_next_lem =
      drop-cons (model_at b).tables t no_table (omega (arith, l, h.tables))
      ∙ ap (λ (n : ℕ). table_at (model_at b).tables t ∷ drop n (model_at b).tables) (sym (add-one t))

  pub table_over : r ≡ false → row ≤ length c.rows → (q : Put) → Puts [] put e e q → TableTurn (model_at b) text c s p t row put e e (record { put = q; row = row })
  unfolding choose table_lines
  table_over n w q none = record {
    lines = [];
    put = put_none s.mark s.width put q e none;
    rest = rw (table_next_lem, tested ∙ n) refl;
    within = w;
  }

  pub table_due : r ≡ true → (to : ℕ) → TableEnd t c.cells c.rows row to → {e' : List ℕ} {q : Put}
      → Puts (cut_of s (lines_of_table (model_at b) text c t (take (to - row) (drop row c.rows)))) put e e' q
      → TableTurn (model_at b) text c s p t row put e e' (record { put = q; row = to })
  unfolding choose table_lines
  table_due y to end f = record {
    lines = lines_of_table (model_at b) text c t (take (to - row) (drop row c.rows));
    put = f;
    rest = rw (table_next_lem, tested ∙ y, end.first, end.rest)
        (ap (λ (ls : List (List (List ℕ))). (TABL ∷ (table_at (model_at b).tables t).name ∷ []) ∷ ls)
        (sym (append_assoc (row_lines (model_at b) text c (pairs_of (table_at (model_at b).tables t).attributes) (rows_of_table t c.cells (drop row c.rows))) ((ETAB ∷ []) ∷ []) _)));
    within = end.within;
  }

-- the lines that are left behind the table, and behind the last one
pub tables_on : (m : Model) (text : List ℕ) (c : Content) (s : LineStyle) (p t row : ℕ) (put : Put) (e e' : List ℕ) (w : RowsWritten) (turn : TableTurn m text c s p t row put e e' w)
    → cut_of s (table_lines m text c p t (drop t m.tables) (drop row c.rows))
    ≡ cut_of s turn.lines ++ cut_of s (table_lines m text c p (t + 1) (drop (t + 1) m.tables) (drop w.row c.rows))
tables_on m text c s p t row put e e' w turn =
    ap (cut_of s) turn.rest ∙ cut_lines_append s.mark s.width turn.lines (table_lines m text c p (t + 1) (drop (t + 1) m.tables) (drop w.row c.rows))

pub tables_end : (m : Model) (text : List ℕ) (c : Content) (s : LineStyle) (p t : ℕ) (rs : List ℕ) → length m.tables ≤ t
    → cut_of s (table_lines m text c p t (drop t m.tables) rs) ≡ []
unfolding table_lines
tables_end m text c s p t rs h =
    let none : drop t m.tables ≡ [] = drop_of_length-le m.tables {i = t} h in
    rw none (no_lines s.mark s.width)
