-- Rows judged one after the other: what is left means what the whole meant. Assumes nothing.
use Prim.Native.Nat.{ℕ, ◌+◌, ◌*◌, ◌≤◌, ◌<◌}
use native.Mathlib.Omega.{arith}
use native.Mathlib.Numerals.{add-one}
use mathlib.Core.Path.{◌≡◌, refl, sym, ap, ◌∙◌}
use mathlib.Core.Bool.{Bool, true, false, ◌&&◌}
use mathlib.Core.List.{List, [], ◌∷◌, ◌++◌}
use lib.Dec.{eqb}
use lib.IntN.{ℤ, pos}
use lib.ListN.{length, get_or, take, drop, replicate, drop_of_length-le}
use lib.Seq.{drop-cons, take-suc}
use borrow.Author.Tests.{leb-true, eq-eqb, ne_eqb}
use Rattle.meaning.specs.Bytes.{choose, all_of}
use Rattle.meaning.specs.Model.{Found, found, missing, Model}
use Rattle.meaning.specs.Row.{Pair}
use Rattle.meaning.specs.Reading.{Content, cell_at}
use Rattle.meaning.specs.Judge as judge
use Rattle.meaning.specs.Judge.{after_found, judge_pairs, row_end, judge_row, judge_rows}
use Rattle.meaning.proofs.Tests.Refuse.{holds}
use Rattle.table_index.proofs.Kept.{held_start}
use Rattle.write_judge.specs.Meant.{fine_of}
use Rattle.table.specs.declared.Table.{Table}
use Rattle.table.specs.Contents.{content}
use Rattle.write_judge.specs.Rows.{AtRow, rows_from}
use Rattle.std.proofs.Common.{Option, Some, None}
use Rattle.write_judge.specs.declared.rows.Place.{Place}
use Rattle.write_judge.proofs.Heads.{below_is, least_pos}

-- a row that is fine has an end
end_fine : (j : Bool) (e r : ℕ) → Some r ≡ choose j (Some e) None → (j ≡ true) × (r ≡ e)
unfolding choose
end_fine true e r h = let same : r ≡ e = cc in (refl, same)
end_fine false e r h = cc

end_bad : (j : Bool) (e : ℕ) → None ≡ choose j (Some e) None → j ≡ false
unfolding choose
end_bad true e h = cc
end_bad false e h = refl

stop_second : (x y : Bool) → false ≡ (x && (false && y))
stop_second true y = refl
stop_second false y = refl

stop_third : (x y : Bool) → false ≡ (x && (y && (false && true)))
stop_third true true = refl
stop_third true false = refl
stop_third false y = refl

go_on : (x : Bool) → x ≡ (x && true)
go_on true = refl
go_on false = refl

module _ (m : Model) (t : Table) where
  abbrev c : Content
  c = content t

  abbrev text : List ℕ
  text = t.text.now

  abbrev rows : List ℕ
  rows = t.rows.now

  abbrev cells : List ℤ
  cells = t.cells.now

  abbrev points : List ℤ
  points = t.points.now

  abbrev J : (o : ℕ) → Place → Bool
  J o p = judge_row m text c p.least p.at (take o rows)

  abbrev P : Place → Found
  P p = judge_pairs m.undefined text c true p.points (judge.pairs_at m cells p.at) (drop (p.at + 3) cells)

  -- what follows a row and its pairs
  abbrev Others : (o : ℕ) → Place → Bool
  Others o p = after_found (P p) false (λ k. judge_rows m text c (cell_at cells p.at) (row_end m cells p.at) k (take o rows ++ (p.at ∷ [])) (drop (o + 1) rows))

  pub pairs_told : (u : ℕ) (ps : List Pair) (x : Found) (p : Place) → u ≡ m.undefined → ps ≡ judge.pairs_at m cells p.at → x ≡ judge_pairs u text c true p.points ps (drop (p.at + 3) cells) → x ≡ P p
  pairs_told u ps x p eu e h =
      h
      ∙ ap (λ (v : ℕ). judge_pairs v text c true p.points ps (drop (p.at + 3) cells)) eu
      ∙ ap (λ (qs : List Pair). judge_pairs m.undefined text c true p.points qs (drop (p.at + 3) cells)) e

  rows_start : rows_from m t 0 (record { least = 0; at = 0; points = 0 }) ≡ judge_rows m text c 0 0 0 [] rows
  unfolding rows_from
  rows_start = refl

  rows_end : (o : ℕ) (p : Place) → length rows ≤ o → rows_from m t o p ≡ (eqb p.at (length cells) && eqb (4 * p.points) (length points))
  unfolding rows_from judge_rows all_of
  rows_end o p l = rw (drop_of_length-le rows {i = o} l) (ap (λ (x : Bool). eqb p.at (length cells) && x) (sym (go_on (eqb (4 * p.points) (length points)))))

  module _ (o : ℕ) (p : Place) (l : o < length rows) where
    split : drop o rows ≡ get_or rows o 0 ∷ drop (o + 1) rows
    split = rw (add-one o) (drop-cons rows o 0 l)

    one_more : get_or rows o 0 ≡ p.at → take (o + 1) rows ≡ take o rows ++ (p.at ∷ [])
    one_more e = rw (add-one o) (take-suc rows o 0 l ∙ ap (λ (x : ℕ). take o rows ++ (x ∷ [])) e)

    -- a row that is fine is of a table of the model, and lies within the cells
    pub fine_row : (r : ℕ) → Some r ≡ choose (J o p) (Some (row_end m cells p.at)) None → (cell_at cells p.at < length m.tables) × (row_end m cells p.at ≤ length cells) × (r ≡ row_end m cells p.at)
    unfolding judge_row
    fine_row r h =
        let q = end_fine (J o p) (row_end m cells p.at) r h in
        let a = get_or cells p.at (pos 0) in
        (below_is a (length m.tables) (least_pos a p.least (holds _ 0 q.0)).0 (holds _ 1 q.0), leb-true _ _ (holds _ 3 q.0), q.1)

    -- the row does not start where it has to
    pub rows_moved : (get_or rows o 0 ≡ p.at → ⊥) → false ≡ rows_from m t o p
    unfolding rows_from judge_rows all_of
    rows_moved n = rw (split, ne_eqb (get_or rows o 0) p.at n)

    -- the row is not fine
    pub rows_bad : None ≡ choose (J o p) (Some (row_end m cells p.at)) None → false ≡ rows_from m t o p
    unfolding rows_from judge_rows all_of
    rows_bad h = rw (split, end_bad (J o p) (row_end m cells p.at) h) (stop_second (eqb (get_or rows o 0) p.at) (Others o p && true))

    -- a pair is not fine
    pub rows_unpaired : missing ≡ P p → false ≡ rows_from m t o p
    unfolding rows_from judge_rows all_of
    rows_unpaired h = rw (split, ← h) (stop_third (eqb (get_or rows o 0) p.at) (judge_row m text c p.least p.at (take o rows)))

    -- the row and its pairs are fine
    pub rows_on : get_or rows o 0 ≡ p.at → (r : ℕ) → Some r ≡ choose (J o p) (Some (row_end m cells p.at)) None → (k : ℕ) → found k ≡ P p → (n : ℕ) → n ≡ cell_at cells p.at
        → rows_from m t (o + 1) (record { least = n; at = r; points = k }) ≡ rows_from m t o p
    unfolding rows_from judge_rows all_of
    rows_on e r h k f n w =
        let q = end_fine (J o p) (row_end m cells p.at) r h in
        rw (split, q.0, eq-eqb (get_or rows o 0) p.at e, ← f, one_more e, w, q.1) (go_on _)

-- ## Pairs

-- what the judge of pairs answered
module _ (r : Option ℕ) (x : Found) (e : fine_of r ≡ x) where
  pub told_at : (k : ℕ) → r ≡ Some k → found k ≡ x
  told_at k h = sym (ap (λ (q : Option ℕ). fine_of q) h) ∙ e

  pub told_none : r ≡ None → missing ≡ x
  told_none h = sym (ap (λ (q : Option ℕ). fine_of q) h) ∙ e

-- ## The loop

-- judged up to the row of object o
pub record RowsLeft (m : Model) (seed : ℕ) (t : Table) (index₀ index : List ℕ) (p : Place) (o : ℕ) : Type 0 where
  pub here : AtRow seed t index o p
  pub count : o ≤ length t.rows.now
  pub size : length index ≡ length index₀
  pub same : rows_from m t o p ≡ judge_rows m t.text.now (content t) 0 0 0 [] t.rows.now

module _ (m : Model) (seed : ℕ) (t : Table) (index₀ : List ℕ) where
  pub left_start : index₀ ≡ replicate (length index₀) 0 → RowsLeft m seed t index₀ index₀ (record { least = 0; at = 0; points = 0 }) 0
  left_start e = record {
    here = record { known = (held_start seed t.text.now t.rows.now t.cells.now index₀ (length index₀) e).known; cells_fit = omega arith; points_fit = omega arith };
    count = omega arith;
    size = refl;
    same = rows_start m t;
  }

  module _ (index : List ℕ) (p : Place) (o : ℕ) (i : RowsLeft m seed t index₀ index p o) where
    -- no row more
    pub left_end : length t.rows.now ≤ o → (eqb p.at (length t.cells.now) && eqb (4 * p.points) (length t.points.now)) ≡ judge_rows m t.text.now (content t) 0 0 0 [] t.rows.now
    left_end l = sym (rows_end m t o p l) ∙ i.same
