-- A table in its cells that count, without those behind them. Assumes nothing.
use Prim.Native.Nat.{ℕ, zero, suc, ◌+◌, ◌-◌, ◌≤◌, ◌<◌}
use mathlib.Core.Path.{◌≡◌, refl, fun_ext}
use mathlib.Core.List.{List, [], ◌∷◌, ◌++◌}
use native.Mathlib.Omega.{arith}
use lib.IntN.{ℤ, pos}
use lib.ListN.{length, get_or, take, replicate, length-append, length-replicate}
use lib.Seq.{length-take-le, take_at, get_or-take}
use Rattle.meaning.specs.Model.{Model}
use Rattle.table.specs.Rows.{identification_of}
use Rattle.table_index.specs.Holds.{IndexedTable}
use Rattle.table_index.proofs.Kept.{held_behind}
use Rattle.table.specs.Rows.{RowsLaidOut}

-- what is looked for behind the end is the same as what is filled in there
filled_none : {A : Type 0} (z : A) (k i : ℕ) → get_or (replicate k z) i z ≡ z
filled_none z zero i = refl
filled_none z (suc k) zero = refl
filled_none z (suc k) (suc i) = filled_none z k i

filled_same : {A : Type 0} (z : A) (xs : List A) (k i : ℕ) → get_or (xs ++ replicate k z) i z ≡ get_or xs i z
filled_same z [] k i = filled_none z k i
filled_same z (x ∷ xs) k zero = refl
filled_same z (x ∷ xs) k (suc i) = filled_same z xs k i

module _ (seed : ℕ) (text : List ℕ) (n used : ℕ) (rows : List ℕ) (cells : List ℤ) (index : List ℕ) (h : IndexedTable seed text n used rows cells index) where
  -- zeros in place of the cells behind
  zeros : List ℤ
  zeros = take used cells ++ replicate (length cells - used) (pos 0)

  zeros_length : length zeros ≡ length cells
  unfolding zeros
  zeros_length = omega (arith, h.cells_in, length-append (take used cells) (replicate (length cells - used) (pos 0)), length-take-le used cells h.cells_in, length-replicate (length cells - used) (pos 0))

  zeros_held : IndexedTable seed text n used rows zeros index
  unfolding zeros
  zeros_held = held_behind seed text n used rows cells index h rows zeros refl zeros_length refl (take_at (take used cells) _ used (length-take-le used cells h.cells_in))

  zeros_named : identification_of text rows zeros ≡ identification_of text rows (take used cells)
  unfolding zeros identification_of
  zeros_named = fun_ext (λ o. rw (filled_same (pos 0) (take used cells) (length cells - used) (get_or rows o 0 + 1), filled_same (pos 0) (take used cells) (length cells - used) (get_or rows o 0 + 2)))

  cell_same : (o k : ℕ) → o < n → k ≤ 2 → get_or (take used cells) (get_or rows o 0 + k) (pos 0) ≡ get_or cells (get_or rows o 0 + k) (pos 0)
  cell_same o k l s = get_or-take used cells (get_or rows o 0 + k) (pos 0) (omega (arith, h.within o l))

  table_same : (o : ℕ) → o < n → get_or (take used cells) (get_or rows o 0) (pos 0) ≡ get_or cells (get_or rows o 0) (pos 0)
  table_same o l = get_or-take used cells (get_or rows o 0) (pos 0) (omega (arith, h.within o l))

  pub first_held : IndexedTable seed text n (length (take used cells)) rows (take used cells) index
  first_held =
      let size : length (take used cells) ≡ used = length-take-le used cells h.cells_in in
      record {
        known = record {
          listed = record {
            in_rows = h.known.listed.in_rows;
            row = λ o l. record {
              in_cells = omega (arith, h.within o l);
              table_pos = rw (table_same o l) (h.known.listed.row o l).table_pos;
              start_pos = rw (cell_same o 1 l (omega arith)) (h.known.listed.row o l).start_pos;
              length_pos = rw (cell_same o 2 l (omega arith)) (h.known.listed.row o l).length_pos;
              in_text = rw (cell_same o 1 l (omega arith), cell_same o 2 l (omega arith)) (h.known.listed.row o l).in_text;
            };
          };
          unique = rw (zeros_named) at zeros_held.known.unique;
          indexed = λ t. rw (zeros_named) at (zeros_held.known.indexed t);
        };
        cells_in = omega arith;
        within = λ o l. omega (arith, h.within o l);
        spaced = h.spaced;
      }

  pub first_laid : (m : Model) → RowsLaidOut m n used rows cells → RowsLaidOut m n (length (take used cells)) rows (take used cells)
  first_laid m a = rw (length-take-le used cells h.cells_in)
      record {
        table = λ o l. rw (table_same o l) (a.table o l);
        ends = λ o l. rw (table_same o l) (a.ends o l);
        apart = λ o p l k. rw (table_same o (omega arith)) (a.apart o p l k);
      }
