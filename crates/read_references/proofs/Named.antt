-- The pair of a reference, by what is found. Assumes nothing.
use Prim.Native.Nat.{ℕ, ◌+◌, ◌-◌}
use mathlib.Core.Path.{◌≡◌}
use mathlib.Core.List.{List}
use lib.ListN.{set}
use lib.IntN.{ℤ, pos}
use borrow.Author.Tests.{eq-eqb, ne_eqb}
use Rattle.meaning.specs.Bytes.{choose}
use Rattle.meaning.specs.Model.{found, missing}
use Rattle.meaning.specs.Reading.{Object, stretch, cell_at}
use Rattle.meaning.specs.Table.{find_object, resolved, unresolved, put_reference, resolve_pair}

module _ (text : List ℕ) (os : List Object) (object field cell t : ℕ) (cs : List ℤ) where
  pub pair_undefined : cell_at cs cell ≡ 0 → resolved cs ≡ resolve_pair text os object field cell (found t) cs
  unfolding resolve_pair choose
  pair_undefined h = rw (eq-eqb (cell_at cs cell) 0 h)

  module _ (d : cell_at cs cell ≡ 0 → ⊥) (start len : ℕ) (same : stretch text start len ≡ stretch text (cell_at cs (cell + 1)) (cell_at cs cell - 1)) where
    pub pair_found : (n : ℕ) → find_object t 0 (stretch text start len) os ≡ found n → resolved (set (set cs cell (pos 1)) (cell + 1) (pos n)) ≡ resolve_pair text os object field cell (found t) cs
    unfolding resolve_pair choose put_reference
    pair_found n h = rw (ne_eqb (cell_at cs cell) 0 d, ← same, h)

    pub pair_missing : find_object t 0 (stretch text start len) os ≡ missing → unresolved object field ≡ resolve_pair text os object field cell (found t) cs
    unfolding resolve_pair choose put_reference
    pair_missing h = rw (ne_eqb (cell_at cs cell) 0 d, ← same, h)
