-- A point's four cells. Assumes nothing.
use Rattle.std.proofs.Common.{◌≡◌, ℕ, List, [], ◌∷◌, length, take, get_or, ℤ, pos, arith}
use Rattle.meaning.specs.Row.{point_cells}

pub two_cells : (kind : ℕ) (values : List ℤ) (count : ℕ) (d : ℤ) → length values ≡ 3 → count ≡ 2 → pos kind ∷ get_or values 0 d ∷ get_or values 1 d ∷ pos 0 ∷ [] ≡ point_cells kind (take count values)
unfolding point_cells
two_cells kind [] count d h e = absurd (omega arith)
two_cells kind (x ∷ []) count d h e = absurd (omega arith)
two_cells kind (x ∷ (y ∷ vs)) count d h e = rw e

pub three_cells : (kind : ℕ) (values : List ℤ) (count : ℕ) (d : ℤ) → length values ≡ 3 → count ≡ 3 → pos kind ∷ get_or values 0 d ∷ get_or values 1 d ∷ get_or values 2 d ∷ [] ≡ point_cells kind (take count values)
unfolding point_cells
three_cells kind [] count d h e = absurd (omega arith)
three_cells kind (x ∷ []) count d h e = absurd (omega arith)
three_cells kind (x ∷ (y ∷ [])) count d h e = absurd (omega arith)
three_cells kind (x ∷ (y ∷ (z ∷ vs))) count d h e = rw e
