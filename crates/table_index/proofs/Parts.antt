-- An identification, as a part of the text that the code cuts out. Assumes nothing.
use Prim.Native.Nat.{ℕ, ◌+◌, ◌-◌}
use mathlib.Core.Path.{◌≡◌, ap, ◌∙◌}
use mathlib.Core.List.{List}
use native.Mathlib.Omega.{arith}
use lib.IntN.{ℤ}
use lib.ListN.{get_or, take, drop}
use Rattle.meaning.specs.Reading.{cell_at}
use Rattle.table.specs.Rows.{identification_of}

pub part_is : (text : List ℕ) (start size : ℕ) → take ((start + size) - start) (drop start text) ≡ take size (drop start text)
part_is text start size = let e : (start + size) - start ≡ size = omega arith in rw e

pub part_named : (text rows : List ℕ) (cells : List ℤ) (o start size : ℕ) → start ≡ cell_at cells (get_or rows o 0 + 1) → size ≡ cell_at cells (get_or rows o 0 + 2) → take ((start + size) - start) (drop start text) ≡ identification_of text rows cells o
unfolding identification_of
part_named text rows cells o start size a b = part_is text start size ∙ ap (λ (k : ℕ). take size (drop k text)) a ∙ ap (λ (k : ℕ). take k (drop (cell_at cells (get_or rows o 0 + 1)) text)) b
