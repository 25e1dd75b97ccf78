-- `write_lines::cuts::count_cuts` meets its contract. Assumes nothing.
use Prim.Native.Nat.{ℕ, ◌+◌, ◌*◌, ◌-◌, ◌≤◌, ◌<◌}
use mathlib.Core.Path.{◌≡◌}
use mathlib.Core.List.{List}
use lib.ListN.{length}
use Rattle.meaning.specs.Bytes.{ends}
use Rattle.write_lines.specs.Cuts.{cut_rest}
use Rattle.write_lines.proofs.Cutting.{cut_on}
use Rattle.write_lines.proofs.cuts.count_cuts.Given as goal

abbrev pub invariant-loop-last : goal.invariant-loop-last
invariant-loop-last v =
    (0 < v.count)
    × ((mark : ℕ) (l : List ℕ) → length l ≡ v.size → ends mark l ≡ v.ended → cut_rest mark v.style.width (v.style.width - 1) l ≡ cut_on mark v.style.width v.count v.last l)
    × (v.last ≡ 5 + v.count * (v.style.width - 6))
    × (10 * v.count ≤ v.last)
    × (v.last < v.size + v.style.width)

abbrev pub decreases-loop-last : goal.decreases-loop-last
decreases-loop-last l = l.size - l.last
