-- `value_write::count_digits` meets its contract: the limit is ten to the power of `size`. Assumes nothing.
use Prim.Native.Nat.{ℕ, ◌-◌, ◌≤◌, ◌<◌, ◌^◌}
use mathlib.Core.Path.{◌≡◌}
use Rattle.value_write.proofs.count_digits.Given as goal

abbrev pub invariant-loop-limit : goal.invariant-loop-limit
invariant-loop-limit l = (0 < l.size) × (l.size ≤ 19) × (l.limit ≡ 10 ^ l.size) × ((j : ℕ) → 0 < j → j < l.size → 10 ^ j ≤ l.n)

abbrev pub decreases-loop-limit : goal.decreases-loop-limit
decreases-loop-limit l = 19 - l.size
