-- `value_read::stretches::same_identification` meets its contract: the first i bytes compare as the whole slices do.
-- Assumes nothing.
use Prim.Native.Nat.{◌≤◌}
use mathlib.Core.Path.{◌≡◌}
use lib.ListN.{length, take}
use Rattle.meaning.specs.Bytes.{same}
use Rattle.value_read.proofs.stretches.same_identification.Given as goal

abbrev pub invariant-loop-i : goal.invariant-loop-i
invariant-loop-i l = (l.i ≤ length l.a) × (same (take l.i l.a) (take l.i l.b) ≡ same l.a l.b)

abbrev pub decreases-loop-i : goal.decreases-loop-i
decreases-loop-i l = l.i
