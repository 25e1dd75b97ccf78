-- `model_check::check::check_records` meets its contract. Assumes nothing.
use Prim.Native.Nat.{◌-◌}
use lib.ListN.{length}
use Rattle.model_check.proofs.Walking.{Walking}
use Rattle.model_check.proofs.check.check_records.Given as goal

abbrev pub invariant-loop-w : goal.invariant-loop-w
invariant-loop-w l = Walking l.model l.w l.topics l.tables l.attributes l.places

abbrev pub decreases-loop-w : goal.decreases-loop-w
decreases-loop-w l = length l.model - l.w.at
