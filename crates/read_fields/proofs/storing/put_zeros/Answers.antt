-- `read_fields::storing::put_zeros` meets its contract. Assumes nothing.
use mathlib.Core.Path.{refl}
use Rattle.read_fields.specs.RowProgress.{zeros}
use Rattle.read_fields.proofs.Stores.{zeros_turn}
use Rattle.read_fields.proofs.storing.put_zeros.Goals as goal

pub loop-i-init : goal.loop-i-init
unfolding zeros
loop-i-init c = refl

pub loop-i-preserved : goal.loop-i-preserved
loop-i-preserved c = zeros_turn c.args.cells.now c.loop-i.cells _ c.args.at c.loop-i.i c.loop-i.invariant c.put_pair.ensures
