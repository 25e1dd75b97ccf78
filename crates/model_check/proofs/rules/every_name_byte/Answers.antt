-- `model_check::rules::every_name_byte` meets its contract: what is found so far and what the rest says make the answer. Assumes nothing.
use native.Mathlib.Omega.{arith}
use Rattle.meaning.specs.Check.{name_byte}
use Rattle.base.proofs.Scan.{every_turn, every_end}
use Rattle.model_check.proofs.rules.every_name_byte.Goals as goal

pub loop-b-preserved : goal.loop-b-preserved
loop-b-preserved c =
    rw c.is_name_byte-all.ensures (every_turn name_byte c.args.l.now c.loop-b.b-index c.loop-b.all (omega arith) c.loop-b.invariant)

pub returns : goal.returns
returns c = every_end name_byte c.args.l.now c.loop-b.b-index c.loop-b.all c.loop-b-test.false c.loop-b.invariant
