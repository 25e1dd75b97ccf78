-- `base::kinds::every_permitted` meets its contract: what is found so far and what the rest says make the answer. Assumes nothing.
use native.Mathlib.Omega.{arith}
use Rattle.meaning.specs.Bytes.{permitted}
use Rattle.base.proofs.Scan.{every_turn, every_end}
use Rattle.base.proofs.kinds.every_permitted.Goals as goal

pub loop-b-preserved : goal.loop-b-preserved
loop-b-preserved c =
    rw c.tests_permitted-all.ensures (every_turn permitted c.args.l.now c.loop-b.b-index c.loop-b.all (omega arith) c.loop-b.invariant)

pub returns : goal.returns
returns c = every_end permitted c.args.l.now c.loop-b.b-index c.loop-b.all c.loop-b-test.false c.loop-b.invariant
