-- `value_read::judge` meets its contract. Assumes nothing.
use mir.Syntax.{w64}
use mir.ValLaws.{to_z-of_z}
use Rattle.meaning.specs.Bytes.{refuse}
use Rattle.value_read.proofs.judge.Goals as goal

pub returns-then-inside : goal.returns-then-inside
unfolding refuse
returns-then-inside c = rw (to_z-of_z w64 c.args.v c.ranges.v, c.if-inside.true)

pub returns-else-inside : goal.returns-else-inside
unfolding refuse
returns-else-inside c = rw c.if-inside.false
