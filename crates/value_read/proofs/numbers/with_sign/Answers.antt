-- `value_read::numbers::with_sign` meets its contract. Assumes nothing.
use native.Mathlib.Omega.{arith}
use mir.Syntax.{w64}
use mir.ValLaws.{to_z_pos}
use Rattle.meaning.specs.Bytes.{choose}
use Rattle.base.proofs.Signs.{minus_is}
use Rattle.value_read.proofs.numbers.with_sign.Goals as goal

pub returns-then-negative : goal.returns-then-negative
unfolding choose
returns-then-negative c = rw c.if-negative.true (minus_is c.args.n c.requires)

pub returns-else-negative : goal.returns-else-negative
unfolding choose
returns-else-negative c = rw c.if-negative.false (to_z_pos w64 c.args.n (omega arith))
