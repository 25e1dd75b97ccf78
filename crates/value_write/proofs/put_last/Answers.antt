-- `value_write::put_last` meets its contract: the digits still due and those that stand make the whole. Assumes nothing.
use mathlib.Core.Path.{◌≡◌}
use native.Mathlib.Omega.{arith}
use Rattle.meaning.specs.Digits.{last_digits}
use Rattle.value_write.proofs.Stores.{put_turn, left_turn}
use Rattle.value_write.proofs.put_last.Goals as goal

pub loop-i-preserved : goal.loop-i-preserved
loop-i-preserved c =
    let l = c.loop-i in
    (put_turn l.i l.rest l.out _ (omega arith) (omega arith) l.invariant.0, left_turn l.i l.rest _ (omega arith) l.invariant.1)

pub returns-clause-digits : goal.returns-clause-digits
unfolding last_digits
returns-clause-digits c = let z : c.loop-i.i ≡ 0 = omega arith in rw z at c.loop-i.invariant.0
