-- `value_write::put_sign` meets its contract. Assumes nothing.
use mathlib.Core.Path.{refl}
use mathlib.Core.Bool.{true, false}
use native.Mathlib.Omega.{arith}
use lib.IntN.{pos}
use Rattle.meaning.specs.Bytes.{choose}
use Rattle.meaning.specs.Digits.{sign_of}
use Rattle.base.proofs.Signs.{plain}
use Rattle.value_write.proofs.put_sign.Goals as goal

pub returns-then-v-lt0 : goal.returns-then-v-lt0
unfolding sign_of choose
returns-then-v-lt0 c =
    rw (plain c.args.v (pos 0) true c.ranges.v (record { sfits = omega arith }) c.if-v-lt0.true)
    record {
      size = refl;
      bytes = refl;
    }

pub returns-else-v-lt0 : goal.returns-else-v-lt0
unfolding sign_of choose
returns-else-v-lt0 c =
    rw (plain c.args.v (pos 0) false c.ranges.v (record { sfits = omega arith }) c.if-v-lt0.false)
    record {
      size = refl;
      bytes = refl;
    }
