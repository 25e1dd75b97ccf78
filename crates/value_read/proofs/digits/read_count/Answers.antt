-- `value_read::digits::read_count` meets its contract. Assumes nothing.
use native.Mathlib.Omega.{arith}
use Rattle.value_read.proofs.Shapes.{few_digits, many_digits, digits_read}
use Rattle.value_read.proofs.digits.read_count.Goals as goal

pub returns-in-1-to-18 : goal.returns-in-1-to-18
returns-in-1-to-18 c =
    digits_read 1 18 c.args.field.now _ c.read_digits.result (omega arith) (omega arith) c.read_digits.ensures

pub returns-in_default : goal.returns-in_default
returns-in_default c = few_digits 1 18 _ (omega arith)

pub returns-in_default-2 : goal.returns-in_default-2
returns-in_default-2 c = many_digits 1 18 _ (omega arith)
