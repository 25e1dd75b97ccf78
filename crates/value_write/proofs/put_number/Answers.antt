-- `value_write::put_number` meets its contract. Assumes nothing.
use mir.Syntax.{w64}
use mir.ValLaws.{to_z-of_z}
use Rattle.meaning.specs.Digits.{number_bytes}
use Rattle.value_write.proofs.put_number.Goals as goal

pub returns : goal.returns
unfolding number_bytes
returns c = rw (to_z-of_z w64 c.args.v c.ranges.v) at c.put_value.ensures
