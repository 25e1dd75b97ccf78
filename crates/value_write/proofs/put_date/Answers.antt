-- `value_write::put_date` meets its contract. Assumes nothing.
use mir.Syntax.{w64}
use mir.ValLaws.{to_z-of_z}
use Rattle.meaning.specs.Digits.{date_bytes, pointed}
use Rattle.value_write.proofs.put_date.Goals as goal

pub returns : goal.returns
unfolding date_bytes pointed
returns c = rw (to_z-of_z w64 c.args.v c.ranges.v) at c.put_value.ensures
