-- `write_lines::values::put_date` meets its contract. Assumes nothing.
use native.Mathlib.Omega.{arith}
use mir.Syntax.{w64}
use mir.ValLaws.{to_z-of_z}
use Rattle.meaning.specs.Digits.{date_bytes}
use Rattle.write_lines.proofs.Puts.{at_front}
use Rattle.write_lines.proofs.values.put_date.Goals as goal

pub returns : goal.returns
returns c =
    let e = rw (to_z-of_z w64 c.args.v c.ranges.v) at c.put_date-size.ensures in
    let f = at_front c.put_date-size.result (date_bytes c.args.v) _ c.put_date-size.new.out e.size (omega (arith, e.few)) e.bytes in
    rw f at c.put_bytes.ensures
