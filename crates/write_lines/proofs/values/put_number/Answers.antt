-- `write_lines::values::put_number` meets its contract. Assumes nothing.
use native.Mathlib.Omega.{arith}
use mir.Syntax.{w64}
use mir.ValLaws.{to_z-of_z}
use Rattle.meaning.specs.Digits.{number_bytes}
use Rattle.write_lines.proofs.Puts.{at_front}
use Rattle.write_lines.proofs.values.put_number.Goals as goal

pub returns : goal.returns
returns c =
    let e = rw (to_z-of_z w64 c.args.v c.ranges.v) at c.put_number-size.ensures in
    let f = at_front c.put_number-size.result (number_bytes c.args.decimals c.args.v) _ c.put_number-size.new.out e.size (omega (arith, e.few)) e.bytes in
    rw f at c.put_bytes.ensures
