-- `write_lines::values::put_number_field` meets its contract. Assumes nothing.
use mathlib.Core.List.{[], ◌∷◌}
use mir.Syntax.{w64}
use mir.ValLaws.{to_z-of_z}
use Rattle.meaning.specs.Digits.{number_bytes}
use Rattle.write_lines.proofs.Puts.{then}
use Rattle.write_lines.proofs.values.put_number_field.Goals as goal

pub returns-else-saturating_sub-ge22 : goal.returns-else-saturating_sub-ge22
returns-else-saturating_sub-ge22 c =
    let a = c.args in
    let q = c.put_number in
    let p = c.put_byte-gap in
    then (0x20 ∷ []) (number_bytes a.decimals a.v) a.put _ _ a.out.now _ _ p.ensures (rw (to_z-of_z w64 a.v c.ranges.v) at q.ensures)
