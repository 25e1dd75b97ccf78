-- `write_lines::fields::put_field` meets its contract. Assumes nothing.
use mathlib.Core.List.{[], ◌∷◌}
use Rattle.write_lines.proofs.Puts.{then}
use Rattle.write_lines.proofs.fields.put_field.Goals as goal

pub returns : goal.returns
returns c =
    let a = c.args in
    then (0x20 ∷ []) a.field.now a.put _ _ a.out.now _ _ c.put_byte-gap.ensures c.put_bytes.ensures
