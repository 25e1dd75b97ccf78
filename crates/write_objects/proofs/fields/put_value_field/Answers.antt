-- `write_objects::fields::put_value_field` meets its contract. Assumes nothing.
use mathlib.Core.List.{[], ◌∷◌}
use mir.Syntax.{w64}
use mir.ValLaws.{to_z-of_z}
use Rattle.meaning.specs.Writing.{type_bytes}
use Rattle.model_records.specs.Attributes.{of_kind}
use Rattle.table.specs.Contents.{content}
use Rattle.write_lines.proofs.Puts.{then}
use Rattle.write_objects.proofs.fields.put_value_field.Goals as goal

pub returns : goal.returns
returns c =
    let a = c.args in
    let q = c.put_value in
    let p = c.put_byte-gap in
    then (0x20 ∷ []) (type_bytes a.table.now.text.now (content a.table.now) (of_kind a.kind) a.a a.b) a.put _ _ a.out.now _ _ p.ensures (rw (to_z-of_z w64 a.a c.ranges.a, to_z-of_z w64 a.b c.ranges.b) at q.ensures)
