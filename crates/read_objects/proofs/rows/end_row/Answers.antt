-- `read_objects::end_row` meets its contract. Assumes nothing.
use Rattle.std.proofs.Common.{refl, sym, ◌∙◌}
use Rattle.base.proofs.Fill.{to_end}
use Rattle.read_objects.proofs.Ends.{field_left, nothing_left}
use Rattle.read_objects.proofs.rows.end_row.Goals as goal

pub returns-then-is_some : goal.returns-then-is_some
returns-then-is_some c =
    let a = c.args in
    field_left a.rest.now a.cursor _ (sym c.is_some.ensures ∙ c.if-is_some.true) (rw (to_end a.rest.now a.cursor.at) at c.next_field.ensures)

pub returns : goal.returns
returns c =
    let a = c.args in
    (refl, nothing_left a.rest.now a.cursor _ (sym c.is_some.ensures ∙ c.if-is_some.false) (rw (to_end a.rest.now a.cursor.at) at c.next_field.ensures))
