-- `read_objects::undefine_rest` meets its contract. Assumes nothing.
use Rattle.std.proofs.Common.{◌*◌, length, sym, ◌∙◌, arith}
use Rattle.base.proofs.Fill.{to_end}
use Rattle.model_records.specs.Records.{pairs_at}
use Rattle.read_objects.proofs.Ends.{covers_mandatory, covers_field, zeros_end}
use Rattle.read_objects.proofs.rows.undefine_rest.Goals as goal

pub returns-then-has_mandatory : goal.returns-then-has_mandatory
returns-then-has_mandatory c =
    let a = c.args in
    covers_mandatory a.rest.now a.cursor a.left (pairs_at a.model.now a.at) (sym c.has_mandatory.ensures ∙ c.if-has_mandatory.true)

pub returns-then-is_some : goal.returns-then-is_some
returns-then-is_some c =
    let a = c.args in
    covers_field a.rest.now a.cursor a.left (pairs_at a.model.now a.at) (sym c.has_mandatory.ensures ∙ c.if-has_mandatory.false)
    _ (sym c.is_some.ensures ∙ c.if-is_some.true) (rw (to_end a.rest.now a.cursor.at) at c.next_field.ensures)

pub returns : goal.returns
returns c =
    let a = c.args in
    zeros_end a.rest.now a.cursor a.left (pairs_at a.model.now a.at) (2 * length a.model.now) c.count_pairs.result a.cells.now c.put_zeros.new.cells (sym c.has_mandatory.ensures ∙ c.if-has_mandatory.false)
    _ (sym c.is_some.ensures ∙ c.if-is_some.false) (rw (to_end a.rest.now a.cursor.at) at c.next_field.ensures)
    c.count_pairs.ensures.count (omega (arith, c.count_pairs.ensures.few, c.requires.at_in_bounds)) c.put_zeros.ensures
