-- `read_objects::fill_row` meets its contract. Assumes nothing.
use Rattle.read_objects.proofs.RowLaws.{fills_lent}
use Rattle.read_objects.proofs.storing.fill_row.Goals as goal

pub returns : goal.returns
returns c =
    let a = c.args in fills_lent _ _ a.used c.min-from.result a.cells.now c.row_fields.new.cells c.row_fields.result c.min-from.ensures c.row_fields.ensures
