-- `write_file::then_table` meets its contract. Assumes nothing.
use Rattle.write_file.proofs.Frames.{framed}
use Rattle.write_file.proofs.Walks.{table_name, table_pairs}
use Rattle.write_file.proofs.walk.then_table.Goals as goal

pub returns : goal.returns
returns c =
    let a = c.args in
    let q = c.requires in
    let n = table_name _ _ _ q.placed c.args.number q.number_lt_tables _ c.table_at-at.ensures _ c.next_at-next.ensures in
    let ps = table_pairs _ _ _ q.placed c.args.number q.number_lt_tables _ c.table_at-at.ensures _ c.next_at-next.ensures in
    framed a.style.mark a.style.width _ _ _ (rw n at c.then_named-head.ensures) (rw ps at c.then_rows-body.ensures) c.then_alone.ensures
