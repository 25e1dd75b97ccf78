-- `write_file::pass_table` meets its contract. Assumes nothing.
use Rattle.table.specs.Contents.{content}
use Rattle.write_file.proofs.Walks.{table_over, table_due}
use Rattle.write_file.proofs.walk.pass_table.Goals as goal

pub returns-then-not-is_due : goal.returns-then-not-is_due
returns-then-not-is_due c =
    let q = c.requires in
    let a = c.args in
    let d = c.is_due in
    let n = c.put_nothing in
    table_over a.model.now.bytes.now a.model.now.shape a.model.now.places a.table.now.text.now (content a.table.now) a.style a.topic a.number a.row a.put a.out.now q.placed q.number_lt_tables d.result d.ensures
    (c.if-not-is_due.true) q.row_in_bounds n.result (n.ensures a.out.now)

pub returns : goal.returns
returns c =
    let q = c.requires in
    let a = c.args in
    let d = c.is_due in
    table_due a.model.now.bytes.now a.model.now.shape a.model.now.places a.table.now.text.now (content a.table.now) a.style a.topic a.number a.row a.put a.out.now q.placed q.number_lt_tables d.result d.ensures
    (c.if-not-is_due.false) _ c.behind_table-end.ensures c.then_table-all.ensures
