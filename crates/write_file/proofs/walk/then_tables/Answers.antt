-- `write_file::then_tables` meets its contract. Assumes nothing.
use mathlib.Core.Path.{refl}
use Rattle.model_records.specs.Records.{model_at}
use Rattle.write_lines.proofs.Left.{left_start, left_on, left_end}
use Rattle.table.specs.Contents.{content}
use Rattle.write_file.proofs.Walks.{tables_on, tables_end}
use native.Mathlib.Omega.{arith}
use Rattle.write_file.proofs.walk.then_tables.Goals as goal

pub loop-number-init : goal.loop-number-init
loop-number-init c =
    let n = c.put_nothing-all in
    (c.requires.row_in_bounds, left_start _ _ c.args.put n.result c.args.out.now refl (n.ensures c.args.out.now))

pub loop-number-preserved : goal.loop-number-preserved
loop-number-preserved c =
    let a = c.args in
    let l = c.loop-number in
    let w = c.pass_table-walked in
    let turn = tables_on (model_at a.model.now.bytes.now) a.table.now.text.now (content a.table.now) a.style a.topic l.number l.next _ _ _ w.result w.ensures in
    (w.ensures.within, left_on l.invariant.1 _ _ turn _ w.result.put w.ensures.put)

pub returns : goal.returns
returns c =
    let a = c.args in
    let l = c.loop-number in
    let n = c.put_nothing-all in
    left_end l.invariant.1 a.put (tables_end (model_at a.model.now.bytes.now) a.table.now.text.now (content a.table.now) a.style a.topic l.number _ (omega (arith, c.loop-number-test.false, c.requires.placed.tables))) (n.ensures a.out.now)
