-- `write_file::then_rows` meets its contract. Assumes nothing.
use mathlib.Core.Path.{refl}
use Rattle.model_records.specs.Records.{model_at, pairs_at}
use Rattle.write_lines.proofs.Left.{left_start, left_on, left_end}
use Rattle.table.specs.Contents.{content}
use Rattle.write_file.proofs.Walks.{rows_turn, rows_end}
use Rattle.write_file.proofs.walk.then_rows.Goals as goal

pub loop-row-init : goal.loop-row-init
loop-row-init c = let n = c.put_nothing-all in left_start _ _ c.args.put n.result c.args.out.now refl (n.ensures c.args.out.now)

pub loop-row-preserved : goal.loop-row-preserved
loop-row-preserved c =
    let a = c.args in
    let l = c.loop-row in
    let t = c.put_object-all in
    let turn = rows_turn a.style.mark a.style.width (model_at a.model.now) a.table.now.text.now (content a.table.now) (pairs_at a.model.now a.first) _ l.row-index c.loop-row-test.true in
    left_on l.invariant _ _ turn _ t.result (t.ensures a.table.now.marks.now)

pub returns : goal.returns
returns c =
    let a = c.args in
    let l = c.loop-row in
    let n = c.put_nothing-all in
    let none = rows_end a.style.mark a.style.width (model_at a.model.now) a.table.now.text.now (content a.table.now) (pairs_at a.model.now a.first) _ l.row-index c.loop-row-test.false in
    left_end l.invariant a.put none (n.ensures a.out.now)
