-- `write_file::then_topics` meets its contract. Assumes nothing.
use mathlib.Core.Path.{refl}
use Rattle.model_records.specs.Records.{model_at}
use Rattle.write_lines.proofs.Left.{left_start, left_on, left_end}
use Rattle.table.specs.Contents.{content}
use Rattle.write_file.proofs.Topics.{topics_on, topics_end}
use native.Mathlib.Omega.{arith}
use Rattle.write_file.proofs.file.then_topics.Goals as goal

pub loop-p-init : goal.loop-p-init
loop-p-init c =
    let n = c.put_nothing-all in
    (omega arith, left_start _ _ c.args.put n.result c.args.out.now refl (n.ensures c.args.out.now))

pub loop-p-preserved : goal.loop-p-preserved
loop-p-preserved c =
    let a = c.args in
    let l = c.loop-p in
    let w = c.pass_topic-walked in
    let turn = topics_on (model_at a.model.now.bytes.now) a.table.now.text.now (content a.table.now) a.style l.p l.row _ _ _ w.result w.ensures in
    (w.ensures.within, left_on l.invariant.1 _ _ turn _ w.result.put w.ensures.put)

pub returns : goal.returns
returns c =
    let a = c.args in
    let l = c.loop-p in
    let n = c.put_nothing-all in
    left_end l.invariant.1 a.put (topics_end (model_at a.model.now.bytes.now) a.table.now.text.now (content a.table.now) a.style l.p _ (omega (arith, c.loop-p-test.false, c.requires.placed.topics))) (n.ensures a.out.now)
