-- `write_judge::rows::judge_rows` meets its contract. Assumes nothing.
use Rattle.model_records.specs.Records.{model_at}
use Rattle.write_judge.proofs.Turns.{left_start, left_end}
use Rattle.write_judge.proofs.rows.judge_rows.Goals as goal

pub loop-object-init : goal.loop-object-init
loop-object-init c =
    let a = c.args in left_start (model_at a.model.now.bytes.now) a.seed a.table.now a.index.now c.requires.index_value

pub returns : goal.returns
returns c =
    let a = c.args in
    left_end (model_at a.model.now.bytes.now) a.seed a.table.now a.index.now _ _ _ c.loop-object.invariant c.loop-object-test.false
