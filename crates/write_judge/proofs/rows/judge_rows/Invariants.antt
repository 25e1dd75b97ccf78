-- `write_judge::rows::judge_rows` meets its contract. Assumes nothing.
use Rattle.model_records.specs.Records.{model_at}
use Rattle.write_judge.proofs.Turns.{RowsLeft}
use Rattle.write_judge.proofs.rows.judge_rows.Given as goal

abbrev pub invariant-loop-object : goal.invariant-loop-object
invariant-loop-object l = RowsLeft (model_at l.model.bytes.now) l.seed l.table l.initial.index l.index l.place l.object
