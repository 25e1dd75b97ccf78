-- `write_file::behind_topic` meets its contract. Assumes nothing.
use Rattle.model_records.specs.Records.{model_at}
use Rattle.model_records.specs.Places.{Placed}
use Rattle.write_file.proofs.Topics.{TopicRun}
use Rattle.write_file.proofs.file.behind_topic.Given as goal

abbrev pub invariant-loop-i : goal.invariant-loop-i
invariant-loop-i l = Placed l.model → TopicRun (model_at l.model.bytes.now).tables l.topic l.table.cells.now l.table.rows.now l.row l.i
