-- `read_frame::find_topic` meets its contract. Assumes nothing.
use Rattle.meaning.specs.Reading.{find_topic}
use Rattle.model_records.specs.Records.{model_at}
use lib.ListN.{drop}
use mathlib.Core.Path.{◌≡◌}
use Rattle.read_frame.proofs.topics.find_topic.Given as goal

-- no topic before p is found
abbrev pub invariant-loop-p : goal.invariant-loop-p
invariant-loop-p l = find_topic l.from 0 l.name (model_at l.model.bytes.now).topics ≡ find_topic l.from l.p l.name (drop l.p (model_at l.model.bytes.now).topics)
