-- `read_frame::has_mandatory` meets its contract. Assumes nothing.
use Rattle.meaning.specs.Reading.{mandatory_between}
use Rattle.model_records.specs.Records.{model_at}
use mathlib.Core.Path.{◌≡◌}
use Rattle.read_frame.proofs.tables.has_mandatory.Given as goal

-- whether a mandatory one is among the tables before t
abbrev pub invariant-loop-t : goal.invariant-loop-t
invariant-loop-t l = l.mandatory ≡ mandatory_between l.topic l.from l.t 0 (model_at l.model.bytes.now).tables
