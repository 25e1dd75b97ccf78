-- `read_frame::find_table` meets its contract. Assumes nothing.
use Rattle.meaning.specs.Reading.{find_table, mandatory_between}
use Rattle.model_records.specs.Records.{model_at}
use lib.ListN.{drop}
use mathlib.Core.Path.{◌≡◌}
use Rattle.read_frame.proofs.tables.find_table.Given as goal

-- no table before t is found, and whether a mandatory one is among them
abbrev pub invariant-loop-t : goal.invariant-loop-t
invariant-loop-t l =
    let ts = (model_at l.model.bytes.now).tables in
    (l.mandatory ≡ mandatory_between l.topic l.from l.t 0 ts) × (find_table l.topic l.from 0 l.name ts ≡ find_table l.topic l.from l.t l.name (drop l.t ts))
