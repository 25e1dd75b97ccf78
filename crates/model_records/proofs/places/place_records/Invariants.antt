-- `model_records::place_records` meets its contract. Assumes nothing.
use Prim.Native.Nat.{◌-◌}
use lib.ListN.{length}
use Rattle.model_records.specs.Records.{model_at}
use Rattle.model_records.specs.AtRecord.{AtRecord}
use Rattle.model_records.specs.Places.{RecordsNoted}
use Rattle.model_records.proofs.places.place_records.Given as goal

abbrev pub invariant-records : goal.invariant-records
invariant-records l = AtRecord (model_at l.model) l.model l.here.at l.here.topics l.here.tables × RecordsNoted (model_at l.model) l.model l.places l.here.topics l.here.tables

abbrev pub decreases-records : goal.decreases-records
decreases-records l = length l.model - l.here.at
