-- `read_objects::row_fields` meets its contract. Assumes nothing.
use Prim.Native.Nat.{◌*◌, ◌-◌, ◌≤◌}
use mathlib.Core.Bool.{true}
use lib.ListN.{length}
use Rattle.meaning.specs.Field.{fields_of}
use Rattle.meaning.specs.Row.{pair_cells}
use Rattle.model_records.specs.Records.{model_at, pairs_at}
use Rattle.read_fields.specs.RowProgress.{RowFilled}
use Rattle.model_records.specs.AtRecord.{AttributesHere}
use Rattle.read_objects.proofs.Ends.{from_record}
use Rattle.read_objects.proofs.rows.row_fields.Given as goal

abbrev pub invariant-loop-next : goal.invariant-loop-next
invariant-loop-next l = AttributesHere (model_at l.model) l.model l.here × (l.at ≤ l.here) × RowFilled l.rest (2 * (l.here - l.at)) (λ ps. pair_cells l.undefined true 3 (pairs_at l.model l.at) (fields_of l.start l.rest)) (from_record l.undefined l.start l.rest l.model l.here l.s) l.initial.s l.s l.initial.cells l.cells

abbrev pub decreases-loop-next : goal.decreases-loop-next
decreases-loop-next l = length l.model - l.here
