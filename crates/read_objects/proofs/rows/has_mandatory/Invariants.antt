-- `read_objects::has_mandatory` meets its contract. Assumes nothing.
use mathlib.Core.Path.{◌≡◌}
use Rattle.meaning.specs.Row.{has_mandatory}
use Rattle.model_records.specs.Records.{pairs_at}
use Rattle.read_objects.proofs.rows.has_mandatory.Given as goal

abbrev pub invariant-loop-here : goal.invariant-loop-here
invariant-loop-here l = let it = l.here-iterator in (it.model.now ≡ l.model) × (has_mandatory (pairs_at l.model it.at) ≡ has_mandatory (pairs_at l.model l.at))
