-- `model_records::numbers::read_components` meets its contract. Assumes nothing.
use mathlib.Core.Path.{◌≡◌}
use Rattle.model_records.proofs.ComponentLaws.{items_of}
use Rattle.model_records.proofs.numbers.read_components.Given as goal

abbrev pub invariant-loop-i : goal.invariant-loop-i
invariant-loop-i l = l.items ≡ items_of l.parameters l.i
