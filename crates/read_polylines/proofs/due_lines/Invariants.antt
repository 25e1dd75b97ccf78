-- `read_polylines::due_lines` meets its contract. The loop's invariant: the attribute records from here on have the same line attributes. Assumes nothing.
use mathlib.Core.Path.{◌≡◌}
use Rattle.model_records.specs.Records.{model_at}
use Rattle.read_polylines.proofs.Next.{Reached}
use Rattle.read_polylines.proofs.due_lines.Given as goal

abbrev pub invariant-loop-byte : goal.invariant-loop-byte
invariant-loop-byte l =
    let it = l.byte-iterator in
    (it.model.now ≡ l.model) × Reached (model_at l.model) l.model l.at l.cell it.at l.pair
