-- `read_references::resolve_row` meets its contract. Assumes nothing.
use mathlib.Core.Path.{◌≡◌}
use Rattle.model_records.specs.Records.{model_at}
use Rattle.read_references.proofs.Resolving.{AttributesLeft}
use Rattle.read_references.proofs.rows.resolve_row.Given as goal

abbrev pub invariant-loop-at : goal.invariant-loop-at
invariant-loop-at l =
    let it = l.at-iterator in
    (it.model.now ≡ l.model) × AttributesLeft (model_at l.model) l.model l.named.seed l.named.text.now l.named.rows.now l.named.count l.named.index.now l.object l.first l.initial.cells it.at l.field l.cell l.cells
