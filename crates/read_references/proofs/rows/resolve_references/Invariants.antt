-- `read_references::resolve_references` meets its contract. Assumes nothing.
use Rattle.model_records.specs.Records.{model_at}
use Rattle.read_references.proofs.Resolving.{RowsLeft}
use Rattle.read_references.proofs.rows.resolve_references.Given as goal

abbrev pub invariant-loop-object : goal.invariant-loop-object
invariant-loop-object l = RowsLeft (model_at l.model.bytes.now).tables l.named.seed l.named.text.now l.named.rows.now l.named.count l.named.index.now l.initial.cells l.object l.cells
