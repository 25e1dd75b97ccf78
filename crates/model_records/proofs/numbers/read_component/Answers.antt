-- `model_records::read_component` meets its contract. Assumes nothing.
use Rattle.model_records.proofs.ComponentLaws.{component_read}
use Rattle.model_records.proofs.numbers.read_component.Goals as goal

pub returns : goal.returns
returns c =
    component_read c.args.parameters.now c.i64_at.result c.i64_at-2.result (record { sfits = c.i64_at.type_inv }) (record { sfits = c.i64_at-2.type_inv }) c.i64_at.ensures c.i64_at-2.ensures
