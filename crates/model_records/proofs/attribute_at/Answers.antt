-- `model_records::attribute_at` meets its contract. Assumes nothing.
use Rattle.model_records.proofs.Types.{payload_at_lem, payload_least, sized, decoded}
use Rattle.model_records.proofs.attribute_at.Goals as goal

pub attribute_of-requires : goal.attribute_of-requires
attribute_of-requires c =
    let b = c.args.model.now in
    let at = c.args.at in
    rw (payload_at_lem b at c.requires _ c.next_at-next.ensures) (record {
      in_bounds = payload_least b at c.requires;
      parameters_fit = sized b at c.requires;
    })

pub returns : goal.returns
returns c =
    let b = c.args.model.now in
    let at = c.args.at in
    decoded b at _ c.requires (rw (payload_at_lem b at c.requires _ c.next_at-next.ensures) at c.attribute_of.ensures)
