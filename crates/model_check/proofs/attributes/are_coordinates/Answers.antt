-- `model_check::attributes::are_coordinates` meets its contract. Assumes nothing.
use mathlib.Core.Bool.{and-true}
use Rattle.meaning.specs.Bytes.{all_of}
use Rattle.model_check.proofs.Types.{held_length}
use Rattle.model_check.proofs.attributes.are_coordinates.Goals as goal

pub returns : goal.returns
unfolding all_of
returns c =
    rw (and-true, held_length c.args.components c.args.components.counted cc, c.are_components.ensures, c.is_dimension.ensures)
