-- `model_check::attributes::is_dimension` meets its contract. Assumes nothing.
use mathlib.Core.Path.{refl}
use Rattle.meaning.specs.Check.{is_dimension}
use Rattle.model_check.proofs.attributes.is_dimension.Goals as goal

pub returns : goal.returns
unfolding is_dimension
returns c = refl
