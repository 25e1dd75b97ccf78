-- `model_check::rules::are_different` meets its contract. Assumes nothing.
use mathlib.Core.Bool.{and-true, and_assoc}
use Rattle.meaning.specs.Bytes.{all_of}
use Rattle.model_check.proofs.rules.are_different.Goals as goal

pub returns : goal.returns
unfolding all_of
returns c = rw (and-true, and_assoc)
