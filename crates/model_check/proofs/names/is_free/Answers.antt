-- `model_check::names::is_free` meets its contract. Assumes nothing.
use mathlib.Core.Bool.{and-true, and_assoc}
use Rattle.meaning.specs.Bytes.{all_of}
use Rattle.model_check.proofs.names.is_free.Goals as goal

pub returns : goal.returns
unfolding all_of
returns c =
    rw (and-true, c.is_name.ensures, c.is_among.ensures, and_assoc)
