-- `model_records::attribute_of` meets its contract. Assumes nothing.
use mathlib.Core.Path.{refl}
use Rattle.base.proofs.Fill.{to_end}
use Rattle.meaning.specs.Model.{flag_of}
use Rattle.model_records.proofs.attribute_of.Goals as goal

pub read_kind-requires : goal.read_kind-requires
read_kind-requires c = rw (to_end c.args.payload.now 2) c.requires.parameters_fit

pub returns : goal.returns
unfolding flag_of
returns c =
    record { type = rw (to_end c.args.payload.now 2) at c.read_kind.ensures.meant; optional = refl; counted = c.read_kind.ensures.counted }
