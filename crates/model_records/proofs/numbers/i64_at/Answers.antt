-- `model_records::i64_at` meets its contract. Assumes nothing.
use Rattle.meaning.specs.Bytes.{twos}
use mir.ValLaws.{to_z-of_z}
use mir.Syntax.{w64}
use mathlib.Core.Path.{◌∙◌, ap}
use Rattle.model_records.proofs.Twos.{cast_twos}
use Rattle.model_records.proofs.numbers.i64_at.Goals as goal

pub returns : goal.returns
returns c =
    to_z-of_z w64 _ (record { sfits = c.cast_signed.type_inv }) ∙ c.cast_signed.ensures ∙ cast_twos c.u64_at.result ∙ ap twos c.u64_at.ensures
