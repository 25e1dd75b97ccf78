-- `value_read::stretches::is_identification` meets its contract. Assumes nothing.
use Rattle.meaning.specs.Value.{is_identification}
use Rattle.value_read.proofs.stretches.is_identification.Goals as goal

pub returns : goal.returns
unfolding is_identification
returns c = c.every_text_byte.ensures
