-- `value_read::stretches::read_reference` meets its contract. Assumes nothing.
use mathlib.Core.Path.{sym, ◌∙◌}
use Rattle.meaning.specs.Bytes.{refuse}
use Rattle.meaning.specs.Value.{reference_of}
use Rattle.value_read.proofs.stretches.read_reference.Goals as goal

pub returns-then-is_identification : goal.returns-then-is_identification
unfolding reference_of refuse
returns-then-is_identification c = rw (sym c.is_identification.ensures ∙ c.if-is_identification.true) c.stretch.ensures

pub returns-else-is_identification : goal.returns-else-is_identification
unfolding reference_of refuse
returns-else-is_identification c = rw (sym c.is_identification.ensures ∙ c.if-is_identification.false)
