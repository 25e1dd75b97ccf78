-- `value_read::stretches::is_undefined` meets its contract. Assumes nothing.
use mathlib.Core.Path.{◌∙◌}
use Rattle.base.proofs.Scan.{same_pointwise}
use Rattle.meaning.specs.Value.{is_undefined}
use Rattle.value_read.proofs.stretches.is_undefined.Goals as goal

pub returns : goal.returns
unfolding is_undefined
returns c = λ start. c.eq.ensures ∙ rw c.as_slice.ensures (same_pointwise c.args.field.now _)
