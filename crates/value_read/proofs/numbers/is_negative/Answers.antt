-- `value_read::numbers::is_negative` meets its contract. Assumes nothing.
use mathlib.Core.Path.{◌∙◌}
use Rattle.value_read.proofs.Shapes.{first_begins}
use Rattle.value_read.proofs.numbers.is_negative.Goals as goal

pub returns : goal.returns
returns c = c.starts_with.ensures.value ∙ first_begins 0x2d c.args.field.now
