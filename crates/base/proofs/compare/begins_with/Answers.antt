-- `base::compare::begins_with` meets its contract. Assumes nothing.
use mathlib.Core.Path.{◌∙◌}
use Rattle.base.proofs.Scan.{prefix_pointwise}
use Rattle.base.proofs.compare.begins_with.Goals as goal

pub returns : goal.returns
returns c = c.starts_with.ensures.value ∙ prefix_pointwise c.args.word.now c.args.l.now
