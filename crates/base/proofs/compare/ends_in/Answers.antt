-- `base::compare::ends_in` meets its contract. Assumes nothing.
use mathlib.Core.Path.{◌∙◌}
use Rattle.base.proofs.Scan.{ends_pointwise}
use Rattle.base.proofs.compare.ends_in.Goals as goal

pub returns : goal.returns
returns c = c.ends_with.ensures.value ∙ ends_pointwise c.args.b c.args.l.now
