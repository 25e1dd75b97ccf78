-- `base::compare::same_bytes` meets its contract. Assumes nothing.
use mathlib.Core.Path.{◌∙◌}
use Rattle.base.proofs.Scan.{same_pointwise}
use Rattle.base.proofs.compare.same_bytes.Goals as goal

pub returns : goal.returns
returns c = c.eq.ensures ∙ same_pointwise c.args.a.now c.args.b.now
