-- `model_check::check::check` meets its contract. Assumes nothing.
use mathlib.Core.Path.{◌∙◌}
use Rattle.model_check.specs.Walk.{checked_meant}
use Rattle.model_check.proofs.Ending.{too_long, not_long}
use Rattle.model_check.proofs.check.check.Goals as goal

pub returns-then-model-gt65536 : goal.returns-then-model-gt65536
unfolding checked_meant
returns-then-model-gt65536 c = too_long c.args.model.now c.if-model-gt65536.true

pub returns : goal.returns
returns c = c.check_records.ensures ∙ not_long c.args.model.now c.if-model-gt65536.false
