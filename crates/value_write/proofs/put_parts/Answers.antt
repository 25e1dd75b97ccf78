-- `value_write::put_parts` meets its contract. Assumes nothing.
use mathlib.Core.Path.{◌∙◌}
use Rattle.value_write.proofs.Stores.{pointed_none}
use Rattle.value_write.proofs.put_parts.Goals as goal

pub returns-then-decimals-eq0 : goal.returns-then-decimals-eq0
returns-then-decimals-eq0 c = c.put_last.ensures.digits ∙ pointed_none _ _ _ c.if-decimals-eq0.true
