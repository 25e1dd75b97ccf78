-- `base::kinds::every_permitted` meets its contract: what is found so far and what the rest says make the answer. Assumes nothing.
use mathlib.Core.Path.{◌≡◌}
use mathlib.Core.Bool.{◌&&◌}
use lib.ListN.{drop}
use Rattle.meaning.specs.Bytes.{permitted, every}
use Rattle.base.proofs.kinds.every_permitted.Given as goal

abbrev pub invariant-loop-b : goal.invariant-loop-b
invariant-loop-b l = (l.all && every permitted (drop l.b-index l.l)) ≡ every permitted l.l
