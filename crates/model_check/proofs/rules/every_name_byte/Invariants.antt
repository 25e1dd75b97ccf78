-- `model_check::rules::every_name_byte` meets its contract: what is found so far and what the rest says make the answer. Assumes nothing.
use mathlib.Core.Path.{◌≡◌}
use mathlib.Core.Bool.{◌&&◌}
use lib.ListN.{drop}
use Rattle.meaning.specs.Check.{name_byte}
use Rattle.meaning.specs.Bytes.{every}
use Rattle.model_check.proofs.rules.every_name_byte.Given as goal

abbrev pub invariant-loop-b : goal.invariant-loop-b
invariant-loop-b l = (l.all && every name_byte (drop l.b-index l.l)) ≡ every name_byte l.l
