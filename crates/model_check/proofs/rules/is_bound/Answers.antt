-- `model_check::rules::is_bound` meets its contract. Assumes nothing.
use mir.ValLaws.{to_z-of_z}
use mir.Syntax.{w64}
use Rattle.meaning.specs.Check.{is_bound}
use Rattle.model_check.proofs.rules.is_bound.Goals as goal

pub returns : goal.returns
unfolding is_bound
returns c = rw (to_z-of_z w64 c.args.v c.ranges.v)
