-- `write_judge::points::judge_points` meets its contract. Assumes nothing.
use native.Mathlib.Omega.{arith}
use mathlib.Core.Path.{◌∙◌}
use Rattle.write_judge.proofs.Drawn.{points_end, points_stop, points_on}
use Rattle.write_judge.proofs.points.judge_points.Goals as goal

pub returns-in_default : goal.returns-in_default
returns-in_default c =
    points_stop _ _ _ _ _ _ c.loop-i.invariant (omega arith) (rw c.in_default.is at c.judge_point.ensures)

pub loop-i-preserved : goal.loop-i-preserved
loop-i-preserved c =
    points_on _ _ _ _ _ _ c.loop-i.invariant (omega arith) _ (rw c.in-Some.is at c.judge_point.ensures)

pub returns : goal.returns
returns c = c.is_reached.ensures ∙ points_end _ _ _ _ _ _ c.loop-i.invariant (omega arith)
