-- `write_judge::points::judge_points` meets its contract. Assumes nothing.
use Rattle.model_records.specs.Components.{components_of}
use Rattle.read_state.specs.Meaning.{line_state_of}
use Rattle.write_judge.proofs.Drawn.{PointsLeft}
use Rattle.write_judge.proofs.points.judge_points.Given as goal

abbrev pub invariant-loop-i : goal.invariant-loop-i
invariant-loop-i l = PointsLeft l.forms (components_of l.components) l.points l.n l.i (line_state_of l.state)
