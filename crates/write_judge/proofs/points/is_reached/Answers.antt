-- `write_judge::points::is_reached` meets its contract. Assumes nothing.
use mathlib.Core.Path.{◌≡◌, refl, ◌∙◌}
use denote.Enum.Bare.{sameb}
use Rattle.read_state.specs.contracts.LineState.{the_type}
use Rattle.read_state.specs.declared.LineState.{LineState}
use Rattle.read_state.specs.declared.LineState.TheVariants.{Unstarted, Started, InArc, Reached}
use Rattle.read_state.specs.Meaning.{line_state_of}
use Rattle.meaning.specs.Judge.{is_reached}
use Rattle.write_judge.proofs.points.is_reached.Goals as goal

same_reached : (s : LineState) → sameb the_type s Reached ≡ is_reached (line_state_of s)
unfolding is_reached
same_reached Unstarted = refl
same_reached Started = refl
same_reached InArc = refl
same_reached Reached = refl

pub returns : goal.returns
returns c = c.eq.ensures ∙ same_reached c.args.state
