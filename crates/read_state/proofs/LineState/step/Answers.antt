-- `read_state::step` meets its contract. Assumes nothing.
use mathlib.Core.Path.{◌∙◌}
use Rattle.read_state.proofs.LineState.step.Goals as goal

pub returns-in-Unstarted : goal.returns-in-Unstarted
returns-in-Unstarted c = c.step_unstarted.ensures ∙ rw c.in-Unstarted.is

pub returns-in-Started : goal.returns-in-Started
returns-in-Started c = c.step_started.ensures ∙ rw c.in-Started.is

pub returns-in-InArc : goal.returns-in-InArc
returns-in-InArc c = c.step_in_arc.ensures ∙ rw c.in-InArc.is

pub returns-in-Reached : goal.returns-in-Reached
returns-in-Reached c = c.step_reached.ensures ∙ rw c.in-Reached.is
