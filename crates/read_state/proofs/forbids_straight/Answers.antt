-- `read_state::forbids_straight` meets its contract. Assumes nothing.
use Rattle.meaning.specs.Reading.{is_forbidden, is_in_arc}
use Rattle.read_state.proofs.forbids_straight.Goals as goal

pub returns-in-Unstarted : goal.returns-in-Unstarted
unfolding is_forbidden is_in_arc
returns-in-Unstarted c = rw c.in-Unstarted.is

pub returns-in-Started : goal.returns-in-Started
unfolding is_forbidden is_in_arc
returns-in-Started c = rw c.in-Started.is

pub returns-in-InArc : goal.returns-in-InArc
unfolding is_forbidden is_in_arc
returns-in-InArc c = rw c.in-InArc.is

pub returns-in-Reached : goal.returns-in-Reached
unfolding is_forbidden is_in_arc
returns-in-Reached c = rw c.in-Reached.is
