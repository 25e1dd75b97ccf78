-- `read_state::forbids` meets its contract. Assumes nothing.
use mathlib.Core.Path.{◌∙◌}
use Rattle.meaning.specs.Reading.{is_forbidden}
use Rattle.read_state.proofs.LineState.forbids.Goals as goal

pub returns-in-Stpt : goal.returns-in-Stpt
unfolding is_forbidden
returns-in-Stpt c = rw c.in-Stpt.is

pub returns-in-Lipt : goal.returns-in-Lipt
unfolding is_forbidden
returns-in-Lipt c = c.forbids_straight.ensures ∙ rw c.in-Lipt.is

pub returns-in-Arcp : goal.returns-in-Arcp
unfolding is_forbidden
returns-in-Arcp c = rw c.in-Arcp.is

pub returns-in-Elin : goal.returns-in-Elin
unfolding is_forbidden
returns-in-Elin c = rw c.in-Elin.is

pub returns-in-Other : goal.returns-in-Other
unfolding is_forbidden
returns-in-Other c = rw c.in-Other.is
