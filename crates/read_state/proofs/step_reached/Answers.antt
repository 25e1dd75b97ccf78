-- `read_state::step_reached` meets its contract. Assumes nothing.
use Rattle.meaning.specs.Reading.{move}
use Rattle.read_state.proofs.step_reached.Goals as goal

pub returns-in-Stpt : goal.returns-in-Stpt
unfolding move
returns-in-Stpt c = rw c.in-Stpt.is

pub returns-in-Lipt : goal.returns-in-Lipt
unfolding move
returns-in-Lipt c = rw c.in-Lipt.is

pub returns-in-Arcp : goal.returns-in-Arcp
unfolding move
returns-in-Arcp c = rw c.in-Arcp.is

pub returns-in-Elin : goal.returns-in-Elin
unfolding move
returns-in-Elin c = rw c.in-Elin.is

pub returns-in-Other : goal.returns-in-Other
unfolding move
returns-in-Other c = rw c.in-Other.is
