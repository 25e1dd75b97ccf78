-- `read_step::mark_due` meets its contract. Assumes nothing.
use Rattle.read_state.specs.Meaning.{marked_by}
use Rattle.read_step.proofs.marks.mark_due.Goals as goal

pub returns-in-Frame : goal.returns-in-Frame
unfolding marked_by
returns-in-Frame c = rw c.in-Frame.is c.mark_topic.ensures

pub returns-in-Object : goal.returns-in-Object
unfolding marked_by
returns-in-Object c = rw c.in-Object.is c.put_mark.ensures

pub returns-in-Line : goal.returns-in-Line
unfolding marked_by
returns-in-Line c = rw c.in-Line.is
