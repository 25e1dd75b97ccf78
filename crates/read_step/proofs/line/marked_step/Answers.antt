-- `read_step::marked_step` meets its contract. Assumes nothing.
use Rattle.read_step.proofs.Stepping.{marked_to, marks_kept, next_holds}
use Rattle.read_step.proofs.line.marked_step.Goals as goal

pub returns : goal.returns
returns c =
    let a = c.args in
    let due = c.in_ok-due.due in
    let m = c.mark_due in
    record {
      step = (λ b rows cells points. marked_to a.topics due a.marks.now m.new.marks m.ensures b a.moved c.in_ok-due.was a.state rows cells points);
      holds = (λ b text seed rows cells points index d h. next_holds b text seed a.state a.moved due a.marks.now m.new.marks rows cells points index c.in_ok-due.was (marks_kept a.topics due a.marks.now m.new.marks m.ensures) d h);
    }
