-- `read_step::plain_step` meets its contract. Assumes nothing.
use mathlib.Core.Path.{refl}
use Rattle.read_state.specs.Meaning.{content_of}
use Rattle.read_step.proofs.Stepping.{moved_to, next_holds}
use Rattle.read_step.proofs.line.plain_step.Goals as goal

pub returns : goal.returns
returns c =
    let a = c.args in
    let due = c.in_ok-moved.field-0 in
    record {
      step = (λ b k marks rows cells points. moved_to b a.moved due (content_of k a.state marks rows cells points) c.in_ok-moved.was);
      holds = (λ b text seed marks rows cells points index m h. next_holds b text seed a.state a.moved due marks marks rows cells points index c.in_ok-moved.was refl m h);
    }
