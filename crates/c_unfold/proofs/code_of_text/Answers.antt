-- `c_unfold::code_of_text` meets its contract. Assumes nothing.
use Rattle.meaning.specs.Answer.{code_for_c}
use Rattle.c_unfold.proofs.code_of_text.Goals as goal

pub returns-in-Ok : goal.returns-in-Ok
unfolding code_for_c
returns-in-Ok c = rw c.in-Ok.is

pub returns-in-Err : goal.returns-in-Err
unfolding code_for_c
returns-in-Err c = rw c.in-Err.is cc
