-- `c_read::numbers::code_of_read` meets its contract. Assumes nothing.
use Rattle.meaning.specs.Answer.{code_for_c}
use Rattle.c_read.proofs.numbers.code_of_read.Goals as goal

pub returns-in-Ok : goal.returns-in-Ok
unfolding code_for_c
returns-in-Ok c = rw c.in-Ok.is

pub returns-in-Err : goal.returns-in-Err
unfolding code_for_c
returns-in-Err c = rw c.in-Err.is cc
