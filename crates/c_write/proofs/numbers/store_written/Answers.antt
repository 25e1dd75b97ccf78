-- `c_write::numbers::store_written` meets its contract. Assumes nothing.
use Rattle.meaning.specs.Answer.{numbers_of, numbers_in}
use Rattle.write.specs.Answers.{answer_of}
use Rattle.c_write.proofs.numbers.store_written.Goals as goal

pub returns-in-Ok : goal.returns-in-Ok
unfolding numbers_in numbers_of answer_of
returns-in-Ok c = rw c.in-Ok.is c.put_four.ensures

pub returns-in-Err : goal.returns-in-Err
unfolding numbers_in numbers_of answer_of
returns-in-Err c = rw (c.in-Err.is, ← c.number.ensures) c.put_four-in-Err.ensures
