-- `c_read::numbers::store` meets its contract. Assumes nothing.
use mathlib.Core.Path.{◌≡◌}
use Rattle.base.specs.Reasons.{number_of}
use Rattle.meaning.specs.Answer.{numbers_of, numbers_in}
use Rattle.c_read.proofs.numbers.store.Goals as goal

pub returns-in-Ok : goal.returns-in-Ok
unfolding numbers_in numbers_of
returns-in-Ok c = rw c.in-Ok.is c.put_four.ensures

pub returns-in-Err : goal.returns-in-Err
unfolding numbers_in numbers_of
returns-in-Err c =
    let number : c.from.result ≡ number_of c.in-Err.refused.reason = cc in
    rw c.in-Err.is (rw number at c.put_four-in-Err.ensures)
