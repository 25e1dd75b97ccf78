-- `value_read::dates::is_leap_year` meets its contract: the test's order. Assumes nothing.
use Prim.Native.Nat.{◌%◌}
use borrow.Author.Tests.{ne_eqb}
use Rattle.meaning.specs.Bytes.{choose}
use Rattle.meaning.specs.Value.{is_leap_year}
use Rattle.value_read.proofs.dates.is_leap_year.Goals as goal

pub returns-then-year-eq0 : goal.returns-then-year-eq0
unfolding is_leap_year choose
returns-then-year-eq0 c = rw c.if-year-eq0.true

pub returns-else-year-eq0 : goal.returns-else-year-eq0
unfolding is_leap_year choose
returns-else-year-eq0 c = rw (ne_eqb (c.args.year % 100) 0 c.if-year-eq0.false)
