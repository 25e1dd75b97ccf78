-- `value_read::dates::is_day` meets its contract: the test's order at each month. Assumes nothing.
use native.Mathlib.Omega.{arith}
use borrow.Author.Tests.{le-leb, lt-leb}
use Rattle.meaning.specs.Value.{is_day}
use Rattle.value_read.proofs.dates.is_day.Goals as goal

pub returns-then-day-ge1 : goal.returns-then-day-ge1
unfolding is_day
returns-then-day-ge1 c =
    let month = c.args.month in
    rw (le-leb 1 month (omega arith), le-leb month 12 (omega arith), le-leb 1 c.args.day (omega arith), c.days_of_month.ensures)

pub returns-else-day-ge1 : goal.returns-else-day-ge1
unfolding is_day
returns-else-day-ge1 c =
    let month = c.args.month in
    rw (le-leb 1 month (omega arith), le-leb month 12 (omega arith), lt-leb 1 c.args.day (omega arith))

pub returns-in_default : goal.returns-in_default
unfolding is_day
returns-in_default c = rw (lt-leb 1 c.args.month (omega arith))

pub returns-in_default-2 : goal.returns-in_default-2
unfolding is_day
returns-in_default-2 c =
    let month = c.args.month in
    rw (le-leb 1 month (omega arith), lt-leb month 12 (omega arith))
