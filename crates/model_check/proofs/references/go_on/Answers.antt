-- `model_check::references::go_on` meets its contract. Assumes nothing.
use native.Mathlib.Omega.{arith}
use borrow.Author.Tests.{ne_eqb}
use Rattle.meaning.specs.Bytes.{choose}
use Rattle.model_check.specs.References.{judged_on}
use Rattle.model_check.proofs.references.go_on.Goals as goal

pub returns-in-3 : goal.returns-in-3
unfolding judged_on choose
returns-in-3 c = rw (← c.kind_at.ensures, c.in-3.is, c.next_at-at.ensures)

pub returns-in-4 : goal.returns-in-4
unfolding judged_on choose
returns-in-4 c = rw (← c.kind_at.ensures, c.in-4.is, c.next_at-at.ensures)

pub returns-in-5 : goal.returns-in-5
unfolding judged_on choose
returns-in-5 c = rw (← c.kind_at.ensures, c.in-5.is, c.next_at-at.ensures)

pub returns-in_default : goal.returns-in_default
unfolding judged_on choose
returns-in_default c =
    let k = c.kind_at.result in
    rw (← c.kind_at.ensures, ne_eqb k 3 (omega arith), ne_eqb k 4 (omega arith), ne_eqb k 5 (omega arith), c.next_at-at.ensures)
