-- `model_check::records::name_start` meets its contract. Assumes nothing.
use native.Mathlib.Omega.{arith}
use borrow.Author.Tests.{ne_eqb}
use Rattle.meaning.specs.Bytes.{choose}
use Rattle.model_check.specs.Records.{name_start}
use Rattle.model_check.proofs.records.name_start.Goals as goal

pub returns-in-3 : goal.returns-in-3
unfolding name_start choose
returns-in-3 c = rw c.in-3.is

pub returns-in-4 : goal.returns-in-4
unfolding name_start choose
returns-in-4 c = rw c.in-4.is

pub returns-in_default : goal.returns-in_default
unfolding name_start choose
returns-in_default c =
    let k = c.args.kind in
    rw (ne_eqb k 3 (omega arith), ne_eqb k 4 (omega arith)) c.parameters_end.ensures
