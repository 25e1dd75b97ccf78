-- `model_check::check::keeps_rules` meets its contract. Assumes nothing.
use native.Mathlib.Omega.{arith}
use borrow.Author.Tests.{ne_eqb}
use Rattle.meaning.specs.Check.{keeps, keeps_topic, keeps_table, keeps_attribute}
use Rattle.meaning.specs.Bytes.{choose}
use Rattle.model_check.proofs.check.keeps_rules.Goals as goal

pub returns-in-1 : goal.returns-in-1
unfolding keeps choose
returns-in-1 c = rw c.in-1.is c.keeps_transfer.ensures

pub returns-in-2 : goal.returns-in-2
unfolding keeps choose
returns-in-2 c = rw c.in-2.is c.is_name.ensures

pub returns-in-3 : goal.returns-in-3
unfolding keeps choose keeps_topic
returns-in-3 c = rw c.in-3.is c.keeps_topic.ensures

pub returns-in-4 : goal.returns-in-4
unfolding keeps choose keeps_table
returns-in-4 c = rw c.in-4.is c.keeps_table.ensures

pub returns-in-5 : goal.returns-in-5
unfolding keeps choose keeps_attribute
returns-in-5 c = rw c.in-5.is c.keeps_attribute.ensures

pub returns-in_default : goal.returns-in_default
unfolding keeps choose
returns-in_default c =
    let k = c.args.kind in
    rw (ne_eqb k 1 (omega arith), ne_eqb k 2 (omega arith), ne_eqb k 3 (omega arith), ne_eqb k 4 (omega arith), ne_eqb k 5 (omega arith)) c.is_empty.ensures
