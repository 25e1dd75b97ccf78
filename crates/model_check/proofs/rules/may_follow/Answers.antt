-- `model_check::rules::may_follow` meets its contract. Assumes nothing.
use native.Mathlib.Omega.{arith}
use mathlib.Core.Bool.{or-false}
use borrow.Author.Tests.{ne_eqb}
use Rattle.meaning.specs.Check.{follows, follows_transfer}
use Rattle.model_check.proofs.rules.may_follow.Goals as goal

pub returns-in-0 : goal.returns-in-0
unfolding follows
returns-in-0 c = rw c.in-0.is (simp or-false)

pub returns-in-1 : goal.returns-in-1
unfolding follows follows_transfer
returns-in-1 c = rw c.in-1.is (simp or-false)

pub returns-in-2 : goal.returns-in-2
unfolding follows
returns-in-2 c = rw c.in-2.is (simp or-false)

pub returns-in-3 : goal.returns-in-3
unfolding follows
returns-in-3 c = rw c.in-3.is (simp or-false)

pub returns-in-4 : goal.returns-in-4
unfolding follows
returns-in-4 c = rw c.in-4.is (simp or-false)

pub returns-in-5 : goal.returns-in-5
unfolding follows
returns-in-5 c = rw c.in-5.is

pub returns-in_default : goal.returns-in_default
unfolding follows
returns-in_default c =
    let b = c.args.before in
    rw (ne_eqb b 0 (omega arith), ne_eqb b 1 (omega arith), ne_eqb b 2 (omega arith), ne_eqb b 3 (omega arith), ne_eqb b 4 (omega arith), ne_eqb b 5 (omega arith))
