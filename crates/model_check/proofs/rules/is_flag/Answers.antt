-- `model_check::rules::is_flag` meets its contract. Assumes nothing.
use native.Mathlib.Omega.{arith}
use mathlib.Core.Path.{sym, ◌∙◌}
use lib.ListN.{length}
use borrow.Author.Tests.{le-leb, lt-leb, eqb-true, eqb-false}
use Rattle.meaning.specs.Check.{is_flag}
use Rattle.model_check.proofs.rules.is_flag.Goals as goal

pub returns-then-not-is_empty : goal.returns-then-not-is_empty
unfolding is_flag
returns-then-not-is_empty c =
    let n = length c.args.payload.now in
    rw (le-leb 1 n (omega (arith, eqb-false n 0 (sym c.is_empty.ensures ∙ c.if-not-is_empty.true))))

pub returns-else-not-is_empty : goal.returns-else-not-is_empty
unfolding is_flag
returns-else-not-is_empty c =
    let n = length c.args.payload.now in
    rw (c.if-not-is_empty.false, lt-leb 1 n (omega (arith, eqb-true n 0 (sym c.is_empty.ensures ∙ c.if-not-is_empty.false))))
