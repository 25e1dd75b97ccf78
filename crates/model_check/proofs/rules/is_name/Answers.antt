-- `model_check::rules::is_name` meets its contract. Assumes nothing.
use native.Mathlib.Omega.{arith}
use lib.ListN.{length, get_or-eq_default}
use mathlib.Core.Path.{sym, ◌∙◌}
use borrow.Author.Tests.{eqb-true}
use Rattle.meaning.specs.Check.{is_name}
use Rattle.meaning.specs.Bytes.{letter}
use Rattle.model_check.proofs.rules.is_name.Goals as goal

pub returns-then-is_empty : goal.returns-then-is_empty
unfolding is_name letter
returns-then-is_empty c = let n = c.args.n.now in rw (get_or-eq_default n 0 {n = 0} (omega (arith, eqb-true (length n) 0 (sym c.is_empty.ensures ∙ c.if-is_empty.true))))

pub returns : goal.returns
unfolding is_name
returns c =
    rw (c.every_name_byte.ensures, c.is_letter.ensures)
