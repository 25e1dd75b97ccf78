-- `model_check::references::is_foreign` meets its contract. Assumes nothing.
use native.Mathlib.Omega.{arith}
use mathlib.Core.Path.{sym, ◌∙◌}
use borrow.Author.Tests.{le-leb}
use Rattle.model_check.proofs.Judging.{foreign_high, foreign_other}
use Rattle.model_check.proofs.references.is_foreign.Goals as goal

pub returns-then-places-table : goal.returns-then-places-table
returns-then-places-table c =
    λ ts e. le-leb _ _ c.if-places-table.true ∙ sym (foreign_high ts _ _ c.args.places.now e c.if-places-table.true)

pub returns-else-places-table : goal.returns-else-places-table
returns-else-places-table c = λ ts e. foreign_other ts _ _ c.args.places.now e (omega arith)
