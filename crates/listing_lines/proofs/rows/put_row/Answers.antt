-- `listing_lines::rows::put_row` meets its contract. Assumes nothing.
use native.Mathlib.Omega.{arith}
use mathlib.Core.Path.{sym, ◌∙◌}
use borrow.Author.Tests.{eqb-true}
use Rattle.listing_lines.proofs.Lines.{empty_row}
use Rattle.listing_lines.proofs.rows.put_row.Goals as goal

pub returns-then-is_empty-clause-bytes : goal.returns-then-is_empty-clause-bytes
returns-then-is_empty-clause-bytes c = empty_row c.args.values.now c.args.out.now (eqb-true _ 0 (sym c.is_empty.ensures ∙ c.if-is_empty.true)) (omega arith)
