-- `model_check::check::keeps_table` meets its contract. Assumes nothing.
use native.Mathlib.Omega.{arith}
use mathlib.Core.Path.{sym, ◌∙◌}
use lib.ListN.{length}
use borrow.Author.Tests.{lt-leb, eqb-true}
use Rattle.meaning.specs.Check.{keeps_table, is_flag}
use Rattle.meaning.specs.Bytes.{all_of}
use Rattle.base.proofs.Fill.{to_end}
use Rattle.model_check.proofs.Transfer.{fails_here}
use Rattle.model_check.proofs.check.keeps_table.Goals as goal

pub returns-then-is_empty : goal.returns-then-is_empty
unfolding keeps_table is_flag
returns-then-is_empty c =
    let p = c.args.payload.now in
    sym (fails_here _ _ (rw (lt-leb 1 (length p) (omega (arith, eqb-true (length p) 0 (sym c.is_empty.ensures ∙ c.if-is_empty.true))))))

pub returns : goal.returns
unfolding keeps_table all_of
returns c =
    let p = c.args.payload.now in
    rw (c.is_flag.ensures, ← to_end p 1, c.is_free-free.ensures)
