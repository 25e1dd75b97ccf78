-- `model_check::rules::keeps_transfer` meets its contract. Assumes nothing.
use mathlib.Core.Path.{sym}
use Rattle.meaning.specs.Check.{keeps_transfer}
use Rattle.base.proofs.Fill.{to_end}
use Rattle.model_check.proofs.Transfer.{transfer_tests, short_transfer}
use Rattle.model_check.proofs.rules.keeps_transfer.Goals as goal

pub returns-then-payload-lt4 : goal.returns-then-payload-lt4
returns-then-payload-lt4 c = sym (short_transfer c.args.payload.now c.if-payload-lt4.true)

pub returns : goal.returns
unfolding keeps_transfer
returns c =
    let p = c.args.payload.now in
    rw (c.is_special.ensures, c.is_special-2.ensures, c.is_special-3.ensures, c.are_different-different.ensures, c.is_name.ensures, to_end p 3) (transfer_tests _ _ _ _ _ _ _)
