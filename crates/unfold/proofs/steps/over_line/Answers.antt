-- `unfold::steps::over_line` meets its contract: what `first_line` finds, judged. Assumes nothing.
use Rattle.std.proofs.lemmas.Result.{err_from_is_err_and}
use Rattle.unfold.proofs.Judged.{no_more, not_ended}
use Rattle.unfold.proofs.steps.over_line.Goals as goal

pub returns-in_err-first : goal.returns-in_err-first
returns-in_err-first c =
    let p = err_from_is_err_and c.from_residual.result c.from_residual.ensures.1 in
    let h = c.in_err-first.ensures in
    rw (p.1, p.2, h.0) (not_ended _ _ _ h.1 h.2)

pub returns-then-continues : goal.returns-then-continues
returns-then-continues c = no_more _ _ _ (rw c.in_default.is at c.in_ok-first.ensures) c.if-continues.true
