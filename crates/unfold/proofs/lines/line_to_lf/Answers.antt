-- `unfold::lines::line_to_lf` meets its contract: the bytes before the first LF, without a CR at their end. Assumes nothing.
use mathlib.Core.Path.{◌≡◌}
use Rattle.std.proofs.Common.{Some, None}
use Rattle.base.specs.declared.reasons.Reason.TheVariants.{EndMissing}
use Rattle.std.proofs.lemmas.Result.{err_from_is_err_and}
use Rattle.unfold.proofs.Physical.{no_line, line_not_permitted}
use native.Mathlib.Omega.{arith}
use Rattle.unfold.proofs.lines.line_to_lf.Goals as goal

pub returns-in_err-n : goal.returns-in_err-n
returns-in_err-n c =
    let p = err_from_is_err_and c.from_residual.result c.from_residual.ensures.1 in
    let none : c.line_feed.result ≡ None = grind arith in
    let reason : c.in_err-n.field-0.0 ≡ EndMissing = grind arith in
    rw (p.1, p.2) (reason, grind arith, no_line _ (rw none at c.line_feed.ensures))

pub returns : goal.returns
returns c =
    let some : c.line_feed.result ≡ Some c.in_ok-n.n = grind arith in
    let at = rw some at c.line_feed.ensures in
    line_not_permitted c.args.rest.now _ _ c.requires at.0 at.1 (rw (← c.ends_in.ensures) c.without_last-len.ensures)
