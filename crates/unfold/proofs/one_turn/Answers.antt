-- `unfold::one_turn` meets its contract: each way that a step goes is a law of the loop. Assumes nothing.
use mathlib.Core.Path.{◌≡◌, ◌∙◌}
use mathlib.Core.Bool.{true, false}
use Rattle.std.proofs.Common.{rules}
use Rattle.std.proofs.lemmas.Result.{err_from_is_err_and}
use Rattle.meaning.specs.Unfold.{next}
use Rattle.base.proofs.Fill.{to_end}
use Rattle.base.proofs.Results.{mapped_ok, mapped_err}
use Rattle.unfold.proofs.Flat.{ended, part_is}
use Rattle.unfold.proofs.Kept.{put_both, goes_on, refused}
use native.Mathlib.Omega.{arith}
use Rattle.unfold.proofs.one_turn.Goals as goal

pub returns-in_err-found : goal.returns-in_err-found
returns-in_err-found c =
    let p = err_from_is_err_and c.from_residual.result c.from_residual.ensures.1 in
    let m = mapped_err _ c.over_line-step.result c.map_err.result c.map_err.ensures.cases c.in_err-found.field-0.0 c.in_err-found.was in
    let found = m.2 in
    let fault : c.in_err-found.field-0.0 ≡ record { reason = m.0; line = c.args.cursor.line } = search rules in
    let h = rw (to_end c.args.file.now c.args.cursor.at, m.1) at c.over_line-step.ensures in
    rw (p.1, p.2, fault) (refused _ _ _ _ c.requires _ h)

pub returns-then-found : goal.returns-then-found
unfolding next ended
returns-then-found c =
    let m = mapped_ok _ c.over_line-step.result c.map_err.result c.map_err.ensures.cases c.in_ok-found.field-0 c.in_ok-found.was in
    let q = rw (to_end c.args.file.now c.args.cursor.at, m, c.in-Some.is, c.if-found.true) at c.over_line-step.ensures in
    let put = c.put_part-end in
    let part = part_is _ 0 _ _ c.args.file.now c.args.cursor.at _ _ _ q in
    (omega (arith, q.inside), goes_on _ _ _ _ c.requires true _ _ _ _ _ q put.auto.text (rw part at put.ensures))

pub returns : goal.returns
unfolding next ended
returns c =
    let m = mapped_ok _ c.over_line-step.result c.map_err.result c.map_err.ensures.cases c.in_ok-found.field-0 c.in_ok-found.was in
    let q = rw (to_end c.args.file.now c.args.cursor.at, m, c.in-Some.is, c.if-found.false) at c.over_line-step.ensures in
    let put = c.put_part-end in
    let end = c.put_part in
    let part = part_is _ 0 _ _ c.args.file.now c.args.cursor.at _ _ _ q in
    let both = put_both _ _ _ _ _ _ _ _ put.auto.text (rw part at put.ensures) end.ensures in
    (omega (arith, q.inside), goes_on _ _ _ _ c.requires false _ _ _ _ _ q (end.auto.text ∙ put.auto.text) both)
