-- `read_text::loops::read_lines` meets its contract: the loop keeps `Going`. Assumes nothing.
use native.Mathlib.Omega.{arith}
use mathlib.Core.Path.{◌≡◌}
use Rattle.std.proofs.Common.{rules}
use Rattle.std.proofs.lemmas.Result.{err_from_is_err_and}
use Rattle.base.proofs.Results.{mapped_ok, mapped_err}
use Rattle.read_state.proofs.Same.{kept, joined}
use Rattle.read_text.proofs.Going.{begin, again, stops, ends}
use Rattle.read_text.proofs.loops.read_lines.Goals as goal

pub loop-at-init : goal.loop-at-init
loop-at-init c =
    let p = c.requires in
    (omega arith, kept c.args.buffers.now, begin _ _ _ _ _ _ _ _ p.prepared p.marks_value.0 p.marks_value.1)

pub returns-in_err-s : goal.returns-in_err-s
returns-in_err-s c =
    let e = c.end_of_line-end.ensures in
    let p = err_from_is_err_and c.from_residual.result c.from_residual.ensures.1 in
    let m = mapped_err _ c.step_line-step.result c.map_err.result c.map_err.ensures.cases c.in_err-s.field-0.0 c.in_err-s.was in
    let answer = m.2 in
    let refused : c.in_err-s.field-0.0 ≡ record { reason = m.0.reason; first = c.loop-at.number; second = m.0.field } = search rules in
    let t = rw (m.1, c.loop-at.invariant.1.seed) at c.step_line-step.ensures.steps in
    rw (p.1, p.2, refused) (record {
      ran = λ rooms ro ce po. stops _ _ _ c.loop-at.invariant.2 _ (omega arith) e.end e.within m.0 t rooms (record { row_room = ro; cell_room = ce; point_room = po });
      same = joined c.loop-at.invariant.1 c.step_line-step.ensures.same;
    })

pub returns : goal.returns
returns c =
    record {
      ran = λ rooms ro ce po. ends _ _ _ c.loop-at.invariant.2 (omega arith) c.at_end.result c.at_end.ensures rooms (record { row_room = ro; cell_room = ce; point_room = po });
      same = c.loop-at.invariant.1;
    }

pub loop-at-preserved : goal.loop-at-preserved
loop-at-preserved c =
    let e = c.end_of_line-end.ensures in
    let k = c.step_line-step.ensures.same in
    let m = mapped_ok _ c.step_line-step.result c.map_err.result c.map_err.ensures.cases _ c.in_ok-s.was in
    let t = rw (m, c.loop-at.invariant.1.seed) at c.step_line-step.ensures.steps in
    (omega (arith, e.within), joined c.loop-at.invariant.1 k, again _ _ _ c.loop-at.invariant.2 _ (omega arith) e.end e.within _ k.marks.size k.rows.size k.cells.size k.points.size k.index.size t)
