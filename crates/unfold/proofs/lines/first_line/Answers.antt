-- `unfold::lines::first_line` meets its contract: permitted bytes and a line end behind them, or what `line_to_lf` finds. Assumes nothing.
use Rattle.meaning.specs.Unfold.{permitted}
use Rattle.base.proofs.Fill.{to_end}
use Rattle.unfold.proofs.Leading.{leading_within}
use Rattle.unfold.proofs.Physical.{line_permitted}
use native.Mathlib.Omega.{arith}
use Rattle.unfold.proofs.lines.first_line.Goals as goal

pub slice_bounds-end_len-count : goal.slice_bounds-end_len-count
slice_bounds-end_len-count c = rw c.permitted_run-len.ensures (leading_within permitted _)

pub slice_bounds-end_len-start : goal.slice_bounds-end_len-start
slice_bounds-end_len-start c = rw c.permitted_run-len.ensures (leading_within permitted _)

pub overflow_add-result : goal.overflow_add-result
overflow_add-result c =
    let end = rw (to_end c.args.rest.now c.permitted_run-len.result) at c.in-Some.ensures in
    omega (arith, (line_permitted c.args.rest.now _ _ c.permitted_run-len.ensures end.0 (λ h. omega arith)).line_of.within)

pub returns : goal.returns
returns c =
    let end = rw (to_end c.args.rest.now c.permitted_run-len.result) at c.in-Some.ensures in
    line_permitted c.args.rest.now _ _ c.permitted_run-len.ensures end.0 (λ h. omega arith)
