-- `read_text::loops::read_lines` meets its contract: the loop keeps `Going`. Assumes nothing.
use Prim.Native.Nat.{◌+◌, ◌-◌, ◌≤◌}
use lib.ListN.{length}
use Rattle.read_state.specs.Buffers.{SameBuffers}
use Rattle.read_text.proofs.Going.{Going}
use Rattle.read_text.proofs.loops.read_lines.Given as goal

abbrev pub invariant-loop-at : goal.invariant-loop-at
invariant-loop-at l =
    let u = l.initial.buffers in
    let v = l.buffers in
    (l.at ≤ length l.text + 1) × SameBuffers u v
    × Going l.model l.text u.seed u.rows.now u.cells.now u.points.now v.marks.now v.rows.now v.cells.now v.points.now v.index.now l.s l.number l.at

abbrev pub decreases-loop-at : goal.decreases-loop-at
decreases-loop-at l = length l.text + 1 - l.at
