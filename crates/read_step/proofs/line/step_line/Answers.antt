-- `read_step::step_line` meets its contract. Assumes nothing.
use Prim.Native.Nat.{◌-◌}
use Rattle.read_step.proofs.Stepping.{frame_steps, object_steps, line_steps}
use Rattle.read_step.proofs.line.step_line.Goals as goal

pub returns-in-Object : goal.returns-in-Object
returns-in-Object c =
    let a = c.args in
    let n = a.line.now in
    let u = a.buffers.now in
    let o = c.object_line.ensures in
    record {
      steps = rw (o.others.0, o.others.1)
          (object_steps a.model.now.bytes.now n.text.now u.seed a.state n.at (n.end - n.at) u.marks.now u.rows.now u.cells.now u.points.now u.index.now c.requires.holds c.in-Object.table _ _ _ _ c.in-Object.is o.row);
      same = o.same;
    }

pub returns-in-Line-clause-steps : goal.returns-in-Line-clause-steps
returns-in-Line-clause-steps c =
    let a = c.args in
    let n = a.line.now in
    let u = a.buffers.now in
    let d = rw c.bytes.ensures at c.attribute_line.ensures in
    line_steps a.model.now.bytes.now n.text.now u.seed a.state n.at (n.end - n.at) u.marks.now u.rows.now u.cells.now u.points.now u.index.now c.requires.holds c.in-Line.polyline _ _ _ c.in-Line.is d

pub returns-in-Frame-clause-steps : goal.returns-in-Frame-clause-steps
returns-in-Frame-clause-steps c =
    let a = c.args in
    let n = a.line.now in
    let u = a.buffers.now in
    let f = c.frame_line in
    let s = rw c.bytes-in-Frame.ensures at f.ensures.step in
    frame_steps a.model.now.bytes.now n.text.now u.seed a.state n.at (n.end - n.at) u.marks.now u.rows.now u.cells.now u.points.now u.index.now c.requires.holds c.in-Frame.frame _ f.result c.in-Frame.is (s, f.ensures.holds)
