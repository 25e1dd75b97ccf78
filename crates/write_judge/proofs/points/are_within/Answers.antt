-- `write_judge::points::are_within` meets its contract. Assumes nothing.
use native.Mathlib.Omega.{arith}
use mir.Syntax.{w64}
use mir.ValLaws.{to_z-of_z}
use Rattle.write_judge.proofs.Drawn.{three_within, two_within}
use Rattle.write_judge.proofs.points.are_within.Goals as goal
use Rattle.write_judge.proofs.points.are_within.Goals.{then-components-eq3, else-components-eq3}

pub returns : goal.returns
returns c =
    let a = c.args in
    let x = to_z-of_z w64 a.east c.ranges.east in
    let y = to_z-of_z w64 a.north c.ranges.north in
    let z = to_z-of_z w64 a.height c.ranges.height in
    elim c.if-components-eq3.branch [
      | then-components-eq3 w ↦
          rw (w.third-is, w.is_within-third.ensures, c.is_within-second.ensures, c.is_within-first.ensures, x, y, z) (three_within _ a.east a.north a.height a.components.items a.components.count (omega arith) w.if-components-eq3.true)
      | else-components-eq3 w ↦
          rw (w.third-is, w.is_number-third.ensures, c.is_within-second.ensures, c.is_within-first.ensures, x, y, z) (two_within _ a.east a.north a.height a.components.items a.components.count (omega arith) (omega (arith, c.requires, w.if-components-eq3.false)))
    ]
