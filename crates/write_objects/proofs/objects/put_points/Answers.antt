-- `write_objects::objects::put_points` meets its contract. Assumes nothing.
use Prim.Native.Nat.{◌+◌, ◌-◌, ◌*◌}
use mathlib.Core.Path.{◌≡◌}
use native.Mathlib.Omega.{arith}
use Rattle.model_records.specs.Components.{components_of}
use Rattle.write_lines.proofs.Left.{left_start, left_on, left_end}
use Rattle.write_objects.proofs.Drawn.{points_turn, points_end, points_start}
use Rattle.write_objects.proofs.objects.put_points.Goals as goal

pub loop-i-init : goal.loop-i-init
loop-i-init c =
    let a = c.args in
    let m = c.min-start in
    let n = c.put_nothing-all in
    let all : a.count - 0 ≡ a.count = omega arith in
    let front : 4 * m.result + 0 ≡ 4 * m.result = omega arith in
    left_start _ _ a.put n.result a.out.now (rw (all, front) (points_start a.style.mark a.style.width (components_of a.components) a.points.now a.count a.first _ m.ensures)) (n.ensures a.out.now)

pub loop-i-preserved : goal.loop-i-preserved
loop-i-preserved c =
    let l = c.loop-i in
    let a = c.args in
    let p = c.put_point-all in
    let at = 4 * c.min-start.result + 4 * l.i in
    let less : a.count - l.i - 1 ≡ a.count - (l.i + 1) = omega arith in
    let next : at + 4 ≡ 4 * c.min-start.result + 4 * (l.i + 1) = omega arith in
    let turn = rw (less, next) at (points_turn a.style.mark a.style.width (components_of a.components) a.points.now (a.count - l.i) at (omega arith)) in
    left_on l.invariant _ _ turn _ p.result p.ensures

pub returns : goal.returns
returns c =
    let l = c.loop-i in
    let n = c.put_nothing-all in
    let a = c.args in
    left_end l.invariant a.put (points_end a.style.mark a.style.width (components_of a.components) a.points.now (a.count - l.i) _ (omega arith)) (n.ensures a.out.now)
