-- `write_objects::objects::put_points` meets its contract. Assumes nothing.
use Prim.Native.Nat.{◌+◌, ◌-◌, ◌*◌}
use Rattle.model_records.specs.Components.{components_of}
use Rattle.write_lines.proofs.Left.{Left}
use Rattle.write_objects.proofs.Drawn.{points_meant}
use Rattle.write_objects.proofs.objects.put_points.Given as goal

abbrev pub invariant-loop-i : goal.invariant-loop-i
invariant-loop-i l = Left (points_meant l.style.mark l.style.width (components_of l.components) l.points l.count (4 * l.first)) l.initial.all l.initial.out (points_meant l.style.mark l.style.width (components_of l.components) l.points (l.count - l.i) (l.start + 4 * l.i)) l.all l.out
