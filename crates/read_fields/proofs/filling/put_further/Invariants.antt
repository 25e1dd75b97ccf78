-- `read_fields::filling::put_further` meets its contract. Assumes nothing.
use Prim.Native.Nat.{◌*◌, ◌-◌, ◌≤◌}
use Rattle.read_fields.specs.RowProgress.{RowFilled}
use Rattle.read_fields.proofs.Coordinates.{from_component}
use Rattle.read_fields.proofs.filling.put_further.Given as goal

abbrev pub invariant-loop-i : goal.invariant-loop-i
invariant-loop-i l = (l.i ≤ 3) × RowFilled l.rest (2 * (l.i - 1)) (from_component l.undefined l.start l.rest l.count l.items 1 l.initial.t) (from_component l.undefined l.start l.rest l.count l.items l.i l.t) l.initial.t l.t l.initial.cells l.cells
