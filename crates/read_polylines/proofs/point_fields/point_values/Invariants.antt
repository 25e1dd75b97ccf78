-- `read_polylines::point_fields::point_values` meets its contract. Assumes nothing.
use Prim.Native.Nat.{◌≤◌}
use mathlib.Core.Path.{◌≡◌}
use lib.ListN.{length, take}
use Rattle.model_records.specs.Components.{list_of}
use Rattle.read_polylines.proofs.PointFields.{PointGoing}
use Rattle.read_polylines.proofs.point_fields.point_values.Given as goal

abbrev pub invariant-loop-i : goal.invariant-loop-i
invariant-loop-i l = (l.at ≤ length l.rest) × (length l.values ≡ 3) × PointGoing l.undefined (list_of (take l.count l.items)) l.rest l.at l.i-counter l.values
