-- `listing_lines::rows::put_values` meets its contract. Assumes nothing.
use Prim.Native.Nat.{◌*◌, ◌≤◌}
use mathlib.Core.Path.{◌≡◌}
use mathlib.Core.List.{◌++◌}
use lib.ListN.{take, drop}
use Rattle.listing_lines.proofs.Lines.{rest}
use Rattle.listing_lines.proofs.rows.put_values.Given as goal

abbrev pub invariant-loop-i : goal.invariant-loop-i
invariant-loop-i l = (l.n ≤ 22 * l.i) × (take l.n l.out ++ rest (drop l.i l.values) ≡ rest l.values)
