-- `base::fields::field_size` meets its contract: the bytes so far are no separators. Assumes nothing.
use Prim.Native.Nat.{◌≤◌}
use mathlib.Core.Path.{◌≡◌}
use mathlib.Core.Bool.{true}
use lib.ListN.{length, take}
use Rattle.meaning.specs.Bytes.{every}
use Rattle.meaning.proofs.Reading.Fields.{solid}
use Rattle.base.proofs.fields.field_size.Given as goal

abbrev pub invariant-loop-i : goal.invariant-loop-i
invariant-loop-i l = (1 ≤ length l.rest) × (every solid (take l.i l.rest) ≡ true)
