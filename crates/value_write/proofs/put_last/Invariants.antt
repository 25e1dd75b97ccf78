-- `value_write::put_last` meets its contract: the digits still due and those that stand make the whole. Assumes nothing.
use Prim.Native.Nat.{◌/◌, ◌^◌}
use mathlib.Core.Path.{◌≡◌}
use mathlib.Core.List.{◌++◌}
use lib.ListN.{length, drop}
use Rattle.meaning.specs.Digits.{last_digits}
use Rattle.value_write.proofs.put_last.Given as goal

abbrev pub invariant-loop-i : goal.invariant-loop-i
invariant-loop-i l = (last_digits l.i l.rest ++ drop l.i l.out ≡ last_digits (length l.initial.out) l.n) × (l.rest / 10 ^ l.i ≡ l.n / 10 ^ length l.initial.out)
