-- `value_read::digits::read_digits` meets its contract: what is read so far and the rest say what the whole says. Assumes nothing.
use Prim.Native.Nat.{◌+◌, ◌<◌, ◌^◌}
use mathlib.Core.Path.{◌≡◌}
use lib.ListN.{drop}
use Rattle.meaning.specs.Bytes.{digit, every}
use Rattle.meaning.specs.Value.{digits_after}
use Rattle.value_read.proofs.digits.read_digits.Given as goal

abbrev pub invariant-loop-b : goal.invariant-loop-b
invariant-loop-b l = (digits_after l.v (drop l.b-index l.field) ≡ digits_after l.n l.field) × (every digit (drop l.b-index l.field) ≡ every digit l.field) × (l.v < 10 ^ (l.before + l.b-index))
