-- What the answers of this crate mean.
use Rattle.std.specs.Prelude.{ℕ, Bool, true, false, ◌≡◌, Option, Some, None, Result, Ok, Err, List, ℤ, pos, not}
use Rattle.base.specs.declared.reasons.Reason.{Reason}
use Rattle.base.specs.Reasons.{number_of}
use Rattle.meaning.specs.Bytes.{refuse}
use Rattle.meaning.specs.Field.{Field}
use Rattle.meaning.specs.Value as meaning

-- a value: its two cells, or its refusal
abbrev pub value_meant : Result (ℤ × ℤ) Reason → meaning.Value
value_meant (Ok p) = meaning.pair p.0 p.1
value_meant (Err reason) = meaning.wrong (number_of reason)

-- a value of the right shape: 1 and the value, or 14 where it lies outside its domain
abbrev pub judged : Bool → ℤ → meaning.Value
judged inside v = refuse (not inside) (meaning.wrong 14) (meaning.pair (pos 1) v)

-- a field by its start and its bytes
abbrev pub field_of : ℕ → List ℕ → Field
field_of start bytes = record { start = start; bytes = bytes }

-- digits that have the right shape, and their number; or that they have not
abbrev pub Reads : Bool → ℕ → Option ℕ → Type 0
Reads shape n (Some v) = (shape ≡ true) × (v ≡ n)
Reads shape n None = shape ≡ false
