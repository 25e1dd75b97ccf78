-- The bytes of a value as they are put: sign, digits and point.
use Rattle.std.specs.Prelude.{ℕ, zero, suc, List, ◌++◌, ℤ, nat_abs}
use Rattle.meaning.specs.Digits.{digits_of, sign_of, pointed}

-- the room of the point: none without decimals
abbrev pub point_size : ℕ → ℕ
point_size zero = 0
point_size (suc d) = 1

-- sign, digits (`least` at least) and point
abbrev pub value_bytes : ℕ → ℕ → ℤ → List ℕ
value_bytes least decimals v = sign_of v ++ pointed decimals (digits_of least (nat_abs v))
