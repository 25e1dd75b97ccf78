-- From a value to its bytes (01, "Writing"): "the shortest digits that read as the value, - only below zero".
use Rattle.std.specs.Prelude.{ℕ, zero, suc, ◌+◌, ◌-◌, ◌/◌, ◌%◌, ◌&&◌, List, [], ◌∷◌, ◌++◌, leb, eqb, ℤ, pos, nat_abs}
use Rattle.std.specs.Prelude.{length, take, drop}
use Rattle.std.specs.Int.Signed.{lt_z}
use Rattle.meaning.specs.Bytes.{choose}

-- the last k digits of n: last_digits 4 205 is 0205
unfoldable pub last_digits : ℕ → ℕ → List ℕ
last_digits zero n = []
last_digits (suc k) n = last_digits k (n / 10) ++ ((0x30 + n % 10) ∷ [])

-- without the zeros in front, but `least` digits at least: shortened 3 of 0005 is 005, of 0205 is 205
unfoldable pub shortened : ℕ → List ℕ → List ℕ
shortened least [] = []
shortened least (b ∷ s) = choose (eqb b 0x30 && leb least (length s)) (shortened least s) (b ∷ s)

-- "the shortest digits that read as the value", `least` at least; a cell's value has 19 at most
unfoldable pub digits_of : ℕ → ℕ → List ℕ
digits_of least n = shortened least (last_digits 19 n)

-- "- only below zero"
unfoldable pub sign_of : ℤ → List ℕ
sign_of v = choose (lt_z v (pos 0)) (0x2d ∷ []) []

-- a point before the last `decimals` digits: pointed 2 of 005 is 0.05
unfoldable pub pointed : ℕ → List ℕ → List ℕ
pointed zero s = s
pointed (suc d) s = take (length s - suc d) s ++ (0x2e ∷ drop (length s - suc d) s)

-- a number has at least one digit before its point: number_bytes 2 of -5 is -0.05
unfoldable pub number_bytes : ℕ → ℤ → List ℕ
number_bytes decimals v = sign_of v ++ pointed decimals (digits_of (decimals + 1) (nat_abs v))

-- "Date: eight digits"
unfoldable pub date_bytes : ℤ → List ℕ
date_bytes v = sign_of v ++ digits_of 8 (nat_abs v)
