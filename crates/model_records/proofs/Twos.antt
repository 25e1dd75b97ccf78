-- Two's complement, as the library's cast reads it. Assumes nothing.
use Prim.Native.Nat.{ℕ, suc, ◌-◌, ◌^◌}
use native.Mathlib.Omega.{arith}
use mathlib.Core.Path.{◌≡◌, refl, ap}
use mathlib.Core.Bool.{Bool, true, false}
use lib.IntN.{pos, negsuc}
use lib.Dec.{ltb}
use mir.Syntax.{w64}
use mir.Val.{to_z, sel}
use Rattle.meaning.specs.Bytes.{choose, twos}

pub cast_twos : (n : ℕ) → to_z w64 n ≡ twos n
unfolding choose
cast_twos n = go (ltb n (2 ^ 63))
  where
    go : (t : Bool) → sel t (pos n) (negsuc (2 ^ 64 - suc n)) ≡ choose t (pos n) (negsuc (2 ^ 64 - 1 - n))
    go true = refl
    go false = ap negsuc (omega arith)
