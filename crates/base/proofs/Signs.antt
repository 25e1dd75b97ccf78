-- Signed values: negation and magnitude in 64 bits, tests of signed values. Assumes nothing.
use Prim.Native.Nat.{ℕ, zero, suc, ◌+◌, ◌-◌, ◌<◌, ◌≤◌, ◌^◌}
use mathlib.Core.Path.{◌≡◌, refl, sym, ap, ◌∙◌, subst}
use mathlib.Core.Bool.{Bool, true, false}
use native.Mathlib.Omega.{arith}
use lib.IntN.{ℤ, pos, negsuc, neg_ℤ, nat_abs, ◌+ℤ◌, ◌-ℤ◌, +ℤ_idl, +ℤ_one}
use lib.Signed.{mag, lt_z, non_neg}
use lib.Dec.{T}
use mathlib.Core.List.{List, [], ◌∷◌}
use mathlib.Core.Logic.{◌⊎◌, inl, inr}
use lib.Dec.{eqb}
use lib.ListN.{length, drop, get_or}
use borrow.Author.Tests.{ltb-true, eq-eqb, ne_eqb}
use Rattle.meaning.specs.Bytes.{choose, begins}
use Rattle.meaning.specs.Value.{unsigned}
use mir.Syntax.{w64}
use mir.Val.{SFits, Fits, to_z, of_z}
use mir.ValLaws.{to_z-of_z, to_z_pos}

-- ## A sign put to a number of at most 18 digits

minus : (n : ℕ) → pos 0 -ℤ pos n ≡ neg_ℤ (pos n)
minus n = +ℤ_idl (neg_ℤ (pos n))

neg_mag : (n : ℕ) → mag (neg_ℤ (pos n)) ≤ n
neg_mag zero = omega arith
neg_mag (suc n) = omega arith

neg_fits : (n : ℕ) → n < 10 ^ 18 → SFits w64 (neg_ℤ (pos n))
neg_fits n h = record { sfits = omega (arith, neg_mag n) }

-- the machine's 0 - n
pub minus_fits : (n : ℕ) → n < 10 ^ 18 → SFits w64 (pos 0 -ℤ to_z w64 n)
minus_fits n h = subst (λ (z : ℤ). SFits w64 z) (sym (ap (λ (z : ℤ). pos 0 -ℤ z) (to_z_pos w64 n (omega arith)) ∙ minus n)) (neg_fits n h)

pub minus_is : (n : ℕ) → n < 10 ^ 18 → to_z w64 (of_z w64 (pos 0 -ℤ to_z w64 n)) ≡ neg_ℤ (pos n)
minus_is n h = to_z-of_z w64 _ (minus_fits n h) ∙ ap (λ (z : ℤ). pos 0 -ℤ z) (to_z_pos w64 n (omega arith)) ∙ minus n

-- ## Tests

-- a test of two signed values that the machine holds
pub plain : (x y : ℤ) (b : Bool) → SFits w64 x → SFits w64 y → lt_z (to_z w64 (of_z w64 x)) (to_z w64 (of_z w64 y)) ≡ b → lt_z x y ≡ b
plain x y b p q e = rw (to_z-of_z w64 x p, to_z-of_z w64 y q) at e

-- ## The sign of a field

pub begins_none : (b : ℕ) (s : List ℕ) → length s ≡ 0 → begins b s ≡ false
unfolding begins
begins_none b [] h = refl
begins_none b (c ∷ s) h = absurd (omega arith)

pub begins_first : (b : ℕ) (s : List ℕ) → 0 < length s → begins b s ≡ eqb (get_or s 0 0) b
unfolding begins
begins_first b [] h = absurd (omega arith)
begins_first b (c ∷ s) h = refl

pub unsigned_none : (s : List ℕ) → length s ≡ 0 → s ≡ unsigned s
unfolding unsigned choose
unsigned_none s h = rw (begins_none 0x2b s h, begins_none 0x2d s h)

pub unsigned_sign : (s : List ℕ) → 0 < length s → (get_or s 0 0 ≡ 0x2b) ⊎ (get_or s 0 0 ≡ 0x2d) → drop 1 s ≡ unsigned s
unfolding unsigned choose
unsigned_sign s h (inl e) = rw (begins_first 0x2b s h, eq-eqb (get_or s 0 0) 0x2b e)
unsigned_sign s h (inr e) = rw (begins_first 0x2b s h, begins_first 0x2d s h, ne_eqb (get_or s 0 0) 0x2b (λ z. omega arith), eq-eqb (get_or s 0 0) 0x2d e)

pub unsigned_plain : (s : List ℕ) → 0 < length s → (get_or s 0 0 ≡ 0x2b → ⊥) → (get_or s 0 0 ≡ 0x2d → ⊥) → s ≡ unsigned s
unfolding unsigned choose
unsigned_plain s h e f = rw (begins_first 0x2b s h, begins_first 0x2d s h, ne_eqb (get_or s 0 0) 0x2b e, ne_eqb (get_or s 0 0) 0x2d f)

-- ## The value without its sign, for -2^63 too

up_one : (z : ℤ) → lt_z z (pos 0) ≡ true → z +ℤ pos 1 ≡ neg_ℤ (pos (nat_abs z - 1))
up_one (pos n) h = absurd (omega (arith, ltb-true n 0 h))
up_one (negsuc zero) h = refl
up_one (negsuc (suc n)) h = let e : suc (suc n) - 1 ≡ suc n = omega arith in +ℤ_one (negsuc (suc n)) ∙ rw e

neg-neg : (n : ℕ) → pos 0 -ℤ neg_ℤ (pos n) ≡ pos n
neg-neg zero = refl
neg-neg (suc n) = +ℤ_idl (pos (suc n))

abs_small : (z : ℤ) → lt_z z (pos 0) ≡ true → mag z < 2 ^ 63 → (1 ≤ nat_abs z) × (nat_abs z ≤ 2 ^ 63)
abs_small (pos n) h g = absurd (omega (arith, ltb-true n 0 h))
abs_small (negsuc n) h g = (omega arith, omega arith)

module _ (z : ℤ) (fits : SFits w64 z) (below : lt_z (to_z w64 (of_z w64 z)) (to_z w64 (of_z w64 (pos 0))) ≡ true) where
  is_below : lt_z z (pos 0) ≡ true
  is_below = plain z (pos 0) true fits (record { sfits = omega arith }) below

  bounds : (1 ≤ nat_abs z) × (nat_abs z ≤ 2 ^ 63)
  bounds = abs_small z is_below fits.sfits

  up_read : to_z w64 (of_z w64 z) +ℤ pos 1 ≡ neg_ℤ (pos (nat_abs z - 1))
  up_read = ap (λ (x : ℤ). x +ℤ pos 1) (to_z-of_z w64 z fits) ∙ up_one z is_below

  pub up_fits : SFits w64 (to_z w64 (of_z w64 z) +ℤ pos 1)
  up_fits = rw up_read (record { sfits = omega (arith, neg_mag (nat_abs z - 1), bounds) })

  flip_read : pos 0 -ℤ to_z w64 (of_z w64 (to_z w64 (of_z w64 z) +ℤ pos 1)) ≡ pos (nat_abs z - 1)
  flip_read = ap (λ (x : ℤ). pos 0 -ℤ x) (to_z-of_z w64 _ up_fits ∙ up_read) ∙ neg-neg (nat_abs z - 1)

  pub flip_fits : SFits w64 (pos 0 -ℤ to_z w64 (of_z w64 (to_z w64 (of_z w64 z) +ℤ pos 1)))
  flip_fits = rw flip_read (record { sfits = omega (arith, bounds) })

  pub flipped : to_z w64 (of_z w64 (pos 0 -ℤ to_z w64 (of_z w64 (to_z w64 (of_z w64 z) +ℤ pos 1)))) ≡ pos (nat_abs z - 1)
  flipped = to_z-of_z w64 _ flip_fits ∙ flip_read

  pub flip_cast : T (non_neg (pos (nat_abs z - 1))) × Fits w64 (nat_abs (pos (nat_abs z - 1)))
  flip_cast = (tt, record { fits = omega (arith, bounds) })

  pub flip_add : Fits w64 (nat_abs (pos (nat_abs z - 1)) + 1)
  flip_add = record { fits = omega (arith, bounds) }

  pub flip_is : nat_abs (pos (nat_abs z - 1)) + 1 ≡ nat_abs z
  flip_is = omega (arith, bounds)

pub not_below : (z : ℤ) → lt_z z (pos 0) ≡ false → T (non_neg z)
not_below (pos n) h = tt
not_below (negsuc n) h = subst T h tt

pub abs_mag : (z : ℤ) → nat_abs z ≤ mag z + 1
abs_mag (pos n) = omega arith
abs_mag (negsuc n) = omega arith
