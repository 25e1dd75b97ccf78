-- Digits as counts: how large a value so many digits have, and its parts. Assumes nothing.
use Prim.Native.Nat.{ℕ, suc, ◌+◌, ◌*◌, ◌-◌, ◌/◌, ◌%◌, ◌≤◌, ◌<◌, ◌^◌}
use native.Mathlib.Numerals.{add-one}
use native.Mathlib.Nat.{pow-suc, pow-le-pow_right, add-zero, add-mul, mul_assoc, mul_comm}
use native.Mathlib.Omega.{arith}
use mathlib.Core.Path.{◌≡◌, refl, sym, ap, ◌∙◌}
use mathlib.Core.Bool.{true}
use mathlib.Core.List.{List, [], ◌∷◌, ◌++◌}
use lib.Dec.{leb, lit<}
use lib.ListN.{length, take, drop, take-append-drop, length-drop}
use lib.Seq.{length-take-le, drop-drop}
use borrow.Author.Tests.{leb-true}
use Rattle.meaning.specs.Bytes.{digit, every}
use Rattle.meaning.specs.Value.{digits_after, digits_value}
use Rattle.meaning.proofs.Unfolding.Cuts.{both}
use Rattle.meaning.proofs.Values.Digits.{after_append, every_take, every_drop}

-- a digit's byte
pub digit_range : (b : ℕ) → digit b ≡ true → (0x30 ≤ b) × (b ≤ 0x39)
unfolding digit
digit_range b h = let r = both (leb 0x30 b) (leb b 0x39) h in (leb-true 0x30 b r.0, leb-true b 0x39 r.1)

-- one digit more
pub grows : (v k b : ℕ) → b ≤ 0x39 → v < 10 ^ k → v * 10 + (b - 0x30) < 10 ^ (k + 1)
grows v k b h e = rw (add-one, pow-suc 10 k) (omega arith)

-- fewer than 18 digits have room for one more
pub small : (v k : ℕ) → k < 18 → v < 10 ^ k → v < 10 ^ 17
small v k h e = omega (arith, pow-le-pow_right {n = 10} (lit< tt) {i = k} {j = 17} (omega arith))

pub digits_below : (s : List ℕ) (n k : ℕ) → every digit s ≡ true → n < 10 ^ k → digits_after n s < 10 ^ (k + length s)
unfolding digits_after every
digits_below [] n k h e = rw (add-zero k) e
digits_below (b ∷ s) n k h e =
    let r = both (digit b) _ h in
    let le : k + suc (length s) ≡ k + 1 + length s = omega arith in
    rw le (digits_below s _ (k + 1) r.1 (grows n k b (digit_range b r.0).1 e))

-- at most 18 digits
pub below_18 : (s : List ℕ) (n k : ℕ) → every digit s ≡ true → n < 10 ^ k → k + length s ≤ 18 → digits_after n s < 10 ^ 18
below_18 s n k h e l = omega (arith, digits_below s n k h e, pow-le-pow_right {n = 10} (lit< tt) {i = k + length s} {j = 18} l)

-- the value of digits behind others
pub after_scale : (s : List ℕ) (n : ℕ) → digits_after n s ≡ n * 10 ^ length s + digits_after 0 s
unfolding digits_after
after_scale [] n = omega arith
after_scale (b ∷ s) n =
    let p : ℕ = 10 ^ length s in
    let x : ℕ = b - 0x30 in
    let e : (n * 10 + x) * p ≡ n * 10 * p + x * p = add-mul (n * 10) x p in
    let f : n * 10 * p ≡ n * (p * 10) = mul_assoc n 10 p ∙ ap (λ (k : ℕ). n * k) (mul_comm 10 p) in
    let g : (0 * 10 + x) * p ≡ x * p = ap (λ (k : ℕ). k * p) (omega arith) in
    let i = after_scale s (n * 10 + x) in
    let j = after_scale s (0 * 10 + x) in
    rw (pow-suc 10 (length s)) (omega arith)

-- the value of digits in two parts, of which the second has k
pub value_parts : (s t : List ℕ) → digits_value (s ++ t) ≡ digits_value s * 10 ^ length t + digits_value t
value_parts s t = after_append 0 s t ∙ after_scale t (digits_value s)

-- ## The eight digits of a date

module _ (s : List ℕ) (size : length s ≡ 8) (all : every digit s ≡ true) where
  year_rest : digits_value s ≡ digits_value (take 4 s) * 10 ^ 4 + digits_value (drop 4 s)
  year_rest = sym (ap digits_value (take-append-drop 4 s)) ∙ value_parts (take 4 s) (drop 4 s) ∙ rw (length-drop 4 s, size) refl

  month_rest : digits_value (drop 4 s) ≡ digits_value (take 2 (drop 4 s)) * 10 ^ 2 + digits_value (drop 6 s)
  month_rest =
      sym (ap digits_value (take-append-drop 2 (drop 4 s))) ∙ value_parts (take 2 (drop 4 s)) (drop 2 (drop 4 s))
      ∙ rw (drop-drop 2 4 s) (rw (length-drop 6 s, size) refl)

  day_small : digits_value (drop 6 s) < 10 ^ 2
  day_small = rw (length-drop 6 s, size) at (digits_below (drop 6 s) 0 0 (every_drop digit 6 s all) (omega arith))

  month_small : digits_value (take 2 (drop 4 s)) < 10 ^ 2
  month_small =
      let l : length (take 2 (drop 4 s)) ≡ 2 = length-take-le 2 (drop 4 s) (rw (length-drop 4 s) (omega arith)) in
      rw l at (digits_below (take 2 (drop 4 s)) 0 0 (every_take digit 2 (drop 4 s) (every_drop digit 4 s all)) (omega arith))

  pub date_year : digits_value (take 4 s) ≡ digits_value s / 10000
  date_year = omega (arith, year_rest, month_rest, day_small, month_small)

  pub date_month : digits_value (take 2 (drop 4 s)) ≡ digits_value s / 100 % 100
  date_month = omega (arith, year_rest, month_rest, day_small, month_small)

  pub date_day : digits_value (drop 6 s) ≡ digits_value s % 100
  date_day = omega (arith, year_rest, month_rest, day_small, month_small)

  pub date_small : digits_value s < 10 ^ 8
  date_small = rw size at (digits_below s 0 0 all (omega arith))
