-- The shortest digits of a value: their parts, their count, and that nothing shorter reads as the value. Assumes nothing.
use Prim.Native.Nat.{ℕ, zero, suc, ◌+◌, ◌*◌, ◌-◌, ◌/◌, ◌%◌, ◌≤◌, ◌<◌, ◌^◌}
use native.Mathlib.Nat.{pow-suc, pow-le-pow_right, one-le-pow, add-zero, zero-add, add-suc, mul_comm, mul_assoc, mul-add-div_right, div-eq_of_lt, div-one, div-div-eq-div-mul, div-lt_iff_lt-mul, le-div_iff_mul-le}
use native.Mathlib.Omega.{arith}
use mathlib.Core.Path.{◌≡◌, refl, sym, ap, ◌∙◌}
use mathlib.Core.Bool.{Bool, true, false}
use mathlib.Core.List.{List, [], ◌∷◌, ◌++◌, append_assoc, append-nil}
use lib.Dec.{leb, ltb, lit<}
use lib.IntN.{ℤ, pos}
use lib.Signed.{lt_z}
use lib.ListN.{length, take, drop, length-append, take-append-drop}
use lib.Seq.{take_at, drop_at}
use borrow.Author.Tests.{ltb-true, ltb-false, leb-true, leb-false, ne_eqb}
use Rattle.meaning.specs.Bytes.{choose, digit, every}
use Rattle.meaning.specs.Value.{digits_after, digits_value}
use Rattle.meaning.specs.Digits.{last_digits, shortened, digits_of, sign_of, pointed}
use Rattle.meaning.proofs.Unfolding.Cuts.{both}
use Rattle.meaning.proofs.Values.Digits.{last_length, short_most}
use Rattle.meaning.proofs.Values.Counts.{digit_range, digits_below, after_scale}
use Rattle.meaning.proofs.Values.Dates.{short_more, short_stays}

-- ## Powers of ten

pub tens : (k : ℕ) → 0 < 10 ^ k
tens k = one-le-pow k 10 (lit< tt)

pub tens_rise : {j k : ℕ} → j ≤ k → 10 ^ j ≤ 10 ^ k
tens_rise {j} {k} h = pow-le-pow_right {n = 10} (lit< tt) {i = j} {j = k} h

-- a power below another has the smaller exponent
pub tens_below : (j k : ℕ) → 10 ^ j < 10 ^ k → j < k
tens_below j k h = go (ltb j k) refl
  where
    go : (t : Bool) → ltb j k ≡ t → j < k
    go true e = ltb-true j k e
    go false e = absurd (omega (arith, tens_rise {j = k} {k = j} (ltb-false j k e)))

-- what is left of n without its last digits
pub div_tens : (n k : ℕ) → n / 10 / 10 ^ k ≡ n / 10 ^ suc k
div_tens n k = div-div-eq-div-mul n 10 (10 ^ k) ∙ ap (λ (p : ℕ). n / p) (mul_comm 10 (10 ^ k) ∙ sym (pow-suc 10 k))

pub left_some : (n k : ℕ) → 10 ^ k ≤ n → 0 < n / 10 ^ k
left_some n k h = (le-div_iff_mul-le {k = 10 ^ k} {x = 1} {y = n} (tens k)).1 (omega arith)

pub left_digit : (n k : ℕ) → n < 10 ^ suc k → n / 10 ^ k < 10
left_digit n k h = let g : n < 10 ^ k * 10 = rw (pow-suc 10 k) at h in (div-lt_iff_lt-mul {k = 10 ^ k} {x = n} {y = 10} (tens k)).1 (omega arith)

-- ## The last digits in two parts

pub last_split : (a b n : ℕ) → last_digits (a + b) n ≡ last_digits a (n / 10 ^ b) ++ last_digits b n
unfolding last_digits
last_split a zero n = rw (add-zero a, div-one n, append-nil)
last_split a (suc b) n =
    rw (add-suc a b, last_split a b (n / 10), div_tens n b) (append_assoc (last_digits a (n / 10 ^ suc b)) (last_digits b (n / 10)) ((0x30 + n % 10) ∷ []))

-- the first of them
pub last_front : (k n : ℕ) → last_digits (suc k) n ≡ (0x30 + (n / 10 ^ k) % 10) ∷ last_digits k n
unfolding last_digits
last_front k n = let e : suc k ≡ 1 + k = omega arith in ap (λ (m : ℕ). last_digits m n) e ∙ last_split 1 k n

-- with a point between them
pub last_pointed : (a d n : ℕ) → pointed (suc d) (last_digits (a + suc d) n) ≡ last_digits a (n / 10 ^ suc d) ++ (0x2e ∷ last_digits (suc d) n)
unfolding pointed
last_pointed a d n =
    let l : length (last_digits (a + suc d) n) - suc d ≡ a = rw (last_length (a + suc d) n) (omega arith) in
    rw (l, last_split a (suc d) n, take_at (last_digits a (n / 10 ^ suc d)) (last_digits (suc d) n) a (last_length a _), drop_at (last_digits a (n / 10 ^ suc d)) (last_digits (suc d) n) a (last_length a _))

-- ## The count of the shortest digits

-- no digit of them can go: they are the least that are wanted, or begin with another digit than 0
short_kept : (least k n : ℕ) → n < 10 ^ k → ((j : ℕ) → least ≤ j → j < k → 10 ^ j ≤ n) → shortened least (last_digits k n) ≡ last_digits k n
unfolding shortened choose last_digits
short_kept least zero n small large = refl
short_kept least (suc k) n small large = go (leb least k) refl
  where
    go : (t : Bool) → leb least k ≡ t → shortened least (last_digits (suc k) n) ≡ last_digits (suc k) n
    go true e =
        let left = left_some n k (large k (leb-true least k e) (omega arith)) in
        let digit = left_digit n k small in
        ap (shortened least) (last_front k n) ∙ rw (ne_eqb (0x30 + (n / 10 ^ k) % 10) 0x30 (λ z. omega arith)) (sym (last_front k n))
    go false e = short_stays least (last_digits (suc k) n) (rw (last_length (suc k) n) (omega (arith, leb-false least k e)))

module _ (least k n : ℕ) (low : least ≤ k) (small : n < 10 ^ k) where
  short_down : (j : ℕ) → shortened least (last_digits (j + k) n) ≡ shortened least (last_digits k n)
  short_down zero = ap (λ (m : ℕ). shortened least (last_digits m n)) (omega arith)
  short_down (suc j) =
      let e : suc j + k ≡ suc (j + k) = omega arith in
      rw e (short_more least (j + k) n (omega arith) (omega (arith, tens_rise {j = k} {k = j + k} (omega arith))) ∙ short_down j)

  pub digits_count : k ≤ 19 → ((j : ℕ) → least ≤ j → j < k → 10 ^ j ≤ n) → digits_of least n ≡ last_digits k n
  unfolding digits_of
  digits_count h large =
      let e : 19 ≡ 19 - k + k = omega arith in
      ap (λ (m : ℕ). shortened least (last_digits m n)) e ∙ short_down (19 - k) ∙ short_kept least k n small large

  -- they are no more than the digits that hold the value
  pub digits_most : k ≤ 19 → length (digits_of least n) ≤ k
  unfolding digits_of
  digits_most h =
      let e : 19 ≡ 19 - k + k = omega arith in
      let d : shortened least (last_digits 19 n) ≡ shortened least (last_digits k n) = ap (λ (m : ℕ). shortened least (last_digits m n)) e ∙ short_down (19 - k) in
      rw d (omega (arith, short_most least (last_digits k n), last_length k n))

-- ## Digits are the last digits of their value

last_above : (k x y : ℕ) → last_digits k (x * 10 ^ k + y) ≡ last_digits k y
unfolding last_digits
last_above zero x y = refl
last_above (suc k) x y =
    let z : ℕ = x * 10 ^ k in
    let p : x * 10 ^ suc k ≡ z * 10 = ap (λ (t : ℕ). x * t) (pow-suc 10 k) ∙ sym (mul_assoc x (10 ^ k) 10) in
    let a : (z * 10 + y) / 10 ≡ z + y / 10 = omega arith in
    let b : (z * 10 + y) % 10 ≡ y % 10 = omega arith in
    rw (p, a, b, last_above k x (y / 10))

pub last_of : (s : List ℕ) → every digit s ≡ true → last_digits (length s) (digits_value s) ≡ s
unfolding last_digits digits_after every
last_of [] h = refl
last_of (b ∷ s) h =
    let r = both (digit b) (every digit s) h in
    let range = digit_range b r.0 in
    let x : ℕ = 0 * 10 + (b - 0x30) in
    let k : ℕ = length s in
    let small : digits_value s < 10 ^ k = rw (zero-add k) at (digits_below s 0 0 r.1 (omega arith)) in
    let value : digits_after x s ≡ x * 10 ^ k + digits_value s = after_scale s x in
    let first : (x * 10 ^ k + digits_value s) / 10 ^ k ≡ x = mul-add-div_right {m = 10 ^ k} (tens k) x (digits_value s) ∙ rw (div-eq_of_lt {n = digits_value s} {m = 10 ^ k} small) (omega arith) in
    let byte : 0x30 + x % 10 ≡ b = omega arith in
    last_front k (digits_after x s) ∙ rw (value, first, byte, last_above k x (digits_value s), last_of s r.1)

-- ## Room

pub sign_one : (v : ℤ) → length (sign_of v) ≤ 1
unfolding sign_of choose
sign_one v = go (lt_z v (pos 0))
  where
    go : (t : Bool) → length {A = ℕ} (choose t (0x2d ∷ []) []) ≤ 1
    go true = omega arith
    go false = omega arith

-- with a point they are one byte more
pub point_more : (d : ℕ) (s : List ℕ) → length (pointed (suc d) s) ≡ length s + 1
unfolding pointed
point_more d s =
    length-append (take (length s - suc d) s) (0x2e ∷ drop (length s - suc d) s)
    ∙ omega (arith, length-append (take (length s - suc d) s) (drop (length s - suc d) s), ap (λ (l : List ℕ). length l) (take-append-drop (length s - suc d) s))
