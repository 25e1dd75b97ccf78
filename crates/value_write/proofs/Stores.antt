-- Digits stored from the back, and runs of bytes stored in parts. Assumes nothing.
use Prim.Native.Nat.{ℕ, zero, suc, ◌+◌, ◌-◌, ◌/◌, ◌%◌, ◌≤◌, ◌<◌, ◌^◌}
use native.Mathlib.Nat.{zero-add, le_refl}
use native.Mathlib.Numerals.{add-one}
use native.Mathlib.Omega.{arith}
use mathlib.Core.Path.{◌≡◌, sym, ap, ◌∙◌}
use mathlib.Core.List.{List, [], ◌∷◌, ◌++◌, append_assoc, append-nil}
use lib.IntN.{ℤ, nat_abs}
use lib.ListN.{length, take, drop, get_or, set, length-set, length-append, length-drop, drop_of_length-le}
use lib.Seq.{sets, sets-eq, length-sets, drop-cons, drop-set-lt, get_or-set_same, append_snoc, length-take-le, take-suc, take_at, drop_at, set_at, drop-append-add, drop-drop}
use borrow.Rule.Slice.PartMut.{put_mid, mid_of, mid_len, Post-is}
use Rattle.meaning.specs.Digits.{last_digits, digits_of, pointed, sign_of}
use Rattle.meaning.proofs.Values.Digits.{last_length}
use Rattle.meaning.proofs.Values.Shortest.{div_tens, last_pointed}
use Rattle.value_write.specs.Written.{point_size, value_bytes}

-- ## A digit stored in front of those that stand

pub put_turn : (i m : ℕ) (out l : List ℕ) → 0 < i → i ≤ length out → last_digits i m ++ drop i out ≡ l → last_digits (i - 1) (m / 10) ++ drop (i - 1) (set out (i - 1) (0x30 + m % 10)) ≡ l
unfolding last_digits
put_turn zero m out l a h e = absurd (omega arith)
put_turn (suc j) m out l a h e =
    let z : suc j - 1 ≡ j = omega arith in
    let d : ℕ = 0x30 + m % 10 in
    let stands : drop j (set out j d) ≡ d ∷ drop (suc j) out =
    drop-cons (set out j d) j 0 (rw (length-set out j d) (omega arith)) ∙ rw (get_or-set_same out j d 0 (omega arith), drop-set-lt (suc j) out j d (omega arith)) in
    rw (z, stands) (sym (append_snoc (last_digits j (m / 10)) d (drop (suc j) out)) ∙ e)

pub left_turn : (i m k : ℕ) → 0 < i → m / 10 ^ i ≡ k → m / 10 / 10 ^ (i - 1) ≡ k
left_turn zero m k a e = absurd (omega arith)
left_turn (suc j) m k a e = let z : suc j - 1 ≡ j = omega arith in rw z (div_tens m j ∙ e)

pointed_at : (d a n : ℕ) → 0 < d → pointed d (last_digits (a + d) n) ≡ last_digits a (n / 10 ^ d) ++ (0x2e ∷ last_digits d n)
pointed_at zero a n h = absurd (omega arith)
pointed_at (suc d) a n h = last_pointed a d n

-- ## Whole and decimals in their parts of a slice, and the point between them

-- a part of a slice that is put anew up to its end
put_rest : (a : ℕ) (xs ys : List ℕ) → put_mid a (length xs - a) xs ys ≡ take a xs ++ ys
put_rest a xs ys = ap (λ (t : List ℕ). take a xs ++ (ys ++ t)) (drop_of_length-le (drop a xs) {i = length xs - a} (omega (arith, length-drop a xs))) ∙ rw (append-nil ys)

-- a part from the front put anew
put_front : (p : ℕ) (xs ys : List ℕ) → put_mid 0 (p - 0) xs ys ≡ ys ++ drop p xs
put_front p xs ys = let z : p - 0 ≡ p = omega arith in rw z

-- the byte at p and what was put behind it
behind_point_lem : (p : ℕ) (xs ys : List ℕ) → p < length xs → drop p (take (p + 1) xs ++ ys) ≡ get_or xs p 0 ∷ ys
behind_point_lem p xs ys h =
    let l : length (take (p + 1) xs) ≡ p + 1 = length-take-le (p + 1) xs (omega arith) in
    let one : take (p + 1) xs ≡ take p xs ++ (get_or xs p 0 ∷ []) = ap (λ (k : ℕ). take k xs) (add-one p) ∙ take-suc xs p 0 h in
    rw (one, append_snoc (take p xs) (get_or xs p 0) ys) (drop_at (take p xs) (get_or xs p 0 ∷ ys) p (length-take-le p xs (omega arith)))

module _ (d n w : ℕ) (xs ys zs : List ℕ) (above : 0 < d) (room : d < length xs) where
  abbrev pub point_at : ℕ
  point_at = length xs - 1 - d

  -- the slice once its decimals stand
  abbrev pub decimals_put : List ℕ
  decimals_put = put_mid (point_at + 1) (length xs - (point_at + 1)) xs ys

  module _ (left : w ≡ n / 10 ^ length (mid_of (point_at + 1) (length xs - (point_at + 1)) xs))
      (decimals : ys ≡ last_digits (length (mid_of (point_at + 1) (length xs - (point_at + 1)) xs)) n) where
    decimals_size : length (mid_of (point_at + 1) (length xs - (point_at + 1)) xs) ≡ d
    decimals_size = mid_len (point_at + 1) (length xs) xs (le_refl _) ∙ omega arith

    ys_size : length ys ≡ d
    ys_size = ap (λ (l : List ℕ). length l) decimals ∙ last_length _ n ∙ decimals_size

    pub decimals_length : length decimals_put ≡ length xs
    decimals_length = rw (put_rest (point_at + 1) xs ys) (length-append (take (point_at + 1) xs) ys ∙ rw (length-take-le (point_at + 1) xs (omega arith)) (omega (arith, ys_size)))

    module _ (whole : zs ≡ last_digits (length (mid_of 0 (point_at - 0) decimals_put)) w) where
      whole_size_lem : length (mid_of 0 (point_at - 0) decimals_put) ≡ point_at
      whole_size_lem = mid_len 0 point_at decimals_put (omega (arith, decimals_length)) ∙ omega arith

      zs_size : length zs ≡ point_at
      zs_size = ap (λ (l : List ℕ). length l) whole ∙ last_length _ w ∙ whole_size_lem

      -- both parts stand
      pub parts_put : put_mid 0 (point_at - 0) decimals_put zs ≡ zs ++ (get_or xs point_at 0 ∷ ys)
      parts_put = put_front point_at decimals_put zs ∙ rw (put_rest (point_at + 1) xs ys, behind_point_lem point_at xs ys (omega arith))

      pub point_put : set (put_mid 0 (point_at - 0) decimals_put zs) point_at 0x2e ≡ pointed d (last_digits (length xs - 1) n)
      point_put =
          let e : zs ≡ last_digits point_at (n / 10 ^ d) = whole ∙ rw (whole_size_lem, left, decimals_size) in
          let f : ys ≡ last_digits d n = decimals ∙ rw decimals_size in
          ap (λ (l : List ℕ). set l point_at 0x2e) parts_put
          ∙ set_at zs (get_or xs point_at 0) ys 0x2e point_at zs_size
          ∙ rw (e, f) (sym (pointed_at d point_at n above) ∙ ap (λ (k : ℕ). pointed d (last_digits k n)) (omega arith))

-- ## A value in front of a slice: its sign, then its digits

-- without decimals the digits stand as they are
pub pointed_none : (d m n : ℕ) → d ≡ 0 → last_digits m n ≡ pointed d (last_digits (m - point_size d) n)
unfolding pointed
pointed_none zero m n e = ap (λ (k : ℕ). last_digits k n) (omega arith)
pointed_none (suc d) m n e = absurd (omega arith)

pub pointed_size : (d : ℕ) (s : List ℕ) → d < length s → length (pointed d s) ≡ length s + point_size d
unfolding pointed
pointed_size zero s h = omega arith
pointed_size (suc d) s h =
    length-append (take (length s - suc d) s) (0x2e ∷ drop (length s - suc d) s)
    ∙ omega (arith, length-take-le (length s - suc d) s (omega arith), length-drop (length s - suc d) s)

pub point_most : (d : ℕ) → point_size d ≤ 1
point_most zero = omega arith
point_most (suc d) = omega arith

-- a sign in front, then p in the part from s to e
pub signed_put : (xs ys p sign : List ℕ) (s e : ℕ) → s ≡ length sign → e ≡ s + length p → e ≤ length xs → ys ≡ sets xs 0 sign
    → put_mid s (e - s) ys p ≡ sets xs 0 (sign ++ p)
signed_put xs ys p sign s e hs he room signs =
    let n : length (sign ++ p) ≡ e = length-append sign p ∙ omega arith in
    let front : ys ≡ sign ++ drop s xs = signs ∙ sets-eq sign xs 0 (omega arith) ∙ rw (zero-add, ← hs) in
    let whole : sets xs 0 (sign ++ p) ≡ sign ++ p ++ drop e xs = sets-eq (sign ++ p) xs 0 (omega arith) ∙ rw (zero-add, n) in
    let a : take s ys ≡ sign = rw front (take_at sign (drop s xs) s (sym hs)) in
    let b : drop e ys ≡ drop e xs = rw (front, he, hs) (drop-append-add sign (drop (length sign) xs) (length p) ∙ drop-drop (length p) (length sign) xs) in
    rw (Post-is s e ys (omega arith), whole, a, b) (sym (append_assoc sign p (drop e xs)))

module _ (least d size n s e : ℕ) (v : ℤ) (xs ys p : List ℕ) (digits : digits_of least n ≡ last_digits size n) (signs : s ≡ length (sign_of v)) (abs : n ≡ nat_abs v)
    (low : d < size) (end : e ≡ s + size + point_size d) (room : e ≤ length xs) (first : ys ≡ sets xs 0 (sign_of v))
    (parts : p ≡ pointed d (last_digits (length (mid_of s (e - s) ys) - point_size d) n)) where
  part_bytes : p ≡ pointed d (digits_of least (nat_abs v))
  part_bytes =
      let l : length ys ≡ length xs = ap (λ (l : List ℕ). length l) first ∙ length-sets xs 0 (sign_of v) in
      let m : length (mid_of s (e - s) ys) - point_size d ≡ size = rw (mid_len s e ys (omega arith)) (omega arith) in
      parts ∙ rw (m, ← digits, abs)

  part_size : length p ≡ size + point_size d
  part_size =
      let l = last_length size n in
      ap (λ (l : List ℕ). length l) part_bytes ∙ rw (← abs, digits) (pointed_size d (last_digits size n) (omega arith) ∙ rw l)

  pub value_put : (e ≡ length (value_bytes least d v)) × (put_mid s (e - s) ys p ≡ sets xs 0 (value_bytes least d v))
  value_put = (
    omega (arith, part_size, length-append (sign_of v) (pointed d (digits_of least (nat_abs v))), ap (λ (l : List ℕ). length l) part_bytes),
    signed_put xs ys p (sign_of v) s e signs (omega (arith, part_size)) room first ∙ ap (λ (l : List ℕ). sets xs 0 (sign_of v ++ l)) part_bytes,
  )
