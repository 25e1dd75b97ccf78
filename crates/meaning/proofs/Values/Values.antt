-- What a defined field that was not refused says of its value, and how the value is written. Assumes nothing.
use Prim.Native.Nat.{ℕ, suc, ◌+◌, ◌*◌, ◌-◌, ◌/◌, ◌%◌, ◌^◌, ◌≤◌, ◌<◌}
use native.Mathlib.Omega.{arith}
use native.Mathlib.Nat.{pow-le-pow_right}
use mathlib.Core.Path.{◌≡◌, sym, ◌∙◌}
use mathlib.Core.Bool.{true, false, ◌&&◌}
use mathlib.Core.List.{List, [], ◌∷◌, ◌++◌, append_assoc, append-nil}
use lib.Dec.{leb, ltb, lit<}
use lib.IntN.{ℤ, pos}
use lib.ListN.{length}
use borrow.Author.Tests.{leb-true, ltb-true, not-false}
use Rattle.meaning.specs.Bytes.{digit, text_byte, every}
use Rattle.meaning.specs.Field.{Field}
use Rattle.meaning.specs.Value.{pair, digits_after, digits_value, is_digits, date_of, enumeration_of, stretch_of, text_of, is_identification, reference_of}
use Rattle.meaning.specs.Digits.{last_digits, date_bytes}
use Rattle.meaning.proofs.Tests.Unequal.{no_pair}
use Rattle.meaning.proofs.Tests.Refuse.{passed, both}
use Rattle.meaning.proofs.Values.Digits.{sign_pos}
use Rattle.meaning.proofs.Values.Dates.{date_digits}
use Rattle.meaning.proofs.Values.Counts.{digit_range, digits_below}

-- ## Digits

-- the last digits of a value that digits have are these digits
last_after : (s : List ℕ) (n k : ℕ) → every digit s ≡ true → last_digits (k + length s) (digits_after n s) ≡ last_digits k n ++ s
unfolding digits_after every last_digits
last_after [] n k h = let z : k + 0 ≡ k = omega arith in rw z (sym (append-nil (last_digits k n)))
last_after (b ∷ s) n k h =
    let r = both (digit b) _ h in
    let low = digit_range b r.0 in
    let z : k + suc (length s) ≡ suc k + length s = omega arith in
    let q : (n * 10 + (b - 0x30)) / 10 ≡ n = omega arith in
    let p : 0x30 + (n * 10 + (b - 0x30)) % 10 ≡ b = omega arith in
    let ih = last_after s (n * 10 + (b - 0x30)) (suc k) r.1 in
    rw z (ih ∙ (rw (q, p) (append_assoc (last_digits k n) (b ∷ []) s)))

record IsDigits (least most : ℕ) (s : List ℕ) : Type 0 where
  low : least ≤ length s
  high : length s ≤ most
  digits : every digit s ≡ true

is_digits_lem : (least most : ℕ) (s : List ℕ) → is_digits least most s ≡ true → IsDigits least most s
unfolding is_digits
is_digits_lem least most s h =
    let r = both (leb least (length s) && leb (length s) most) (every digit s) h in
    let q = both (leb least (length s)) (leb (length s) most) r.0 in
    record { low = leb-true least (length s) q.0; high = leb-true (length s) most q.1; digits = r.1 }

-- ## Dates and leaves

pub record DateGiven (s : List ℕ) (a b : ℤ) : Type 0 where
  pub value : ℕ
  pub first : a ≡ pos 1
  pub second : b ≡ pos value
  pub bytes : date_bytes (pos value) ≡ s

pub date_given : (s : List ℕ) (a b : ℤ) → date_of s ≡ pair a b → DateGiven s a b
unfolding date_of date_bytes digits_after last_digits
date_given s a b e =
    let p = passed _ _ _ _ (no_pair 13 a b) e in
    let q = passed _ _ _ _ (no_pair 14 a b) p.1 in
    let d = is_digits_lem 8 8 s (not-false _ p.0) in
    let low = d.low in
    let high = d.high in
    let eight : length s ≡ 8 = omega arith in
    let eight' : 0 + length s ≡ 8 = omega arith in
    let small : digits_after 0 s < 10 ^ 8 = rw eight' at (digits_below s 0 0 d.digits (omega arith)) in
    let back : last_digits 8 (digits_after 0 s) ≡ s = rw eight' at (last_after s 0 0 d.digits) in
    record { value = digits_after 0 s; first = cc q.1; second = cc q.1; bytes = rw (sign_pos (digits_after 0 s), date_digits (digits_after 0 s) small) back }

pub record LeafGiven (leaves : ℕ) (a b : ℤ) : Type 0 where
  pub value : ℕ
  pub first : a ≡ pos 1
  pub second : b ≡ pos value
  pub small : value < 10 ^ 18
  pub below : value < leaves

pub leaf_given : (leaves : ℕ) (s : List ℕ) (a b : ℤ) → enumeration_of leaves s ≡ pair a b → LeafGiven leaves a b
unfolding enumeration_of
leaf_given leaves s a b e =
    let p = passed _ _ _ _ (no_pair 13 a b) e in
    let q = passed _ _ _ _ (no_pair 14 a b) p.1 in
    let d = is_digits_lem 1 18 s (not-false _ p.0) in
    let high = d.high in
    let below : digits_after 0 s < 10 ^ 18 =
    omega (arith, digits_below s 0 0 d.digits (omega arith), pow-le-pow_right {n = 10} (lit< tt) {i = 0 + length s} {j = 18} (omega arith)) in
    record { value = digits_value s; first = cc q.1; second = cc q.1; small = below; below = ltb-true (digits_value s) leaves (not-false _ q.0) }

-- ## Texts and references

pub record TextGiven (longest : ℕ) (f : Field) (a b : ℤ) : Type 0 where
  pub bytes : every text_byte f.bytes ≡ true
  pub short : ltb longest (length f.bytes) ≡ false
  pub first : a ≡ pos (1 + length f.bytes)
  pub second : b ≡ pos f.start

pub text_given : (longest : ℕ) (f : Field) (a b : ℤ) → text_of longest f ≡ pair a b → TextGiven longest f a b
unfolding text_of stretch_of
text_given longest f a b e =
    let p = passed _ _ _ _ (no_pair 13 a b) e in
    let q = passed _ _ _ _ (no_pair 14 a b) p.1 in
    record { bytes = not-false _ p.0; short = q.0; first = cc q.1; second = cc q.1 }

pub record NameGiven (f : Field) (a b : ℤ) : Type 0 where
  pub shape : is_identification f.bytes ≡ true
  pub first : a ≡ pos (1 + length f.bytes)
  pub second : b ≡ pos f.start

pub name_given : (f : Field) (a b : ℤ) → reference_of f ≡ pair a b → NameGiven f a b
unfolding reference_of stretch_of
name_given f a b e =
    let p = passed _ _ _ _ (no_pair 13 a b) e in
    record { shape = not-false _ p.0; first = cc p.1; second = cc p.1 }
