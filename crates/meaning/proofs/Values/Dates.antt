-- Dates: reading what writing writes. Assumes nothing.
use Prim.Native.Nat.{ℕ, suc, ◌/◌, ◌%◌, ◌^◌, ◌≤◌, ◌<◌}
use native.Mathlib.Omega.{arith}
use mathlib.Core.Path.{◌≡◌, refl, ◌∙◌}
use mathlib.Core.Bool.{Bool, true, false, ◌&&◌}
use mathlib.Core.List.{List, [], ◌∷◌}
use lib.ListN.{length, take, drop}
use lib.Dec.{eqb}
use lib.IntN.{pos}
use borrow.Author.Tests.{le-leb, lt-leb}
use Rattle.meaning.specs.Bytes.{choose, refuse}
use Rattle.meaning.specs.Value.{pair, digits_after, digits_value, is_day, date_of}
use Rattle.meaning.specs.Digits.{last_digits, shortened, digits_of, date_bytes}
use Rattle.meaning.proofs.Values.Digits.{last_digits_lem, last_length, last_value, last_more, sign_pos, is_digits_lem}

pub short_more : (least k n : ℕ) → least ≤ k → n < 10 ^ k → shortened least (last_digits (suc k) n) ≡ shortened least (last_digits k n)
unfolding shortened choose
short_more least k n h g = rw (last_more k n g) (rw (last_length k n, le-leb least k h) refl)

and_false : (t : Bool) → (t && false) ≡ false
and_false true = refl
and_false false = refl

pub short_stays : (least : ℕ) (s : List ℕ) → length s ≤ least → shortened least s ≡ s
unfolding shortened choose
short_stays least [] h = refl
short_stays least (b ∷ s) h = rw (lt-leb least (length s) h, and_false (eqb b 0x30))

pub date_digits : (n : ℕ) → n < 10 ^ 8 → digits_of 8 n ≡ last_digits 8 n
unfolding digits_of
date_digits n h =
    short_more 8 18 n (omega arith) (omega arith) ∙ short_more 8 17 n (omega arith) (omega arith) ∙ short_more 8 16 n (omega arith) (omega arith)
    ∙ short_more 8 15 n (omega arith) (omega arith) ∙ short_more 8 14 n (omega arith) (omega arith) ∙ short_more 8 13 n (omega arith) (omega arith)
    ∙ short_more 8 12 n (omega arith) (omega arith) ∙ short_more 8 11 n (omega arith) (omega arith) ∙ short_more 8 10 n (omega arith) (omega arith)
    ∙ short_more 8 9 n (omega arith) (omega arith) ∙ short_more 8 8 n (omega arith) h
    ∙ short_stays 8 (last_digits 8 n) (rw (last_length 8 n) (omega arith))

day_part : (n : ℕ) → digits_value (drop 6 (last_digits 8 n)) ≡ n % 100
unfolding digits_after last_digits
day_part n = omega arith

month_part : (n : ℕ) → digits_value (take 2 (drop 4 (last_digits 8 n))) ≡ n / 100 % 100
unfolding digits_after last_digits
month_part n = omega arith

year_part : (n : ℕ) → n < 10 ^ 8 → digits_value (take 4 (last_digits 8 n)) ≡ n / 10000
unfolding digits_after last_digits
year_part n h = omega arith

pub date_reads : (n : ℕ) → n < 10 ^ 8 → is_day (n / 10000) (n / 100 % 100) (n % 100) ≡ true → date_of (date_bytes (pos n)) ≡ pair (pos 1) (pos n)
unfolding date_of date_bytes refuse
date_reads n h d =
    rw (
      sign_pos n,
      date_digits n h,
      is_digits_lem 8 8 (last_digits 8 n) (rw (last_length 8 n) (omega arith)) (rw (last_length 8 n) (omega arith)) (last_digits_lem 8 n),
      year_part n h,
      month_part n,
      day_part n,
      d,
      last_value 8 n h,
    )
