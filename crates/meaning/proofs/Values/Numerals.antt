-- Numbers, dates and leaves as writing writes them: fields that no undefined byte and no separator spoils. Assumes nothing.
use Prim.Native.Nat.{ℕ, zero, suc, ◌+◌, ◌-◌, ◌^◌, ◌≤◌, ◌<◌}
use native.Mathlib.Omega.{arith}
use mathlib.Core.Path.{◌≡◌, refl, sym, ap, ◌∙◌}
use mathlib.Core.Bool.{Bool, true, false, ◌&&◌, false≢true, true≢false}
use mathlib.Core.List.{List, [], ◌∷◌, ◌++◌}
use lib.Dec.{eqb, leb, ltb}
use lib.IntN.{ℤ, pos, negsuc, nat_abs}
use lib.ListN.{length, take, length-append}
use borrow.Author.Tests.{ne_eqb, leb-true, le-leb, not-true}
use Rattle.meaning.specs.Bytes.{choose, all_of, separator, digit, letter, every, same}
use Rattle.meaning.specs.Model.{Component}
use Rattle.meaning.specs.Check.{special, good_component}
use Rattle.meaning.specs.Value.{pair, within, number_of}
use Rattle.meaning.specs.Digits.{digits_of, sign_of, pointed, number_bytes, date_bytes}
use Rattle.meaning.proofs.Tests.Refuse.{both}
use Rattle.meaning.proofs.Reading.Fields.{solid, Solid}
use Rattle.meaning.proofs.Values.Digits.{digits_of_lem, number_reads, below, least_digits, pointed_length, holds, every_take, every_drop}

-- ## Fields that say something

-- a field that is one, and that is not undefined, where u is the undefined byte
pub record Defined (u : ℕ) (f : List ℕ) : Type 0 where
  pub solid : Solid f
  pub one : same f (u ∷ []) ≡ false
  pub two : same f (u ∷ u ∷ []) ≡ false

-- a number's field, as it is written, is defined and reads as the number
pub record NumberOk (u : ℕ) (k : Component) (v : ℤ) : Type 0 where
  pub field : Defined u (number_bytes k.decimals v)
  pub reads : number_of k (number_bytes k.decimals v) ≡ pair (pos 1) v

-- ## Bytes of numerals

pub data Numeral (b : ℕ) : Type 0 where
  is_digit : 0x30 ≤ b → b ≤ 0x39 → Numeral b
  is_minus : b ≡ 0x2d → Numeral b
  is_point : b ≡ 0x2e → Numeral b

abbrev pub Numerals : List ℕ → Type 0
Numerals [] = Unit {0}
Numerals (b ∷ s) = Numeral b × Numerals s

numerals_append : (s t : List ℕ) → Numerals s → Numerals t → Numerals (s ++ t)
numerals_append [] t p q = q
numerals_append (b ∷ s) t p q = (p.0, numerals_append s t p.1 q)

digits_numerals : (s : List ℕ) → every digit s ≡ true → Numerals s
unfolding every digit
digits_numerals [] h = tt
digits_numerals (b ∷ s) h =
    let r = both (leb 0x30 b && leb b 0x39) (every digit s) h in
    let q = both (leb 0x30 b) (leb b 0x39) r.0 in
    (is_digit (leb-true 0x30 b q.0) (leb-true b 0x39 q.1), digits_numerals s r.1)

pointed_numerals : (d : ℕ) (s : List ℕ) → every digit s ≡ true → Numerals (pointed d s)
unfolding pointed
pointed_numerals zero s h = digits_numerals s h
pointed_numerals (suc d) s h =
    numerals_append (take (length s - suc d) s) _ (digits_numerals _ (every_take digit (length s - suc d) s h))
    (is_point refl, digits_numerals _ (every_drop digit (length s - suc d) s h))

sign_numerals : (v : ℤ) → Numerals (sign_of v)
unfolding sign_of choose
sign_numerals (pos n) = go (ltb n 0)
  where
    go : (t : Bool) → Numerals (choose t (0x2d ∷ []) [])
    go true = (is_minus refl, tt)
    go false = tt
sign_numerals (negsuc n) = (is_minus refl, tt)

numeral_solid : (b : ℕ) → Numeral b → solid b ≡ true
unfolding solid separator
numeral_solid b (is_digit l h) = rw (ne_eqb b 0x20 (omega arith), ne_eqb b 0x09 (omega arith))
numeral_solid b (is_minus e) = rw e
numeral_solid b (is_point e) = rw e

numerals_solid : (s : List ℕ) → Numerals s → 1 ≤ length s → Solid s
unfolding every
numerals_solid [] h l = absurd (omega arith)
numerals_solid (b ∷ s) h l = rw (numeral_solid b h.0) (all s h.1)
  where
    all : (s : List ℕ) → Numerals s → every solid s ≡ true
    all [] h = refl
    all (b ∷ s) h = rw (numeral_solid b h.0) (all s h.1)

special_digit : (u : ℕ) → special u ≡ true → digit u ≡ false
unfolding special
special_digit u h = not-true (digit u) (holds _ 3 h)

digit_byte : (b : ℕ) → 0x30 ≤ b → b ≤ 0x39 → digit b ≡ true
unfolding digit
digit_byte b l g = rw (le-leb 0x30 b l, le-leb b 0x39 g)

-- a special byte is of no numeral
numeral_special : (u b : ℕ) → special u ≡ true → Numeral b → eqb b u ≡ false
unfolding special digit letter all_of
numeral_special u b h n = ne_eqb b u (λ e. clash n e)
  where
    clash : Numeral b → b ≡ u → ⊥
    clash (is_digit l g) e = true≢false (sym (digit_byte b l g) ∙ ap digit e ∙ special_digit u h)
    clash (is_minus z) e = false≢true (rw (sym e ∙ z) at h)
    clash (is_point z) e = false≢true (rw (sym e ∙ z) at h)

same_special : (u : ℕ) (s k : List ℕ) → special u ≡ true → Numerals s → 1 ≤ length s → same s (u ∷ k) ≡ false
unfolding same
same_special u [] k h n l = absurd (omega arith)
same_special u (b ∷ s) k h n l = rw (numeral_special u b h n.0)

numerals_defined : (u : ℕ) (s : List ℕ) → special u ≡ true → Numerals s → 1 ≤ length s → Defined u s
numerals_defined u s h n l = record { solid = numerals_solid s n l; one = same_special u s [] h n l; two = same_special u s (u ∷ []) h n l }

-- ## What is written

pub number_defined : (u d : ℕ) (v : ℤ) → special u ≡ true → d + 1 ≤ 18 → nat_abs v < 10 ^ 18 → Defined u (number_bytes d v)
unfolding number_bytes
number_defined u d v h least small =
    let r = digits_of_lem (d + 1) (nat_abs v) least small in
    let low = r.low in
    numerals_defined u _ h (numerals_append (sign_of v) _ (sign_numerals v) (pointed_numerals d _ r.digits))
    (rw (length-append (sign_of v) (pointed d (digits_of (d + 1) (nat_abs v)))) (omega (arith, pointed_length d (digits_of (d + 1) (nat_abs v)))))

pub number_writes : (u : ℕ) (k : Component) (v : ℤ) → special u ≡ true → good_component k ≡ true → within k v ≡ true → NumberOk u k v
number_writes u k v h g w = record { field = number_defined u k.decimals v h (least_digits k g) (below k v g w); reads = number_reads k v g w }

pub date_defined : (u n : ℕ) → special u ≡ true → n < 10 ^ 18 → Defined u (date_bytes (pos n))
unfolding date_bytes
date_defined u n h small =
    let r = digits_of_lem 8 n (omega arith) small in
    let low = r.low in
    numerals_defined u _ h (numerals_append (sign_of (pos n)) _ (sign_numerals (pos n)) (digits_numerals _ r.digits))
    (rw (length-append (sign_of (pos n)) (digits_of 8 n)) (omega arith))
