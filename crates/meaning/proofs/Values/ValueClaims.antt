-- The claims of specs/ValueClaims.antt. Assumes nothing.
use Prim.Native.Nat.{ℕ, zero, suc, ◌+◌, ◌-◌, ◌%◌, ◌^◌, ◌≤◌, ◌<◌}
use native.Mathlib.Nat.{zero-add}
use native.Mathlib.Omega.{arith}
use mathlib.Core.Path.{◌≡◌, refl, sym, ap, ◌∙◌, subst}
use mathlib.Core.Bool.{Bool, true, false, not, ◌&&◌, ◌||◌}
use mathlib.Core.List.{List, [], ◌∷◌, ◌++◌}
use lib.Dec.{eqb, ltb}
use lib.IntN.{ℤ, pos, negsuc, neg_ℤ, nat_abs}
use lib.ListN.{length, take, drop, get_or, length-append, length-take, length-drop, take-append-drop}
use borrow.Author.Tests.{eqb-true, eqb-false, eq-eqb, ne_eqb}
use Rattle.meaning.specs.Bytes.{choose, refuse, digit, every, begins}
use Rattle.meaning.specs.Model.{Component, Reference, Coordinate, Number, Text, Date, Enumeration, Line}
use Rattle.meaning.specs.Value.{Value, pair, wrong, digits_value, is_digits, unsigned, signed, is_number, number_digits, within, number_of, is_leap_year, days_of_month, is_day, date_of, enumeration_of, stretch_of, text_of, is_identification, reference_of, value_of}
use Rattle.meaning.specs.Shapes as shapes
use Rattle.meaning.specs.Shapes.{Runs, Numeral, Shape}
use Rattle.meaning.specs.Digits.{last_digits, digits_of, sign_of, pointed, number_bytes, date_bytes}
use Rattle.meaning.specs.ValueClaims.{FieldsExactly, NumberExactly, DateExactly, EnumerationExactly, WrongExactly, NumberReads, EnumerationReads, DateReads, NumberBytesDiffer, DateBytesDiffer, NumberShortest, EnumerationShortest, DateOnly, LeapYears, DaysAlike, DaysRepeat}
use Rattle.meaning.proofs.Unfolding.Cuts.{both}
use Rattle.meaning.proofs.Values.Runs.{runs_fields, fields_runs}
use Rattle.meaning.proofs.Values.Shapes.{right, wrong_13, wrong_14, number_judged, date_judged, leaf_judged, text_judged, reference_judged}
use Rattle.meaning.proofs.Values.Digits.{every_append, last_digits_lem, last_length, last_value, short_digits, short_value, short_least, parts_digits, no_sign, sign_pos, sign_neg, number_reads, leaf_reads, digits_are}
use Rattle.meaning.proofs.Values.Dates.{date_reads}
use Rattle.meaning.proofs.Values.Counts.{digits_below}
use Rattle.meaning.proofs.Values.Shortest.{digits_count, digits_most, last_of, sign_one, point_more}

-- ## Fields and values are those of the grammar

pub fields_exactly : FieldsExactly
fields_exactly start l fs = (λ e. subst (Runs start l) e (fields_runs start l), runs_fields)

numeral_of : {c : Component} {s : List ℕ} {v : ℤ} → Shape (Number c) s v → Numeral c.decimals s v
numeral_of (shapes.number n) = n

pub number_exactly : NumberExactly
unfolding number_of
number_exactly c s v =
    let r = right (number_judged c s) v in
    (λ e. (numeral_of (r.0 e).0, (r.0 e).1), λ h. r.1 (shapes.number h.0, h.1))

pub date_exactly : DateExactly
unfolding date_of
date_exactly s v = right (date_judged s) v

pub enumeration_exactly : EnumerationExactly
unfolding enumeration_of
enumeration_exactly leaves s v = right (leaf_judged leaves s) v

pub wrong_exactly : WrongExactly
unfolding value_of number_of date_of enumeration_of text_of reference_of is_identification stretch_of refuse
wrong_exactly (Reference t) f h = let j = reference_judged t f.bytes in (wrong_13 j _ _, wrong_14 j _ _)
wrong_exactly (Coordinate cs) f h = absurd h
wrong_exactly (Number c) f h = let j = number_judged c f.bytes in (wrong_13 j _ _, wrong_14 j _ _)
wrong_exactly (Text longest) f h = let j = text_judged longest f.bytes in (wrong_13 j _ _, wrong_14 j _ _)
wrong_exactly Date f h = let j = date_judged f.bytes in (wrong_13 j _ _, wrong_14 j _ _)
wrong_exactly (Enumeration leaves) f h = let j = leaf_judged leaves f.bytes in (wrong_13 j _ _, wrong_14 j _ _)
wrong_exactly (Line forms cs) f h = absurd h

-- ## What is written reads as the value

pub number_claim : NumberReads
number_claim = number_reads

pub enumeration_claim : EnumerationReads
enumeration_claim = leaf_reads

pub date_claim : DateReads
date_claim = date_reads

-- ## Two values with the same bytes are equal

-- the value of bytes that were written with d decimals
back : ℕ → List ℕ → ℤ
back d s = signed s (digits_value (number_digits d (unsigned s)))

pointed_back : (d : ℕ) (s : List ℕ) → d < length s → number_digits d (pointed d s) ≡ s
unfolding number_digits pointed
pointed_back zero s h = refl
pointed_back (suc d) s h =
    parts_digits d (take (length s - suc d) s) (drop (length s - suc d) s) (rw (length-drop (length s - suc d) s) (omega arith))
    ∙ take-append-drop (length s - suc d) s

-- digits with a point begin with a digit
digit_first : (d c : ℕ) (s : List ℕ) → d < length s → every digit s ≡ true → c < 0x30 → begins c (pointed d s) ≡ false
unfolding pointed every
digit_first d c [] h e l = absurd (omega arith)
digit_first zero c (b ∷ s) h e l = no_sign b c s (both (digit b) _ e).0 l
digit_first (suc d) c (b ∷ s) h e l =
    let k : suc (length s) - suc d ≡ suc (length s - suc d) = omega arith in
    rw k (no_sign b c _ (both (digit b) _ e).0 l)

module _ (least d : ℕ) (low : d < least) (most : least ≤ 19) where
  some : (n : ℕ) → d < length (digits_of least n)
  unfolding digits_of
  some n = omega (arith, short_least least (last_digits 19 n) (rw (last_length 19 n) (omega arith)))

  all : (n : ℕ) → every digit (digits_of least n) ≡ true
  unfolding digits_of
  all n = short_digits least (last_digits 19 n) (last_digits_lem 19 n)

  value : (n : ℕ) → n < 10 ^ 19 → digits_value (digits_of least n) ≡ n
  unfolding digits_of
  value n h = short_value least (last_digits 19 n) ∙ last_value 19 n h

  value_back : (v : ℤ) → nat_abs v < 10 ^ 19 → back d (sign_of v ++ pointed d (digits_of least (nat_abs v))) ≡ v
  unfolding back unsigned signed choose begins
  value_back (pos n) h =
      rw (
        sign_pos n,
        digit_first d 0x2b (digits_of least n) (some n) (all n) (omega arith),
        digit_first d 0x2d (digits_of least n) (some n) (all n) (omega arith),
        pointed_back d (digits_of least n) (some n),
        value n h,
      )
  value_back (negsuc n) h = rw (sign_neg n) (rw (pointed_back d (digits_of least (suc n)) (some (suc n)), value (suc n) h))

pub number_differ : NumberBytesDiffer
unfolding number_bytes
number_differ d v w h a b e =
    sym (value_back (d + 1) d (omega arith) (omega arith) v a) ∙ ap (back d) e ∙ value_back (d + 1) d (omega arith) (omega arith) w b

pub date_differ : DateBytesDiffer
unfolding date_bytes pointed
date_differ v w a b e = sym (value_back 8 0 (omega arith) (omega arith) v a) ∙ ap (back 0) e ∙ value_back 8 0 (omega arith) (omega arith) w b

-- ## Nothing shorter

-- what a value that is not refused says of the test
passed : (t : Bool) (n : ℕ) (rest : Value) (a b : ℤ) → refuse (not t) (wrong n) rest ≡ pair a b → (t ≡ true) × (rest ≡ pair a b)
unfolding refuse
passed true n rest a b e = (refl, e)
passed false n rest a b e = let z : ◌≡◌ {A = ℕ} 0 1 = cc in absurd (omega arith)

second : (a b x y : ℤ) → pair a b ≡ pair x y → b ≡ y
second a b x y e = cc

-- so many digits hold their value, and its shortest digits are no more
few : (least : ℕ) (s : List ℕ) → least ≤ length s → length s ≤ 18 → every digit s ≡ true → length (digits_of least (digits_value s)) ≤ length s
few least s l h d = digits_most least (length s) (digits_value s) l (rw (zero-add (length s)) at (digits_below s 0 0 d (omega arith))) (omega arith)

pub enumeration_shortest : EnumerationShortest
unfolding enumeration_of number_bytes pointed
enumeration_shortest leaves n s e =
    let a = passed (is_digits 1 18 s) 13 _ _ _ e in
    let b = passed (ltb (digits_value s) leaves) 14 _ _ _ a.1 in
    let d = digits_are 1 18 s a.0 in
    let v : digits_value s ≡ n = cc b.1 in
    rw (sign_pos n, ← v) (few 1 s d.0 d.1 d.2)

-- a sign takes one byte of the field, and only one below zero is written
sign_none : (n : ℕ) → length (sign_of (pos n)) ≡ 0
sign_none n = rw (sign_pos n)

sign_fits : (s : List ℕ) (n : ℕ) → length (sign_of (signed s n)) + length (unsigned s) ≤ length s
unfolding signed unsigned begins choose
sign_fits [] n = omega (arith, sign_none n)
sign_fits (b ∷ s) n = go (eqb b 0x2b) (eqb b 0x2d)
  where
    go : (plus minus : Bool) → length (sign_of (choose minus (neg_ℤ (pos n)) (pos n))) + length (choose (plus || minus) s (b ∷ s)) ≤ suc (length s)
    go true true = omega (arith, sign_one (neg_ℤ (pos n)))
    go true false = omega (arith, sign_none n)
    go false true = omega (arith, sign_one (neg_ℤ (pos n)))
    go false false = omega (arith, sign_none n)

abs_signed : (s : List ℕ) (n : ℕ) → nat_abs (signed s n) ≡ n
unfolding signed choose
abs_signed s n = go (begins 0x2d s) n
  where
    go : (t : Bool) (n : ℕ) → nat_abs (choose t (neg_ℤ (pos n)) (pos n)) ≡ n
    go true zero = refl
    go true (suc n) = refl
    go false n = refl

number_few : (d : ℕ) (u : List ℕ) → is_number d u ≡ true → length (pointed d (digits_of (d + 1) (digits_value (number_digits d u)))) ≤ length u
unfolding is_number number_digits pointed
number_few zero u h = let r = digits_are 1 18 u h in few 1 u r.0 r.1 r.2
number_few (suc d) u h =
    let w : ℕ = length u - (suc d + 1) in
    let r = both (eqb (get_or u w 0) 0x2e && is_digits 1 (18 - suc d) (take w u)) (is_digits (suc d) (suc d) (drop (w + 1) u)) h in
    let a = digits_are 1 (18 - suc d) (take w u) (both (eqb (get_or u w 0) 0x2e) (is_digits 1 (18 - suc d) (take w u)) r.0).1 in
    let b = digits_are (suc d) (suc d) (drop (w + 1) u) r.1 in
    let t : List ℕ = take w u ++ drop (w + 1) u in
    let l : length t ≡ length (take w u) + length (drop (w + 1) u) = length-append (take w u) (drop (w + 1) u) in
    let m : length (take w u) ≤ w = rw (length-take w u) (omega arith) in
    let n = length-drop (w + 1) u in
    let f = few (suc d + 1) t (omega arith) (omega arith) (every_append digit (take w u) (drop (w + 1) u) a.2 b.2) in
    omega (arith, f, point_more d (digits_of (suc d + 1) (digits_value t)))

pub number_shortest : NumberShortest
unfolding number_of number_bytes
number_shortest c v s e =
    let u : List ℕ = unsigned s in
    let n : ℕ = digits_value (number_digits c.decimals u) in
    let a = passed (is_number c.decimals u) 13 _ _ _ e in
    let b = passed (within c (signed s n)) 14 _ _ _ a.1 in
    let same : signed s n ≡ v = second (pos 1) (signed s n) (pos 1) v b.1 in
    rw (← same, abs_signed s n)
    (omega (arith, length-append (sign_of (signed s n)) (pointed c.decimals (digits_of (c.decimals + 1) n)), sign_fits s n, number_few c.decimals u a.0))

pub date_only : DateOnly
unfolding date_of date_bytes
date_only v s e =
    let a = passed (is_digits 8 8 s) 13 _ _ _ e in
    let b = passed (is_day (digits_value (take 4 s)) (digits_value (take 2 (drop 4 s))) (digits_value (drop 6 s))) 14 _ _ _ a.1 in
    let same : pos (digits_value s) ≡ v = second (pos 1) (pos (digits_value s)) (pos 1) v b.1 in
    let d = digits_are 8 8 s a.0 in
    let size : length s ≡ 8 = omega arith in
    let small = rw size at (digits_below s 0 0 d.2 (omega arith)) in
    rw (← same, sign_pos (digits_value s))
    (digits_count 8 8 (digits_value s) (omega arith) small (omega arith) (λ j l h. absurd (omega arith)) ∙ rw size at (last_of s d.2))

pub leap_years : LeapYears
unfolding is_leap_year choose
leap_years year = go (eqb (year % 100) 0) refl where
  alone : (t : Bool) → t ≡ ((t && true) || false)
  alone true = refl
  alone false = refl

  go : (t : Bool) → eqb (year % 100) 0 ≡ t
      → is_leap_year year ≡ ((eqb (year % 4) 0 && not (eqb (year % 100) 0)) || eqb (year % 400) 0)
  go true e =
      let whole : year % 100 ≡ 0 = eqb-true _ _ e in
      rw (e, eq-eqb (year % 4) 0 (omega arith))
  go false e =
      let none : eqb (year % 400) 0 ≡ false = ne_eqb (year % 400) 0 (λ z. eqb-false (year % 100) 0 e (omega arith)) in
      rw (e, none) (alone (eqb (year % 4) 0))

pub days_alike : DaysAlike
unfolding is_day days_of_month
days_alike year other month day e = rw e

pub days_repeat : DaysRepeat
unfolding is_day days_of_month is_leap_year
days_repeat year month day =
    let by-100 : (year + 400) % 100 ≡ year % 100 = omega arith in
    let by-400 : (year + 400) % 400 ≡ year % 400 = omega arith in
    let by_4 : (year + 400) % 4 ≡ year % 4 = omega arith in
    rw (by-100, by-400, by_4)
