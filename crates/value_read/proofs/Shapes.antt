-- Shapes: what digits read, and where they were too few or too many, say of a field. Assumes nothing.
use Prim.Native.Nat.{ℕ, zero, suc, ◌+◌, ◌-◌, ◌/◌, ◌%◌, ◌≤◌, ◌<◌, ◌^◌}
use native.Mathlib.Omega.{arith}
use mathlib.Core.Path.{◌≡◌, refl, ◌∙◌}
use mathlib.Core.Bool.{Bool, not, true, false, ◌&&◌, ◌||◌}
use mathlib.Core.List.{List, [], ◌∷◌, ◌++◌}
use lib.Dec.{leb, ltb, eqb}
use lib.Pointwise.{pointwise}
use Rattle.std.proofs.Common.{Option}
use lib.IntN.{ℤ, pos, negsuc, neg_ℤ}
use lib.Signed.{lt_z, le_z}
use Rattle.std.proofs.lemmas.Bool.Decides.{nat_tests}
use lib.ListN.{length, take, drop, get_or, length-take, length-drop, length-append}
use borrow.Author.Tests.{le-leb, lt-leb, ne_eqb, ltb-true, ltb-false}
use Rattle.meaning.specs.Bytes.{choose, refuse, digit, every, begins}
use Rattle.meaning.specs.Value.{digits_after, digits_value, is_digits, unsigned, signed, is_number, number_digits, within, number_of, is_day, date_of, wrong}
use Rattle.meaning.specs.Model.{Component}
use Rattle.meaning.proofs.Unfolding.Cuts.{both}
use Rattle.meaning.proofs.Values.Digits.{after_append, every_append, digits_are}
use Rattle.base.proofs.Scan.{and_false}
use Rattle.value_read.specs.Meant.{Reads, judged}
use Rattle.meaning.proofs.Values.Counts.{below_18, date_year, date_month, date_day}

-- ## So many digits

pub few_digits : (least most : ℕ) (s : List ℕ) → length s < least → is_digits least most s ≡ false
unfolding is_digits
few_digits least most s h = rw (lt-leb least (length s) h)

pub many_digits : (least most : ℕ) (s : List ℕ) → most < length s → is_digits least most s ≡ false
unfolding is_digits
many_digits least most s h = rw (lt-leb (length s) most h, and_false (leb least (length s)) refl)

-- between the two counts the digits decide
pub just_digits : (least most : ℕ) (s : List ℕ) → least ≤ length s → length s ≤ most → is_digits least most s ≡ every digit s
unfolding is_digits
just_digits least most s l h = rw (le-leb least (length s) l, le-leb (length s) most h)

pub digits_read : (least most : ℕ) (s : List ℕ) (n : ℕ) (r : Option ℕ) → least ≤ length s → length s ≤ most → Reads (every digit s) n r → Reads (is_digits least most s) n r
digits_read least most s n r l h e = rw (just_digits least most s l h) e

pub count_small : (s : List ℕ) → is_digits 1 18 s ≡ true → digits_value s < 10 ^ 18
count_small s h = let r = digits_are 1 18 s h in below_18 s 0 0 r.2 (omega arith) (omega arith)

-- ## Numbers with a point

-- the size of the whole part, as the code has it
abbrev pub whole : ℕ → List ℕ → ℕ
whole d s = length s - (d + 1)

pub pointed_short : (d : ℕ) (s : List ℕ) → 0 < d → length s ≤ d + 1 → is_number d s ≡ false
unfolding is_number is_digits
pointed_short zero s a h = absurd (omega arith)
pointed_short (suc d) s a h =
    let z : length s - (suc d + 1) ≡ 0 = omega arith in
    rw z (rw (and_false (eqb (get_or s 0 0) 0x2e) refl))

pub pointed_long : (d : ℕ) (s : List ℕ) → 0 < d → d + 1 < length s → 18 < whole d s + d → is_number d s ≡ false
unfolding is_number
pointed_long zero s a h g = absurd (omega arith)
pointed_long (suc d) s a h g =
    let w : ℕ = length s - (suc d + 1) in
    rw (many_digits 1 (18 - suc d) (take w s) (rw (length-take w s) (omega arith)), and_false (eqb (get_or s w 0) 0x2e) refl)

pub pointed_other : (d : ℕ) (s : List ℕ) → 0 < d → (get_or s (whole d s) 0 ≡ 0x2e → ⊥) → is_number d s ≡ false
unfolding is_number
pointed_other zero s a g = absurd (omega arith)
pointed_other (suc d) s a g = rw (ne_eqb (get_or s (length s - (suc d + 1)) 0) 0x2e g)

-- with the point in its place the digits of the two parts decide
pub pointed_parts : (d : ℕ) (s : List ℕ) → 0 < d → d + 1 < length s → whole d s + d ≤ 18 → get_or s (whole d s) 0 ≡ 0x2e
    → is_number d s ≡ (every digit (take (whole d s) s) && every digit (drop (whole d s + 1) s))
unfolding is_number
pointed_parts zero s a h g p = absurd (omega arith)
pointed_parts (suc d) s a h g p =
    let w : ℕ = length s - (suc d + 1) in
    rw (
      p,
      just_digits 1 (18 - suc d) (take w s) (rw (length-take w s) (omega arith)) (rw (length-take w s) (omega arith)),
      just_digits (suc d) (suc d) (drop (w + 1) s) (rw (length-drop (w + 1) s) (omega arith)) (rw (length-drop (w + 1) s) (omega arith)),
    )

pub pointed_value : (d : ℕ) (s : List ℕ) → 0 < d → digits_value (number_digits d s) ≡ digits_after (digits_value (take (whole d s) s)) (drop (whole d s + 1) s)
unfolding number_digits
pointed_value zero s a = absurd (omega arith)
pointed_value (suc d) s a = after_append 0 (take (length s - (suc d + 1)) s) (drop (length s - (suc d + 1) + 1) s)

module _ (d : ℕ) (s : List ℕ) (above : 0 < d) (size : d + 1 < length s) (few : whole d s + d ≤ 18) (point : get_or s (whole d s) 0 ≡ 0x2e) where
  -- the whole part was no digits
  pub pointed_none : every digit (take (whole d s) s) ≡ false → is_number d s ≡ false
  pointed_none e = pointed_parts d s above size few point ∙ rw e

  -- the whole part was digits, and r is what the decimals were
  pub pointed_read : (n : ℕ) (r : Option ℕ) → (every digit (take (whole d s) s) ≡ true) × (n ≡ digits_value (take (whole d s) s))
      → Reads (every digit (drop (whole d s + 1) s)) (digits_after n (drop (whole d s + 1) s)) r → Reads (is_number d s) (digits_value (number_digits d s)) r
  pointed_read n r e x =
      let shape : is_number d s ≡ every digit (drop (whole d s + 1) s) = pointed_parts d s above size few point ∙ rw e.0 in
      let value : digits_value (number_digits d s) ≡ digits_after n (drop (whole d s + 1) s) = pointed_value d s above ∙ rw e.1 in
      rw (shape, value) x

-- "at most 18 digits in all"
pub number_small : (d : ℕ) (s : List ℕ) → is_number d s ≡ true → digits_value (number_digits d s) < 10 ^ 18
unfolding is_number number_digits
number_small zero s h = count_small s h
number_small (suc d) s h =
    let w : ℕ = length s - (suc d + 1) in
    let r = both (eqb (get_or s w 0) 0x2e && is_digits 1 (18 - suc d) (take w s)) (is_digits (suc d) (suc d) (drop (w + 1) s)) h in
    let a = digits_are 1 (18 - suc d) (take w s) (both (eqb (get_or s w 0) 0x2e) (is_digits 1 (18 - suc d) (take w s)) r.0).1 in
    let b = digits_are (suc d) (suc d) (drop (w + 1) s) r.1 in
    let l = length-append (take w s) (drop (w + 1) s) in
    below_18 (take w s ++ drop (w + 1) s) 0 0 (every_append digit (take w s) (drop (w + 1) s) a.2 b.2) (omega arith) (omega arith)

-- ## Dates

not_eight : (s : List ℕ) → (length s ≡ 8 → ⊥) → is_digits 8 8 s ≡ false
not_eight s h = go (ltb (length s) 8) refl
  where
    more : 8 ≤ length s → 8 < length s
    more l = omega arith

    go : (t : Bool) → ltb (length s) 8 ≡ t → is_digits 8 8 s ≡ false
    go true e = few_digits 8 8 s (ltb-true (length s) 8 e)
    go false e = many_digits 8 8 s (more (ltb-false (length s) 8 e))

pub date_read : (s : List ℕ) (n : ℕ) → length s ≡ 8 → every digit s ≡ true → n ≡ digits_value s → judged (is_day (n / 10000) (n / 100 % 100) (n % 100)) (pos n) ≡ date_of s
unfolding date_of refuse
date_read s n size all e = rw (e, just_digits 8 8 s (omega arith) (omega arith), all, date_year s size all, date_month s size all, date_day s size all)

pub date_none : (s : List ℕ) → (length s ≡ 8 → ⊥) → wrong 13 ≡ date_of s
unfolding date_of refuse
date_none s h = rw (not_eight s h)

pub date_other : (s : List ℕ) → length s ≡ 8 → every digit s ≡ false → wrong 13 ≡ date_of s
unfolding date_of refuse
date_other s h e = rw (just_digits 8 8 s (omega arith) (omega arith), e)

-- ## Numbers with their sign

le_not : (x y : ℤ) → le_z x y ≡ not (lt_z y x)
le_not (pos a) (pos b) = grind (arith, nat_tests)
le_not (pos a) (negsuc b) = refl
le_not (negsuc a) (pos b) = refl
le_not (negsuc a) (negsuc b) = grind (arith, nat_tests)

-- the two bounds, tested as the code does
pub within_is : (c : Component) (v : ℤ) → within c v ≡ (le_z c.least v && le_z v c.greatest)
unfolding within
within_is c v = rw (le_not c.least v, le_not v c.greatest)

-- the first byte, tested as the library does
pub first_begins : (b : ℕ) (s : List ℕ) → pointwise eqb (b ∷ []) (take 1 s) ≡ begins b s
unfolding begins
first_begins b [] = refl
first_begins b (c ∷ s) = grind (arith, nat_tests)

begins_some : (b : ℕ) (s : List ℕ) → begins b s ≡ true → 1 ≤ length s
unfolding begins
begins_some b [] e = cc
begins_some b (c ∷ s) e = omega arith

pub signed_size : (s : List ℕ) → (begins 0x2b s || begins 0x2d s) ≡ true → (1 ≤ length s) × (drop 1 s ≡ unsigned s)
unfolding unsigned choose
signed_size s e = (some (begins 0x2b s) refl, rw e)
  where
    some : (plus : Bool) → begins 0x2b s ≡ plus → 1 ≤ length s
    some true h = begins_some 0x2b s h
    some false h = begins_some 0x2d s (rw h at e)

pub unsigned_size : (s : List ℕ) → (begins 0x2b s || begins 0x2d s) ≡ false → s ≡ unsigned s
unfolding unsigned choose
unsigned_size s e = rw e

pub number_read : (c : Component) (s : List ℕ) (n : ℕ) (v : ℤ) → (is_number c.decimals (unsigned s) ≡ true) × (n ≡ digits_value (number_digits c.decimals (unsigned s)))
    → v ≡ choose (begins 0x2d s) (neg_ℤ (pos n)) (pos n) → judged (within c v) v ≡ number_of c s
unfolding number_of signed refuse
number_read c s n v h x = rw (x, h.1) (rw h.0)

pub number_none : (c : Component) (s : List ℕ) → is_number c.decimals (unsigned s) ≡ false → wrong 13 ≡ number_of c s
unfolding number_of refuse
number_none c s h = rw h
