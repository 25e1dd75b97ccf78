-- Values by the grammar: what is a number, a date or a leaf of which value, and which fields have a wrong shape or are outside their domain. Assumes nothing.
use Prim.Native.Nat.{ℕ, zero, suc, ◌+◌, ◌-◌, ◌≤◌}
use native.Mathlib.Nat.{zero-add}
use native.Mathlib.Numerals.{add-one}
use native.Mathlib.Omega.{arith}
use mathlib.Core.Path.{◌≡◌, refl, sym, ap, ◌∙◌}
use mathlib.Core.Bool.{Bool, true, false, not, ◌&&◌, true≢false}
use mathlib.Core.List.{List, [], ◌∷◌, ◌++◌, append-nil}
use mathlib.Core.Logic.{◌↔◌}
use lib.Dec.{eqb, ltb}
use lib.IntN.{ℤ, pos}
use lib.ListN.{length, take, drop, get_or, length-drop}
use lib.Seq.{split_at}
use borrow.Author.Tests.{eqb-true, not-false, ltb-false, le-ltb}
use Rattle.meaning.specs.Bytes.{choose, refuse, digit, text_byte, every, begins}
use Rattle.meaning.specs.Model.{Component, AttributeType, Reference, Number, Text, Date, Enumeration}
use Rattle.meaning.specs.Value.{Value, pair, wrong, digits_after, digits_value, is_digits, unsigned, signed, is_number, number_digits, within, is_day}
use Rattle.meaning.specs.Shapes as shapes
use Rattle.meaning.specs.Shapes.{Digits, place_value, Signed, Decimals, Numeral, Shape, InDomain, WrongShape, OutsideDomain}
use Rattle.meaning.proofs.Tests.Refuse.{both, passed}
use Rattle.meaning.proofs.Tests.Unequal.{no_pair}
use Rattle.meaning.proofs.Values.Digits.{is_digits_lem, digits_are, no_sign, parts_number, parts_digits}
use Rattle.meaning.proofs.Values.Counts.{after_scale}

-- ## Digits

-- the value of digits by their places is that of one digit after the other
pub place_value_lem : (s : List ℕ) → place_value s ≡ digits_value s
unfolding place_value digits_after
place_value_lem [] = refl
place_value_lem (b ∷ s) = rw (zero-add (b - 0x30), place_value_lem s) (sym (after_scale s (b - 0x30)))

digits_shape : (least most : ℕ) (s : List ℕ) → is_digits least most s ≡ true → Digits least most s
digits_shape least most s h = let r = digits_are least most s h in record { at_least = r.0; at_most = r.1; digits = r.2 }

shape_digits : {least most : ℕ} {s : List ℕ} → Digits least most s → is_digits least most s ≡ true
shape_digits {least} {most} {s} d = is_digits_lem least most s d.at_least d.at_most d.digits

-- ## Signs

-- a field is its sign and what stands behind it
record Split (s : List ℕ) : Type 0 where
  sign : List ℕ
  is : s ≡ sign ++ unsigned s
  value : (n : ℕ) → Signed sign n (signed s n)

split : (s : List ℕ) → Split s
unfolding unsigned signed begins choose
split [] = record { sign = []; is = refl; value = λ n. shapes.unsigned }
split (b ∷ s) = by (eqb b 0x2b) (eqb b 0x2d) refl refl
  where
    by : (p m : Bool) → eqb b 0x2b ≡ p → eqb b 0x2d ≡ m → Split (b ∷ s)
    by true m hp hm = rw (eqb-true b 0x2b hp) (record { sign = 0x2b ∷ []; is = refl; value = λ n. shapes.plus })
    by false true hp hm = rw (eqb-true b 0x2d hm) (record { sign = 0x2d ∷ []; is = refl; value = λ n. shapes.minus })
    by false false hp hm = record { sign = []; is = rw (hp, hm); value = λ n. rw hm shapes.unsigned }

-- where a digit stands behind the sign
behind_sign : {sign : List ℕ} {n : ℕ} {v : ℤ} (b : ℕ) (s : List ℕ) → digit b ≡ true → Signed sign n v → (unsigned (sign ++ (b ∷ s)) ≡ b ∷ s) × (signed (sign ++ (b ∷ s)) n ≡ v)
unfolding unsigned signed begins choose
behind_sign b s h shapes.unsigned = (rw (no_sign b 0x2b s h (omega arith), no_sign b 0x2d s h (omega arith)), rw (no_sign b 0x2d s h (omega arith)))
behind_sign b s h shapes.plus = (refl, refl)
behind_sign b s h shapes.minus = (refl, refl)

-- ## Numbers

-- the parts of a number without its sign
record Parts (d : ℕ) (u : List ℕ) : Type 0 where
  whole : List ℕ
  behind : List ℕ
  fraction : List ℕ
  is : u ≡ whole ++ behind
  digits : Digits 1 18 whole
  point : Decimals d behind fraction
  few : length whole + d ≤ 18
  all : number_digits d u ≡ whole ++ fraction

parts : (d : ℕ) (u : List ℕ) → is_number d u ≡ true → Parts d u
unfolding is_number number_digits
parts zero u h =
    let r = digits_shape 1 18 u h in
    let most = r.at_most in
    record { whole = u; behind = []; fraction = []; is = sym (append-nil u); digits = r; point = shapes.none; few = omega arith; all = sym (append-nil u) }
parts (suc d) u h =
    let w : ℕ = length u - (suc d + 1) in
    let r = both (eqb (get_or u w 0) 0x2e && is_digits 1 (18 - suc d) (take w u)) (is_digits (suc d) (suc d) (drop (w + 1) u)) h in
    let q = both (eqb (get_or u w 0) 0x2e) (is_digits 1 (18 - suc d) (take w u)) r.0 in
    let a = digits_shape 1 (18 - suc d) (take w u) q.1 in
    let b = digits_shape (suc d) (suc d) (drop (w + 1) u) r.1 in
    let low = a.at_least in
    let high = a.at_most in
    let long = b.at_least in
    let size = length-drop (w + 1) u in
    record {
      whole = take w u;
      behind = 0x2e ∷ drop (w + 1) u;
      fraction = drop (w + 1) u;
      is = rw (← eqb-true (get_or u w 0) 0x2e q.0, add-one w) (split_at u w 0 (omega arith));
      digits = record { at_least = low; at_most = omega arith; digits = a.digits };
      point = shapes.some b;
      few = omega arith;
      all = refl;
    }

pub number_numeral : (d : ℕ) (s : List ℕ) → is_number d (unsigned s) ≡ true → Numeral d s (signed s (digits_value (number_digits d (unsigned s))))
number_numeral d s h =
    let a = split s in
    let p = parts d (unsigned s) h in
    record {
      sign = a.sign;
      whole = p.whole;
      behind = p.behind;
      fraction = p.fraction;
      is = a.is ∙ ap (λ (u : List ℕ). a.sign ++ u) p.is;
      digits = p.digits;
      point = p.point;
      few = p.few;
      value = rw (place_value_lem (p.whole ++ p.fraction), ← p.all) (a.value _);
    }

-- the body of a numeral, by its decimals
body_number : {d : ℕ} {behind fraction : List ℕ} (whole : List ℕ) → Digits 1 18 whole → length whole + d ≤ 18 → Decimals d behind fraction
    → (is_number d (whole ++ behind) ≡ true) × (number_digits d (whole ++ behind) ≡ whole ++ fraction)
unfolding is_number number_digits
body_number whole w few shapes.none = rw (append-nil whole) (shape_digits w, refl)
body_number whole w few (shapes.some {d = d} {digits = f} r) =
    let low = r.at_least in
    let high = r.at_most in
    let size : length f ≡ suc d = omega arith in
    (parts_number d whole f size w.at_least few w.digits r.digits, parts_digits d whole f size)

-- digits that are some begin with one
body_behind : {sign : List ℕ} {n : ℕ} {v : ℤ} (whole rest : List ℕ) → Digits 1 18 whole → Signed sign n v
    → (unsigned (sign ++ (whole ++ rest)) ≡ whole ++ rest) × (signed (sign ++ (whole ++ rest)) n ≡ v)
unfolding every
body_behind [] rest w g = let low : 1 ≤ 0 = w.at_least in absurd (omega arith)
body_behind (b ∷ whole) rest w g = behind_sign b (whole ++ rest) (both (digit b) _ w.digits).0 g

pub numeral_number : {d : ℕ} {s : List ℕ} {v : ℤ} → Numeral d s v → (is_number d (unsigned s) ≡ true) × (signed s (digits_value (number_digits d (unsigned s))) ≡ v)
numeral_number n =
    let a = body_number n.whole n.digits n.few n.point in
    let b = body_behind n.whole n.behind n.digits n.value in
    rw (n.is, b.0) (a.0, rw (a.1, ← place_value_lem (n.whole ++ n.fraction)) b.1)

-- ## Judging a field

-- what two tests refuse, first by 13 and then by 14, is what the grammar says of these bytes: they have the shape of the type's values and this value, or of none, and the value lies in the domain or not
pub record Judged (type : AttributeType) (s : List ℕ) (bad far : Bool) (value : ℤ) : Type 0 where
  pub shaped : bad ≡ false → Shape type s value
  pub only : (v : ℤ) → Shape type s v → (bad ≡ false) × (value ≡ v)
  pub inside : InDomain type s value → far ≡ false
  pub domain : far ≡ false → InDomain type s value

abbrev pub judge : (bad far : Bool) → Value → Value
judge bad far x = refuse bad (wrong 13) (refuse far (wrong 14) x)

not_13 : wrong 14 ≡ wrong 13 → ⊥
not_13 e = let z : ◌≡◌ {A = ℕ} 14 13 = cc in omega arith

is_13 : (bad far : Bool) (a b : ℤ) → judge bad far (pair a b) ≡ wrong 13 → bad ≡ true
unfolding refuse
is_13 true far a b e = refl
is_13 false true a b e = absurd (not_13 e)
is_13 false false a b e = absurd (no_pair 13 a b (sym e))

is_14 : (bad far : Bool) (a b : ℤ) → judge bad far (pair a b) ≡ wrong 14 → (bad ≡ false) × (far ≡ true)
unfolding refuse
is_14 true far a b e = absurd (not_13 (sym e))
is_14 false true a b e = (refl, refl)
is_14 false false a b e = absurd (no_pair 14 a b (sym e))

module _ {type : AttributeType} {s : List ℕ} {bad far : Bool} {value : ℤ} (j : Judged type s bad far value) where
  pub wrong_13 : (a b : ℤ) → (judge bad far (pair a b) ≡ wrong 13) ↔ WrongShape type s
  unfolding refuse
  wrong_13 a b = (λ e v h. true≢false (sym (is_13 bad far a b e) ∙ (j.only v h).0), λ w. by w bad refl)
    where
      by : WrongShape type s → (t : Bool) → bad ≡ t → judge bad far (pair a b) ≡ wrong 13
      by w true e = rw e
      by w false e = absurd (w value (j.shaped e))

  pub wrong_14 : (a b : ℤ) → (judge bad far (pair a b) ≡ wrong 14) ↔ OutsideDomain type s
  unfolding refuse
  wrong_14 a b = (λ e. out (is_14 bad far a b e), λ o. by o far refl)
    where
      out : (bad ≡ false) × (far ≡ true) → OutsideDomain type s
      out e = record { value = value; shape = j.shaped e.0; outside = λ d. true≢false (sym e.1 ∙ j.inside d) }

      by : OutsideDomain type s → (t : Bool) → far ≡ t → judge bad far (pair a b) ≡ wrong 14
      by o true e = rw ((j.only o.value o.shape).0, e)
      by o false e = absurd (o.outside (rw (j.only o.value o.shape).1 at (j.domain e)))

  pub right : (v : ℤ) → (judge bad far (pair (pos 1) value) ≡ pair (pos 1) v) ↔ (Shape type s v × InDomain type s v)
  unfolding refuse
  right v = (there, back)
    where
      there : judge bad far (pair (pos 1) value) ≡ pair (pos 1) v → Shape type s v × InDomain type s v
      there e =
          let p = passed bad _ _ _ (no_pair 13 (pos 1) v) e in
          let q = passed far _ _ _ (no_pair 14 (pos 1) v) p.1 in
          let same : value ≡ v = cc q.1 in
          rw (← same) (j.shaped p.0, j.domain q.0)

      back : Shape type s v × InDomain type s v → judge bad far (pair (pos 1) value) ≡ pair (pos 1) v
      back h =
          let o = j.only v h.0 in
          rw (o.0, j.inside (rw o.1 h.1), o.1)

-- ## The types whose values are fields

not_of : {t : Bool} → t ≡ true → not t ≡ false
not_of e = rw e

pub number_judged : (c : Component) (s : List ℕ)
    → let v : ℤ = signed s (digits_value (number_digits c.decimals (unsigned s))) in Judged (Number c) s (not (is_number c.decimals (unsigned s))) (not (within c v)) v
number_judged c s =
    record {
      shaped = λ e. shapes.number (number_numeral c.decimals s (not-false _ e));
      only = λ v h. by v h;
      inside = not_of;
      domain = not-false _;
    }
  where
    by : (v : ℤ) → Shape (Number c) s v → (not (is_number c.decimals (unsigned s)) ≡ false) × (signed s (digits_value (number_digits c.decimals (unsigned s))) ≡ v)
    by v (shapes.number n) = let r = numeral_number n in (not_of r.0, r.1)

pub date_judged : (s : List ℕ)
    → Judged Date s (not (is_digits 8 8 s)) (not (is_day (digits_value (take 4 s)) (digits_value (take 2 (drop 4 s))) (digits_value (drop 6 s)))) (pos (digits_value s))
date_judged s =
    record {
      shaped = λ e. rw (← place_value_lem s) (shapes.date (digits_shape 8 8 s (not-false _ e)));
      only = λ v h. by v h;
      inside = λ d. not_of (rw (place_value_lem (take 4 s), place_value_lem (take 2 (drop 4 s)), place_value_lem (drop 6 s)) at d);
      domain = λ e. rw (place_value_lem (take 4 s), place_value_lem (take 2 (drop 4 s)), place_value_lem (drop 6 s)) (not-false _ e);
    }
  where
    by : (v : ℤ) → Shape Date s v → (not (is_digits 8 8 s) ≡ false) × (pos (digits_value s) ≡ v)
    by v (shapes.date d) = (not_of (shape_digits d), ap pos (sym (place_value_lem s)))

pub leaf_judged : (leaves : ℕ) (s : List ℕ) → Judged (Enumeration leaves) s (not (is_digits 1 18 s)) (not (ltb (digits_value s) leaves)) (pos (digits_value s))
leaf_judged leaves s =
    record {
      shaped = λ e. rw (← place_value_lem s) (shapes.enumeration (digits_shape 1 18 s (not-false _ e)));
      only = λ v h. by v h;
      inside = not_of;
      domain = not-false _;
    }
  where
    by : (v : ℤ) → Shape (Enumeration leaves) s v → (not (is_digits 1 18 s) ≡ false) × (pos (digits_value s) ≡ v)
    by v (shapes.enumeration d) = (not_of (shape_digits d), ap pos (sym (place_value_lem s)))

pub text_judged : (longest : ℕ) (s : List ℕ) → Judged (Text longest) s (not (every text_byte s)) (ltb longest (length s)) (pos (length s))
text_judged longest s =
    record { shaped = λ e. shapes.text (not-false _ e); only = λ v h. by v h; inside = le-ltb longest (length s); domain = ltb-false longest (length s) }
  where
    by : (v : ℤ) → Shape (Text longest) s v → (not (every text_byte s) ≡ false) × (pos (length s) ≡ v)
    by v (shapes.text h) = (not_of h, refl)

-- a reference's domain is judged when all lines are read
pub reference_judged : (target : ℕ) (s : List ℕ) → Judged (Reference target) s (not (every text_byte s)) false (pos (length s))
reference_judged target s = record { shaped = λ e. shapes.reference (not-false _ e); only = λ v h. by v h; inside = λ d. refl; domain = λ e. tt }
  where
    by : (v : ℤ) → Shape (Reference target) s v → (not (every text_byte s) ≡ false) × (pos (length s) ≡ v)
    by v (shapes.reference h) = (not_of h, refl)
