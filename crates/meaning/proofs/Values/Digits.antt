-- Reading what writing writes, at the level of values. Assumes nothing.
use Prim.Native.Nat.{ℕ, zero, suc, ◌+◌, ◌*◌, ◌-◌, ◌/◌, ◌%◌, ◌^◌, ◌≤◌, ◌<◌}
use native.Mathlib.Omega.{arith}
use native.Mathlib.Nat.{pow-suc}
use mathlib.Core.Path.{◌≡◌, refl, ap, ◌∙◌}
use mathlib.Core.Bool.{Bool, true, false, not, ◌&&◌, false≢true}
use mathlib.Core.List.{List, [], ◌∷◌, ◌++◌}
use lib.ListN.{length, take, drop, length-append, take-append-drop, length-take, length-drop}
use lib.Seq.{take_at, get_or_at}
use lib.Dec.{eqb, leb}
use lib.IntN.{ℤ, pos, negsuc, nat_abs}
use lib.Signed.{lt_z}
use borrow.Author.Tests.{ne_eqb, le-leb, lt-ltb, le-ltb, eqb-true, leb-true, ltb-true, ltb-false, not-true}
use Rattle.meaning.specs.Bytes.{choose, refuse, digit, every, begins}
use Rattle.meaning.specs.Model.{Component}
use Rattle.meaning.specs.Check.{is_bound, good_component}
use Rattle.meaning.specs.Value.{pair, digits_after, is_digits, unsigned, signed, whole_size, is_number, number_digits, within, number_of, enumeration_of}
use Rattle.meaning.specs.Digits.{last_digits, shortened, digits_of, sign_of, pointed, number_bytes}
use Rattle.meaning.proofs.Tests.Refuse.{both}
pub use Rattle.meaning.proofs.Tests.Refuse.{holds}

-- ## Digits

pub every_append : (k : ℕ → Bool) (s t : List ℕ) → every k s ≡ true → every k t ≡ true → every k (s ++ t) ≡ true
unfolding every
every_append k [] t p q = q
every_append k (b ∷ s) t p q = let r = both (k b) _ p in rw r.0 (every_append k s t r.1 q)

pub every_parts : (k : ℕ → Bool) (s t : List ℕ) → every k (s ++ t) ≡ true → (every k s ≡ true) × (every k t ≡ true)
unfolding every
every_parts k [] t h = (refl, h)
every_parts k (b ∷ s) t h =
    let c : (k b ≡ true) × (every k (s ++ t) ≡ true) = both _ _ h in
    let r = every_parts k s t c.1 in
    (rw (c.0, r.0), r.1)

pub every_kind : (k l : ℕ → Bool) → ((b : ℕ) → k b ≡ true → l b ≡ true) → (s : List ℕ) → every k s ≡ true → every l s ≡ true
unfolding every
every_kind k l f [] h = refl
every_kind k l f (b ∷ s) h = let r = both (k b) _ h in rw (f b r.0, every_kind k l f s r.1)

is_digit : (n : ℕ) → n < 10 → digit (0x30 + n) ≡ true
unfolding digit
is_digit n h = rw (le-leb 0x30 (0x30 + n) (omega arith), le-leb (0x30 + n) 0x39 (omega arith))

pub after_append : (n : ℕ) (s t : List ℕ) → digits_after n (s ++ t) ≡ digits_after (digits_after n s) t
unfolding digits_after
after_append n [] t = refl
after_append n (b ∷ s) t = after_append (n * 10 + (b - 0x30)) s t

pub last_digits_lem : (k n : ℕ) → every digit (last_digits k n) ≡ true
unfolding last_digits every
last_digits_lem zero n = refl
last_digits_lem (suc k) n = every_append digit (last_digits k (n / 10)) _ (last_digits_lem k (n / 10)) (rw (is_digit (n % 10) (omega arith)))

pub last_length : (k n : ℕ) → length (last_digits k n) ≡ k
unfolding last_digits
last_length zero n = refl
last_length (suc k) n = length-append (last_digits k (n / 10)) _ ∙ rw (last_length k (n / 10)) (omega arith)

tenth : (k n : ℕ) → n < 10 ^ suc k → n / 10 < 10 ^ k
tenth k n h = let h' : n < 10 ^ k * 10 = rw (pow-suc 10 k) at h in omega arith

pub last_value : (k n : ℕ) → n < 10 ^ k → digits_after 0 (last_digits k n) ≡ n
unfolding last_digits digits_after
last_value zero n h = omega arith
last_value (suc k) n h =
    after_append 0 (last_digits k (n / 10)) _ ∙ rw (last_value k (n / 10) (tenth k n h)) (omega arith)

-- a digit more than is needed is a 0 in front
pub last_more : (k n : ℕ) → n < 10 ^ k → last_digits (suc k) n ≡ 0x30 ∷ last_digits k n
unfolding last_digits
last_more zero n h = let z : n ≡ 0 = omega arith in rw z
last_more (suc k) n h = ap (λ (l : List ℕ). l ++ ((0x30 + n % 10) ∷ [])) (last_more k (n / 10) (tenth k n h))

module _ (least : ℕ) where
  pub short_digits : (s : List ℕ) → every digit s ≡ true → every digit (shortened least s) ≡ true
  unfolding shortened every choose
  short_digits [] h = refl
  short_digits (b ∷ s) h = go (eqb b 0x30 && leb least (length s)) (short_digits s (both (digit b) _ h).1)
    where
      go : (t : Bool) → every digit (shortened least s) ≡ true → every digit (choose t (shortened least s) (b ∷ s)) ≡ true
      go true r = r
      go false r = h

  pub short_value : (s : List ℕ) → digits_after 0 (shortened least s) ≡ digits_after 0 s
  unfolding shortened digits_after choose
  short_value [] = refl
  short_value (b ∷ s) = go (eqb b 0x30 && leb least (length s)) refl (short_value s)
    where
      go : (t : Bool) → (eqb b 0x30 && leb least (length s)) ≡ t → digits_after 0 (shortened least s) ≡ digits_after 0 s → digits_after 0 (choose t (shortened least s) (b ∷ s)) ≡ digits_after 0 (b ∷ s)
      go true e r = r ∙ rw (eqb-true b 0x30 (both (eqb b 0x30) _ e).0)
      go false e r = refl

  pub short_most : (s : List ℕ) → length (shortened least s) ≤ length s
  unfolding shortened choose
  short_most [] = omega arith
  short_most (b ∷ s) = go (eqb b 0x30 && leb least (length s)) (short_most s)
    where
      go : (t : Bool) → length (shortened least s) ≤ length s → length (choose t (shortened least s) (b ∷ s)) ≤ suc (length s)
      go true r = omega arith
      go false r = omega arith

  pub short_least : (s : List ℕ) → least ≤ length s → least ≤ length (shortened least s)
  unfolding shortened choose
  short_least [] h = h
  short_least (b ∷ s) h = go (eqb b 0x30 && leb least (length s)) refl (short_least s)
    where
      go : (t : Bool) → (eqb b 0x30 && leb least (length s)) ≡ t → (least ≤ length s → least ≤ length (shortened least s)) → least ≤ length (choose t (shortened least s) (b ∷ s))
      go true e r = r (leb-true least (length s) (both (eqb b 0x30) _ e).1)
      go false e r = h

-- all that is known of the digits of a number below 10^18
pub record Digits (least n : ℕ) (s : List ℕ) : Type 0 where
  pub digits : every digit s ≡ true
  pub value : digits_after 0 s ≡ n
  pub low : least ≤ length s
  pub high : length s ≤ 18

pub digits_of_lem : (least n : ℕ) → least ≤ 18 → n < 10 ^ 18 → Digits least n (digits_of least n)
unfolding digits_of shortened choose
digits_of_lem least n h g =
    let e : shortened least (last_digits 19 n) ≡ shortened least (last_digits 18 n) =
    rw (last_more 18 n g) (rw (last_length 18 n, le-leb least 18 h) refl) in
    let len = last_length 18 n in
    record {
      digits = short_digits least (last_digits 19 n) (last_digits_lem 19 n);
      value = short_value least (last_digits 19 n) ∙ last_value 19 n (omega arith);
      low = short_least least (last_digits 19 n) (rw (last_length 19 n) (omega arith));
      high = rw e (omega (arith, short_most least (last_digits 18 n)));
    }

-- ## Numbers

pub is_digits_lem : (least most : ℕ) (s : List ℕ) → least ≤ length s → length s ≤ most → every digit s ≡ true → is_digits least most s ≡ true
unfolding is_digits
is_digits_lem least most s l h d = rw (le-leb least (length s) l, le-leb (length s) most h, d)

-- a list that begins with a digit has no sign
pub no_sign : (b c : ℕ) (s : List ℕ) → digit b ≡ true → c < 0x30 → begins c (b ∷ s) ≡ false
unfolding begins digit
no_sign b c s h l = let r = both (leb 0x30 b) _ h in ne_eqb b c (omega (arith, leb-true 0x30 b r.0))

pub every_take : (k : ℕ → Bool) (n : ℕ) (s : List ℕ) → every k s ≡ true → every k (take n s) ≡ true
unfolding every
every_take k zero s h = refl
every_take k (suc n) [] h = refl
every_take k (suc n) (b ∷ s) h = let r = both (k b) _ h in rw r.0 (every_take k n s r.1)

pub every_drop : (k : ℕ → Bool) (n : ℕ) (s : List ℕ) → every k s ≡ true → every k (drop n s) ≡ true
unfolding every
every_drop k zero s h = h
every_drop k (suc n) [] h = refl
every_drop k (suc n) (b ∷ s) h = every_drop k n s (both (k b) _ h).1

-- a pointed number in its two parts
module _ (d : ℕ) (w f : List ℕ) (size : length f ≡ suc d) where
  whole_size_lem : whole_size (suc d) (w ++ (0x2e ∷ f)) ≡ length w
  whole_size_lem = rw (length-append w (0x2e ∷ f), size) (omega arith)

  pub parts_number : 1 ≤ length w → length w + suc d ≤ 18 → every digit w ≡ true → every digit f ≡ true → is_number (suc d) (w ++ (0x2e ∷ f)) ≡ true
  unfolding is_number
  parts_number l h p q =
      rw (
        whole_size_lem,
        get_or_at w 0x2e f 0 (length w) refl,
        take_at w (0x2e ∷ f) (length w) refl,
        drop_one,
        is_digits_lem 1 (18 - suc d) w l (omega arith) p,
        is_digits_lem (suc d) (suc d) f (omega arith) (omega arith) q,
      )
    where
      drop_one : drop (length w + 1) (w ++ (0x2e ∷ f)) ≡ f
      drop_one = lib.Seq.drop-append-add w (0x2e ∷ f) 1

  pub parts_digits : number_digits (suc d) (w ++ (0x2e ∷ f)) ≡ w ++ f
  unfolding number_digits
  parts_digits = rw (whole_size_lem, take_at w (0x2e ∷ f) (length w) refl, lib.Seq.drop-append-add w (0x2e ∷ f) 1)

module _ (n : ℕ) (s : List ℕ) where
  pointed_number : (d : ℕ) → Digits (d + 1) n s → is_number d (pointed d s) ≡ true
  unfolding is_number pointed
  pointed_number zero r = is_digits_lem 1 18 s r.low r.high r.digits
  pointed_number (suc d) r =
      let low = r.low in
      let high = r.high in
      parts_number d (take (length s - suc d) s) (drop (length s - suc d) s)
      (rw (length-drop (length s - suc d) s) (omega arith))
      (rw (length-take (length s - suc d) s) (omega arith))
      (rw (length-take (length s - suc d) s) (omega arith))
      (every_take digit (length s - suc d) s r.digits) (every_drop digit (length s - suc d) s r.digits)

  pointed_digits : (d : ℕ) → Digits (d + 1) n s → number_digits d (pointed d s) ≡ s
  unfolding number_digits pointed
  pointed_digits zero r = refl
  pointed_digits (suc d) r =
      let low = r.low in
      parts_digits d (take (length s - suc d) s) (drop (length s - suc d) s) (rw (length-drop (length s - suc d) s) (omega arith))
      ∙ take-append-drop (length s - suc d) s

-- a pointed number begins with a digit
first_digit : (d n c : ℕ) (s : List ℕ) → Digits (d + 1) n s → c < 0x30 → begins c (pointed d s) ≡ false
unfolding pointed every
first_digit zero n c [] r l = let low : 1 ≤ 0 = r.low in absurd (omega arith)
first_digit zero n c (b ∷ s) r l = no_sign b c s (both (digit b) _ r.digits).0 l
first_digit (suc d) n c [] r l = let low : suc d + 1 ≤ 0 = r.low in absurd (omega arith)
first_digit (suc d) n c (b ∷ s) r l =
    let low : suc d + 1 ≤ suc (length s) = r.low in
    let e : suc (length s) - suc d ≡ suc (length s - suc d) = omega arith in
    rw e (no_sign b c _ (both (digit b) _ r.digits).0 l)

pub sign_pos : (n : ℕ) → sign_of (pos n) ≡ []
unfolding sign_of choose
sign_pos n = rw (le-ltb n 0 (omega arith))

pub sign_neg : (n : ℕ) → sign_of (negsuc n) ≡ 0x2d ∷ []
unfolding sign_of choose
sign_neg n = refl

-- what is known of a value within good bounds
pub below : (c : Component) (v : ℤ) → good_component c ≡ true → within c v ≡ true → nat_abs v < 10 ^ 18
unfolding good_component within is_bound
below c v g w =
    let r = both (not (lt_z v c.least)) (not (lt_z c.greatest v)) w in
    let l : is_bound c.least ≡ true = holds _ 1 g in
    let h : is_bound c.greatest ≡ true = holds _ 2 g in
    go v c.least c.greatest r.0 r.1 (both (lt_z (negsuc (10 ^ 18 - 1)) c.least) (lt_z c.least (pos (10 ^ 18))) l).0 (both (lt_z (negsuc (10 ^ 18 - 1)) c.greatest) (lt_z c.greatest (pos (10 ^ 18))) h).1
  where
    go : (v l h : ℤ) → not (lt_z v l) ≡ true → not (lt_z h v) ≡ true → lt_z (negsuc (10 ^ 18 - 1)) l ≡ true → lt_z h (pos (10 ^ 18)) ≡ true → nat_abs v < 10 ^ 18
    go (pos n) l (pos h) a b p q = omega (arith, ltb-false h n (not-true _ b), ltb-true h (10 ^ 18) q)
    go (pos n) l (negsuc h) a b p q = absurd (false≢true b)
    go (negsuc n) (pos l) h a b p q = absurd (false≢true a)
    go (negsuc n) (negsuc l) h a b p q = omega (arith, ltb-false l n (not-true _ a), ltb-true l (10 ^ 18 - 1) p)

pub least_digits : (c : Component) → good_component c ≡ true → c.decimals + 1 ≤ 18
unfolding good_component
least_digits c g = omega (arith, leb-true c.decimals 9 (holds _ 0 g))

pub pointed_length : (d : ℕ) (s : List ℕ) → length s ≤ length (pointed d s)
unfolding pointed
pointed_length zero s = omega arith
pointed_length (suc d) s = rw (length-append (take (length s - suc d) s) (0x2e ∷ drop (length s - suc d) s), length-take (length s - suc d) s, length-drop (length s - suc d) s) (omega arith)

-- "the shortest digits that read as the value" read as the value
pub number_reads : (c : Component) (v : ℤ) → good_component c ≡ true → within c v ≡ true → number_of c (number_bytes c.decimals v) ≡ pair (pos 1) v
unfolding number_of number_bytes unsigned signed choose refuse begins good_component
number_reads c v g w = go v w (below c v g w)
  where
    least : c.decimals + 1 ≤ 18
    least = omega (arith, leb-true c.decimals 9 (holds _ 0 g))

    go : (v : ℤ) → within c v ≡ true → nat_abs v < 10 ^ 18 → number_of c (number_bytes c.decimals v) ≡ pair (pos 1) v
    go (pos n) w h =
        let r = digits_of_lem (c.decimals + 1) n least h in
        rw (
          sign_pos n,
          first_digit c.decimals n 0x2b _ r (omega arith),
          first_digit c.decimals n 0x2d _ r (omega arith),
          pointed_number n _ c.decimals r,
          pointed_digits n _ c.decimals r,
          r.value,
          w,
        )
    go (negsuc n) w h =
        let r = digits_of_lem (c.decimals + 1) (suc n) least h in
        rw (sign_neg n, pointed_number (suc n) _ c.decimals r, pointed_digits (suc n) _ c.decimals r, r.value, w)

pub small_leaf_reads : (leaves n : ℕ) → n < 10 ^ 18 → n < leaves → enumeration_of leaves (number_bytes 0 (pos n)) ≡ pair (pos 1) (pos n)
unfolding enumeration_of number_bytes pointed choose refuse
small_leaf_reads leaves n small h =
    let r = digits_of_lem 1 n (omega arith) small in
    rw (sign_pos n, is_digits_lem 1 18 (digits_of 1 n) r.low r.high r.digits, r.value, lt-ltb n leaves h)

pub leaf_reads : (leaves n : ℕ) → leaves < 65536 → n < leaves → enumeration_of leaves (number_bytes 0 (pos n)) ≡ pair (pos 1) (pos n)
leaf_reads leaves n l h = small_leaf_reads leaves n (omega arith) h

pub digits_are : (least most : ℕ) (s : List ℕ) → is_digits least most s ≡ true → (least ≤ length s) × (length s ≤ most) × (every digit s ≡ true)
unfolding is_digits
digits_are least most s h =
    let r = both (leb least (length s) && leb (length s) most) (every digit s) h in
    let q = both (leb least (length s)) (leb (length s) most) r.0 in
    (leb-true least (length s) q.0, leb-true (length s) most q.1, r.1)
