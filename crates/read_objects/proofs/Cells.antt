-- Cells stored in a part that is lent, and a row's first three cells stored in front of its values. Assumes nothing.
use Prim.Native.Nat.{ℕ, suc, ◌+◌, ◌-◌, ◌<◌, ◌≤◌}
use mathlib.Core.Path.{◌≡◌, refl, sym, ap, ◌∙◌}
use mathlib.Core.List.{List, [], ◌∷◌, ◌++◌, append_assoc}
use native.Mathlib.Nat.{zero-add, add-zero, suc-add, add-suc, le_refl}
use native.Mathlib.Numerals.{add-one}
use native.Mathlib.Omega.{arith}
use lib.ListN.{length, take, drop, set, get_or, length-set, length-append}
use lib.Seq.{sets, sets-eq, length-sets, take_at, drop_at, take-take, take-suc-set, set-append_left, length-take-le, get_or_at}
use borrow.Rule.Slice.PartMut.{put_mid, mid_of, post_of, mid_len, put_same}

set-append-add : {A : Type 0} (p q : List A) (j : ℕ) (v : A) → set (p ++ q) (length p + j) v ≡ p ++ set q j v
set-append-add [] q j v = rw zero-add
set-append-add (x ∷ p) q j v = rw (suc-add, set-append-add p q j v)

-- one store, in the part and in the whole
put_set : {A : Type 0} (a k j : ℕ) (xs ys : List A) (v : A) → a ≤ length xs → j < length ys → put_mid a k xs (set ys j v) ≡ set (put_mid a k xs ys) (a + j) v
put_set a k j xs ys v h g = rw (← set-append_left ys (post_of a k xs) j v g, ← set-append-add (take a xs) (ys ++ post_of a k xs) j v, length-take-le a xs h)

put_sets : {A : Type 0} (vs : List A) (a k j : ℕ) (xs ys : List A) → a ≤ length xs → j + length vs ≤ length ys → put_mid a k xs (sets ys j vs) ≡ sets (put_mid a k xs ys) (a + j) vs
put_sets [] a k j xs ys h g = refl
put_sets {A} (v ∷ vs) a k j xs ys h g =
    put_sets vs a k (suc j) xs (set ys j v) h (rw length-set (omega arith))
    ∙ rw add-suc (ap (λ (l : List A). sets l (suc (a + j)) vs) (put_set a k j xs ys v h (omega arith)))

-- a run of stores in the part that was lent from a on is the run in the whole
pub lent : {A : Type 0} (vs : List A) (a : ℕ) (xs ys : List A) → a + length vs ≤ length xs → ys ≡ sets (mid_of a (length xs - a) xs) 0 vs → put_mid a (length xs - a) xs ys ≡ sets xs a vs
lent {A} vs a xs ys h e =
    let l : length (mid_of a (length xs - a) xs) ≡ length xs - a = mid_len a (length xs) xs (le_refl _) in
    ap (λ (t : List A). put_mid a (length xs - a) xs t) e
    ∙ put_sets vs a (length xs - a) 0 xs (mid_of a (length xs - a) xs) (omega arith) (omega arith)
    ∙ rw (put_same a (length xs - a) xs, add-zero)

-- values stored three cells behind a cell, and then three cells from it on
module _ {A : Type 0} (l : List A) (used n : ℕ) (a b c : A) (vs : List A) (en : length vs ≡ n) (room : used + (3 + n) ≤ length l) where
  first_is : sets l (used + 3) vs ≡ take (used + 3) l ++ (vs ++ drop (used + 3 + length vs) l)
  first_is = sets-eq vs l (used + 3) (omega arith) ∙ append_assoc (take (used + 3) l) vs (drop (used + 3 + length vs) l)

  front : take used (sets l (used + 3) vs) ≡ take used l
  front =
      sym (take-take used (used + 3) (sets l (used + 3) vs) (omega arith))
      ∙ ap (take used) (ap (take (used + 3)) first_is ∙ take_at (take (used + 3) l) (vs ++ drop (used + 3 + length vs) l) (used + 3) (length-take-le (used + 3) l (omega arith)))
      ∙ take-take used (used + 3) l (omega arith)

  behind : drop (used + 3) (sets l (used + 3) vs) ≡ vs ++ drop (used + 3 + length vs) l
  behind = ap (drop (used + 3)) first_is ∙ drop_at (take (used + 3) l) (vs ++ drop (used + 3 + length vs) l) (used + 3) (length-take-le (used + 3) l (omega arith))

  row_is : sets (sets l (used + 3) vs) used (a ∷ b ∷ c ∷ []) ≡ take used l ++ (a ∷ b ∷ c ∷ vs) ++ drop (used + 3 + length vs) l
  row_is =
      sets-eq (a ∷ b ∷ c ∷ []) (sets l (used + 3) vs) used (omega (arith, length-sets l (used + 3) vs))
      ∙ rw (front, behind) (append_assoc (take used l) (a ∷ b ∷ c ∷ []) (vs ++ drop (used + 3 + length vs) l) ∙ sym (append_assoc (take used l) (a ∷ b ∷ c ∷ vs) (drop (used + 3 + length vs) l)))

  pub row_stored : take (used + (3 + n)) (sets (sets l (used + 3) vs) used (a ∷ b ∷ c ∷ [])) ≡ take used l ++ (a ∷ b ∷ c ∷ vs)
  row_stored =
      ap (take (used + (3 + n))) row_is
      ∙ take_at (take used l ++ (a ∷ b ∷ c ∷ vs)) (drop (used + 3 + length vs) l) (used + (3 + n)) (length-append (take used l) (a ∷ b ∷ c ∷ vs) ∙ omega (arith, length-take-le used l (omega arith)))

  -- what stood before is as it was, and the first cell stands behind it
  pub row_front : take used (sets (sets l (used + 3) vs) used (a ∷ b ∷ c ∷ [])) ≡ take used l
  row_front =
      ap (take used) (row_is ∙ append_assoc (take used l) (a ∷ b ∷ c ∷ vs) (drop (used + 3 + length vs) l))
      ∙ take_at (take used l) ((a ∷ b ∷ c ∷ vs) ++ drop (used + 3 + length vs) l) used (length-take-le used l (omega arith))

  pub row_first : (d : A) → get_or (sets (sets l (used + 3) vs) used (a ∷ b ∷ c ∷ [])) used d ≡ a
  row_first d =
      ap (λ (z : List A). get_or z used d) (row_is ∙ append_assoc (take used l) (a ∷ b ∷ c ∷ vs) (drop (used + 3 + length vs) l))
      ∙ get_or_at (take used l) a ((b ∷ c ∷ vs) ++ drop (used + 3 + length vs) l) d used (length-take-le used l (omega arith))

  pub row_length : length (sets (sets l (used + 3) vs) used (a ∷ b ∷ c ∷ [])) ≡ length l
  row_length = length-sets (sets l (used + 3) vs) used (a ∷ b ∷ c ∷ []) ∙ length-sets l (used + 3) vs

-- one number more in a list
pub one_listed : (l : List ℕ) (n v : ℕ) → n < length l → take (n + 1) (set l n v) ≡ take n l ++ (v ∷ [])
one_listed l n v h = ap (λ (k : ℕ). take k (set l n v)) (add-one n) ∙ take-suc-set l n v h
