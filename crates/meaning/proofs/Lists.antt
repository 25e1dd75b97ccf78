-- Lists: parts of parts, what stands at an index, what follows it. Assumes nothing.
use Prim.Native.Nat.{ℕ, zero, suc, ◌+◌, ◌-◌, ◌<◌, min}
use native.Mathlib.Numerals.{add-one}
use native.Mathlib.Omega.{arith}
use mathlib.Core.Path.{◌≡◌, refl, sym, ap, ◌∙◌}
use mathlib.Core.Bool.{Bool, true, false}
use mathlib.Core.List.{List, [], ◌∷◌}
use lib.Dec.{leb}
use lib.ListN.{length, take, drop, get_or, replicate, length-drop}
use lib.Seq.{take-nil, take_all, drop-cons, get_or-take}
use borrow.Author.Tests.{leb-true, leb-false}

pub drop-take : {A : Type 0} (k n : ℕ) (l : List A) → drop k (take n l) ≡ take (n - k) (drop k l)
drop-take zero n l = let e : n - 0 ≡ n = omega arith in rw e
drop-take (suc k) zero l = let e : 0 - suc k ≡ 0 = omega arith in rw e
drop-take (suc k) (suc n) [] = sym (take-nil (suc n - suc k))
drop-take (suc k) (suc n) (x ∷ l) = let e : suc n - suc k ≡ n - k = omega arith in rw e (drop-take k n l)

pub first_same : {A : Type 0} (l l' : List A) (n i : ℕ) (d : A) → take n l' ≡ take n l → i < n → get_or l' i d ≡ get_or l i d
first_same {A} l l' n i d e h = sym (get_or-take n l' i d h) ∙ ap (λ (t : List A). get_or t i d) e ∙ get_or-take n l i d h

-- a list of zeros
pub all_zero : (k i : ℕ) → ◌≡◌ {A = ℕ} (get_or (replicate k 0) i 0) 0
all_zero zero i = refl
all_zero (suc k) zero = refl
all_zero (suc k) (suc i) = all_zero k i

pub drop_next : {A : Type 0} (l : List A) (i : ℕ) (d : A) → i < length l → drop i l ≡ get_or l i d ∷ drop (i + 1) l
drop_next l i d h = rw (add-one i) (drop-cons l i d h)

-- a part that ends at the list's end at the latest
pub part : (k s n : ℕ) (b : List ℕ) → n ≡ length b → take (min k (n - s)) (drop s b) ≡ take k (drop s b)
part k s n b e = go (leb k (n - s)) refl
  where
    go : (x : Bool) → leb k (n - s) ≡ x → take (min k (n - s)) (drop s b) ≡ take k (drop s b)
    go true h = let l = leb-true k (n - s) h in let m : min k (n - s) ≡ k = omega arith in rw m
    go false h =
        let l = leb-false k (n - s) h in
        let m : min k (n - s) ≡ n - s = omega arith in
        rw (m, take_all (n - s) (drop s b) (rw length-drop (omega arith)), take_all k (drop s b) (rw length-drop (omega arith)))
