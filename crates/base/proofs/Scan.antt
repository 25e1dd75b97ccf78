-- What one turn of each scanning loop shows: the definition at `drop i l` is that at `drop (i + 1) l` with the byte at i before it.
-- Assumes nothing.
use Prim.Native.Nat.{ℕ, zero, suc, ◌+◌, ◌-◌, ◌<◌, ◌≤◌}
use native.Mathlib.Omega.{arith}
use mathlib.Core.Path.{◌≡◌, refl, sym, ap, ◌∙◌}
use mathlib.Core.Bool.{Bool, true, false, ◌&&◌, and_assoc, and-true}
use mathlib.Core.List.{List, [], ◌∷◌}
use lib.ListN.{length, get_or, take, drop, drop_of_length-le}
use lib.Dec.{eqb}
use Rattle.std.proofs.lemmas.Bool.Decides.{nat_tests}
use lib.Pointwise.{pointwise}
use Rattle.std.specs.List.{list_all}
use borrow.Author.Tests.{eq-eqb, ne_eqb}
use Rattle.meaning.specs.Bytes.{every, same, prefix, ends}
use Rattle.meaning.proofs.Lists.{drop_next}

-- a test with one that fails
pub and_false : (t : Bool) {u : Bool} → u ≡ false → (t && u) ≡ false
and_false true e = e
and_false false e = refl

-- ## Every byte is of a kind

module _ (kind : ℕ → Bool) (l : List ℕ) (i : ℕ) where
  pub every_at : i < length l → every kind (drop i l) ≡ (kind (get_or l i 0) && every kind (drop (i + 1) l))
  unfolding every
  every_at h = rw (drop_next l i 0 h)

  pub every_none : length l ≤ i → every kind (drop i l) ≡ true
  unfolding every
  every_none h = rw (drop_of_length-le l h)

  -- a turn of a loop that keeps in `all` whether each byte before i is of the kind
  pub every_turn : (all : Bool) → i < length l → (all && every kind (drop i l)) ≡ every kind l → (all && kind (get_or l i 0) && every kind (drop (i + 1) l)) ≡ every kind l
  every_turn all h inv = and_assoc all (kind (get_or l i 0)) (every kind (drop (i + 1) l)) ∙ rw (← every_at h) inv

  pub every_end : (all : Bool) → length l ≤ i → (all && every kind (drop i l)) ≡ every kind l → all ≡ every kind l
  every_end true h inv = sym (every_none h) ∙ inv
  every_end false h inv = inv

-- ## Equal bytes

pub same_length : (a b : List ℕ) → (length a ≡ length b → ⊥) → same a b ≡ false
unfolding same
same_length [] [] n = absurd (n refl)
same_length [] (y ∷ b) n = refl
same_length (x ∷ a) [] n = refl
same_length (x ∷ a) (y ∷ b) n = and_false (eqb x y) (same_length a b (λ e. n (ap suc e)))

module _ (a b : List ℕ) (i : ℕ) where
  pub same_end : length a ≤ i → length b ≤ i → same (drop i a) (drop i b) ≡ true
  unfolding same
  same_end h g = rw (drop_of_length-le a h, drop_of_length-le b g)

  pub same_miss : i < length a → i < length b → (get_or a i 0 ≡ get_or b i 0 → ⊥) → same (drop i a) (drop i b) ≡ false
  unfolding same
  same_miss h g e = rw (drop_next a i 0 h, drop_next b i 0 g, ne_eqb _ _ e)

  pub same_hit : i < length a → i < length b → get_or a i 0 ≡ get_or b i 0 → same (drop i a) (drop i b) ≡ same (drop (i + 1) a) (drop (i + 1) b)
  unfolding same
  same_hit h g e = rw (drop_next a i 0 h, drop_next b i 0 g, eq-eqb _ _ e)

-- from the back: the last of the first i bytes, behind those before it
pub same_last : (a b : List ℕ) (i k : ℕ) → i ≡ suc k → k < length a → k < length b
    → same (take i a) (take i b) ≡ (same (take k a) (take k b) && eqb (get_or a k 0) (get_or b k 0))
unfolding same
same_last a b zero k e h g = absurd (omega arith)
same_last [] b (suc i) k e h g = absurd (omega arith)
same_last (x ∷ a) [] (suc i) k e h g = absurd (omega arith)
same_last (x ∷ a) (y ∷ b) (suc zero) zero e h g = and-true (eqb x y)
same_last (x ∷ a) (y ∷ b) (suc (suc i)) zero e h g = absurd (omega arith)
same_last (x ∷ a) (y ∷ b) (suc i) (suc k) e h g =
    ap (λ (t : Bool). eqb x y && t) (same_last a b i k (omega arith) (omega arith) (omega arith))
    ∙ sym (and_assoc (eqb x y) _ _)

-- ## A word that l begins with

pub prefix_short : (word l : List ℕ) → length l < length word → prefix word l ≡ false
unfolding prefix
prefix_short [] l h = absurd (omega arith)
prefix_short (x ∷ word) [] h = refl
prefix_short (x ∷ word) (y ∷ l) h = and_false (eqb y x) (prefix_short word l (omega arith))

module _ (word l : List ℕ) (i : ℕ) where
  pub prefix_end : length word ≤ i → prefix (drop i word) (drop i l) ≡ true
  unfolding prefix
  prefix_end h = rw (drop_of_length-le word h)

  pub prefix_miss : i < length word → i < length l → (get_or l i 0 ≡ get_or word i 0 → ⊥) → prefix (drop i word) (drop i l) ≡ false
  unfolding prefix
  prefix_miss h g e = rw (drop_next word i 0 h, drop_next l i 0 g, ne_eqb _ _ e)

  pub prefix_hit : i < length word → i < length l → get_or l i 0 ≡ get_or word i 0 → prefix (drop i word) (drop i l) ≡ prefix (drop (i + 1) word) (drop (i + 1) l)
  unfolding prefix
  prefix_hit h g e = rw (drop_next word i 0 h, drop_next l i 0 g, eq-eqb _ _ e)

-- ## The last byte, by its index

pub ends_at : (b : ℕ) (l : List ℕ) (k : ℕ) → length l ≡ suc k → ends b l ≡ eqb (get_or l k 0) b
unfolding ends
ends_at b [] k h = absurd (omega arith)
ends_at b (c ∷ []) zero h = refl
ends_at b (c ∷ []) (suc k) h = absurd (omega arith)
ends_at b (c ∷ (d ∷ l)) zero h = absurd (omega arith)
ends_at b (c ∷ (d ∷ l)) (suc k) h = ends_at b (d ∷ l) k (omega arith)

pub ends_none : (b : ℕ) (l : List ℕ) → length l ≡ 0 → ends b l ≡ false
unfolding ends
ends_none b [] h = refl
ends_none b (c ∷ l) h = absurd (omega arith)

-- ## The library's comparisons

pub same_pointwise : (a b : List ℕ) → pointwise eqb a b ≡ same a b
unfolding same
same_pointwise [] [] = refl
same_pointwise [] (y ∷ b) = refl
same_pointwise (x ∷ a) [] = refl
same_pointwise (x ∷ a) (y ∷ b) = ap (λ (t : Bool). eqb x y && t) (same_pointwise a b)

eqb_sym : (x y : ℕ) → eqb x y ≡ eqb y x
eqb_sym x y = grind (arith, nat_tests)

pub prefix_pointwise : (word l : List ℕ) → pointwise eqb word (take (length word) l) ≡ prefix word l
unfolding prefix
prefix_pointwise [] l = refl
prefix_pointwise (x ∷ word) [] = refl
prefix_pointwise (x ∷ word) (y ∷ l) = rw (eqb_sym x y, prefix_pointwise word l)

pub every_all : (kind : ℕ → Bool) (l : List ℕ) → list_all kind l ≡ every kind l
unfolding every
every_all kind [] = refl
every_all kind (b ∷ l) = ap (λ (t : Bool). kind b && t) (every_all kind l)

pub ends_pointwise : (b : ℕ) (l : List ℕ) → pointwise eqb (b ∷ []) (drop (length l - 1) l) ≡ ends b l
unfolding ends
ends_pointwise b [] = refl
ends_pointwise b (c ∷ []) = rw (and-true, eqb_sym b c) refl
ends_pointwise b (c ∷ (d ∷ l)) =
    let n : suc (suc (length l)) - 1 ≡ suc (suc (length l) - 1) = omega arith in
    rw n (ends_pointwise b (d ∷ l))
