-- Equal bytes: the test `same` and equality are one; and equal identifications. Assumes nothing.
use Prim.Native.Nat.{ℕ}
use mathlib.Core.Path.{◌≡◌, refl, sym, ap, ◌∙◌}
use mathlib.Core.Bool.{Bool, true, false}
use mathlib.Core.List.{List, [], ◌∷◌}
use lib.Dec.{eqb}
use borrow.Author.Tests.{eq-eqb, eqb-true}
use Rattle.meaning.specs.Bytes.{same}
use Rattle.meaning.specs.Value.{same_identification}

pub same_refl : (s : List ℕ) → same s s ≡ true
unfolding same
same_refl [] = refl
same_refl (a ∷ s) = rw (eq-eqb a a refl) (same_refl s)

pub same_is : (s t : List ℕ) → same s t ≡ true → s ≡ t
unfolding same
same_is [] [] h = refl
same_is [] (b ∷ t) h = cc
same_is (a ∷ s) [] h = cc
same_is (a ∷ s) (b ∷ t) h = go (eqb a b) refl (same_is s t)
  where
    go : (x : Bool) → eqb a b ≡ x → (same s t ≡ true → s ≡ t) → (a ∷ s) ≡ (b ∷ t)
    go true e k = let q : a ≡ b = eqb-true a b e in let r : s ≡ t = k (rw e at h) in cc
    go false e k = let z : ◌≡◌ {A = Bool} false true = rw e at h in cc

-- lists that are not equal
pub same_not : (s t : List ℕ) → (s ≡ t → ⊥) → same s t ≡ false
same_not s t n = go (same s t) refl
  where
    go : (x : Bool) → same s t ≡ x → same s t ≡ false
    go true e = absurd (n (same_is s t e))
    go false e = e

-- two identifications that equal a third are equal
pub identification_alike : (i j k : List ℕ) → same_identification i k ≡ true → same_identification j k ≡ true → same_identification i j ≡ true
unfolding same_identification
identification_alike i j k a b = ap (same i) (same_is j k b ∙ sym (same_is i k a)) ∙ same_refl i
