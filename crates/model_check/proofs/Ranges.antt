-- A test that has one value on a range of bytes: the range is computed through once. Assumes nothing.
use Prim.Native.Nat.{ℕ, zero, suc, ◌+◌, ◌≤◌, ◌<◌}
use native.Mathlib.Omega.{arith}
use mathlib.Core.Path.{◌≡◌, refl, ap, ◌∙◌}
use mathlib.Core.Bool.{Bool, true, false, ◌&&◌, beq, false≢true}
use lib.Dec.{eqb, ltb}
use borrow.Author.Tests.{eqb-true, eqb-false, ltb-true, ltb-false}
use Rattle.meaning.proofs.Tests.Refuse.{both}

unfoldable pub range_is : (ℕ → Bool) → Bool → ℕ → ℕ → Bool
range_is test t low zero = true
range_is test t low (suc n) = beq (test low) t && range_is test t (suc low) n

beq_true : (a b : Bool) → beq a b ≡ true → a ≡ b
beq_true true true h = refl
beq_true true false h = absurd (false≢true h)
beq_true false true h = absurd (false≢true h)
beq_true false false h = refl

pub in_range : (test : ℕ → Bool) (t : Bool) (low n b : ℕ) → range_is test t low n ≡ true → low ≤ b → b < low + n → test b ≡ t
unfolding range_is
in_range test t low zero b h l g = absurd (omega arith)
in_range test t low (suc n) b h l g = go (eqb b low) refl (in_range test t (suc low) n b)
  where
    go : (x : Bool) → eqb b low ≡ x → (range_is test t (suc low) n ≡ true → suc low ≤ b → b < suc low + n → test b ≡ t) → test b ≡ t
    go true e k = ap test (eqb-true b low e) ∙ beq_true (test low) t (both _ _ h).0
    go false e k =
        let d = eqb-false b low e in
        let m : suc low ≤ b = omega arith in
        k (both (beq (test low) t) _ h).1 m (omega arith)

-- a range but for one byte in it
pub in_range_but : (test : ℕ → Bool) (t : Bool) (low n m b : ℕ) → range_is test t low n ≡ true → range_is test t (low + n + 1) m ≡ true
    → low ≤ b → (b ≡ low + n → ⊥) → b < low + n + 1 + m → test b ≡ t
in_range_but test t low n m b h k l d g = go (ltb b (low + n)) refl
  where
    go : (x : Bool) → ltb b (low + n) ≡ x → test b ≡ t
    go true e = in_range test t low n b h l (ltb-true b (low + n) e)
    go false e = let q = ltb-false b (low + n) e in let p : low + n + 1 ≤ b = omega arith in in_range test t (low + n + 1) m b k p g
