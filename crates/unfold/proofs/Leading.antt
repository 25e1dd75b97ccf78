-- How many of the first bytes are of a kind: what one turn of a loop shows, and what a whole block shows.
-- Assumes nothing.
use Prim.Native.Nat.{ℕ, zero, suc, ◌+◌, ◌*◌, ◌<◌, ◌≤◌, zero-le, suc-le-suc}
use native.Mathlib.Omega.{arith}
use native.Mathlib.Nat.{mul_comm}
use mathlib.Core.Path.{◌≡◌, refl, ap, ◌∙◌}
use mathlib.Core.Bool.{Bool, true, false, not, cond, false≢true}
use mathlib.Core.List.{List, [], ◌∷◌, ◌++◌}
use lib.ListN.{length, get_or, take, drop, length-drop, drop_of_length-le}
use lib.Seq.{drop-drop}
use Rattle.std.specs.List.{position_or_len, IsSubsliceAt}
use Rattle.std.specs.Option.{option_map, IfSome}
use Rattle.std.proofs.lemmas.List.Recursion.{is_position_or_len}
use Rattle.meaning.specs.Bytes.{choose, every}
use Rattle.std.proofs.Common.{Option, Some, None}
use lib.Dec.{ltb}
use borrow.Author.Tests.{ltb-true, ltb-false}
use Rattle.unfold.specs.First.{leading, no_lf, FeedAt}
use Rattle.meaning.proofs.Lists.{drop_next}

module _ (kind : ℕ → Bool) where
  leading_first : (b : ℕ) (l : List ℕ) → kind b ≡ true → leading kind (b ∷ l) ≡ suc (leading kind l)
  unfolding leading choose
  leading_first b l e = rw e

  leading_other : (b : ℕ) (l : List ℕ) → kind b ≡ false → leading kind (b ∷ l) ≡ 0
  unfolding leading choose
  leading_other b l e = rw e

  pub leading_within : (l : List ℕ) → leading kind l ≤ length l
  unfolding leading choose
  leading_within [] = zero-le
  leading_within (b ∷ l) = go (kind b) (leading_within l)
    where
      go : (x : Bool) → leading kind l ≤ length l → choose x (suc (leading kind l)) 0 ≤ suc (length l)
      go true h = suc-le-suc h
      go false h = zero-le

  pub leading_every : (l : List ℕ) → every kind (take (leading kind l) l) ≡ true
  unfolding every leading
  leading_every [] = refl
  leading_every (b ∷ l) = go (kind b) refl (leading_every l)
    where
      go : (x : Bool) → kind b ≡ x → every kind (take (leading kind l) l) ≡ true → every kind (take (leading kind (b ∷ l)) (b ∷ l)) ≡ true
      go true e h = rw (leading_first b l e, e) h
      go false e h = rw (leading_other b l e)

  -- the byte behind them is of another kind
  pub leading_behind : (l : List ℕ) → leading kind l < length l → kind (get_or l (leading kind l) 0) ≡ false
  leading_behind [] h = absurd (omega arith)
  leading_behind (b ∷ l) h = go (kind b) refl (λ k. leading_behind l k)
    where
      go : (x : Bool) → kind b ≡ x → (leading kind l < length l → kind (get_or l (leading kind l) 0) ≡ false) → kind (get_or (b ∷ l) (leading kind (b ∷ l)) 0) ≡ false
      go true e ih = rw (leading_first b l e) (ih (omega (arith, leading_first b l e)))
      go false e ih = rw (leading_other b l e) e

  -- a run of bytes of the kind before what does not begin with one
  pub leading_append : (l r : List ℕ) → every kind l ≡ true → leading kind r ≡ 0 → leading kind (l ++ r) ≡ length l
  unfolding every
  leading_append [] r h e = e
  leading_append (b ∷ l) r h e = go (kind b) refl (λ k. leading_append l r k e)
    where
      go : (x : Bool) → kind b ≡ x → (every kind l ≡ true → leading kind (l ++ r) ≡ length l) → leading kind (b ∷ (l ++ r)) ≡ suc (length l)
      go true g ih = leading_first b (l ++ r) g ∙ ap suc (ih (rw g at h))
      go false g ih = absurd (false≢true (rw g at h))

  -- a block of bytes of the kind
  pub leading_block : (k : ℕ) (l : List ℕ) → k ≤ length l → every kind (take k l) ≡ true → k + leading kind (drop k l) ≡ leading kind l
  unfolding every
  leading_block zero l h e = omega arith
  leading_block (suc k) [] h e = absurd (omega arith)
  leading_block (suc k) (b ∷ l) h e = go (kind b) refl (λ g. leading_block k l (omega arith) g)
    where
      go : (x : Bool) → kind b ≡ x → (every kind (take k l) ≡ true → k + leading kind (drop k l) ≡ leading kind l) → suc k + leading kind (drop k l) ≡ leading kind (b ∷ l)
      go true g ih = omega (arith, leading_first b l g, ih (rw g at e))
      go false g ih = absurd (false≢true (rw g at e))

  module _ (l : List ℕ) (i : ℕ) where
    pub leading_end : length l ≤ i → leading kind (drop i l) ≡ 0
    unfolding leading
    leading_end h = rw (drop_of_length-le l h)

    pub leading_stop : i < length l → kind (get_or l i 0) ≡ false → leading kind (drop i l) ≡ 0
    leading_stop h e = rw (drop_next l i 0 h) (leading_other _ _ e)

    pub leading_on : i < length l → kind (get_or l i 0) ≡ true → leading kind (drop i l) ≡ suc (leading kind (drop (i + 1) l))
    leading_on h e = rw (drop_next l i 0 h) (leading_first _ _ e)

    -- the block of k bytes at i
    leading_over : (k : ℕ) → i + k ≤ length l → every kind (take k (drop i l)) ≡ true → k + leading kind (drop (i + k) l) ≡ leading kind (drop i l)
    leading_over k h e = rw (← (drop-drop k i l)) (leading_block k (drop i l) (omega (arith, length-drop i l)) e)

  -- n blocks of sixteen bytes in a row
  pub leading_blocks : (l : List ℕ) (n : ℕ) → 16 * n ≤ length l → ((k : ℕ) → k < n → every kind (take 16 (drop (k * 16) l)) ≡ true)
      → 16 * n + leading kind (drop (16 * n) l) ≡ leading kind l
  leading_blocks l zero h each = omega arith
  leading_blocks l (suc n) h each =
      let here : every kind (take 16 (drop (16 * n) l)) ≡ true = rw (mul_comm n 16) at (each n (omega arith)) in
      let over : 16 + leading kind (drop (16 * n + 16) l) ≡ leading kind (drop (16 * n) l) = leading_over l (16 * n) 16 (omega arith) here in
      let next : 16 * suc n ≡ 16 * n + 16 = omega arith in
      let below : 16 * n + leading kind (drop (16 * n) l) ≡ leading kind l = leading_blocks l n (omega arith) (λ k j. each k (omega arith)) in
      rw next (omega arith)

  -- the first byte of another kind
  pub leading_other_kind : (l : List ℕ) → leading kind l ≡ position_or_len (λ b. not (kind b)) l
  unfolding leading choose
  leading_other_kind = is_position_or_len (leading kind) (λ b. not (kind b)) refl (λ b l. step (kind b) (leading kind l))
    where
      step : (x : Bool) (n : ℕ) → choose x (suc n) 0 ≡ cond (not x) 0 (1 + n)
      step true n = omega arith
      step false n = refl

-- where the first LF is, as it is searched for
pub feed_at : (l : List ℕ) (r : Option ℕ) → r ≡ cond (ltb (position_or_len (λ b. not (no_lf b)) l) (length l)) (Some (position_or_len (λ b. not (no_lf b)) l)) None → FeedAt l r
feed_at l r e = go (ltb (leading no_lf l) (length l)) refl
  where
    found : r ≡ cond (ltb (leading no_lf l) (length l)) (Some (leading no_lf l)) None
    found = rw (leading_other_kind no_lf l) e

    go : (x : Bool) → ltb (leading no_lf l) (length l) ≡ x → FeedAt l r
    go true h = rw (found, h) (refl, ltb-true _ _ h)
    go false h = rw (found, h) (ltb-false _ _ h)

-- an item of a chain that passed the test is a block of the kind
pub block_passed : {X : Type 0} {A : X → Type 0} (kind : ℕ → Bool) (v : X → List ℕ) (l r : List ℕ) (s k : ℕ) (o q : Option X) (y : X) → option_map (λ (x : X). x) o ≡ Some y → q ≡ o
    → IfSome o A → ((x : X) → A x → every kind (v x) ≡ true) → IfSome q (λ x. (length (v x) ≡ s) × (k * s + s ≤ length r) × IsSubsliceAt s r (k * s) (v x)) → s ≡ 16 → r ≡ l
    → every kind (take 16 (drop (k * 16) l)) ≡ true
block_passed kind v l r s k None q y e same passed each at size whole = cc
block_passed kind v l r s k (Some x) None y e same passed each at size whole = cc
block_passed kind v l r s k (Some x) (Some z) y e same passed each at size whole =
    let one : z ≡ x = cc in
    let part : v x ≡ take 16 (drop (k * 16) l) = rw (one, size, whole) at at.2.0 in
    rw part at (each x passed)
