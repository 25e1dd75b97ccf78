-- Tests of signed cells, and of stretches of the text. Assumes nothing.
use borrow.Author.Tests.{ltb-true, ltb-false, le-leb, lt-leb, eq-eqb, ne_eqb}
use Prim.Native.Nat.{ℕ, ◌+◌, ◌-◌, ◌≤◌, ◌<◌}
use native.Mathlib.Omega.{arith}
use mathlib.Core.Path.{◌≡◌, refl}
use mathlib.Core.Bool.{Bool, true, false, not, ◌&&◌, true≢false, and-true, and_assoc}
use mathlib.Core.List.{List, [], ◌∷◌}
use lib.Dec.{ltb, eqb}
use lib.IntN.{ℤ, pos, negsuc, nat_abs}
use lib.Signed.{lt_z}
use lib.ListN.{length, take, drop}
use Rattle.meaning.specs.Bytes.{choose, all_of, text_byte, every, same}
use Rattle.meaning.specs.Reading.{stretch}
use Rattle.meaning.specs.Writing.{stretch_bytes}
use Rattle.meaning.specs.Judge.{cell_is, judge_stretch}

-- ## Tests put together

-- a last test
pub alone : (x : Bool) → x ≡ (x && true)
alone true = refl
alone false = refl

pub all_three : (x y z : Bool) → (x && y && z) ≡ all_of (x ∷ y ∷ z ∷ [])
unfolding all_of
all_three x y z = rw (and-true, and_assoc)

-- ## Cells

-- a cell that is not negative is below a number where its size is
pub size_below : (a : ℤ) (n : ℕ) → lt_z a (pos 0) ≡ false → ltb (nat_abs a) n ≡ lt_z a (pos n)
size_below (pos x) n h = refl
size_below (negsuc x) n h = absurd (true≢false h)

pub below_is_not : (a : ℤ) (n : ℕ) → lt_z a (pos n) ≡ true → false ≡ cell_is a n
unfolding cell_is
below_is_not a n h = rw h

pub size_is : (a : ℤ) (n : ℕ) → lt_z a (pos n) ≡ false → eqb (nat_abs a) n ≡ cell_is a n
unfolding cell_is
size_is (pos x) n h = go (ltb n x) refl
  where
    go : (t : Bool) → ltb n x ≡ t → eqb x n ≡ (not (ltb x n) && not t)
    go true e = let l = ltb-true n x e in rw (h, ne_eqb x n (λ (q : x ≡ n). omega arith))
    go false e = let l = ltb-false n x e in rw (h, eq-eqb x n (omega (arith, ltb-false x n h)))
size_is (negsuc x) n h = absurd (true≢false h)

-- ## Stretches

module _ (u : ℕ) (text : List ℕ) (start : ℤ) (size : ℕ) where
  pub stretch_negative : lt_z start (pos 0) ≡ true → false ≡ judge_stretch u text start size
  unfolding judge_stretch all_of
  stretch_negative h = rw h

  pub stretch_outside : lt_z start (pos 0) ≡ false → length text < nat_abs start + size → false ≡ judge_stretch u text start size
  unfolding judge_stretch all_of
  stretch_outside h l = rw (h, lt-leb (nat_abs start + size) (length text) l)

  pub stretch_within : lt_z start (pos 0) ≡ false → nat_abs start + size ≤ length text → (s : List ℕ) → s ≡ stretch text (nat_abs start) size
      → all_of (every text_byte s ∷ not (same s (u ∷ [])) ∷ not (same s (u ∷ u ∷ [])) ∷ []) ≡ judge_stretch u text start size
  unfolding judge_stretch all_of stretch_bytes choose
  stretch_within h l s e = rw (h, le-leb (nat_abs start + size) (length text) l, e)

-- a part of the text as it is lent on
pub lent_stretch : (text : List ℕ) (from from' size : ℕ) → from ≡ from' → take (from + size - from) (drop from text) ≡ stretch text from' size
lent_stretch text from from' size e = let n : from + size - from ≡ size = omega arith in rw (n, e)
