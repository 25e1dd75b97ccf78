-- The marks: too few, or the exact ones and zeros behind them. Assumes nothing.
use Prim.Native.Nat.{ℕ, zero, suc, ◌-◌, ◌≤◌, ◌<◌}
use mathlib.Core.Path.{◌≡◌, sym, ap, ◌∙◌}
use mathlib.Core.List.{List, ◌++◌}
use native.Mathlib.Omega.{arith}
use lib.Dec.{ltb}
use lib.IntN.{ℤ}
use lib.ListN.{length, drop, replicate}
use borrow.Author.Tests.{lt-ltb, le-ltb}
use Rattle.meaning.specs.Bytes.{refuse}
use Rattle.meaning.specs.Reading.{Rooms}
use Rattle.meaning.specs.Table.{Result, refused_with}
use Rattle.std.proofs.Common.{Ok, Err}
use Rattle.read_text.specs.Outcomes.{Answer, TableRead, MarksRead}

drop_same : {A : Type 0} (z : A) (k n : ℕ) → n ≤ k → drop n (replicate k z) ≡ replicate (k - n) z
drop_same z k zero h = ap (λ (j : ℕ). replicate j z) (let e : k ≡ k - 0 = omega arith in e)
drop_same z zero (suc n) h = absurd (omega arith)
drop_same z (suc k) (suc n) h = drop_same z k n (omega arith) ∙ ap (λ (j : ℕ). replicate j z) (let e : k - n ≡ suc k - suc n = omega arith in e)

module _ (rooms : Rooms) (n : ℕ) (r : Result) where
  pub few_marks : rooms.marks < n → refuse (ltb rooms.marks n) (refused_with rooms 6 0 0) r ≡ refused_with rooms 6 0 0
  unfolding refuse
  few_marks h = rw (lt-ltb rooms.marks n h)

  enough_marks : n ≤ rooms.marks → refuse (ltb rooms.marks n) (refused_with rooms 6 0 0) r ≡ r
  unfolding refuse
  enough_marks h = rw (le-ltb rooms.marks n h)

  -- the exact marks stand before those that were cleared
  pub marks_read : (k : ℕ) → k ≡ n → (text lent marks rows : List ℕ) (cells points : List ℤ) (a : Answer) → marks ≡ replicate rooms.marks 0 → k ≤ rooms.marks → length lent ≡ k
      → TableRead r rooms text lent rows cells points a
      → MarksRead (refuse (ltb rooms.marks n) (refused_with rooms 6 0 0) r) rooms text (lent ++ drop k marks) rows cells points a
  marks_read k e text lent marks rows cells points (Ok u) z h l t = record {
    delivered = lent;
    is = enough_marks (omega arith) ∙ t;
    marks_are = ap (λ (ks : List ℕ). lent ++ ks) (ap (drop k) z ∙ drop_same 0 rooms.marks k h ∙ ap (λ (j : ℕ). replicate (rooms.marks - j) 0) (sym l));
  }
  marks_read k e text lent marks rows cells points (Err f) z h l t = enough_marks (omega arith) ∙ t

-- what stands in the buffers of a bundle stands in those it was made of
pub moved : (r : Result) (rooms : Rooms) (text marks rows : List ℕ) (cells points : List ℤ) (a : Answer) → TableRead r rooms text marks rows cells points a
    → (marks' rows' : List ℕ) (cells' points' : List ℤ) → marks' ≡ marks → rows' ≡ rows → cells' ≡ cells → points' ≡ points → TableRead r rooms text marks' rows' cells' points' a
moved r rooms text marks rows cells points a h marks' rows' cells' points' l o c p = rw (l, o, c, p) h
