-- `value_read::stretches::same_identification` meets its contract: the first i bytes compare as the whole slices do.
-- Assumes nothing.
use Prim.Native.Nat.{ℕ, suc, ◌-◌, ◌<◌}
use mathlib.Core.Path.{◌≡◌, sym, ◌∙◌}
use mathlib.Core.Bool.{true, and-true}
use mathlib.Core.List.{List}
use native.Mathlib.Omega.{arith}
use lib.Dec.{eqb}
use lib.ListN.{length, take, get_or}
use borrow.Author.Tests.{eq-eqb, ne_eqb}
use Rattle.meaning.specs.Bytes.{same}
use Rattle.meaning.specs.Value.{same_identification}
use Rattle.base.proofs.Scan.{and_false, same_length, same_last}
use Rattle.value_read.proofs.stretches.same_identification.Goals as goal

-- where the bytes at j are equal, the first i = j + 1 bytes compare as the first j do

both_left : (a b : List ℕ) (i j : ℕ) → i ≡ suc j → j < length a → j < length b
    → eqb (get_or a j 0) (get_or b j 0) ≡ true → same (take i a) (take i b) ≡ same a b
    → same (take j a) (take j b) ≡ same a b
both_left a b i j e h g equal inv =
    sym (rw (equal, and-true (same (take j a) (take j b))) at (same_last a b i j e h g)) ∙ inv

pub returns-then-a-b : goal.returns-then-a-b
unfolding same_identification
returns-then-a-b c = sym (same_length c.args.a.now c.args.b.now (λ e. omega arith))

pub returns-then-a-i : goal.returns-then-a-i
unfolding same_identification
returns-then-a-i c =
    let a = c.args.a.now in
    let b = c.args.b.now in
    let i = c.loop-i.i in
    sym (and_false (same (take (i - 1) a) (take (i - 1) b)) (ne_eqb _ _ c.if-a-i.true))
    ∙ sym (same_last a b i (i - 1) (omega arith) (omega arith) (omega arith))
    ∙ c.loop-i.invariant.1

pub returns-then-a-i-2 : goal.returns-then-a-i-2
unfolding same_identification
returns-then-a-i-2 c =
    let a = c.args.a.now in
    let b = c.args.b.now in
    let i = c.loop-i.i in
    let equal = eq-eqb _ _ c.if-a-i.false in
    sym (and_false (same (take (i - 2) a) (take (i - 2) b)) (ne_eqb _ _ c.if-a-i-2.true))
    ∙ sym (same_last a b (i - 1) (i - 2) (omega arith) (omega arith) (omega arith))
    ∙ both_left a b i (i - 1) (omega arith) (omega arith) (omega arith) equal c.loop-i.invariant.1

pub loop-i-preserved : goal.loop-i-preserved
loop-i-preserved c =
    let a = c.args.a.now in
    let b = c.args.b.now in
    let i = c.loop-i.i in
    let last = eq-eqb _ _ c.if-a-i.false in
    let one = both_left a b i (i - 1) (omega arith) (omega arith) (omega arith) last c.loop-i.invariant.1 in (
      omega arith,
      both_left a b (i - 1) (i - 2) (omega arith) (omega arith) (omega arith) (eq-eqb _ _ c.if-a-i-2.false) one,
    )

pub returns-then-i-eq0 : goal.returns-then-i-eq0
unfolding same_identification same
returns-then-i-eq0 c =
    let none : c.loop-i.i ≡ 0 = omega arith in
    rw none at c.loop-i.invariant.1

pub returns : goal.returns
unfolding same_identification same
returns c =
    let a = c.args.a.now in
    let b = c.args.b.now in
    let one : c.loop-i.i ≡ 1 = omega arith in
    sym (same_last a b 1 0 (omega arith) (omega arith) (omega arith)) ∙ (rw one at c.loop-i.invariant.1)
