-- A file has at most as many logical lines as bytes. Assumes nothing.
use Prim.Native.Nat.{ℕ, suc, ◌+◌, ◌≤◌}
use native.Mathlib.Omega.{arith}
use mathlib.Core.Path.{◌≡◌, refl}
use mathlib.Core.Bool.{Bool, true, false}
use mathlib.Core.List.{List, [], ◌∷◌}
use lib.ListN.{length}
use lib.Dec.{eqb}
use Rattle.meaning.specs.Bytes.{ends}
use Rattle.meaning.specs.Unfold.{Physical, tail, line, add, split_at_lf, without_cr, physical, Unfolded, lines, fault, put, next, unfold_lines, unfold_file}
use Rattle.meaning.proofs.Tests.Refuse.{refuse_keeps, choose_keeps}

-- the count of physical lines that have a line end
unfoldable count : Physical → ℕ
count (tail l) = 0
count (line l p) = suc (count p)

count_add : (b : ℕ) (p : Physical) → count (add b p) ≡ count p
unfolding count add
count_add b (tail l) = refl
count_add b (line l p) = refl

count_split : (f : List ℕ) → count (split_at_lf f) ≤ length f
unfolding count split_at_lf
count_split [] = omega arith
count_split (b ∷ f) =
    let h = count_split f in
    choose_keeps (λ p. count p ≤ suc (length f)) (eqb b 0x0a) (line [] (split_at_lf f)) (add b (split_at_lf f)) (λ _. omega arith) (λ _. omega (arith, count_add b (split_at_lf f)))

count_cr : (p : Physical) → count (without_cr p) ≡ count p
unfolding count without_cr
count_cr (tail l) = refl
count_cr (line l p) = rw (count_cr p)

count_bytes : (f : List ℕ) → count (physical f) ≤ length f
unfolding physical
count_bytes f = omega (arith, count_cr (split_at_lf f), count_split f)

-- at most n lines, or a fault in a line up to last
unfoldable pub Bounded : (n last : ℕ) → Unfolded → Type 0
Bounded n last (lines ls) = length ls ≤ n
Bounded n last (fault number k) = k ≤ last

put_bounded : (n last : ℕ) (continued : Bool) (p : List ℕ) (u : Unfolded) → Bounded n last u → Bounded (suc n) last (put continued p u)
unfolding Bounded put
put_bounded n last continued p (fault number k) h = h
put_bounded n last false p (lines ls) h = omega arith
put_bounded n last true p (lines []) h = omega arith
put_bounded n last true p (lines (l ∷ ls)) h = omega arith

next_near : (continued : Bool) (n : ℕ) → next continued n ≤ n + 1
unfolding next
next_near true n = omega arith
next_near false n = omega arith

bounded_more : (n last more : ℕ) (u : Unfolded) → last ≤ more → Bounded n last u → Bounded n more u
unfolding Bounded
bounded_more n last more (lines ls) h b = b
bounded_more n last more (fault number k) h b = omega arith

fault_bounded : (n last number k : ℕ) → k ≤ last → Bounded n last (fault number k)
unfolding Bounded
fault_bounded n last number k h = h

lines_bounded : (mark n : ℕ) (continues : Bool) (p : Physical) → Bounded (count p) (n + count p) (unfold_lines mark n continues p)
unfolding Bounded unfold_lines count
lines_bounded mark n true (tail []) = omega arith
lines_bounded mark n false (tail []) = omega arith
lines_bounded mark n true (tail (b ∷ l)) = omega arith
lines_bounded mark n false (tail (b ∷ l)) = omega arith
lines_bounded mark n continues (line l p) =
    refuse_keeps (Bounded (suc (count p)) (n + suc (count p))) _ _ _ (fault_bounded (suc (count p)) (n + suc (count p)) 3 n (omega arith)) (λ _.
    refuse_keeps (Bounded (suc (count p)) (n + suc (count p))) _ _ _ (fault_bounded (suc (count p)) (n + suc (count p)) 5 n (omega arith)) (λ _.
    refuse_keeps (Bounded (suc (count p)) (n + suc (count p))) _ _ _ (fault_bounded (suc (count p)) (n + suc (count p)) 4 n (omega arith)) (λ _.
    put_bounded (count p) (n + suc (count p)) _ _ _ (bounded_more (count p) (next (ends mark l) n + count p) (n + suc (count p)) (unfold_lines mark (next (ends mark l) n) (ends mark l) p) (omega (arith, next_near (ends mark l) n)) (lines_bounded mark (next (ends mark l) n) (ends mark l) p)))))

wider : (n k last more : ℕ) (u : Unfolded) → n ≤ k → last ≤ more → Bounded n last u → Bounded k more u
unfolding Bounded
wider n k last more (lines ls) h g b = omega arith
wider n k last more (fault number j) h g b = omega arith

pub file_bounded : (mark : ℕ) (f : List ℕ) → Bounded (length f) (length f + 1) (unfold_file mark f)
unfolding unfold_file
file_bounded mark f = wider (count (physical f)) (length f) (1 + count (physical f)) (length f + 1) _ (count_bytes f) (omega (arith, count_bytes f)) (lines_bounded mark 1 false (physical f))
