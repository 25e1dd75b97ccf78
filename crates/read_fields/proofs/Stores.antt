-- Stores that leave out what has no room: `set` and `sets` change nothing behind a list's end. Assumes nothing.
use Prim.Native.Nat.{ℕ, zero, suc, ◌+◌, ◌*◌, ◌-◌, ◌≤◌}
use native.Mathlib.Nat.{zero-add, add-zero, add-suc, suc-add}
use native.Mathlib.Omega.{arith}
use mathlib.Core.Path.{◌≡◌, refl, sym, ap, ◌∙◌}
use mathlib.Core.List.{List, [], ◌∷◌, ◌++◌}
use lib.IntN.{ℤ, pos}
use lib.ListN.{length, set}
use lib.Seq.{sets, length-sets}
use Rattle.read_fields.specs.RowProgress.{zeros}

-- a store behind the end
pub set_behind : {A : Type 0} (l : List A) (i : ℕ) (v : A) → length l ≤ i → l ≡ set l i v
set_behind [] i v h = refl
set_behind (x ∷ l) zero v h = absurd (omega arith)
set_behind {A} (x ∷ l) (suc i) v h = ap (λ (t : List A). x ∷ t) (set_behind l i v (omega arith))

-- a run of stores behind another
pub sets_append : {A : Type 0} (vs ws l : List A) (i : ℕ) → sets (sets l i vs) (i + length vs) ws ≡ sets l i (vs ++ ws)
sets_append [] ws l i = rw (add-zero i)
sets_append (v ∷ vs) ws l i = rw (add-suc i (length vs), ← suc-add i (length vs)) (sets_append vs ws (set l i v) (suc i))

-- ## Undefined pairs

pub length_zeros : (n : ℕ) → length (zeros n) ≡ n + n
unfolding zeros
length_zeros zero = refl
length_zeros (suc n) = rw (length_zeros n) (omega arith)

pub zeros_append : (n k : ℕ) → zeros n ++ zeros k ≡ zeros (n + k)
unfolding zeros
zeros_append zero k = rw (zero-add k)
zeros_append (suc n) k = rw (suc-add n k, zeros_append n k)

pub zeros_next : (n : ℕ) → zeros (n + 1) ≡ zeros n ++ (pos 0 ∷ pos 0 ∷ [])
unfolding zeros
zeros_next n = sym (zeros_append n 1)

-- one undefined pair more
pub zeros_turn : (l t x : List ℤ) (at i : ℕ) → t ≡ sets l at (zeros i) → x ≡ sets t (at + 2 * i) (pos 0 ∷ pos 0 ∷ []) → x ≡ sets l at (zeros (i + 1))
zeros_turn l t x at i e g =
    let n : at + 2 * i ≡ at + length (zeros i) = omega (arith, length_zeros i) in
    g ∙ rw (e, n) (rw (sets_append (zeros i) (pos 0 ∷ pos 0 ∷ []) l at, ← zeros_next i))

pub same_sets : {A : Type 0} (l x vs : List A) (i : ℕ) → x ≡ sets l i vs → length x ≡ length l
same_sets l x vs i e = ap length e ∙ length-sets l i vs

-- ## Parts

pub part_size : (at len : ℕ) → at + len - at ≡ len
part_size at len = omega arith
