-- Runs of bytes set in a list. Assumes nothing.
use Prim.Native.Nat.{ℕ, suc, ◌+◌, ◌-◌, ◌<◌, ◌≤◌}
use native.Mathlib.Nat.{add-zero}
use native.Mathlib.Omega.{arith}
use mathlib.Core.Path.{◌≡◌, refl, sym, ap, ◌∙◌}
use mathlib.Core.List.{List, [], ◌∷◌, ◌++◌, append_assoc}
use lib.ListN.{length, take, drop, set, take-append-drop, length-drop}
use lib.Seq.{sets, sets-eq, length-sets, take-set-le, drop-set-lt, set_comm, drop-drop, drop_at, length-take-le}
use Rattle.meaning.proofs.Lists.{drop-take}

-- ## What a run leaves as it was

-- what stands before the bytes that are set is as it was
pub take_sets : (m : ℕ) (l : List ℕ) (i : ℕ) (vs : List ℕ) → m ≤ i → take m (sets l i vs) ≡ take m l
take_sets m l i [] h = refl
take_sets m l i (v ∷ vs) h = take_sets m (set l i v) (suc i) vs (omega arith) ∙ take-set-le m l i v h

-- what stands behind it is as it was
pub drop_sets : (m : ℕ) (l : List ℕ) (i : ℕ) (vs : List ℕ) → i + length vs ≤ m → drop m (sets l i vs) ≡ drop m l
drop_sets m l i [] h = refl
drop_sets m l i (v ∷ vs) h = drop_sets m (set l i v) (suc i) vs (omega arith) ∙ drop-set-lt m l i v (omega arith)

-- the list from the run on
pub drop_run : (l : List ℕ) (i : ℕ) (vs : List ℕ) → i + length vs ≤ length l → drop i (sets l i vs) ≡ vs ++ drop (i + length vs) l
drop_run l i vs h =
    rw (sets-eq vs l i h, append_assoc (take i l) vs (drop (i + length vs) l))
    (drop_at (take i l) (vs ++ drop (i + length vs) l) i (length-take-le i l (omega arith)))

-- ## Runs set one behind the other, in another order, and over each other

-- two runs set one behind the other
pub sets_sets : (xs : List ℕ) (l : List ℕ) (i : ℕ) (ys : List ℕ) → sets (sets l i xs) (i + length xs) ys ≡ sets l i (xs ++ ys)
sets_sets [] l i ys = ap (λ (k : ℕ). sets l k ys) (add-zero i)
sets_sets (x ∷ xs) l i ys = ap (λ (k : ℕ). sets (sets (set l i x) (suc i) xs) k ys) (omega arith) ∙ sets_sets xs (set l i x) (suc i) ys

pub set_sets : (j : ℕ) (a : ℕ) (l : List ℕ) (i : ℕ) (vs : List ℕ) → j < i → set (sets l i vs) j a ≡ sets (set l j a) i vs
set_sets j a l i [] h = refl
set_sets j a l i (v ∷ vs) h = set_sets j a (set l i v) (suc i) vs (omega arith) ∙ ap (λ (k : List ℕ). sets k (suc i) vs) (set_comm l i j v a (λ e. omega arith))

sets_swap : (xs : List ℕ) (l : List ℕ) (i j : ℕ) (ys : List ℕ) → i + length xs ≤ j → sets (sets l j ys) i xs ≡ sets (sets l i xs) j ys
sets_swap [] l i j ys h = refl
sets_swap (x ∷ xs) l i j ys h = ap (λ (k : List ℕ). sets k (suc i) xs) (set_sets i x l j ys (omega arith)) ∙ sets_swap xs (set l i x) (suc i) j ys (omega arith)

-- a run set before one that stands
pub sets_before : (xs : List ℕ) (l : List ℕ) (i : ℕ) (ys : List ℕ) → sets (sets l (i + length xs) ys) i xs ≡ sets l i (xs ++ ys)
sets_before xs l i ys = sets_swap xs l i (i + length xs) ys (omega arith) ∙ sets_sets xs l i ys

-- a run set over a shorter one
pub sets_over : (xs ys : List ℕ) (l : List ℕ) (i : ℕ) → length xs ≤ length ys → i + length ys ≤ length l → sets (sets l i xs) i ys ≡ sets l i ys
sets_over xs ys l i h room =
    sets-eq ys (sets l i xs) i (rw (length-sets l i xs) room)
    ∙ rw (take_sets i l i xs (omega arith), drop_sets (i + length ys) l i xs (omega arith)) (sym (sets-eq ys l i room))

-- ## Parts

-- the bytes between two places
abbrev pub between : ℕ → ℕ → List ℕ → List ℕ
between start n l = take (n - start) (drop start l)

pub length_between : (start n : ℕ) (l : List ℕ) → n ≤ length l → length (between start n l) ≡ n - start
length_between start n l h = length-take-le (n - start) (drop start l) (omega (arith, length-drop start l))

pub between_drop : (start n : ℕ) (l : List ℕ) → start ≤ n → between start n l ++ drop n l ≡ drop start l
between_drop start n l h =
    let e : start + (n - start) ≡ n = omega arith in
    rw (← e, ← drop-drop (n - start) start l, e) (take-append-drop (n - start) (drop start l))

-- two lists that agree before n agree between two places before it
pub between_same : (start n : ℕ) (l k : List ℕ) → take n l ≡ take n k → between start n l ≡ between start n k
between_same start n l k e = sym (drop-take start n l) ∙ rw e (drop-take start n k)
