-- Bytes put one after the other. Assumes nothing.
use Prim.Native.Nat.{ℕ, suc, ◌+◌, ◌-◌, ◌≤◌, ◌<◌, min}
use native.Mathlib.Omega.{arith}
use mathlib.Core.Path.{◌≡◌, refl, sym, subst, ◌∙◌}
use mathlib.Core.List.{List, [], ◌∷◌, ◌++◌, append_assoc, append-nil}
use lib.ListN.{length, take, drop, get_or, set, length-append, length-drop, drop_of_length-le}
use lib.Seq.{sets, sets-eq, length-sets, take_at, drop-drop}
use borrow.Rule.Slice.PartMut.{put_mid}
use Rattle.base.proofs.Fill.{to_end}
use Rattle.write_lines.specs.declared.Put.{Put}
use Rattle.write_lines.specs.Puts.{last_in, Puts}
use Rattle.write_lines.proofs.Runs.{drop_run, sets_sets, set_sets}

-- bytes named otherwise
pub renamed : (xs ys : List ℕ) (p : Put) (e e' : List ℕ) (r : Put) → xs ≡ ys → Puts xs p e e' r → Puts ys p e e' r
renamed xs ys p e e' r h q = subst (λ (bs : List ℕ). Puts bs p e e' r) h q

-- nothing is put
pub nothing : (p : Put) (e : List ℕ) → p.count ≤ 4294967295 → Puts [] p e e p
unfolding last_in
nothing p e h = record { count = omega arith; last = refl; room = refl; bytes = λ a b. refl }

pub last_append : (d : ℕ) (xs ys : List ℕ) → last_in d (xs ++ ys) ≡ last_in (last_in d xs) ys
unfolding last_in
last_append d [] ys = refl
last_append d (x ∷ xs) ys = last_append x xs ys

last_of : (d x : ℕ) (l : List ℕ) → get_or (x ∷ l) (length l) d ≡ last_in x l
unfolding last_in
last_of d x [] = refl
last_of d x (y ∷ l) = last_of d y l

-- the last byte by its place
pub last_got : (d : ℕ) (l : List ℕ) → get_or l (length l - 1) d ≡ last_in d l
unfolding last_in
last_got d [] = refl
last_got d (x ∷ l) = let z : suc (length l) - 1 ≡ length l = omega arith in rw z (last_of d x l)

-- bytes behind bytes
pub then : (xs ys : List ℕ) (p q r : Put) (e e' e'' : List ℕ) → Puts xs p e e' q → Puts ys q e' e'' r → Puts (xs ++ ys) p e e'' r
then xs ys p q r e e' e'' a b = record {
  count = rw length-append (omega (arith, a.count, b.count));
  last = b.last ∙ rw a.last (sym (last_append p.last xs ys));
  room = b.room ∙ a.room;
  bytes = λ h f.
      let size = length-append xs ys in
      let k : q.count ≡ p.count + length xs = omega (arith, a.count) in
      b.bytes (omega (arith, a.room)) (omega (arith, a.room)) ∙ rw (a.bytes (omega arith) f, k) (sets_sets xs e p.count ys);
}

-- bytes are put at once: they stand, or there is no room for all
module _ (bs : List ℕ) (p r : Put) (e : List ℕ) (count : r.count ≡ min 4294967295 (p.count + length bs)) (last : r.last ≡ last_in p.last bs) where
  pub stand : (exit : List ℕ) → exit ≡ sets e p.count bs → Puts bs p e exit r
  stand exit h = record { count = count; last = last; room = rw h (length-sets e p.count bs); bytes = λ a b. h }

  pub full : length e < p.count + length bs → Puts bs p e e r
  full h = record { count = count; last = last; room = refl; bytes = λ a b. absurd (omega arith) }

-- a part copied into the room behind n, as the part of a slice that is lent for it comes back
pub copied : (n : ℕ) (xs part : List ℕ) → n + length part ≤ length xs → put_mid n (n + length part - n) xs part ≡ sets xs n part
copied n xs part h =
    let z : n + length part - n ≡ length part = omega arith in
    rw (z, drop-drop, sets-eq part xs n h) (sym (append_assoc (take n xs) part (drop (n + length part) xs)))

-- bytes set at the front of the slice lent from n to its end stand behind n
pub stood : (n : ℕ) (xs bs : List ℕ) → n + length bs ≤ length xs
    → take n xs ++ (sets (take (length xs - n) (drop n xs)) 0 bs ++ drop (length xs - n) (drop n xs)) ≡ sets xs n bs
stood n xs bs h =
    let d = length-drop n xs in
    let z : 0 + length bs ≡ length bs = omega arith in
    let e : sets (drop n xs) 0 bs ≡ bs ++ drop (n + length bs) xs = sets-eq bs (drop n xs) 0 (omega arith) ∙ rw (z, drop-drop (length bs) n xs) in
    rw (to_end xs n, e, drop_of_length-le (drop n xs) {i = length xs - n} (omega arith), append-nil (bs ++ drop (n + length bs) xs), sets-eq bs xs n h)
    (sym (append_assoc (take n xs) bs (drop (n + length bs) xs)))

-- they are what stands there
pub stands : (n size : ℕ) (xs bs : List ℕ) → n + length bs ≤ length xs → size ≡ length bs → take (n + size - n) (drop n (sets xs n bs)) ≡ bs
stands n size xs bs h e = rw (drop_run xs n bs h) (take_at bs _ (n + size - n) (omega (arith, e)))

-- a byte set before bytes that stand
pub byte_before : (n b : ℕ) (xs bs : List ℕ) → set (sets xs (n + 1) bs) (n + 1 - 1) b ≡ sets xs n (b ∷ bs)
byte_before n b xs bs =
    let e : n + 1 ≡ suc n = omega arith in
    let f : n + 1 - 1 ≡ n = omega arith in
    rw (f, e) (set_sets n b xs (suc n) bs (omega arith))

-- ## Bytes put at the front of a room

pub at_front : (size : ℕ) (bs xs ys : List ℕ) → size ≡ length bs → size ≤ length xs → ys ≡ sets xs 0 bs → take size ys ≡ bs
at_front size bs xs ys e h s = rw (s, sets-eq bs xs 0 (omega arith)) (take_at bs _ size (sym e))
