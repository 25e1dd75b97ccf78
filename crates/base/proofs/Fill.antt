-- Rooms: lists filled from the front, a part put behind the first bytes, and a part cleared.
-- Assumes nothing.
use Prim.Native.Nat.{ℕ, zero, suc, ◌+◌, ◌-◌, ◌<◌, ◌≤◌}
use native.Mathlib.Numerals.{add-one}
use native.Mathlib.Omega.{arith}
use mathlib.Core.Path.{◌≡◌, refl, ap, ◌∙◌}
use mathlib.Core.List.{List, [], ◌∷◌, ◌++◌, append_assoc, append-nil}
use lib.ListN.{length, take, drop, set, replicate, length-append, length-drop, drop_of_length-le}
use lib.Seq.{take_all, take_at, drop_at, take-length, length-take-le, drop-length, drop-drop, take-suc-set}

-- ## Filling from the front, one store a turn, with elements of any type

module _ {A : Type 0} (v : A) where
  fill_suc : (n : ℕ) (d : List A) → n < length d → set (replicate n v ++ drop n d) n v ≡ replicate (suc n) v ++ drop (suc n) d
  fill_suc n [] h = absurd (omega arith)
  fill_suc zero (x ∷ d) h = refl
  fill_suc (suc n) (x ∷ d) h = ap (λ (t : List A). v ∷ t) (fill_suc n d (omega arith))

  pub fill_next : (n : ℕ) (d now : List A) → n < length d → now ≡ replicate n v ++ drop n d → set now n v ≡ replicate (n + 1) v ++ drop (n + 1) d
  fill_next n d now h e = rw (e, add-one n) (fill_suc n d h)

  pub fill_end : (n : ℕ) (d now : List A) → n ≡ length d → now ≡ replicate n v ++ drop n d → now ≡ replicate (length d) v
  fill_end n d now h e = e ∙ rw (h, drop-length, append-nil)

-- ## Parts

-- a part of a slice from k to its end
pub to_end : {A : Type 0} (l : List A) (k : ℕ) → take (length l - k) (drop k l) ≡ drop k l
to_end l k = take_all (length l - k) (drop k l) (omega (arith, length-drop k l))

-- a part put behind the first k bytes of xs, whatever stands behind it
module _ (k : ℕ) (xs part d z : List ℕ) (h : k ≤ length xs) where
  pub appended_length : length (take k xs ++ part) ≡ k + length part
  appended_length = omega (arith, length-append (take k xs) part, length-take-le k xs h)

  regrouped : take k xs ++ (part ++ d ++ z) ≡ take k xs ++ part ++ (d ++ z)
  regrouped = simp append_assoc

  pub appended : take (k + length part) (take k xs ++ (take (length part) part ++ d ++ z)) ≡ take k xs ++ part
  appended = rw (take-length part, regrouped) (take_at (take k xs ++ part) (d ++ z) (k + length part) appended_length)

  pub behind : drop (k + length part) (take k xs ++ (take (length part) part ++ d ++ z)) ≡ d ++ z
  behind = rw (take-length part, regrouped) (drop_at (take k xs ++ part) (d ++ z) (k + length part) appended_length)

-- what stands behind a part that is put behind the first k bytes of xs is as it was
pub unchanged : (k : ℕ) (xs part : List ℕ) → k ≤ length xs
    → drop (k + length part) (take k xs ++ (take (length part) part ++ drop (length part) (take (length xs - k) (drop k xs)) ++ drop (length xs - k) (drop k xs))) ≡ drop (k + length part) xs
unchanged k xs part h = behind k xs part _ _ h ∙ rw (to_end xs k, drop_of_length-le (drop k xs) {i = length xs - k} (omega (arith, length-drop k xs)), append-nil, drop-drop)

-- a byte stored behind the first k
pub stored : (k : ℕ) (xs : List ℕ) (b : ℕ) → k < length xs → take (k + 1) (set xs k b) ≡ take k xs ++ b ∷ []
stored k xs b h = rw (add-one) (take-suc-set xs k b h)

-- a list whose part from k on is cleared
pub cleared : (k : ℕ) (xs : List ℕ) → take k xs ++ (replicate (length (take (length xs - k) (drop k xs))) 0 ++ drop (length xs - k) (drop k xs)) ≡ take k xs ++ replicate (length xs - k) 0
cleared k xs = rw (to_end xs k, length-drop k xs, drop_of_length-le (drop k xs) {i = length xs - k} (omega (arith, length-drop k xs)), append-nil)
