-- Fields found from the front: separators skipped one by one, then the run of the field. Assumes nothing.
use Prim.Native.Nat.{ℕ, zero, suc, ◌+◌, ◌≤◌, ◌<◌}
use native.Mathlib.Numerals.{add-one}
use native.Mathlib.Nat.{add_assoc, add-zero}
use native.Mathlib.Omega.{arith}
use mathlib.Core.Path.{◌≡◌, refl, ◌∙◌}
use mathlib.Core.Bool.{Bool, true, false, not, cond, false≢true}
use lib.Dec.{ltb}
use Rattle.std.proofs.lemmas.Bool.Decides.{nat_tests}
use mathlib.Core.List.{List, [], ◌∷◌}
use lib.ListN.{length, take, drop, get_or, length-drop, take-append-drop, drop_of_length-le}
use lib.Seq.{take-suc, length-take-le, drop-length, drop-drop}
use Rattle.std.proofs.Common.{Option, Some, None}
use Rattle.std.specs.Option.{unwrap_or}
use Rattle.std.specs.List.{position_or_len}
use Rattle.meaning.specs.Bytes.{separator, every}
use Rattle.meaning.specs.Field.{goes_on, add_to_fields, fields_of}
use Rattle.meaning.proofs.Values.Digits.{every_append}
use Rattle.meaning.proofs.Reading.Fields.{solid, one_field}
use Rattle.base.specs.Fields.{FirstField}
use Rattle.meaning.proofs.Lists.{drop_next}

-- ## Separators in front

module _ (l : List ℕ) (i : ℕ) where
  -- one separator more
  pub skip_next : i < length l → separator (get_or l i 0) ≡ true → ((s : ℕ) → fields_of s l ≡ fields_of (s + i) (drop i l)) → (s : ℕ) → fields_of s l ≡ fields_of (s + (i + 1)) (drop (i + 1) l)
  unfolding fields_of add_to_fields
  skip_next h e inv s = inv s ∙ rw (drop_next l i 0 h) (rw (e, add_assoc s i 1))

  pub goes_on_lem : i < length l → separator (get_or l i 0) ≡ false → goes_on (drop i l) ≡ true
  unfolding goes_on
  goes_on_lem h e = rw (drop_next l i 0 h) (rw e)

  pub stops_at : i < length l → separator (get_or l i 0) ≡ true → goes_on (drop i l) ≡ false
  unfolding goes_on
  stops_at h e = rw (drop_next l i 0 h) (rw e)

  pub stops_behind : length l ≤ i → goes_on (drop i l) ≡ false
  unfolding goes_on
  stops_behind h = rw (drop_of_length-le l h)

-- the count of separators in front
abbrev pub skip : List ℕ → ℕ
skip l = position_or_len (λ b. not (separator b)) l

one_more : (n : ℕ) → 1 + n ≡ suc n
one_more n = omega arith

found : (i n : ℕ) → i ≤ n → unwrap_or (cond (ltb i n) (Some i) None) n ≡ i
found i n h = grind (arith, nat_tests)

module _ (b : ℕ) (l : List ℕ) where
  -- a byte more in front, by whether it is a separator
  unfoldable more : Bool → ℕ
  more t = cond (not (not t)) (1 + skip l) 0

  more_within : (t : Bool) → skip l ≤ length l → more t ≤ suc (length l)
  unfolding more
  more_within true h = omega arith
  more_within false h = omega arith

  more_same : (t : Bool) → separator b ≡ t → ((s : ℕ) → fields_of s l ≡ fields_of (s + skip l) (drop (skip l) l))
      → (s : ℕ) → fields_of s (b ∷ l) ≡ fields_of (s + more t) (drop (more t) (b ∷ l))
  unfolding more fields_of add_to_fields
  more_same true e rest s =
      let n : s + 1 + skip l ≡ s + suc (skip l) = omega arith in
      rw (e, one_more (skip l)) (rw n at (rest (s + 1)))
  more_same false e rest s = rw (add-zero s) refl

  more_stops : (t : Bool) → separator b ≡ t → (skip l < length l → goes_on (drop (skip l) l) ≡ true)
      → more t < suc (length l) → goes_on (drop (more t) (b ∷ l)) ≡ true
  unfolding more goes_on
  more_stops true e rest h = rw (one_more (skip l)) (rest (omega arith))
  more_stops false e rest h = rw e refl

skip_within : (l : List ℕ) → skip l ≤ length l
unfolding more
skip_within [] = omega arith
skip_within (b ∷ l) = more_within b l (separator b) (skip_within l)

pub skip_same : (l : List ℕ) (s : ℕ) → fields_of s l ≡ fields_of (s + skip l) (drop (skip l) l)
unfolding more
skip_same [] s = rw (add-zero s) refl
skip_same (b ∷ l) s = more_same b l (separator b) refl (skip_same l) s

pub skip_stops : (l : List ℕ) → skip l < length l → goes_on (drop (skip l) l) ≡ true
unfolding more
skip_stops [] h = absurd (omega arith)
skip_stops (b ∷ l) h = more_stops b l (separator b) refl (skip_stops l) h

pub skip_found : (l : List ℕ) (r : Option ℕ) → r ≡ cond (ltb (skip l) (length l)) (Some (skip l)) None → unwrap_or r (length l) ≡ skip l
skip_found l r e = rw e (found (skip l) (length l) (skip_within l))

-- nothing is left
pub skip_all : (l : List ℕ) (i : ℕ) → i ≡ length l → ((s : ℕ) → fields_of s l ≡ fields_of (s + i) (drop i l)) → (s : ℕ) → fields_of s l ≡ []
unfolding fields_of
skip_all l i e inv s = inv s ∙ rw (e, drop-length l)

-- ## The run of a field

pub first_byte : (l : List ℕ) → goes_on l ≡ true → (1 ≤ length l) × (every solid (take 1 l) ≡ true)
unfolding goes_on every solid
first_byte [] h = absurd (false≢true h)
first_byte (b ∷ l) h = (omega arith, rw h)

pub run_next : (l : List ℕ) (i : ℕ) → i < length l → separator (get_or l i 0) ≡ false → every solid (take i l) ≡ true → every solid (take (i + 1) l) ≡ true
unfolding every solid
run_next l i h e inv = rw (add-one i, take-suc l i 0 h) (every_append solid (take i l) (get_or l i 0 ∷ []) inv (rw e))

pub run_field : (l : List ℕ) (i : ℕ) → 0 < i → i ≤ length l → every solid (take i l) ≡ true → goes_on (drop i l) ≡ false
    → (s : ℕ) → fields_of s l ≡ record { start = s; bytes = take i l } ∷ fields_of (s + i) (drop i l)
run_field l zero a h e g s = absurd (omega arith)
run_field [] (suc k) a h e g s = absurd (omega arith)
run_field (b ∷ l) (suc k) a h e g s =
    let n : length (take k l) ≡ k = length-take-le k l (omega arith) in
    rw (n, take-append-drop k l) at (one_field s b (take k l) (drop k l) _ e g refl)

-- the field behind the separators is the first of the rest
pub first_field : (l : List ℕ) (i n : ℕ) → ((s : ℕ) → fields_of s l ≡ fields_of (s + i) (drop i l)) → i ≤ length l → (0 < n) × (n ≤ length (drop i l))
    → ((s : ℕ) → fields_of s (drop i l) ≡ record { start = s; bytes = take n (drop i l) } ∷ fields_of (s + n) (drop n (drop i l))) → FirstField l i n
first_field l i n skip a w first = record {
  within = omega (arith, length-drop i l);
  some = w.0;
  first = λ s. skip s ∙ rw (drop-drop n i l) at (first (s + i));
}
