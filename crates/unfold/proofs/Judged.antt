-- A physical line by its tests, in their order, and the part of a logical line that it is.
-- Assumes nothing.
use Prim.Native.Nat.{ℕ, zero, suc, ◌+◌, ◌-◌, ◌<◌, ◌≤◌, zero-le, suc-le-suc}
use native.Mathlib.Omega.{arith}
use mathlib.Core.Path.{◌≡◌, refl, sym, ap, ◌∙◌}
use mathlib.Core.Bool.{Bool, true, false, not, ◌&&◌, false≢true}
use mathlib.Core.List.{List, [], ◌∷◌}
use lib.ListN.{length, take, drop, length-take, length-drop}
use lib.Seq.{take-take}
use lib.Dec.{eqb}
use borrow.Author.Tests.{eq-eqb, ne_eqb, not-false}
use Rattle.meaning.specs.Unfold.{permitted, every, ends, cont, prefix, tail, physical, none, put, refuse, drop_if, without_last_if, next, unfold_lines}
use Rattle.meaning.proofs.Unfolding.Physical.{phys_nil, some_left}
use Rattle.meaning.proofs.Unfolding.Cuts.{both}
use Rattle.base.proofs.Fill.{to_end}
use Rattle.base.specs.declared.reasons.Reason.TheVariants.{EndMissing, ByteNotPermitted, ContinuationMissing}
use Rattle.unfold.specs.First.{Shortened, LineOf}
use Rattle.unfold.specs.LinePart.{skip, Parted, Refused}

-- ## The tests

-- a file has no line left where it has no byte left
none_drop : (f : List ℕ) (k : ℕ) → k ≤ length f → none (physical (drop k f)) ≡ eqb k (length f)
unfolding none
none_drop f k h = go (drop k f) (length-drop k f)
  where
    go : (r : List ℕ) → length r ≡ length f - k → none (physical r) ≡ eqb k (length f)
    go [] e = rw phys_nil (sym (eq-eqb k (length f) (omega arith)))
    go (b ∷ r) e = some_left b r ∙ sym (ne_eqb k (length f) (λ q. omega arith))

prefix_length : (k l : List ℕ) → prefix k l ≡ true → length k ≤ length l
unfolding prefix
prefix_length [] l h = zero-le
prefix_length (a ∷ k) [] h = absurd (false≢true h)
prefix_length (a ∷ k) (b ∷ l) h = suc-le-suc (prefix_length k l (both (eqb b a) (prefix k l) h).1)

-- a line that passed the test for CONT is as long
pub skip_within : (o : Bool) (l : List ℕ) → (o && not (prefix cont l)) ≡ false → skip o ≤ length l
skip_within true l h = prefix_length cont l (not-false _ h)
skip_within false l h = zero-le

skip_drop : (o : Bool) (l : List ℕ) → drop (skip o) l ≡ drop_if o 5 l
unfolding drop_if
skip_drop true l = refl
skip_drop false l = refl

-- a part of a part from the front is the same part of the whole
part_in : (s t k : ℕ) (l : List ℕ) → s + t ≤ k → take t (drop s (take k l)) ≡ take t (drop s l)
part_in zero t k l h = take-take t k l (omega arith)
part_in (suc s) t zero l h = absurd (omega arith)
part_in (suc s) t (suc k) [] h = refl
part_in (suc s) t (suc k) (b ∷ l) h = part_in s t k l (omega arith)

-- ## Where nothing is judged

pub no_more : (m : ℕ) (o : Bool) (f : List ℕ) → f ≡ [] → o ≡ true → Refused m o f EndMissing
unfolding unfold_lines
no_more m o f e g = record { least = omega arith; greatest = omega arith; is = λ n. rw (e, g, phys_nil) }

pub not_ended : (m : ℕ) (o : Bool) (f : List ℕ) → 0 < length f → physical f ≡ tail f → Refused m o f EndMissing
unfolding unfold_lines
not_ended m o [] h e = absurd (omega arith)
not_ended m o (b ∷ f) h e = record { least = omega arith; greatest = omega arith; is = λ n. rw e }

-- ## The first line of f, whose content is its first len bytes

module _ (m : ℕ) (o : Bool) (f : List ℕ) (len after : ℕ) (first : LineOf f len after) where
  last_line : none (physical (drop after f)) ≡ eqb after (length f)
  last_line = none_drop f after first.within

  pub refused_3 : (ends m (take len f) && eqb after (length f)) ≡ true → Refused m o f EndMissing
  unfolding unfold_lines refuse
  refused_3 t = record { least = omega arith; greatest = omega arith; is = λ n. rw (first.split, last_line, t) }

  module _ (t : (ends m (take len f) && eqb after (length f)) ≡ false) where
    pub refused_5 : (o && not (prefix cont (take len f))) ≡ true → Refused m o f ContinuationMissing
    unfolding unfold_lines refuse
    refused_5 u = record { least = omega arith; greatest = omega arith; is = λ n. rw (first.split, last_line, t, u) }

    module _ (u : (o && not (prefix cont (take len f))) ≡ false) where
      pub refused_4 : every permitted (take len f) ≡ false → Refused m o f ByteNotPermitted
      unfolding unfold_lines refuse
      refused_4 v = record { least = omega arith; greatest = omega arith; is = λ n. rw (first.split, last_line, t, u, v) }

      taken : (c : Bool) → ends m (take len f) ≡ c → every permitted (take len f) ≡ true
          → (n : ℕ) → unfold_lines m n o (physical f) ≡ put c (without_last_if c (drop_if o 5 (take len f))) (unfold_lines m (next c n) c (physical (drop after f)))
      unfolding unfold_lines refuse
      taken c e v n = rw (first.split, last_line, t, u, v, e)

      pub parted : (c : Bool) (start size : ℕ) → ends m (take len f) ≡ c → every permitted (take len f) ≡ true
          → start ≡ skip o → Shortened c (take (length (take len f) - start) (drop start (take len f))) size → Parted m o c f start size after
      parted c start size e v at s =
          let l : List ℕ = take len f in
          let r : Shortened c (drop start l) size = rw (to_end l start) at s in
          let fits : start + size ≤ len = omega (arith, length-drop start l, length-take len f, r.within, skip_within o l u) in
          let part : without_last_if c (drop_if o 5 l) ≡ take size (drop start f) = ap (without_last_if c) (sym (skip_drop o l) ∙ ap (λ (x : ℕ). drop x l) (sym at)) ∙ sym r.same ∙ part_in start size len f fits in
          record {
            inside = omega (arith, first.inside);
            within = first.within;
            rest = λ n. taken c e v n ∙ ap (λ (x : List ℕ). put c x (unfold_lines m (next c n) c (physical (drop after f)))) part;
          }
