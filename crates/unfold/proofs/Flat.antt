-- The text of what is unfolded, put together from its parts, and what each way out of the loop answers.
-- Assumes nothing.
use Prim.Native.Nat.{ℕ, ◌+◌, ◌-◌, ◌<◌, ◌≤◌}
use native.Mathlib.Omega.{arith}
use native.Mathlib.Nat.{add-sub_cancel_left}
use mathlib.Core.Path.{◌≡◌, refl, sym, ap, ◌∙◌}
use mathlib.Core.Bool.{Bool, true, false}
use mathlib.Core.List.{List, [], ◌∷◌, ◌++◌, append_assoc, append-nil}
use lib.ListN.{length, take, drop, length-append, length-drop}
use lib.Seq.{length-take-le, drop-drop}
use lib.Dec.{ltb}
use borrow.Author.Tests.{lt-ltb, le-ltb}
use Rattle.meaning.specs.Unfold.{refuse, Unfolded, lines, fault, physical, put, next, unfold_lines}
use Rattle.meaning.specs.Unfold.{unfolded_text}
use Rattle.meaning.specs.Answer.{accepted, TextResult, filled, text_refused, text_unfolded}
use Rattle.meaning.proofs.Unfolding.Physical.{phys_nil}
use Rattle.unfold.specs.LinePart.{Parted}
use Rattle.unfold.specs.Turn.{Flat, good, bad, closing, flat, prepend, overfull}

-- ## Texts

pub prepend_nil : (u : Flat) → u ≡ prepend [] u
unfolding prepend
prepend_nil (good t) = refl
prepend_nil (bad k n) = refl

prepend_append : (v w : List ℕ) (u : Flat) → prepend v (prepend w u) ≡ prepend (v ++ w) u
unfolding prepend
prepend_append v w (good t) = ap good (sym (append_assoc v w t))
prepend_append v w (bad k n) = refl

-- a part, with the LF of the line that it ends
unfoldable pub ended : Bool → List ℕ → List ℕ
ended true p = p
ended false p = p ++ 0x0a ∷ []

flat_put : (o c : Bool) (p : List ℕ) (u : Unfolded) → flat o (put c p u) ≡ prepend (ended c p) (flat c u)
unfolding put unfolded_text flat closing prepend ended
flat_put o c p (fault k n) = refl
flat_put o true p (lines []) = refl
flat_put o true p (lines (l ∷ ls)) = ap good (append_assoc p l (0x0a ∷ unfolded_text ls))
flat_put o false p (lines []) = ap good (sym (append-nil (p ++ 0x0a ∷ [])))
flat_put o false p (lines (l ∷ ls)) = ap good (sym (append_assoc p (0x0a ∷ []) (l ++ 0x0a ∷ unfolded_text ls)))

overfull_put : (r : ℕ) (c : Bool) (p : List ℕ) (u : Unfolded) → overfull r (put c p u) ≡ overfull r u
unfolding put overfull
overfull_put r c p (fault k n) = refl
overfull_put r true p (lines []) = refl
overfull_put r true p (lines (l ∷ ls)) = refl
overfull_put r false p (lines ls) = refl

-- ## A step over the line at k

module _ (m n : ℕ) (o c : Bool) (f : List ℕ) (k start len after : ℕ) (s : Parted m o c (drop k f) start len after) where
  pub step_within : k + after ≤ length f
  step_within = omega (arith, s.inside, s.within, length-drop k f)

  step_rest : unfold_lines m n o (physical (drop k f)) ≡ put c (take len (drop (k + start) f)) (unfold_lines m (next c n) c (physical (drop (k + after) f)))
  step_rest = rw (s.rest n, drop-drop after k f, drop-drop start k f)

  -- what was written, with the part behind it
  pub next_flat : (whole : Flat) (w : List ℕ) → whole ≡ prepend w (flat o (unfold_lines m n o (physical (drop k f)))) →
      whole ≡ prepend (w ++ ended c (take len (drop (k + start) f))) (flat c (unfold_lines m (next c n) c (physical (drop (k + after) f))))
  next_flat whole w e = e ∙ ap (prepend w) (ap (flat o) step_rest ∙ flat_put o c _ _) ∙ prepend_append _ _ _

  pub next_full : (r : ℕ) (whole : TextResult) → whole ≡ overfull r (unfold_lines m n o (physical (drop k f))) →
      whole ≡ overfull r (unfold_lines m (next c n) c (physical (drop (k + after) f)))
  next_full r whole e = e ∙ ap (overfull r) step_rest ∙ overfull_put r c _ _

  -- the part as the code takes it
  pub part_is : take (k + start + len - (k + start)) (drop (k + start) f) ≡ take len (drop (k + start) f)
  part_is = ap (λ (x : ℕ). take x (drop (k + start) f)) (add-sub_cancel_left (k + start) len)

  pub part_length : length (take len (drop (k + start) f)) ≡ len
  part_length = length-take-le len (drop (k + start) f) (omega (arith, s.inside, step_within, length-drop (k + start) f))

-- ## The result

flat_result : ℕ → Flat → TextResult
flat_result r (good t) = refuse (ltb r (length t)) (text_refused r 6 0) (record { answer = accepted (length t) 0 0; text = filled 0 r t })
flat_result r (bad k n) = text_refused r k n

result_flat : (r : ℕ) (u : Unfolded) → text_unfolded r u ≡ flat_result r (flat false u)
unfolding text_unfolded flat_result unfolded_text flat closing
result_flat r (lines []) = refl
result_flat r (lines (l ∷ ls)) = refl
result_flat r (fault k n) = refl

result_long : (r : ℕ) (w : List ℕ) (o : Bool) (u : Unfolded) → r < length w → flat_result r (prepend w (flat o u)) ≡ overfull r u
unfolding flat_result refuse overfull flat prepend
result_long r w o (lines ls) h = rw (lt-ltb r (length (w ++ closing o ls)) (omega (arith, length-append w (closing o ls))))
result_long r w o (fault k n) h = refl

module _ (r : ℕ) (whole rest : Unfolded) (w : List ℕ) (o : Bool) (inv : flat false whole ≡ prepend w (flat o rest)) where
  -- the text no longer fits
  pub grown_full : r < length w → text_unfolded r whole ≡ overfull r rest
  grown_full h = rw (result_flat, inv) (result_long r w o rest h)

  pub result_bad : (k n : ℕ) → rest ≡ fault k n → text_unfolded r whole ≡ text_refused r k n
  unfolding flat_result flat prepend
  result_bad k n e = rw (result_flat, inv, e)

  pub result_done : rest ≡ lines [] → o ≡ false → length w ≤ r → text_unfolded r whole ≡ record { answer = accepted (length w) 0 0; text = filled 0 r w }
  unfolding flat_result refuse flat closing prepend
  result_done e g h = rw (result_flat, inv, e, g, append-nil, le-ltb r (length w) h)

pub nothing_left : (m n : ℕ) (o : Bool) (f : List ℕ) → f ≡ [] → o ≡ false → unfold_lines m n o (physical f) ≡ lines []
unfolding unfold_lines
nothing_left m n o f e g = rw (e, g, phys_nil)
