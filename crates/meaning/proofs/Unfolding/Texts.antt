-- The unfolding alone: its text where there is room, and its first refusal. Assumes nothing.
use Prim.Native.Nat.{ℕ, ◌≤◌}
use mathlib.Core.Path.{◌≡◌, refl, subst}
use mathlib.Core.Bool.{Bool, true, false}
use mathlib.Core.List.{List}
use lib.Dec.{ltb}
use lib.ListN.{length}
use borrow.Author.Tests.{le-ltb, lt-ltb, ltb-true, ltb-false}
use Rattle.meaning.specs.Bytes.{refuse}
use Rattle.meaning.specs.Unfold.{Unfolded, lines, fault, unfold_file, unfolded_text}
use Rattle.meaning.specs.Model.{Model}
use Rattle.meaning.specs.Check.{Checked, good, bad, check_model}
use Rattle.meaning.specs.Answer.{Answer, accepted, refusal, filled, TextResult, text_refused, text_unfolded, text_checked, unfold_text}
use Rattle.meaning.specs.Claims.{FirstOfText}
use Rattle.meaning.specs.Claims as claims
use Rattle.meaning.proofs.Tests.Unequal.{not_refused}
use Rattle.meaning.proofs.Model.Marks as marks
use Rattle.meaning.proofs.Unfolding.Cuts as cuts
use Rattle.meaning.proofs.Unfolding.Faults as faults

-- a text that has room
pub text_fits_lem : (ls : List (List ℕ)) (room : ℕ) → length (unfolded_text ls) ≤ room → text_unfolded room (lines ls) ≡ record { answer = accepted (length (unfolded_text ls)) 0 0; text = filled 0 room (unfolded_text ls) }
unfolding text_unfolded refuse
text_fits_lem ls room h = rw (le-ltb room (length (unfolded_text ls)) h)

abbrev answer_of : TextResult → Answer
answer_of r = r.answer

module _ (model file : List ℕ) (room : ℕ) where
  pub first_refuses : {number first : ℕ} → FirstOfText model file room number first → answer_of (unfold_text model file room) ≡ refusal number first 0
  unfolding unfold_text text_checked text_unfolded refuse
  first_refuses (claims.too_large l) = rw (lt-ltb 16777216 (length file) l)
  first_refuses (claims.bad_model short e) = rw (le-ltb 16777216 (length file) short, e)
  first_refuses (claims.faulty {m = m} {number = number} {line = line} short e f) =
      let u : unfold_file m.mark file ≡ fault number line = faults.first_fault m.mark (marks.good_mark model m e) f in
      rw (le-ltb 16777216 (length file) short, e, u)
  first_refuses (claims.no_room {m = m} {ls = ls} short e cut l) =
      rw (le-ltb 16777216 (length file) short, e, cuts.cut_unfolds m.mark (marks.good_mark model m e) cut, lt-ltb room (length (unfolded_text ls)) l)

  -- a refusal is told by its numbers
  told : (n a number first : ℕ) → refusal n a 0 ≡ refusal number first 0 → FirstOfText model file room n a → FirstOfText model file room number first
  told n a number first q f = let x : n ≡ number = cc in let y : a ≡ first = cc in subst (λ (k : ℕ). FirstOfText model file room k first) x (subst (λ (k : ℕ). FirstOfText model file room n k) y f)

  pub refused_first : (number first : ℕ) → answer_of (unfold_text model file room) ≡ refusal number first 0 → FirstOfText model file room number first
  unfolding unfold_text text_checked text_unfolded refuse
  refused_first number first h = by (ltb 16777216 (length file)) refl h
    where
      room_by : (m : Model) → length file ≤ 16777216 → check_model model ≡ good m → (ls : List (List ℕ)) → unfold_file m.mark file ≡ lines ls → (x : Bool) → ltb room (length (unfolded_text ls)) ≡ x
          → answer_of (refuse x (text_refused room 6 0) (record { answer = accepted (length (unfolded_text ls)) 0 0; text = filled 0 room (unfolded_text ls) })) ≡ refusal number first 0 → FirstOfText model file room number first
      room_by m short e ls u true q h = told 6 0 number first h (claims.no_room short e (cuts.unfolds_cut m.mark (marks.good_mark model m e) ls file u).0 (ltb-true room (length (unfolded_text ls)) q))
      room_by m short e ls u false q h = absurd (not_refused (length (unfolded_text ls)) 0 0 number first 0 h)

      unfolded_by : (m : Model) → length file ≤ 16777216 → check_model model ≡ good m → (u : Unfolded) → unfold_file m.mark file ≡ u → answer_of (text_unfolded room u) ≡ refusal number first 0 → FirstOfText model file room number first
      unfolded_by m short e (fault n line) u h = told n line number first h (claims.faulty short e (faults.fault_first m.mark (marks.good_mark model m e) file n line u))
      unfolded_by m short e (lines ls) u h = room_by m short e ls u _ refl h

      checked_by : length file ≤ 16777216 → (c : Checked) → check_model model ≡ c → answer_of (text_checked file room c) ≡ refusal number first 0 → FirstOfText model file room number first
      checked_by short (bad at) e h = told 2 at number first h (claims.bad_model short e)
      checked_by short (good m) e h = unfolded_by m short e _ refl h

      by : (x : Bool) → ltb 16777216 (length file) ≡ x → answer_of (refuse x (text_refused room 1 0) (text_checked file room (check_model model))) ≡ refusal number first 0 → FirstOfText model file room number first
      by true q h = told 1 0 number first h (claims.too_large (ltb-true 16777216 (length file) q))
      by false q h = checked_by (ltb-false 16777216 (length file) q) _ refl h
