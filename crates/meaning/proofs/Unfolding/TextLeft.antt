-- What the unfolding leaves in its room. Assumes nothing.
use Prim.Native.Nat.{ℕ, ◌+◌, ◌-◌, ◌≤◌}
use native.Mathlib.Omega.{arith}
use mathlib.Core.Path.{◌≡◌, refl, ap, ◌∙◌}
use mathlib.Core.List.{List}
use lib.Dec.{ltb}
use lib.ListN.{length, replicate, length-replicate, length-append}
use borrow.Author.Tests.{ltb-false}
use Rattle.meaning.specs.Unfold.{Unfolded, lines, fault, unfold_file, unfolded_text}
use Rattle.meaning.specs.Check.{Checked, good, bad, check_model}
use Rattle.meaning.specs.Answer.{refusal, filled, too_long, TextResult, text_refused, text_unfolded, text_checked, unfold_text}
use Rattle.meaning.proofs.Tests.Unequal.{not_refused}
use Rattle.meaning.proofs.Tests.Refuse.{refuse_keeps}

pub filled_length : (room : ℕ) (s : List ℕ) → length s ≤ room → length (filled 0 room s) ≡ room
filled_length room s h = length-append s _ ∙ ap (λ (k : ℕ). length s + k) (length-replicate (room - length s) 0) ∙ omega arith

-- ## The room of unfolding

pub record TextLeft (room : ℕ) (r : TextResult) : Type 0 where
  pub zeroes : (number first second : ℕ) → r.answer ≡ refusal number first second → r.text ≡ replicate room 0
  pub keeps : length r.text ≡ room

refused_text : (room number first : ℕ) → TextLeft room (text_refused room number first)
refused_text room number first = record { zeroes = λ k f s h. refl; keeps = length-replicate room 0 }

pub unfolding_left : (model file : List ℕ) (room : ℕ) → TextLeft room (unfold_text model file room)
unfolding unfold_text text_checked text_unfolded
unfolding_left model file room = refuse_keeps (TextLeft room) (too_long file) _ _ (refused_text room 1 0) (λ _. by_check (check_model model))
  where
    by_lines : (u : Unfolded) → TextLeft room (text_unfolded room u)
    by_lines (fault number n) = refused_text room number n
    by_lines (lines ls) = refuse_keeps (TextLeft room) (ltb room (length (unfolded_text ls))) _ _ (refused_text room 6 0) (λ h. record {
      zeroes = λ k f s e. absurd (not_refused (length (unfolded_text ls)) 0 0 k f s e);
      keeps = filled_length room (unfolded_text ls) (ltb-false room (length (unfolded_text ls)) h);
    })

    by_check : (c : Checked) → TextLeft room (text_checked file room c)
    by_check (bad at) = refused_text room 2 at
    by_check (good m) = by_lines (unfold_file m.mark file)
