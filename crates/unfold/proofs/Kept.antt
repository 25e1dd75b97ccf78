-- What the loop over the physical lines keeps: a turn that goes on, and the two in which it ends.
-- Assumes nothing.
use Prim.Native.Nat.{ℕ, ◌+◌, ◌<◌, ◌≤◌}
use native.Mathlib.Omega.{arith}
use mathlib.Core.Path.{◌≡◌, refl, ap, ◌∙◌}
use mathlib.Core.Bool.{Bool, true, false}
use mathlib.Core.List.{List, [], ◌∷◌, ◌++◌, append_assoc}
use lib.ListN.{length, take, drop, length-append}
use lib.Seq.{length-take-le}
use lib.Dec.{ltb}
use borrow.Author.Tests.{ltb-true, ltb-false}
use Rattle.meaning.specs.Unfold.{physical, next, unfold_lines, unfold_file}
use Rattle.meaning.specs.Answer.{text_refused, text_unfolded}
use Rattle.base.specs.Reasons.{number_of}
use Rattle.base.specs.declared.reasons.Reason.{Reason}
use Rattle.base.specs.declared.reasons.Reason.TheVariants.{RoomTooSmall}
use Rattle.unfold.specs.LinePart.{Parted, Refused}
use Rattle.unfold.specs.Turn.{overfull, Put, TurnReady, FaultOf, TextOf}
use Rattle.unfold.specs.declared.LineCursor.{LineCursor}
use Rattle.unfold.proofs.Flat.{ended, step_within, next_flat, next_full, part_length, grown_full, result_bad, result_done, nothing_left}

-- one part put behind another
pub put_both : (used : ℕ) (p q text mid exit : List ℕ) (r t : ℕ) → length mid ≡ length text → Put used p text mid r → Put r q mid exit t → Put used (p ++ q) text exit t
put_both used p q text mid exit r t same a b = record {
  end = b.end ∙ omega (arith, a.end, length-append p q);
  fits = λ h. b.fits (omega arith) ∙ ap (λ (x : List ℕ). x ++ q) (a.fits (omega (arith, b.end))) ∙ append_assoc (take used text) p q;
}

ended_length : (c : Bool) (p : List ℕ) → length (ended c p) ≤ length p + 1
unfolding ended
ended_length true p = omega arith
ended_length false p = omega (arith, length-append p (0x0a ∷ []))

next_most : (c : Bool) (n : ℕ) → next c n ≤ n + 1
unfolding next
next_most true n = omega arith
next_most false n = omega arith

next_least : (c : Bool) (n : ℕ) → n ≤ next c n
unfolding next
next_least true n = omega arith
next_least false n = omega arith

module _ (m : ℕ) (f text : List ℕ) (s : LineCursor) (ready : TurnReady m f text s) where
  -- a turn that goes on: the part, with its LF where it ends a line, is put behind the text
  pub goes_on : (c : Bool) (start len after : ℕ) (exit : List ℕ) (r : ℕ) → Parted m s.continues c (drop s.at f) start len after → length exit ≡ length text
      → Put s.used (ended c (take len (drop (s.at + start) f))) text exit r
      → TurnReady m f exit (record { at = s.at + after; line = next c s.line; used = r; continues = c })
  goes_on c start len after exit r p same put =
      let part : List ℕ = take len (drop (s.at + start) f) in
      let size : length part ≡ len = part_length m s.line s.continues c f s.at start len after p in
      let most : r ≤ s.used + (len + 1) = omega (arith, put.end, ended_length c part) in
      record {
        inside = step_within m s.line s.continues c f s.at start len after p;
        first = omega (arith, ready.first, next_least c s.line);
        numbered = omega (arith, ready.numbered, next_most c s.line, p.inside);
        shorter = omega (arith, ready.shorter, p.inside);
        fits = λ h. rw (put.fits (omega arith)) (next_flat m s.line s.continues c f s.at start len after p _ _ (ready.fits (omega (arith, put.end))));
        full = λ h. rw same (go (ltb (length text) s.used) refl h);
      }
    where
      go : (x : Bool) → ltb (length text) s.used ≡ x → length exit < r
          → text_unfolded (length text) (unfold_file m f) ≡ overfull (length text) (unfold_lines m (next c s.line) c (physical (drop (s.at + after) f)))
      go true e h = next_full m s.line s.continues c f s.at start len after p _ _ (ready.full (ltb-true _ _ e))
      go false e h =
          let below : s.used ≤ length text = ltb-false _ _ e in
          let w : List ℕ = take s.used text ++ ended c (take len (drop (s.at + start) f)) in
          let long : length text < length w = omega (arith, put.end, length-append (take s.used text) (ended c (take len (drop (s.at + start) f))), length-take-le s.used text below) in
          grown_full (length text) _ _ w c (next_flat m s.line s.continues c f s.at start len after p _ _ (ready.fits below)) long

  -- no line is left, and the text fits
  pub done : drop s.at f ≡ [] → s.continues ≡ false → s.used ≤ length text → TextOf m f text (length text) s.used
  done e g below = record {
    shorter = omega (arith, ready.shorter, ready.inside);
    fits = below;
    result =
        let size : length (take s.used text) ≡ s.used = length-take-le s.used text below in
        result_done (length text) _ _ (take s.used text) s.continues (ready.fits below) (nothing_left m s.line _ _ e g) g (omega arith) ∙ rw size refl;
  }

  -- no line is left, and the text does not fit
  pub too_long : drop s.at f ≡ [] → s.continues ≡ false → length text < s.used → FaultOf m f (length text) (record { reason = RoomTooSmall; line = 0 })
  unfolding overfull
  too_long e g above = record {
    result = ready.full above ∙ ap (overfull (length text)) (nothing_left m s.line _ _ e g);
    within = record { least = omega arith; greatest = omega arith; first = λ h. absurd (omega arith); last = omega arith; roomless = λ h. refl };
  }

  -- a fault
  pub refused : (reason : Reason) → Refused m s.continues (drop s.at f) reason → FaultOf m f (length text) (record { reason = reason; line = s.line })
  unfolding overfull
  refused reason bad = record {
    result = result (ltb (length text) s.used) refl;
    within = record {
      least = bad.least;
      greatest = omega (arith, bad.greatest);
      first = λ h. ready.first;
      last = omega (arith, ready.numbered, ready.inside);
      roomless = λ h. absurd (omega (arith, bad.greatest));
    };
  }
    where
      result : (x : Bool) → ltb (length text) s.used ≡ x → text_unfolded (length text) (unfold_file m f) ≡ text_refused (length text) (number_of reason) s.line
      result true h = ready.full (ltb-true _ _ h) ∙ ap (overfull (length text)) (bad.is s.line)
      result false h = result_bad (length text) _ _ (take s.used text) s.continues (ready.fits (ltb-false _ _ h)) (number_of reason) s.line (bad.is s.line)
