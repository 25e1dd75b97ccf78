-- When writing refuses, and when it writes (01, "In writing: 2, 20, 19, 21"). Assumes nothing.
use Prim.Native.Nat.{ℕ}
use native.Mathlib.Omega.{arith}
use mathlib.Core.Path.{◌≡◌, refl}
use mathlib.Core.Logic.Iff
use mathlib.Core.Logic.{◌↔◌}
use mathlib.Core.Bool.{Bool, true, false, not, ◌||◌, false≢true}
use mathlib.Core.List.{List}
use lib.Dec.{ltb}
use lib.ListN.{length}
use borrow.Author.Tests.{not-true}
use Rattle.meaning.specs.Bytes.{refuse}
use Rattle.meaning.specs.Model.{Model}
use Rattle.meaning.specs.Check.{good, bad, check_model, GoodModel}
use Rattle.meaning.specs.Answer.{Answer, accepted, refusal, filled}
use Rattle.meaning.specs.Writing.{Lent}
use Rattle.meaning.specs.Readback.{is_table}
use Rattle.meaning.specs.Width.{Written, writing_refused, write_bytes, write_checked, write}
use Rattle.meaning.specs.WritingClaims.{NoLines, file_of, PermittedWidth, OutputFits}
use Rattle.meaning.proofs.Tests.Unequal.{not_refused}
use Rattle.meaning.proofs.Tests.Refuse.{refuse_keeps, neither_less, holds_unless}
use Rattle.meaning.proofs.Model.GoodModels.{checked_good}
use Rattle.meaning.proofs.Judge.Unwritable.{no_table_lem}

-- ## Answers

abbrev answer_of : Written → Answer
answer_of w = w.answer

-- a number is answered exactly when its test holds, where it is not answered behind it
refused_exactly : (x : Bool) (room k : ℕ) (w : Written) → (answer_of w ≡ refusal k 0 0 → ⊥) → (answer_of (refuse x (writing_refused room k 0) w) ≡ refusal k 0 0) ↔ (x ≡ true)
unfolding refuse
refused_exactly true room k w other = (λ _. refl, λ _. refl)
refused_exactly false room k w other = (λ e. absurd (other e), λ e. absurd (false≢true e))

other_number : (n k : ℕ) → (n ≡ k → ⊥) → refusal n 0 0 ≡ refusal k 0 0 → ⊥
other_number n k differs h = let z : n ≡ k = cc in differs z

-- another number than 21 is not answered where a table is written
bytes_other : (room : ℕ) (file : List ℕ) (k : ℕ) → (21 ≡ k → ⊥) → answer_of (write_bytes room file) ≡ refusal k 0 0 → ⊥
unfolding write_bytes
bytes_other room file k differs =
    refuse_keeps (λ (w : Written). answer_of w ≡ refusal k 0 0 → ⊥) (ltb room (length file) || ltb 16777216 (length file)) _ _ (other_number 21 k differs) (λ _. not_refused (length file) 0 0 k 0 0)

-- and 21 exactly when the file does not fit
bytes_exactly : (room : ℕ) (file : List ℕ) → (answer_of (write_bytes room file) ≡ refusal 21 0 0) ↔ (OutputFits room file → ⊥)
unfolding write_bytes
bytes_exactly room file =
    let test : Bool = ltb room (length file) || ltb 16777216 (length file) in
    Iff.trans (refused_exactly test room 21 _ (not_refused (length file) 0 0 21 0 0)) (holds_unless test (neither_less room (length file) 16777216 (length file)))

-- ## The call

-- under a bad model, before all else
pub bad_model_writes : (model : List ℕ) (t : Lent) (width room at : ℕ) → check_model model ≡ bad at → (write model t width room).answer ≡ refusal 2 at 0
unfolding write write_checked
bad_model_writes model t width room at e = rw e

module _ (model : List ℕ) (m : Model) (t : Lent) (width room : ℕ) (e : check_model model ≡ good m) where
  abbrev file : List ℕ
  file = file_of m t width

  -- what is written at a permitted width: it depends on whether the lent table is one
  abbrev judged : Bool → Written
  judged x = refuse (not x) (writing_refused room 19 0) (write_bytes room file)

  pub width_exactly : ((write model t width room).answer ≡ refusal 20 0 0) ↔ (PermittedWidth width → ⊥)
  unfolding write write_checked
  width_exactly =
      let test : Bool = ltb width 16 || ltb 65535 width in
      let other : answer_of (judged (is_table m t)) ≡ refusal 20 0 0 → ⊥ =
      refuse_keeps (λ (w : Written). answer_of w ≡ refusal 20 0 0 → ⊥) (not (is_table m t)) _ _ (other_number 19 20 (λ z. omega arith)) (λ _. bytes_other room file 20 (λ z. omega arith)) in
      rw e (Iff.trans (refused_exactly test room 20 (judged (is_table m t)) other) (holds_unless test (neither_less width 16 65535 width)))

  -- the lent table is one exactly when some lines read as it
  some_lines : (is_table m t ≡ true) ↔ (NoLines m t → ⊥)
  some_lines = holds_unless (is_table m t) (no_table_lem m (checked_good model m e) t)

  module _ (wide : PermittedWidth width) where
    write_judged : write model t width room ≡ judged (is_table m t)
    unfolding write write_checked refuse
    write_judged = rw (e, (neither_less width 16 65535 width).1 wide)

    pub unwritable : ((write model t width room).answer ≡ refusal 19 0 0) ↔ NoLines m t
    unwritable =
        let g : GoodModel m = checked_good model m e in
        let x : Bool = is_table m t in
        let told : (not x ≡ true) ↔ (x ≡ false) = (not-true x, λ h. rw h) in
        rw write_judged (Iff.trans (refused_exactly (not x) room 19 (write_bytes room file) (bytes_other room file 19 (λ z. omega arith))) (Iff.trans told (no_table_lem m g t)))

    pub writes : (NoLines m t → ⊥) → OutputFits room file → write model t width room ≡ record { answer = accepted (length file) 0 0; output = filled 0 room file }
    unfolding write_bytes refuse
    writes some fits = rw (write_judged, some_lines.1 some, (neither_less room (length file) 16777216 (length file)).1 fits)

    pub too_small_exactly : ((write model t width room).answer ≡ refusal 21 0 0) ↔ ((NoLines m t → ⊥) × (OutputFits room file → ⊥))
    unfolding refuse
    too_small_exactly = rw write_judged (by (is_table m t) some_lines)
      where
        by : (x : Bool) → (x ≡ true) ↔ (NoLines m t → ⊥) → (answer_of (judged x) ≡ refusal 21 0 0) ↔ ((NoLines m t → ⊥) × (OutputFits room file → ⊥))
        by true some = (λ h. (some.0 refl, (bytes_exactly room file).0 h), λ h. (bytes_exactly room file).1 h.1)
        by false some = (λ h. absurd (other_number 19 21 (λ z. omega arith) h), λ h. absurd (false≢true (some.1 h.0)))
