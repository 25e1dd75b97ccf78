-- The numbers and places of answers: those of 01's table. Assumes nothing.
use Prim.Native.Nat.{ℕ, ◌+◌, ◌≤◌}
use native.Mathlib.Omega.{arith}
use mathlib.Core.Path.{◌≡◌, refl, subst}
use mathlib.Core.Bool.{Bool, true, false, not, ◌||◌, false≢true}
use mathlib.Core.List.{List, [], ◌∷◌}
use lib.Dec.{eqb, ltb}
use lib.ListN.{length}
use borrow.Author.Tests.{le-leb, eqb-true}
use Rattle.meaning.specs.Bytes.{choose, every}
use Rattle.meaning.specs.Unfold.{Unfolded, lines, fault, unfold_file, unfolded_text}
use Rattle.meaning.specs.Faults.{FirstFault, unended, marked, uncontinued, unpermitted}
use Rattle.meaning.specs.Model.{Component, Model}
use Rattle.meaning.specs.Check.{Checked, good, bad, check_model}
use Rattle.meaning.specs.Answer.{Answer, accepted, refusal, too_long, check_answer, check, TextResult, text_unfolded, text_checked, unfold_text}
use Rattle.meaning.specs.Field.{Field}
use Rattle.meaning.specs.Row.{Pair, OfAttribute, OfComponent, OfLine}
use Rattle.meaning.specs.Reading.{Rooms}
use Rattle.meaning.specs.Readback.{is_table}
use Rattle.meaning.specs.Width.{Written, write_bytes, write_checked, write}
use Rattle.meaning.specs.Right.{Line, Entry, Delivered}
use Rattle.meaning.specs.Reasons as reasons
use Rattle.meaning.specs.Reasons.{Place, FieldReason, PointReason, Reason}
use Rattle.meaning.specs.RightClaims as claims
use Rattle.meaning.specs.RightClaims.{field_behind, FirstOfEntries, FirstOfObjects, First, too_large, bad_model, bad_unfolding, no_room, bad_line, full_line, line_missing, object_missing}
use Rattle.meaning.specs.RoomClaims.{is_one_of, is_place_of, Numbered, ReadingNumbers, WritingNumbers, UnfoldingNumbers, CheckNumbers}
use Rattle.meaning.proofs.Tests.Refuse.{refuse_keeps, both}
use Rattle.meaning.proofs.Model.Marks as marks
use Rattle.meaning.proofs.Reading.Claims.{fault_exactly}
use Rattle.meaning.proofs.Right.Claims.{refusal_is_first}

-- ## Answers

-- a number is one of these, and may have this place
abbrev pub Fine : List ℕ → (number first second : ℕ) → Type 0
Fine numbers number first second = (is_one_of number numbers ≡ true) × (is_place_of number first second ≡ true)

abbrev FineAnswer : List ℕ → Answer → Type 0
FineAnswer numbers (accepted first second third) = Unit {0}
FineAnswer numbers (refusal number first second) = Fine numbers number first second

numbered : (numbers : List ℕ) (a : Answer) → FineAnswer numbers a → Numbered numbers a
numbered numbers a h number first second e = subst (FineAnswer numbers) e h

-- what holds of each of these numbers
pub each : (test : ℕ → Bool) (n : ℕ) (ks : List ℕ) → every test ks ≡ true → is_one_of n ks ≡ true → test n ≡ true
unfolding is_one_of every
each test n [] all h = absurd (false≢true h)
each test n (k ∷ ks) all h = by (eqb n k) refl h (each test n ks (both (test k) _ all).1)
  where
    by : (x : Bool) → eqb n k ≡ x → (x || is_one_of n ks) ≡ true → (is_one_of n ks ≡ true → test n ≡ true) → test n ≡ true
    by true e h ih = rw (eqb-true n k e) (both (test k) _ all).0
    by false e h ih = ih h

-- numbers that are all among others
among : (number first second : ℕ) (ks numbers : List ℕ) → every (λ k. is_one_of k numbers) ks ≡ true → Fine ks number first second → Fine numbers number first second
among number first second ks numbers all fine = (each (λ k. is_one_of k numbers) number ks all fine.0, fine.1)

-- ## The check of a model

pub check_numbers : CheckNumbers
unfolding check check_answer is_one_of is_place_of choose
check_numbers model = numbered (2 ∷ []) (check model) (by (check_model model))
  where
    by : (c : Checked) → FineAnswer (2 ∷ []) (check_answer c)
    by (good m) = tt
    by (bad at) = (refl, refl)

-- ## Writing

abbrev writing_numbers : List ℕ
writing_numbers = 2 ∷ 19 ∷ 20 ∷ 21 ∷ []

abbrev FineWritten : Written → Type 0
FineWritten w = FineAnswer writing_numbers w.answer

pub writing_numbers_lem : WritingNumbers
unfolding write write_checked write_bytes is_one_of is_place_of choose
writing_numbers_lem model t width room = numbered writing_numbers (write model t width room).answer (by (check_model model))
  where
    by : (c : Checked) → FineWritten (write_checked t width room c)
    by (bad at) = (refl, refl)
    by (good m) =
        refuse_keeps FineWritten _ _ _ (refl, refl) (λ _.
        refuse_keeps FineWritten (not (is_table m t)) _ _ (refl, refl) (λ _.
        refuse_keeps FineWritten _ _ _ (refl, refl) (λ _. tt)))

-- ## Unfolding

abbrev pub fault_numbers : List ℕ
fault_numbers = 3 ∷ 4 ∷ 5 ∷ []

pub fault_fine : {mark : ℕ} {f : List ℕ} {number line : ℕ} → FirstFault mark f number line → Fine fault_numbers number line 0
unfolding is_place_of is_one_of choose
fault_fine (unended {n = n} f x b w long) = (refl, rw (le-leb 1 (n + 1) (omega arith)))
fault_fine (marked {n = n} f b e h) = (refl, rw (le-leb 1 (n + 1) (omega arith)))
fault_fine (uncontinued {n = n} f others b e last h) = (refl, rw (le-leb 1 (n + 1) (omega arith)))
fault_fine (unpermitted {n = n} f p others b e last h) = (refl, rw (le-leb 1 (n + 1) (omega arith)))

abbrev unfolding_numbers : List ℕ
unfolding_numbers = 1 ∷ 2 ∷ 3 ∷ 4 ∷ 5 ∷ 6 ∷ []

abbrev FineText : TextResult → Type 0
FineText r = FineAnswer unfolding_numbers r.answer

pub unfolding_numbers_lem : UnfoldingNumbers
unfolding unfold_text text_checked text_unfolded is_one_of is_place_of every choose
unfolding_numbers_lem model file room =
    numbered unfolding_numbers (unfold_text model file room).answer (refuse_keeps FineText (too_long file) _ _ (refl, refl) (λ _. by_check (check_model model) refl))
  where
    by_lines : (m : Model) → check_model model ≡ good m → (u : Unfolded) → unfold_file m.mark file ≡ u → FineText (text_unfolded room u)
    by_lines m e (fault number n) h = among number n 0 fault_numbers unfolding_numbers refl (fault_fine ((fault_exactly m.mark (marks.good_mark model m e) file number n).0 h))
    by_lines m e (lines ls) h = refuse_keeps FineText (ltb room (length (unfolded_text ls))) _ _ (refl, refl) (λ _. tt)

    by_check : (c : Checked) → check_model model ≡ c → FineText (text_checked file room c)
    by_check (bad at) e = (refl, refl)
    by_check (good m) e = by_lines m e _ refl

-- ## Reading

-- the numbers of a line that is refused for a reason
abbrev pub line_numbers : List ℕ
line_numbers = 7 ∷ 8 ∷ 9 ∷ 10 ∷ 11 ∷ 12 ∷ 13 ∷ 14 ∷ 15 ∷ 18 ∷ []

-- a field has one of these, at its own place
field_fine : {u : ℕ} {before : Bool} {place n k : ℕ} {ps : List Pair} {fs : List Field} (line : ℕ) → 1 ≤ line → 2 ≤ place → FieldReason u before place ps fs n k → Fine line_numbers n line k
unfolding is_place_of is_one_of choose
field_fine line one at (reasons.FieldReason.line r) = field_fine line one at r
field_fine {place = place} line one at (reasons.FieldReason.missing t) = (refl, rw (le-leb 1 line one, le-leb 2 place at))
field_fine {place = place} line one at reasons.FieldReason.extra = (refl, rw (le-leb 1 line one, le-leb 2 place at))
field_fine {place = place} line one at (reasons.FieldReason.undefined h t b) = (refl, rw (le-leb 1 line one, le-leb 1 place (omega arith)))
field_fine {place = place} line one at (reasons.FieldReason.mixed h t b) = (refl, rw (le-leb 1 line one, le-leb 1 place (omega arith)))
field_fine {place = place} line one at (reasons.FieldReason.covers h t b) = (refl, rw (le-leb 1 line one, le-leb 1 place (omega arith)))
field_fine {place = place} line one at (reasons.FieldReason.behind_twice h t b o) = (refl, rw (le-leb 1 line one, le-leb 2 (place + 1) (omega arith)))
field_fine {place = place} line one at (reasons.FieldReason.shape h b t w) = (refl, rw (le-leb 1 line one, le-leb 2 place at))
field_fine {place = place} line one at (reasons.FieldReason.domain h b t w) = (refl, rw (le-leb 1 line one, le-leb 2 place at))
field_fine line one at (reasons.FieldReason.behind_defined h b t v r) = field_fine line one (omega arith) r
field_fine line one at (reasons.FieldReason.behind_undefined h b t r) = field_fine line one (omega arith) r

point_fine : {u place n k : ℕ} {cs : List Component} {fs : List Field} (line : ℕ) → 1 ≤ line → 2 ≤ place → PointReason u place cs fs n k → Fine line_numbers n line k
unfolding is_place_of is_one_of choose
point_fine {place = place} line one at reasons.PointReason.missing = (refl, rw (le-leb 1 line one, le-leb 2 place at))
point_fine {place = place} line one at reasons.PointReason.extra = (refl, rw (le-leb 1 line one, le-leb 2 place at))
point_fine {place = place} line one at (reasons.PointReason.undefined h) = (refl, rw (le-leb 1 line one, le-leb 1 place (omega arith)))
point_fine {place = place} line one at (reasons.PointReason.shape h w) = (refl, rw (le-leb 1 line one, le-leb 2 place at))
point_fine {place = place} line one at (reasons.PointReason.domain h w) = (refl, rw (le-leb 1 line one, le-leb 2 place at))
point_fine line one at (reasons.PointReason.behind h v r) = point_fine line one (omega arith) r

pub reason_fine : {m : Model} {used : List (List ℕ)} {x : Place} {l : Line} {n k : ℕ} (line : ℕ) → 1 ≤ line → Reason m used x l n k → Fine line_numbers n line k
unfolding is_place_of is_one_of choose
reason_fine line one (reasons.Reason.other_code d h) = (refl, rw (le-leb 1 line one))
reason_fine line one (reasons.Reason.other_division d h) = (refl, rw (le-leb 1 line one))
reason_fine line one (reasons.Reason.motr c) = (refl, rw (le-leb 1 line one))
reason_fine line one (reasons.Reason.no_straights d c) = (refl, rw (le-leb 1 line one))
reason_fine line one (reasons.Reason.no_arcs d c) = (refl, rw (le-leb 1 line one))
reason_fine line one (reasons.Reason.other_transfer c h) = (refl, rw (le-leb 1 line one))
reason_fine line one (reasons.Reason.other_model c h) = (refl, rw (le-leb 1 line one))
reason_fine line one (reasons.Reason.no_topic c h) = (refl, rw (le-leb 1 line one))
reason_fine line one (reasons.Reason.no_table c h) = (refl, rw (le-leb 1 line one))
reason_fine line one (reasons.Reason.skipped c t h) = (refl, rw (le-leb 1 line one))
reason_fine line one (reasons.Reason.skipped_last c h) = (refl, rw (le-leb 1 line one))
reason_fine line one (reasons.Reason.no_field n c) = (refl, rw (le-leb 1 line one))
reason_fine line one (reasons.Reason.behind_code b c) = (refl, rw (le-leb 1 line one))
reason_fine line one (reasons.Reason.behind_division d c) = (refl, rw (le-leb 1 line one))
reason_fine line one (reasons.Reason.behind_name t c) = (refl, rw (le-leb 1 line one))
reason_fine line one (reasons.Reason.undrawn c) = (refl, rw (le-leb 1 line one))
reason_fine line one (reasons.Reason.undefined_identification c h) = (refl, rw (le-leb 1 line one))
reason_fine line one (reasons.Reason.no_identification c d h) = (refl, rw (le-leb 1 line one))
reason_fine line one (reasons.Reason.used_twice c i h) = (refl, rw (le-leb 1 line one))
reason_fine line one (reasons.Reason.of_fields c i h r) = field_fine line one (omega arith) r
reason_fine line one (reasons.Reason.of_point p c r) = point_fine line one (omega arith) r

-- a reference stands in a field from `field` on
entries_field : {all : List Delivered} {field at : ℕ} {ps : List Pair} {es : List Entry} → FirstOfEntries all field ps es at → field ≤ at
unfolding field_behind
entries_field (claims.FirstOfEntries.here h) = omega arith
entries_field (claims.FirstOfEntries.later {p = OfAttribute o type} i r) = omega (arith, entries_field r)
entries_field (claims.FirstOfEntries.later {p = OfComponent c} i r) = omega (arith, entries_field r)
entries_field (claims.FirstOfEntries.later {p = OfLine o forms cs} i r) = entries_field r

objects_field : {m : Model} {all os : List Delivered} {n object field : ℕ} → FirstOfObjects m all n os object field → 3 ≤ field
objects_field (claims.FirstOfObjects.here f) = entries_field f
objects_field (claims.FirstOfObjects.later a r) = objects_field r

abbrev reading_numbers : List ℕ
reading_numbers = 1 ∷ 2 ∷ 3 ∷ 4 ∷ 5 ∷ 6 ∷ 7 ∷ 8 ∷ 9 ∷ 10 ∷ 11 ∷ 12 ∷ 13 ∷ 14 ∷ 15 ∷ 16 ∷ 17 ∷ 18 ∷ []

first_fine : {model file : List ℕ} {rooms : Rooms} {number first second : ℕ} → First model file rooms number first second → Fine reading_numbers number first second
unfolding is_place_of is_one_of every choose
first_fine (too_large l) = (refl, refl)
first_fine (bad_model short e) = (refl, refl)
first_fine (bad_unfolding {number = number} {line = line} short e f) = among number line 0 fault_numbers reading_numbers refl (fault_fine f)
first_fine (no_room o h) = (refl, refl)
first_fine (bad_line {number = number} {field = field} before l after o room c r) = among number (1 + length before) field line_numbers reading_numbers refl (reason_fine (1 + length before) (omega arith) r)
first_fine (full_line before l after o room c f h) = (refl, rw (le-leb 1 (1 + length before) (omega arith)))
first_fine (line_missing {ls = ls} o room c h) = (refl, rw (le-leb 1 (1 + length ls) (omega arith)))
first_fine (object_missing {field = field} o f u e r) = (refl, rw (le-leb 3 field (objects_field r)))

pub reading_numbers_lem : ReadingNumbers
reading_numbers_lem model file rooms number first second e = first_fine (refusal_is_first model file rooms number first second e)
