-- Answers, the content of a lent buffer, and the two calls for C (01, "What it handles", "Refusal numbers").
use Rattle.std.specs.Prelude.{ℕ, ◌+◌, ◌*◌, ◌-◌, Bool, List, [], ◌∷◌, ◌++◌, ltb, length, replicate, take}
use Rattle.meaning.specs.Bytes.{refuse}
use Rattle.meaning.specs.Unfold.{Unfolded, lines, fault, unfold_file, unfolded_text}
use Rattle.meaning.specs.Check.{Checked, good, bad, check_model}

-- ## The answer

-- "An answer is four numbers: 0, objects, cells, points; or a refusal, two place numbers, 0";
-- 0 is followed by other numbers where another call is answered, and each call says by which
pub data Answer : Type 0 where
  accepted : (first second third : ℕ) → Answer
  refusal : (number first second : ℕ) → Answer

unfoldable pub numbers_of : Answer → List ℕ
numbers_of (accepted first second third) = 0 ∷ first ∷ second ∷ third ∷ []
numbers_of (refusal number first second) = number ∷ first ∷ second ∷ 0 ∷ []

-- "Every result buffer is zero behind its used part"
abbrev pub filled : {A : Type 0} → A → ℕ → List A → List A
filled z room xs = xs ++ replicate (room - length xs) z

-- 1: "file above 16,777,216 bytes"
abbrev pub too_long : List ℕ → Bool
too_long file = ltb 16777216 (length file)

-- ## The calls for C

-- the model check: "0, topics, 0, 0 or 2"
unfoldable pub check_answer : Checked → Answer
check_answer (good m) = accepted (length m.topics) 0 0
check_answer (bad at) = refusal 2 at 0

-- the check of a model
unfoldable pub check : List ℕ → Answer
check model = check_answer (check_model model)

-- the unfolding: "0, text bytes, 0, 0 or reading's 1, 2, 3 to 6", and the text's room
pub record TextResult : Type 0 where
  pub answer : Answer
  pub text : List ℕ

-- "All result buffers are zeroed by every refusal"
abbrev pub text_refused : ℕ → ℕ → ℕ → TextResult
text_refused room number first = record { answer = refusal number first 0; text = replicate room 0 }

-- 3 to 5, then 6: "too little room for unfolded text". An unfolded file in a room of so many bytes
unfoldable pub text_unfolded : ℕ → Unfolded → TextResult
text_unfolded room (fault number n) = text_refused room number n
text_unfolded room (lines ls) =
    let text : List ℕ = unfolded_text ls in
    refuse (ltb room (length text)) (text_refused room 6 0)
    (record { answer = accepted (length text) 0 0; text = filled 0 room text })

-- 2: "model bad"
unfoldable pub text_checked : List ℕ → ℕ → Checked → TextResult
text_checked file room (bad at) = text_refused room 2 at
text_checked file room (good m) = text_unfolded room (unfold_file m.mark file)

-- unfolding a file under a model, into lent text room
unfoldable pub unfold_text : List ℕ → List ℕ → ℕ → TextResult
unfold_text model file room =
    refuse (too_long file) (text_refused room 1 0) (text_checked file room (check_model model))

-- "C gets each as one u64: first number plus 256 times the second"
unfoldable pub code_for_c : Answer → ℕ
code_for_c (accepted first second third) = 256 * first
code_for_c (refusal number first second) = number + 256 * first

-- "An answer is four numbers": as many of them as there is room for, and zeros behind
unfoldable pub numbers_in : (room : ℕ) → Answer → List ℕ
numbers_in room a = take room (filled 0 room (numbers_of a))

-- the number behind the first one: the objects, or the first place number
abbrev pub first_of : Answer → ℕ
first_of (accepted first second third) = first
first_of (refusal number first second) = first
