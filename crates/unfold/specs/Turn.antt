-- What the loop over the physical lines keeps, and what the functions in it promise.
use Rattle.std.specs.Prelude.{ℕ, ◌+◌, ◌<◌, ◌≤◌, ◌≡◌, Bool, true, false, List, [], ◌∷◌, ◌++◌, length, take, drop}
use Rattle.std.specs.Prelude.{Option, Some, None, Result, Ok, Err}
use Rattle.meaning.specs.Unfold.{Unfolded, lines, fault, physical, unfold_lines, unfold_file}
use Rattle.meaning.specs.Unfold.{unfolded_text}
use Rattle.meaning.specs.Answer.{accepted, TextResult, filled, text_refused, text_unfolded}
use Rattle.base.specs.Reasons.{number_of}
use Rattle.unfold.specs.Answer.{answer_of, FaultWithin, Within}
use Rattle.unfold.specs.declared.Fault.{Fault}
use Rattle.unfold.specs.declared.LineCursor.{LineCursor}

-- ## The text of a rest of the file

-- a text, or the first fault
pub data Flat : Type 0 where
  good : List ℕ → Flat
  bad : ℕ → ℕ → Flat

-- the text of lines of which the first goes on a line or not: where there is none, that line's LF is due
unfoldable pub closing : Bool → List (List ℕ) → List ℕ
closing continues (l ∷ ls) = unfolded_text (l ∷ ls)
closing true [] = 0x0a ∷ []
closing false [] = []

unfoldable pub flat : Bool → Unfolded → Flat
flat continues (lines ls) = good (closing continues ls)
flat continues (fault number n) = bad number n

unfoldable pub prepend : List ℕ → Flat → Flat
prepend front (good text) = good (front ++ text)
prepend front (bad number n) = bad number n

-- the result where the text is longer than the room: a fault comes first
unfoldable pub overfull : ℕ → Unfolded → TextResult
overfull room (lines ls) = text_refused room 6 0
overfull room (fault number n) = text_refused room number n

-- ## What the functions promise

-- part stands behind the first used bytes, where there is room
pub record Put (used : ℕ) (part text exit : List ℕ) (r : ℕ) : Type 0 where
  pub end : r ≡ used + length part
  pub fits : r ≤ length text → take r exit ≡ take used text ++ part

-- a fault of f, which is the answer for a room of this size
pub record FaultOf (m : ℕ) (f : List ℕ) (room : ℕ) (fault : Fault) : Type 0 where
  pub result : text_unfolded room (unfold_file m f) ≡ text_refused room (number_of fault.reason) fault.line
  pub within : FaultWithin (length f) fault

-- the text of f, which is the first used bytes of the room
pub record TextOf (m : ℕ) (f exit : List ℕ) (room used : ℕ) : Type 0 where
  pub shorter : used ≤ length f
  pub fits : used ≤ room
  pub result : text_unfolded room (unfold_file m f)
      ≡ record { answer = accepted used 0 0; text = filled 0 room (take used exit) }

abbrev pub Over : ℕ → List ℕ → ℕ → List ℕ → Result ℕ Fault → Type 0
Over m f room exit (Ok used) = TextOf m f exit room used
Over m f room exit (Err found) = FaultOf m f room found

-- ## What the loop keeps

pub record TurnReady (m : ℕ) (f text : List ℕ) (s : LineCursor) : Type 0 where
  pub inside : s.at ≤ length f
  pub first : 1 ≤ s.line
  pub numbered : s.line ≤ s.at + 1
  pub shorter : s.used ≤ s.at
  pub fits : s.used ≤ length text
      → flat false (unfold_file m f)
      ≡ prepend (take s.used text)
      (flat s.continues (unfold_lines m s.line s.continues (physical (drop s.at f))))
  pub full : length text < s.used
      → text_unfolded (length text) (unfold_file m f)
      ≡ overfull (length text) (unfold_lines m s.line s.continues (physical (drop s.at f)))

-- the answer, and the room's content
pub record Ended (m : ℕ) (f : List ℕ) (room : ℕ) (exit : List ℕ) (answer : Result ℕ Fault) : Type 0 where
  pub number : answer_of answer ≡ (text_unfolded room (unfold_file m f)).answer
  pub text : exit ≡ (text_unfolded room (unfold_file m f)).text
  pub within : Within (length f) answer

-- no line is left behind the cursor
pub record Finished (f text exit : List ℕ) (s : LineCursor) : Type 0 where
  pub kept : exit ≡ text
  pub empty : drop s.at f ≡ []
  pub ended : s.continues ≡ false

abbrev pub Turned : ℕ → (f text exit : List ℕ) → LineCursor → Result (Option LineCursor) Fault → Type 0
Turned m f text exit s (Ok None) = Finished f text exit s
Turned m f text exit s (Ok (Some after)) = (s.at < after.at) × TurnReady m f exit after
Turned m f text exit s (Err found) = FaultOf m f (length text) found
