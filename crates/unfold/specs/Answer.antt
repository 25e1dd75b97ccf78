-- The answer of unfolding, in 01's numbers.
use Rattle.std.specs.Prelude.{ℕ, ◌+◌, ◌≤◌, ◌≡◌, Result, Ok, Err}
use Rattle.meaning.specs.Answer.{accepted, refusal}
use Rattle.meaning.specs.Answer as table
use Rattle.base.specs.Reasons.{number_of}
use Rattle.unfold.specs.declared.Fault.{Fault}

-- "0, text bytes, 0, 0 or reading's .. 3 to 6": a fault's place is its logical line, and 6 has none
abbrev pub answer_of : Result ℕ Fault → table.Answer
answer_of (Ok bytes) = accepted bytes 0 0
answer_of (Err f) = refusal (number_of f.reason) f.line 0

-- 3 to 5 have a line of the file, and 6 has none
pub record FaultWithin (size : ℕ) (f : Fault) : Type 0 where
  pub least : 3 ≤ number_of f.reason
  pub greatest : number_of f.reason ≤ 6
  pub first : number_of f.reason ≤ 5 → 1 ≤ f.line
  pub last : f.line ≤ size + 1
  pub roomless : 6 ≤ number_of f.reason → f.line ≡ 0

-- the values that an answer can have for a file of this size
abbrev pub Within : ℕ → Result ℕ Fault → Type 0
Within size (Ok bytes) = bytes ≤ size
Within size (Err f) = FaultWithin size f
