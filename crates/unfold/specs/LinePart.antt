-- What a step over one physical line promises.
use Rattle.std.specs.Prelude.{ℕ, ◌+◌, ◌<◌, ◌≤◌, ◌≡◌, Bool, true, false, List, [], length, take, drop}
use Rattle.std.specs.Prelude.{Option, Some, None, Result, Ok, Err}
use Rattle.meaning.specs.Unfold.{fault, physical, put, next, unfold_lines}
use Rattle.base.specs.Reasons.{number_of}
use Rattle.base.specs.declared.reasons.Reason.{Reason}
use Rattle.unfold.specs.declared.steps.LinePart.{LinePart}

-- the length of CONT and a space, where they are dropped
abbrev pub skip : Bool → ℕ
skip true = 5
skip false = 0

-- the first line's part of len bytes at start, continued or not; the lines from after on are unfolded as they would be
-- alone
pub record Parted (m : ℕ) (continues continued : Bool) (f : List ℕ) (start len after : ℕ) : Type 0 where
  pub inside : start + len < after
  pub within : after ≤ length f
  pub rest : (n : ℕ)
      → unfold_lines m n continues (physical f)
      ≡ put continued (take len (drop start f)) (unfold_lines m (next continued n) continued (physical (drop after f)))

pub record Refused (m : ℕ) (continues : Bool) (f : List ℕ) (reason : Reason) : Type 0 where
  pub least : 3 ≤ number_of reason
  pub greatest : number_of reason ≤ 5
  pub is : (n : ℕ) → unfold_lines m n continues (physical f) ≡ fault (number_of reason) n

-- what the first physical line of f is judged to be, where it continues a line or not
abbrev pub Judged : ℕ → Bool → List ℕ → Result LinePart Reason → Type 0
Judged m continues f (Ok p) = Parted m continues p.continued f p.part.start p.part.len p.after
Judged m continues f (Err reason) = Refused m continues f reason

-- what a step over the first physical line of f finds, where it continues a line or not
abbrev pub Stepped : ℕ → Bool → List ℕ → Result (Option LinePart) Reason → Type 0
Stepped m continues f (Ok None) = (f ≡ []) × (continues ≡ false)
Stepped m continues f (Ok (Some p)) = Judged m continues f (Ok p)
Stepped m continues f (Err reason) = Judged m continues f (Err reason)
