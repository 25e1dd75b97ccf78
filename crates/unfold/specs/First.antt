-- What the functions that find the first physical line promise.
use Rattle.std.specs.Prelude.{ℕ, suc, ◌<◌, ◌≤◌, ◌≡◌, Bool, not, ◌&&◌, List, [], ◌∷◌, length, take, drop}
use Rattle.std.specs.Prelude.{eqb, Option, Some, None, Result, Ok, Err}
use Rattle.meaning.specs.Bytes.{choose, begins}
use Rattle.meaning.specs.Unfold.{permitted, every, without_last_if, tail, line, physical}
use Rattle.base.specs.declared.reasons.Reason.{Reason}
use Rattle.base.specs.declared.reasons.Reason.TheVariants.{EndMissing}
use Rattle.unfold.specs.declared.lines.FirstLine.{FirstLine}

-- how many of the first bytes are of a kind
unfoldable pub leading : (ℕ → Bool) → List ℕ → ℕ
leading kind [] = 0
leading kind (b ∷ l) = choose (kind b) (suc (leading kind l)) 0

abbrev pub no_lf : ℕ → Bool
no_lf b = not (eqb b 0x0a)

-- the length of the line end that f begins with
unfoldable pub end_len : List ℕ → ℕ
end_len [] = 0
end_len (b ∷ f) = choose (eqb b 0x0a) 1 (choose (eqb b 0x0d && begins 0x0a f) 2 0)

-- the length of the line end that f begins with, where there is one
abbrev pub EndOf : List ℕ → Option ℕ → Type 0
EndOf f None = end_len f ≡ 0
EndOf f (Some n) = (n ≡ end_len f) × (0 < n)

-- where the first LF of f is
abbrev pub FeedAt : List ℕ → Option ℕ → Type 0
FeedAt f None = length f ≤ leading no_lf f
FeedAt f (Some n) = (n ≡ leading no_lf f) × (n < length f)

-- l without its last byte, or all of it, is its first r bytes
pub record Shortened (shorter : Bool) (l : List ℕ) (r : ℕ) : Type 0 where
  pub within : r ≤ length l
  pub same : take r l ≡ without_last_if shorter l

-- the first physical line of f
pub record LineOf (f : List ℕ) (len after : ℕ) : Type 0 where
  pub inside : len < after
  pub within : after ≤ length f
  pub split : physical f ≡ line (take len f) (physical (drop after f))

-- the first physical line of f, with the test of its bytes
pub record FirstLineOf (f : List ℕ) (first : FirstLine) : Type 0 where
  pub line_of : LineOf f first.len first.after
  pub tested : every permitted (take first.len f) ≡ first.permitted

abbrev pub FirstOf : List ℕ → Result (Option FirstLine) Reason → Type 0
FirstOf f (Ok None) = f ≡ []
FirstOf f (Ok (Some first)) = FirstLineOf f first
FirstOf f (Err reason) = (reason ≡ EndMissing) × (0 < length f) × (physical f ≡ tail f)
