-- Two answers that the check of a model allows coincide. Assumes nothing.
use Prim.Native.Nat.{ℕ}
use native.Mathlib.Omega.{arith}
use mathlib.Core.Path.{◌≡◌, sym, ap, ◌∙◌}
use Rattle.std.proofs.Common.{Result, Ok, Err}
use Rattle.model_check.specs.declared.check.BadRecord.{BadRecord}
use Rattle.model_check.specs.Walk.{checked_meant}
use Rattle.model_check.specs.Same.{OneAnswer}

-- an answer is told by its numbers
same_checked : (c c' : Result ℕ BadRecord) → checked_meant c ≡ checked_meant c' → c ≡ c'
unfolding checked_meant
same_checked (Ok n) (Ok k) e = let same : n ≡ k = cc in ap Ok same
same_checked (Ok n) (Err b) e = let z : ◌≡◌ {A = ℕ} 0 1 = cc in absurd (omega arith)
same_checked (Err b) (Ok n) e = let z : ◌≡◌ {A = ℕ} 0 1 = cc in absurd (omega arith)
same_checked (Err b) (Err d) e = let same : b.at ≡ d.at = cc in ap (λ at. Err (record { at = at })) same

pub one_answer : OneAnswer
one_answer model c c' e f = same_checked c c' (e ∙ sym f)
