-- Two outcomes of one call of writing coincide. Assumes nothing.
use Prim.Native.Nat.{ℕ}
use mathlib.Core.Path.{◌≡◌, refl, sym, ap, ◌∙◌}
use Rattle.std.specs.Prelude.{Result, Ok, Err}
use Rattle.base.specs.declared.reasons.Refused.{Refused}
use Rattle.base.proofs.Numbered.{same_reason}
use Rattle.base.specs.Reasons.{number_of}
use Rattle.write.specs.Answers.{answer_of}
use Rattle.write.specs.Same.{Same}

-- an answer is told by its numbers
same_answer : (r r' : Result ℕ Refused) → answer_of r ≡ answer_of r' → r ≡ r'
unfolding answer_of
same_answer (Ok n) (Ok k) e = let same : n ≡ k = cc in ap Ok same
same_answer (Ok n) (Err r) e = cc
same_answer (Err r) (Ok n) e = cc
same_answer (Err r) (Err s) e =
    let number : number_of r.reason ≡ number_of s.reason = cc in
    let reason = same_reason r.reason s.reason number in
    let first : r.first ≡ s.first = cc in
    let second : r.second ≡ s.second = cc in
    rw (reason, first, second) refl

pub same : Same
same model t width room slots r r' out out' index index' o p =
    (same_answer r r' (o.answer ∙ sym p.answer), o.output ∙ sym p.output, o.zeros ∙ sym p.zeros)
