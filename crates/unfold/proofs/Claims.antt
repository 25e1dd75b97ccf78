-- The claims of specs/Claims.antt. Assumes nothing.
use Prim.Native.Nat.{ℕ}
use mathlib.Core.Path.{◌≡◌, sym, ◌∙◌}
use Rattle.std.proofs.Common.{Result, Ok, Err}
use Rattle.base.proofs.Numbered.{same_reason}
use Rattle.unfold.specs.Answer.{answer_of}
use Rattle.unfold.specs.Claims.{OneOutcome}
use Rattle.unfold.specs.declared.Fault.{Fault}

one_answer : (a b : Result ℕ Fault) → answer_of a ≡ answer_of b → a ≡ b
one_answer (Ok m) (Ok n) e = cc
one_answer (Ok m) (Err f) e = cc
one_answer (Err f) (Ok n) e = cc
one_answer (Err f) (Err g) e =
    let reason : f.reason ≡ g.reason = same_reason f.reason g.reason cc in
    let line : f.line ≡ g.line = cc in
    rw (reason, line)

pub one_outcome : OneOutcome
one_outcome mark file room text other a b x y = (one_answer a b (x.number ∙ sym y.number), x.text ∙ sym y.text)
