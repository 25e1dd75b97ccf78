-- `write::write` meets its contract. Assumes nothing.
use mathlib.Core.Path.{sym, ◌∙◌}
use Rattle.write.proofs.Calls.{told, left_bytes, left_zeros}
use Rattle.write.proofs.write.Goals as goal

pub returns-then-is_err-clause-answer : goal.returns-then-is_err-clause-answer
returns-then-is_err-clause-answer c = told _ _ _ c.write_within-answer.result c.write_within-answer.ensures

pub returns-then-is_err-clause-output : goal.returns-then-is_err-clause-output
returns-then-is_err-clause-output c =
    let w = c.write_within-answer in
    let zeros = left_zeros _ _ _ w.result (sym c.is_err.ensures.value ∙ c.if-is_err.true) w.ensures in
    let f = rw w.auto.out at (c.fill-then-is_err.ensures.after (λ y e. e)) in
    f ∙ zeros

pub returns-else-is_err-clause-answer : goal.returns-else-is_err-clause-answer
returns-else-is_err-clause-answer c = told _ _ _ c.write_within-answer.result c.write_within-answer.ensures

pub returns-else-is_err-clause-output : goal.returns-else-is_err-clause-output
returns-else-is_err-clause-output c =
    let w = c.write_within-answer in
    left_bytes _ _ _ w.result (sym c.is_err.ensures.value ∙ c.if-is_err.false) w.ensures
