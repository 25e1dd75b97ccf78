-- `c_write::numbers::code_of_write` meets its contract. Assumes nothing.
use Prim.Native.Nat.{ℕ, ◌≤◌}
use native.Mathlib.Omega.{arith}
use mathlib.Core.Path.{subst}
use Rattle.std.specs.Prelude.{Result}
use Rattle.base.specs.declared.reasons.Refused.{Refused}
use Rattle.meaning.specs.Answer.{code_for_c, first_of}
use Rattle.write.specs.Answers.{answer_of}
use Rattle.c_write.proofs.numbers.code_of_write.Goals as goal

pub overflow_mul-result : goal.overflow_mul-result
unfolding answer_of
overflow_mul-result c =
    let h : c.in-Ok.bytes ≤ 16777217 = subst (λ (x : Result ℕ Refused). first_of (answer_of x) ≤ 16777217) c.in-Ok.is c.requires in omega (arith, h)

pub overflow_mul-result-in-Err : goal.overflow_mul-result-in-Err
unfolding answer_of
overflow_mul-result-in-Err c =
    let h : c.in-Err.refused.first ≤ 16777217 = subst (λ (x : Result ℕ Refused). first_of (answer_of x) ≤ 16777217) c.in-Err.is c.requires in omega (arith, h)

pub overflow_add-result : goal.overflow_add-result
unfolding answer_of
overflow_add-result c =
    let h : c.in-Err.refused.first ≤ 16777217 = subst (λ (x : Result ℕ Refused). first_of (answer_of x) ≤ 16777217) c.in-Err.is c.requires in omega (arith, h, c.number.type_inv)

pub returns-in-Ok : goal.returns-in-Ok
unfolding code_for_c answer_of
returns-in-Ok c = rw c.in-Ok.is

pub returns-in-Err : goal.returns-in-Err
unfolding code_for_c answer_of
returns-in-Err c = rw (c.in-Err.is, c.number.ensures)
