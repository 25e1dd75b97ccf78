-- `c_unfold::code_of_check` meets its contract. Assumes nothing.
use Prim.Native.Nat.{ℕ, ◌≤◌}
use native.Mathlib.Omega.{arith}
use mathlib.Core.Path.{subst}
use Rattle.std.proofs.Common.{Result, Ok, Err}
use Rattle.meaning.specs.Answer.{code_for_c}
use Rattle.model_check.specs.Walk.{checked_meant}
use Rattle.model_check.specs.declared.check.BadRecord.{BadRecord}
use Rattle.c_unfold.proofs.code_of_check.Goals as goal

pub overflow_mul-result : goal.overflow_mul-result
unfolding code_for_c checked_meant
overflow_mul-result c =
    let h : code_for_c (checked_meant (Ok c.in-Ok.topics)) ≤ 16777218 = subst (λ (x : Result ℕ BadRecord). code_for_c (checked_meant x) ≤ 16777218) c.in-Ok.is c.requires in omega arith

pub overflow_mul-result-in-Err : goal.overflow_mul-result-in-Err
unfolding code_for_c checked_meant
overflow_mul-result-in-Err c =
    let h : code_for_c (checked_meant (Err c.in-Err.bad)) ≤ 16777218 = subst (λ (x : Result ℕ BadRecord). code_for_c (checked_meant x) ≤ 16777218) c.in-Err.is c.requires in omega arith

pub overflow_add-result : goal.overflow_add-result
unfolding code_for_c checked_meant
overflow_add-result c =
    let h : code_for_c (checked_meant (Err c.in-Err.bad)) ≤ 16777218 = subst (λ (x : Result ℕ BadRecord). code_for_c (checked_meant x) ≤ 16777218) c.in-Err.is c.requires in omega arith

pub returns-in-Ok : goal.returns-in-Ok
unfolding code_for_c checked_meant
returns-in-Ok c = rw c.in-Ok.is

pub returns-in-Err : goal.returns-in-Err
unfolding code_for_c checked_meant
returns-in-Err c = rw c.in-Err.is
