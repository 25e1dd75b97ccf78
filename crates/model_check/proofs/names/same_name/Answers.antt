-- `model_check::names::same_name` meets its contract. Assumes nothing.
use Prim.Native.Nat.{ℕ, ◌-◌}
use native.Mathlib.Omega.{arith}
use mathlib.Core.List.{List}
use mathlib.Core.Path.{sym, ap, ◌∙◌}
use lib.ListN.{length, get_or}
use Rattle.meaning.proofs.Tests.Same.{same_not}
use Rattle.base.proofs.Scan.{same_length, same_end, same_pointwise}
use Rattle.model_check.proofs.names.same_name.Goals as goal

pub returns-then-n-b : goal.returns-then-n-b
returns-then-n-b c = sym (same_length _ _ c.if-n-b.true)

pub returns-then-n-eq0 : goal.returns-then-n-eq0
returns-then-n-eq0 c =
    let a = c.args in
    sym (same_end a.a.now a.b.now 0 (omega arith) (omega arith))

pub returns-then-a-n : goal.returns-then-a-n
returns-then-a-n c =
    let a = c.args in
    sym (same_not a.a.now a.b.now (λ e. c.if-a-n.true (ap (λ (l : List ℕ). get_or l (length a.a.now - 1) 0) e)))

pub returns : goal.returns
returns c = c.eq.ensures ∙ same_pointwise c.args.a.now c.args.b.now
