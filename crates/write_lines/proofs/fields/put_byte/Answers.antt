-- `write_lines::fields::put_byte` meets its contract. Assumes nothing.
use mathlib.Core.Path.{refl}
use mathlib.Core.List.{[], ◌∷◌}
use native.Mathlib.Omega.{arith}
use Rattle.write_lines.specs.Puts.{last_in}
use Rattle.write_lines.proofs.Puts.{stand, full}
use Rattle.write_lines.proofs.fields.put_byte.Goals as goal

pub returns-then-n-out : goal.returns-then-n-out
unfolding last_in
returns-then-n-out c =
    let a = c.args in
    stand (a.b ∷ []) a.put _ a.out.now c.count_on.ensures refl _ refl

pub returns-else-n-out : goal.returns-else-n-out
unfolding last_in
returns-else-n-out c =
    let a = c.args in
    full (a.b ∷ []) a.put _ a.out.now c.count_on.ensures refl (omega arith)
