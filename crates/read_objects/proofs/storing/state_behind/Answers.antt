-- `read_objects::state_behind` meets its contract. Assumes nothing.
use native.Mathlib.Omega.{arith}
use mathlib.Core.Path.{refl}
use Rattle.read_objects.proofs.storing.state_behind.Goals as goal

pub returns : goal.returns
returns c =
    let d = c.due_lines-due.ensures in let p = c.requires in record { due = d.due; rows = refl; cells = refl; points = refl; holds = λ rows l. d.holds rows _ _ _ l (omega (arith, p.rows_bound)) (omega arith) }
