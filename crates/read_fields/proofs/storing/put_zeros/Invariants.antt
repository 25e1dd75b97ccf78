-- `read_fields::storing::put_zeros` meets its contract. Assumes nothing.
use mathlib.Core.Path.{◌≡◌}
use lib.Seq.{sets}
use Rattle.read_fields.specs.RowProgress.{zeros}
use Rattle.read_fields.proofs.storing.put_zeros.Given as goal

abbrev pub invariant-loop-i : goal.invariant-loop-i
invariant-loop-i l = l.cells ≡ sets l.initial.cells l.at (zeros l.i)
