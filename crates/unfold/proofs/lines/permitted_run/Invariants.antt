-- `unfold::lines::permitted_run` meets its contract: the rest at i begins with as many permitted bytes as are left. Assumes nothing.
use Prim.Native.Nat.{◌+◌}
use mathlib.Core.Path.{◌≡◌}
use lib.ListN.{drop}
use Rattle.meaning.specs.Unfold.{permitted}
use Rattle.unfold.specs.First.{leading}
use Rattle.unfold.proofs.lines.permitted_run.Given as goal

abbrev pub invariant-loop-i : goal.invariant-loop-i
invariant-loop-i l = l.i + leading permitted (drop l.i l.rest) ≡ leading permitted l.rest
