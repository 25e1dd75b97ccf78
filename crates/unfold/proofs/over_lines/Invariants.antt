-- `unfold::over_lines` meets its contract: the loop keeps `TurnReady`. Assumes nothing.
use Prim.Native.Nat.{◌-◌}
use lib.ListN.{length}
use Rattle.unfold.specs.Turn.{TurnReady}
use Rattle.unfold.proofs.over_lines.Given as goal

abbrev pub invariant-loop-next : goal.invariant-loop-next
invariant-loop-next l = TurnReady l.mark l.file l.text l.cursor

abbrev pub decreases-loop-next : goal.decreases-loop-next
decreases-loop-next l = length l.file - l.cursor.at
