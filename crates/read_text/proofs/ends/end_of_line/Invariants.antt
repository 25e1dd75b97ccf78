-- `read_text::ends::end_of_line` meets its contract: what is left of the line is added to what was passed. Assumes nothing.
use Prim.Native.Nat.{◌+◌}
use mathlib.Core.Path.{◌≡◌}
use lib.ListN.{drop}
use Rattle.read_text.specs.Text.{line_end}
use Rattle.read_text.proofs.ends.end_of_line.Given as goal

abbrev pub invariant-loop-i : goal.invariant-loop-i
invariant-loop-i l = l.i + line_end (drop l.i l.text) ≡ l.at + line_end (drop l.at l.text)
