-- `write_lines::cuts::put_cuts` meets its contract. Assumes nothing.
use Prim.Native.Nat.{◌+◌, ◌*◌, ◌-◌, ◌≤◌, ◌<◌}
use mathlib.Core.Path.{◌≡◌}
use lib.ListN.{length}
use Rattle.write_lines.proofs.Cutting.{cut_room}
use Rattle.write_lines.proofs.cuts.put_cuts.Given as goal

abbrev pub invariant-loop-left : goal.invariant-loop-left
invariant-loop-left l = (l.start ≤ l.to) × (l.to + 7 * l.left ≤ length l.initial.out) × (l.last ≡ 5 + l.left * (l.style.width - 6)) × (l.start + l.last < l.end + l.style.width) × (cut_room l.style.mark (l.style.width - 6) l.start l.to l.left l.last l.out ≡ cut_room l.style.mark (l.style.width - 6) l.start l.end l.fn.cuts.count l.fn.cuts.last l.initial.out)
