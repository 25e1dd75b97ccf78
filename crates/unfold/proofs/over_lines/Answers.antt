-- `unfold::over_lines` meets its contract: the loop keeps `TurnReady`. Assumes nothing.
use Rattle.meaning.specs.Unfold.{unfold_file}
use Rattle.unfold.proofs.Flat.{prepend_nil}
use Rattle.unfold.proofs.Kept.{done, too_long}
use native.Mathlib.Omega.{arith}
use Rattle.unfold.proofs.over_lines.Goals as goal

pub loop-next-init : goal.loop-next-init
unfolding unfold_file
loop-next-init c =
    record { inside = omega arith; first = omega arith; numbered = omega arith; shorter = omega arith; fits = λ h. prepend_nil _; full = λ h. absurd (omega arith) }

pub returns-then-text-cursor : goal.returns-then-text-cursor
returns-then-text-cursor c =
    let over = rw c.in_default.is at c.in_ok-next.ensures in
    rw c.loop-next.auto.text at (too_long _ _ _ _ c.loop-next.invariant over.empty over.ended (omega arith))

pub returns : goal.returns
returns c =
    let over = rw c.in_default.is at c.in_ok-next.ensures in
    rw (over.kept, ← c.loop-next.auto.text) (done _ _ _ _ c.loop-next.invariant over.empty over.ended (omega arith))
