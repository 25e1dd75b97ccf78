-- `write_lines::cuts::put_cuts` meets its contract. Assumes nothing.
use Prim.Native.Nat.{ℕ, ◌-◌}
use mathlib.Core.Path.{◌≡◌, sym, ◌∙◌}
use native.Mathlib.Omega.{arith}
use Rattle.write_lines.proofs.Cutting.{cut_made, cut_all, placed_before}
use Rattle.write_lines.proofs.cuts.put_cuts.Goals as goal

pub loop-left-preserved : goal.loop-left-preserved
loop-left-preserved c =
    let a = c.args in
    let l = c.loop-left in
    let i = l.invariant in
    let m = c.min-from in
    let step : ℕ = a.style.width - 6 in
    let before = placed_before l.left step l.last (omega arith) i.2 in
    let made = cut_made a.start l.to l.last m.result l.out i.0 (omega arith) m.ensures a.style.mark step l.left (omega arith) (omega arith) _ c.put_cut.ensures in
    (omega (arith, m.ensures), omega (arith, m.ensures), before.1, omega arith, made.1 ∙ i.4)

pub returns : goal.returns
returns c =
    let a = c.args in
    let l = c.loop-left in
    let z : l.left ≡ 0 = omega arith in
    sym (cut_all a.style.mark (a.style.width - 6) a.start l.to l.last l.out l.invariant.0) ∙ rw z at l.invariant.4
