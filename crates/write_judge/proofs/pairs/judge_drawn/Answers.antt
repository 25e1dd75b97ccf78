-- `write_judge::pairs::judge_drawn` meets its contract. Assumes nothing.
use Prim.Native.Nat.{ℕ, ◌+◌, ◌-◌}
use native.Mathlib.Omega.{arith}
use mathlib.Core.Path.{sym, ap, ◌∙◌}
use mir.Syntax.{w64}
use mir.ValLaws.{to_z-of_z}
use Rattle.table.specs.Contents.{content}
use Rattle.write_judge.proofs.Walk.{line_none, line_elsewhere, line_outside, line_drawn, lent_points, fine_told}
use Rattle.write_judge.proofs.pairs.judge_drawn.Goals as goal

pub returns-then-is_below : goal.returns-then-is_below
returns-then-is_below c =
    let t = to_z-of_z w64 c.args.a c.ranges.a in
    line_none _ _ _ _ c.args.a c.args.b _ (sym (rw t at c.is_below.ensures) ∙ c.if-is_below.true)

pub returns-then-not-is_number : goal.returns-then-not-is_number
returns-then-not-is_number c =
    let t = to_z-of_z w64 c.args.a c.ranges.a in
    line_elsewhere _ _ _ _ c.args.a c.args.b _ (sym (rw t at c.is_below.ensures) ∙ c.if-is_below.false) (sym (rw (to_z-of_z w64 c.args.b c.ranges.b) at c.is_number.ensures) ∙ c.if-not-is_number.true)

pub returns-then-table-first : goal.returns-then-table-first
returns-then-table-first c =
    let t = to_z-of_z w64 c.args.a c.ranges.a in
    line_outside _ _ _ _ c.args.a c.args.b _ (sym (rw t at c.is_below.ensures) ∙ c.if-is_below.false) (sym (rw (to_z-of_z w64 c.args.b c.ranges.b) at c.is_number.ensures) ∙ c.if-not-is_number.false) (omega (arith, c.requires.first_in_bounds, rw t at c.size_of-n.ensures))

pub returns : goal.returns
returns c =
    let t = to_z-of_z w64 c.args.a c.ranges.a in
    let z = rw t at c.size_of-n.ensures in
    rw (fine_told _ _ _ c.then_some.ensures, c.judge_points-fine.ensures)
    (line_drawn (content c.args.table.now) c.args.first c.args.line.forms _ c.args.a c.args.b _ (sym (rw t at c.is_below.ensures) ∙ c.if-is_below.false) (sym (rw (to_z-of_z w64 c.args.b c.ranges.b) at c.is_number.ensures) ∙ c.if-not-is_number.false)
    _ (ap (λ (x : ℕ). x - 1) z) (omega (arith, c.requires.first_in_bounds)) _ (lent_points c.args.table.now.points.now _) _ (ap (λ (x : ℕ). c.args.first + (x - 1)) z))
