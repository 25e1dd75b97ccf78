-- `write_judge::points::pass_point` meets its contract. Assumes nothing.
use mathlib.Core.Logic.{inl, inr}
use mathlib.Core.Path.{sym, ◌∙◌}
use mir.Syntax.{w64}
use mir.ValLaws.{to_z-of_z}
use Rattle.write_judge.proofs.Drawn.{point_forbidden, point_outside, point_unexpected, point_undefined, point_ended, point_fine}
use Rattle.write_judge.proofs.points.pass_point.Goals as goal

pub returns-then-forbids : goal.returns-then-forbids
returns-then-forbids c =
    λ next. let t = to_z-of_z w64 c.args.kind c.ranges.kind in
    let e = rw t at c.code_of-code.ensures in
    point_forbidden _ _ _ c.args.kind _ _ _ next (sym (rw e at c.forbids.ensures) ∙ c.if-forbids.true)

pub returns-then-not-are_within : goal.returns-then-not-are_within
returns-then-not-are_within c =
    λ next. let t = to_z-of_z w64 c.args.kind c.ranges.kind in
    let e = rw t at c.code_of-code.ensures in
    point_outside _ _ _ c.args.kind _ _ _ next (sym (rw (to_z-of_z w64 c.args.east c.ranges.east, to_z-of_z w64 c.args.north c.ranges.north, to_z-of_z w64 c.args.height c.ranges.height) at c.are_within.ensures) ∙ c.if-not-are_within.true)

pub returns-in-Unexpected : goal.returns-in-Unexpected
returns-in-Unexpected c =
    λ next. let t = to_z-of_z w64 c.args.kind c.ranges.kind in
    let e = rw t at c.code_of-code.ensures in
    elim c.in-Unexpected.is [
      | inl h ↦ point_unexpected _ _ _ c.args.kind _ _ _ next (rw (e, h) at c.step.ensures)
      | inr g ↦ elim g [
        | inl h ↦ point_undefined _ _ _ c.args.kind _ _ _ next (rw (e, h) at c.step.ensures)
        | inr h ↦ point_ended _ _ _ c.args.kind _ _ _ next (rw (e, h) at c.step.ensures)
      ]
    ]

pub returns-in-Point : goal.returns-in-Point
returns-in-Point c =
    λ next. let t = to_z-of_z w64 c.args.kind c.ranges.kind in
    let e = rw t at c.code_of-code.ensures in
    point_fine _ _ _ c.args.kind _ _ _ next _ _ (rw (e, c.in-Point.is) at c.step.ensures) (sym (rw e at c.forbids.ensures) ∙ c.if-forbids.false) (sym (rw (to_z-of_z w64 c.args.east c.ranges.east, to_z-of_z w64 c.args.north c.ranges.north, to_z-of_z w64 c.args.height c.ranges.height) at c.are_within.ensures) ∙ c.if-not-are_within.false)
