-- `write_judge::points::code_of` meets its contract. Assumes nothing.
use mathlib.Core.Path.{sym, ◌∙◌}
use mir.Syntax.{w64}
use mir.ValLaws.{to_z-of_z}
use Rattle.write_judge.proofs.Drawn.{code_stpt, code_lipt, code_arcp, code_other}
use Rattle.write_judge.proofs.points.code_of.Goals as goal

pub returns-then-is_number : goal.returns-then-is_number
returns-then-is_number c =
    let t = to_z-of_z w64 c.args.kind c.ranges.kind in code_stpt _ (sym (rw t at c.is_number.ensures) ∙ c.if-is_number.true)

pub returns-then-is_number-2 : goal.returns-then-is_number-2
returns-then-is_number-2 c =
    let t = to_z-of_z w64 c.args.kind c.ranges.kind in code_lipt _ (sym (rw t at c.is_number.ensures) ∙ c.if-is_number.false) (sym (rw t at c.is_number-2.ensures) ∙ c.if-is_number-2.true)

pub returns-then-is_number-3 : goal.returns-then-is_number-3
returns-then-is_number-3 c =
    let t = to_z-of_z w64 c.args.kind c.ranges.kind in code_arcp _ (sym (rw t at c.is_number.ensures) ∙ c.if-is_number.false) (sym (rw t at c.is_number-2.ensures) ∙ c.if-is_number-2.false) (sym (rw t at c.is_number-3.ensures) ∙ c.if-is_number-3.true)

pub returns : goal.returns
returns c =
    let t = to_z-of_z w64 c.args.kind c.ranges.kind in code_other _ (sym (rw t at c.is_number.ensures) ∙ c.if-is_number.false) (sym (rw t at c.is_number-2.ensures) ∙ c.if-is_number-2.false) (sym (rw t at c.is_number-3.ensures) ∙ c.if-is_number-3.false)
