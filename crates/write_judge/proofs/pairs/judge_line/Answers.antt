-- `write_judge::pairs::judge_line` meets its contract. Assumes nothing.
use mathlib.Core.Path.{sym, ◌∙◌}
use mir.Syntax.{w64}
use mir.ValLaws.{to_z-of_z}
use Rattle.meaning.specs.Bytes.{choose}
use Rattle.meaning.specs.Judge.{judge_pair}
use Rattle.write_judge.proofs.Walk.{fine_told}
use Rattle.write_judge.proofs.pairs.judge_line.Goals as goal

pub returns-then-is_number : goal.returns-then-is_number
unfolding judge_pair choose
returns-then-is_number c =
    λ undefined. rw ((sym (rw (to_z-of_z w64 c.args.a c.ranges.a) at c.is_number.ensures) ∙ c.if-is_number.true), fine_told _ _ _ c.then_some.ensures, rw (to_z-of_z w64 c.args.b c.ranges.b) at c.judge_undefined.ensures)

pub returns-else-is_number : goal.returns-else-is_number
unfolding judge_pair choose
returns-else-is_number c =
    λ undefined. rw (sym (rw (to_z-of_z w64 c.args.a c.ranges.a) at c.is_number.ensures) ∙ c.if-is_number.false) (rw (to_z-of_z w64 c.args.a c.ranges.a, to_z-of_z w64 c.args.b c.ranges.b) at c.judge_drawn.ensures)
