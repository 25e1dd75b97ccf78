-- `write_judge::pairs::judge_component` meets its contract. Assumes nothing.
use mir.Syntax.{w64}
use mir.ValLaws.{to_z-of_z}
use Rattle.meaning.specs.Judge.{judge_component}
use Rattle.write_judge.proofs.pairs.judge_component.Goals as goal

pub returns-then-before : goal.returns-then-before
unfolding judge_component
returns-then-before c =
    rw (c.if-before.true, c.is_within.ensures, c.is_number.ensures, to_z-of_z w64 c.args.a c.ranges.a, to_z-of_z w64 c.args.b c.ranges.b)

pub returns-else-before : goal.returns-else-before
unfolding judge_component
returns-else-before c =
    rw (c.if-before.false, c.is_number-else-before-2.ensures, c.is_number-else-before.ensures, to_z-of_z w64 c.args.a c.ranges.a, to_z-of_z w64 c.args.b c.ranges.b)
