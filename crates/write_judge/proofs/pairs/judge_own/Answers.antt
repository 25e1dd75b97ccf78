-- `write_judge::pairs::judge_own` meets its contract. Assumes nothing.
use mathlib.Core.Path.{sym, ◌∙◌}
use mir.Syntax.{w64}
use mir.ValLaws.{to_z-of_z}
use Rattle.meaning.specs.Bytes.{choose}
use Rattle.write_judge.proofs.pairs.judge_own.Goals as goal

pub returns-then-is_number : goal.returns-then-is_number
unfolding choose
returns-then-is_number c =
    rw (sym (rw (to_z-of_z w64 c.args.a c.ranges.a) at c.is_number.ensures) ∙ c.if-is_number.true) (rw (to_z-of_z w64 c.args.b c.ranges.b) at c.judge_undefined.ensures)

pub returns-else-is_number : goal.returns-else-is_number
unfolding choose
returns-else-is_number c =
    rw (sym (rw (to_z-of_z w64 c.args.a c.ranges.a) at c.is_number.ensures) ∙ c.if-is_number.false) (rw (to_z-of_z w64 c.args.a c.ranges.a, to_z-of_z w64 c.args.b c.ranges.b) at c.judge_value.ensures)
