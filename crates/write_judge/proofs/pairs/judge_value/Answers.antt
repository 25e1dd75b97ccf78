-- `write_judge::pairs::judge_value` meets its contract. Assumes nothing.
use mir.Syntax.{w64}
use mir.ValLaws.{to_z-of_z}
use Rattle.write_judge.proofs.Values.{value_second}
use Rattle.write_judge.proofs.pairs.judge_value.Goals as goal

pub returns-in_default : goal.returns-in_default
returns-in_default c =
    rw (c.is_number.ensures, c.judge_second.ensures, to_z-of_z w64 c.args.a c.ranges.a, to_z-of_z w64 c.args.b c.ranges.b)
    (value_second _ c.args.b _ _ c.args.a c.args.kind c.in_default.not-Text)
