-- `write_judge::pairs::judge_second` meets its contract. Assumes nothing.
use mir.Syntax.{w64}
use mir.ValLaws.{to_z-of_z}
use Rattle.write_judge.specs.Meant.{judge_second}
use Rattle.write_judge.proofs.Values.{second_none}
use Rattle.write_judge.proofs.pairs.judge_second.Goals as goal

pub returns-in-Reference : goal.returns-in-Reference
unfolding judge_second
returns-in-Reference c =
    let t = to_z-of_z w64 c.args.b c.ranges.b in rw c.in-Reference.is (rw t at c.judge_reference.ensures)

pub returns-in-Number : goal.returns-in-Number
unfolding judge_second
returns-in-Number c =
    let t = to_z-of_z w64 c.args.b c.ranges.b in rw c.in-Number.is (rw t at c.is_within.ensures)

pub returns-in-Date : goal.returns-in-Date
unfolding judge_second
returns-in-Date c =
    let t = to_z-of_z w64 c.args.b c.ranges.b in rw c.in-Date.is (rw t at c.judge_date.ensures)

pub returns-in-Enumeration : goal.returns-in-Enumeration
unfolding judge_second
returns-in-Enumeration c =
    let t = to_z-of_z w64 c.args.b c.ranges.b in rw c.in-Enumeration.is (rw t at c.judge_leaf.ensures)

pub returns-in_default : goal.returns-in_default
returns-in_default c =
    let d = c.in_default in second_none _ c.args.b c.args.kind d.not-Reference d.not-Number d.not-Date d.not-Enumeration
