-- `write_judge::pairs::judge_undefined` meets its contract. Assumes nothing.
use mir.Syntax.{w64}
use mir.ValLaws.{to_z-of_z}
use Rattle.meaning.specs.Judge.{judge_undefined}
use Rattle.write_judge.proofs.pairs.judge_undefined.Goals as goal

pub returns : goal.returns
unfolding judge_undefined
returns c = rw (c.is_number.ensures, to_z-of_z w64 c.args.b c.ranges.b)
