-- `write_judge::pairs::judge_leaf` meets its contract. Assumes nothing.
use mir.Syntax.{w64}
use mir.ValLaws.{to_z-of_z}
use Rattle.meaning.specs.Judge.{judge_leaf}
use Rattle.write_judge.proofs.Signs.{all_three}
use Rattle.write_judge.proofs.pairs.judge_leaf.Goals as goal

pub returns : goal.returns
unfolding judge_leaf
returns c =
    rw (c.is_below.ensures, c.is_below-small.ensures, c.is_below-negative.ensures, to_z-of_z w64 c.args.b c.ranges.b) (all_three _ _ _)
