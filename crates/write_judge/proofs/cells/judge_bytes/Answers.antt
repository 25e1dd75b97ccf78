-- `write_judge::cells::judge_bytes` meets its contract. Assumes nothing.
use Rattle.meaning.specs.Value.{is_identification, is_undefined, is_undefined_twice}
use Rattle.write_judge.proofs.Signs.{all_three}
use Rattle.write_judge.proofs.cells.judge_bytes.Goals as goal

pub returns : goal.returns
unfolding is_identification is_undefined is_undefined_twice
returns c =
    rw (c.is_identification.ensures, c.is_undefined.ensures 0, c.is_undefined_twice.ensures 0) (all_three _ _ _)
