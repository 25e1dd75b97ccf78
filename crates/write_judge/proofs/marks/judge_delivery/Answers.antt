-- `write_judge::marks::judge_delivery` meets its contract. Assumes nothing.
use Rattle.write_judge.proofs.Marking.{delivery_turn}
use Rattle.write_judge.proofs.marks.judge_delivery.Goals as goal

pub returns : goal.returns
returns c =
    rw (c.is_fine.ensures, c.is_optional.ensures, c.topic_of.ensures)
    (delivery_turn _ _ c.requires.judging c.args.number c.requires.number_lt_tables)
