-- `write_judge::marks::judge_tables` meets its contract: the tables from here on mean what all mean. Assumes nothing.
use mathlib.Core.Path.{◌≡◌}
use Rattle.model_records.specs.Records.{model_at}
use Rattle.write_judge.specs.Marks.{tables_from}
use Rattle.write_judge.proofs.marks.judge_tables.Given as goal

abbrev pub invariant-loop-number : goal.invariant-loop-number
invariant-loop-number l =
    let m = model_at l.model.bytes.now in
    let from = tables_from l.model.shape.topics l.table.marks.now m.tables in
    from l.number ≡ from 0
