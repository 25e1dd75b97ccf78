-- `write_judge::rows::judge_table` meets its contract. Assumes nothing.
use mathlib.Core.Path.{sym, ◌∙◌}
use Rattle.write_judge.proofs.Heads.{table_early, table_none, table_marked}
use Rattle.write_judge.proofs.rows.judge_table.Goals as goal

pub returns-then-is_below_at : goal.returns-then-is_below_at
returns-then-is_below_at c =
    let a = c.args in table_early a.shape a.table.now a.least a.at (sym c.is_below_at.ensures ∙ c.if-is_below_at.true)

pub returns-then-not-is_below_at : goal.returns-then-not-is_below_at
returns-then-not-is_below_at c =
    let a = c.args in
    table_none a.shape a.table.now a.least a.at (sym c.is_below_at-2.ensures ∙ c.if-not-is_below_at.true)

pub returns : goal.returns
returns c =
    let a = c.args in
    rw c.size_at.ensures
    (table_marked a.shape a.table.now a.least a.at (sym c.is_below_at.ensures ∙ c.if-is_below_at.false) (sym c.is_below_at-2.ensures ∙ c.if-not-is_below_at.false))
