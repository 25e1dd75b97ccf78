-- `table_index::find_in_table` meets its contract: the table's test, in the code's shape. Assumes nothing.
use Rattle.std.proofs.Common.{sym, ◌∙◌}
use Rattle.table_index.specs.Objects.{in_table}
use Rattle.table_index.proofs.Meant.{in_table_hit, in_table_miss}
use Rattle.table_index.proofs.Objects.find_in_table.Goals as goal

pub returns-in_err-o : goal.returns-in_err-o
unfolding in_table
returns-in_err-o c = rw (c.from_residual.ensures, c.in_err-o.was)

pub returns-then-size_at-table : goal.returns-then-size_at-table
returns-then-size_at-table c =
    let a = c.args in
    rw c.in_ok-o.was (in_table_hit a.self.now.rows.now a.self.now.cells.now a.table c.in_ok-o.o (sym c.size_at.ensures ∙ c.if-size_at-table.true))

pub returns-else-size_at-table : goal.returns-else-size_at-table
returns-else-size_at-table c =
    let a = c.args in
    rw c.in_ok-o.was (in_table_miss a.self.now.rows.now a.self.now.cells.now a.table c.in_ok-o.o (λ e. c.if-size_at-table.false (c.size_at.ensures ∙ e)))
