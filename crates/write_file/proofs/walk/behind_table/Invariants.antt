-- `write_file::behind_table` meets its contract. Assumes nothing.
use Rattle.write_file.proofs.Walks.{TableRun}
use Rattle.write_file.proofs.walk.behind_table.Given as goal

abbrev pub invariant-loop-i : goal.invariant-loop-i
invariant-loop-i l = TableRun l.number l.table.cells.now l.table.rows.now l.row l.i
