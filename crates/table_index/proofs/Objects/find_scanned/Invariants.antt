-- `table_index::find_scanned` meets its contract: what is looked for stands before `o`, or nowhere. Assumes nothing.
use Rattle.std.proofs.Common.{◌≡◌}
use Rattle.table_index.specs.Objects.{last_named}
use Rattle.table_index.proofs.Objects.find_scanned.Given as goal

abbrev pub invariant-loop-o : goal.invariant-loop-o
invariant-loop-o l = last_named l.self.text.now l.self.rows.now l.self.cells.now l.identification l.o ≡ last_named l.self.text.now l.self.rows.now l.self.cells.now l.identification l.self.count
