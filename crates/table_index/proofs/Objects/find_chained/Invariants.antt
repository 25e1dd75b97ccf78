-- `table_index::find_chained` meets its contract. The loop's invariant: what is looked for stands on the chain from this word on, or nowhere.
-- The measure is the word's object, as a link leads to an earlier one. Assumes nothing.
use Prim.Native.Nat.{◌-◌, ◌%◌}
use lib.ListN.{length}
use Rattle.table.specs.Rows.{identification_of}
use Rattle.table_index.proofs.Walk.{Along}
use Rattle.table_index.proofs.Objects.find_chained.Given as goal

abbrev pub invariant-loop-word : goal.invariant-loop-word
invariant-loop-word l = Along l.self.seed (length l.self.index.now - length l.self.rows.now) (identification_of l.self.text.now l.self.rows.now l.self.cells.now) l.self.count l.identification l.word

abbrev pub decreases-loop-word : goal.decreases-loop-word
decreases-loop-word l = l.word % 4294967296
