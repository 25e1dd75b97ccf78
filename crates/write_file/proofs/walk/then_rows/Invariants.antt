-- `write_file::then_rows` meets its contract. Assumes nothing.
use Prim.Native.Nat.{◌-◌}
use lib.ListN.{take, drop}
use Rattle.meaning.specs.Writing.{row_lines}
use Rattle.model_records.specs.Records.{model_at, pairs_at}
use Rattle.write_lines.proofs.Left.{Left}
use Rattle.write_file.specs.Styles.{cut_of}
use Rattle.table.specs.Contents.{content}
use Rattle.write_file.proofs.walk.then_rows.Given as goal

abbrev pub invariant-loop-row : goal.invariant-loop-row
invariant-loop-row l = Left (cut_of l.style (row_lines (model_at l.model) l.table.text.now (content l.table) (pairs_at l.model l.first) (take (l.to - l.from) (drop l.from l.table.rows.now)))) l.initial.all l.initial.out (cut_of l.style (row_lines (model_at l.model) l.table.text.now (content l.table) (pairs_at l.model l.first) (drop l.row-index l.row-items))) l.all l.out
