-- `write_file::then_tables` meets its contract. Assumes nothing.
use Prim.Native.Nat.{◌≤◌}
use lib.ListN.{length, drop}
use Rattle.meaning.specs.Writing.{table_lines}
use Rattle.model_records.specs.Records.{model_at}
use Rattle.write_lines.proofs.Left.{Left}
use Rattle.write_file.specs.Styles.{cut_of}
use Rattle.table.specs.Contents.{content}
use Rattle.write_file.proofs.walk.then_tables.Given as goal

abbrev pub invariant-loop-number : goal.invariant-loop-number
invariant-loop-number l =
    let m = model_at l.model.bytes.now in
    let c = content l.table in
    (l.next ≤ length l.table.rows.now)
    × Left (cut_of l.style (table_lines m l.table.text.now c l.topic 0 m.tables (drop l.row l.table.rows.now))) l.initial.all l.initial.out (cut_of l.style (table_lines m l.table.text.now c l.topic l.number (drop l.number m.tables) (drop l.next l.table.rows.now))) l.all l.out
