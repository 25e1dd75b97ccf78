-- `write_file::then_topics` meets its contract. Assumes nothing.
use Prim.Native.Nat.{◌≤◌}
use lib.ListN.{length, drop}
use Rattle.meaning.specs.Writing.{topic_lines}
use Rattle.model_records.specs.Records.{model_at}
use Rattle.write_lines.proofs.Left.{Left}
use Rattle.write_file.specs.Styles.{cut_of}
use Rattle.table.specs.Contents.{content}
use Rattle.write_file.proofs.file.then_topics.Given as goal

abbrev pub invariant-loop-p : goal.invariant-loop-p
invariant-loop-p l =
    let m = model_at l.model.bytes.now in
    let c = content l.table in
    (l.row ≤ length l.table.rows.now)
    × Left (cut_of l.style (topic_lines m l.table.text.now c 0 m.topics l.table.rows.now)) l.initial.all l.initial.out (cut_of l.style (topic_lines m l.table.text.now c l.p (drop l.p m.topics) (drop l.row l.table.rows.now))) l.all l.out
