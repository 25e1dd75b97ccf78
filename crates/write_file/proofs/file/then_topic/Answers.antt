-- `write_file::then_topic` meets its contract. Assumes nothing.
use Rattle.write_file.proofs.Frames.{framed}
use Rattle.write_file.proofs.Topics.{topic_name}
use Rattle.write_file.proofs.file.then_topic.Goals as goal

pub returns : goal.returns
returns c =
    let a = c.args in
    let q = c.requires in
    let n = topic_name _ _ _ q.placed c.args.topic q.topic_lt_topics _ c.topic_at-at.ensures _ c.next_at-next.ensures in
    framed a.style.mark a.style.width _ _ _ (rw n at c.then_named-head.ensures) c.then_tables-body.ensures c.then_alone.ensures
