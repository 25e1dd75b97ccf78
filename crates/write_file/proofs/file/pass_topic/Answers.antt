-- `write_file::pass_topic` meets its contract. Assumes nothing.
use mathlib.Core.Path.{sym, ◌∙◌}
use Rattle.model_records.specs.Records.{model_at}
use Rattle.table.specs.Contents.{content}
use Rattle.write_file.proofs.Topics.{topic_over, topic_begun}
use native.Mathlib.Omega.{arith}
use Rattle.write_file.proofs.file.pass_topic.Goals as goal

pub returns-then-byte_at-eq0 : goal.returns-then-byte_at-eq0
returns-then-byte_at-eq0 c =
    let q = c.requires in
    let a = c.args in
    let n = c.put_nothing in
    topic_over (model_at a.model.now.bytes.now) a.table.now.text.now (content a.table.now) a.style a.topic a.row a.put a.out.now (omega (arith, q.topic_lt_topics, q.placed.topics))
    (sym c.byte_at.ensures ∙ c.if-byte_at-eq0.true) q.row_in_bounds n.result (n.ensures a.out.now)

pub returns : goal.returns
returns c =
    let q = c.requires in
    let a = c.args in
    topic_begun (model_at a.model.now.bytes.now) a.table.now.text.now (content a.table.now) a.style a.topic a.row a.put a.out.now (omega (arith, q.topic_lt_topics, q.placed.topics))
    (λ e. c.if-byte_at-eq0.false (c.byte_at.ensures ∙ e)) _ (c.behind_topic-end.ensures q.placed) c.then_topic-all.ensures
