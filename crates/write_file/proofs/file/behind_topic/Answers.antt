-- `write_file::behind_topic` meets its contract. Assumes nothing.
use Prim.Native.Nat.{ℕ}
use mathlib.Core.Path.{sym, ap, ◌∙◌}
use Rattle.meaning.specs.Model.{table_at}
use Rattle.model_records.specs.Records.{model_at}
use Rattle.write_file.proofs.Topics.{topic_on, topic_stop, topic_end_lem}
use Rattle.write_file.proofs.file.behind_topic.Goals as goal

pub returns-then-owner_of-topic : goal.returns-then-owner_of-topic
returns-then-owner_of-topic c =
    let l = c.loop-i in
    λ h.
    let b = c.args.model.now.bytes.now in
    let k = c.owner_of.ensures h ∙ ap (λ (t : ℕ). (table_at (model_at b).tables t).topic) c.size_at-number.ensures in
    topic_stop _ _ _ _ _ _ (l.invariant h) c.loop-i-test.true (λ e. c.if-owner_of-topic.true (k ∙ e))

pub loop-i-preserved : goal.loop-i-preserved
loop-i-preserved c =
    let l = c.loop-i in
    λ h.
    let b = c.args.model.now.bytes.now in
    let k = c.owner_of.ensures h ∙ ap (λ (t : ℕ). (table_at (model_at b).tables t).topic) c.size_at-number.ensures in
    topic_on _ _ _ _ _ _ (l.invariant h) c.loop-i-test.true (sym k ∙ c.if-owner_of-topic.false)

pub returns : goal.returns
returns c = λ h. topic_end_lem _ _ _ _ _ _ (c.loop-i.invariant h) c.loop-i-test.false
