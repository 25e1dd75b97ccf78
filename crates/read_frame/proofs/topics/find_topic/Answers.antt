-- `read_frame::find_topic` meets its contract. Assumes nothing.
use Rattle.read_frame.proofs.Finds.{topic_start, topic_hit, topic_pass, topic_none}
use mathlib.Core.Path.{sym, ◌∙◌}
use native.Mathlib.Omega.{arith}
use Rattle.read_frame.proofs.topics.find_topic.Goals as goal

pub loop-p-init : goal.loop-p-init
loop-p-init c = topic_start _ _ _

pub topic_at-requires : goal.topic_at-requires
topic_at-requires c = let q = c.requires in omega (arith, c.loop-p-test.true, q.topic_limit)

pub is_topic-requires : goal.is_topic-requires
is_topic-requires c = rw c.topic_at.ensures (c.requires.noted.topic _ c.loop-p-test.true).fits

pub returns-then-is_topic : goal.returns-then-is_topic
returns-then-is_topic c =
    let q = c.requires in
    let l = c.loop-p-test.true in
    let e = rw (c.topic_at.ensures, (q.noted.topic _ l).name) at (sym c.is_topic.ensures ∙ c.if-is_topic.true) in
    sym (c.loop-p.invariant ∙ topic_hit _ _ _ _ (omega (arith, l, q.topics)) (omega arith) e)

pub loop-p-preserved : goal.loop-p-preserved
loop-p-preserved c =
    let q = c.requires in
    let l = c.loop-p-test.true in
    let e = rw (c.topic_at.ensures, (q.noted.topic _ l).name) at (sym c.is_topic.ensures ∙ c.if-is_topic.false) in
    c.loop-p.invariant ∙ topic_pass _ _ _ _ (omega (arith, l, q.topics)) (omega arith) e

pub returns : goal.returns
returns c =
    let q = c.requires in
    sym (c.loop-p.invariant ∙ topic_none _ _ _ _ (omega (arith, c.loop-p-test.false, q.topics)))
