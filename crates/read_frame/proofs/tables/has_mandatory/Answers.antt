-- `read_frame::has_mandatory` meets its contract. Assumes nothing.
use Rattle.read_frame.proofs.Finds.{owed_start, owed_more, owed_other, owed_end}
use mathlib.Core.Path.{sym, ◌∙◌}
use native.Mathlib.Omega.{arith}
use Rattle.read_frame.proofs.tables.has_mandatory.Goals as goal
use Rattle.read_frame.proofs.tables.has_mandatory.Goals.{then-topic_of-topic, else-topic_of-topic}

pub loop-t-init : goal.loop-t-init
loop-t-init c = sym (owed_start _ _ _)

pub topic_of-requires : goal.topic_of-requires
topic_of-requires c = let q = c.requires in omega (arith, c.loop-t-test.true, q.table_limit)

pub is_optional-requires : goal.is_optional-requires
is_optional-requires c =
    record {
      placed = c.requires;
      table_lt_tables = c.loop-t-test.true;
    }

pub loop-t-preserved : goal.loop-t-preserved
loop-t-preserved c =
    let q = c.requires in
    let i = c.loop-t.invariant in
    let k = c.loop-t-test.true in
    let o = sym (c.topic_of.ensures ∙ q.noted.owner _ k) in
    elim c.if-topic_of-topic.branch [
      | then-topic_of-topic w ↦ w.mandatory-is
          ∙ owed_more _ _ _ _ (omega (arith, k, q.tables)) _ _ (omega arith) (o ∙ w.if-topic_of-topic.true) i w.is_optional.ensures
      | else-topic_of-topic w ↦ w.mandatory-is ∙ owed_other _ _ _ _ (omega (arith, k, q.tables)) _ (λ e. w.if-topic_of-topic.false (sym o ∙ e)) i
    ]

pub returns : goal.returns
returns c =
    let q = c.requires in
    c.loop-t.invariant ∙ owed_end _ _ _ _ (omega (arith, c.loop-t-test.false, q.tables))
