-- `read_frame::find_table` meets its contract. Assumes nothing.
use Rattle.read_frame.proofs.Finds.{table_start, table_none, table_hit, table_pass, table_other, owed_start, owed_more, owed_other}
use mathlib.Core.Logic.{inl, inr}
use mathlib.Core.Path.{refl, sym, ◌∙◌}
use native.Mathlib.Omega.{arith}
use Rattle.read_frame.proofs.tables.find_table.Goals as goal
use Rattle.read_frame.proofs.tables.find_table.Goals.{then-topic_of-topic+else-is_table, else-topic_of-topic}

pub loop-t-init : goal.loop-t-init
loop-t-init c = (sym (owed_start _ _ _), table_start _ _ _ _)

pub topic_of-requires : goal.topic_of-requires
topic_of-requires c = let q = c.requires in omega (arith, c.loop-t-test.true, q.table_limit)

pub table_at-requires : goal.table_at-requires
table_at-requires c = let q = c.requires in omega (arith, c.loop-t-test.true, q.table_limit)

pub is_table-requires : goal.is_table-requires
is_table-requires c =
    let r = c.requires.noted.table _ c.loop-t-test.true in rw c.table_at.ensures (r.flag, r.fits)

pub returns-then-mandatory : goal.returns-then-mandatory
returns-then-mandatory c =
    let q = c.requires in
    let i = c.loop-t.invariant in
    let k = c.loop-t-test.true in
    let o = sym (c.topic_of.ensures ∙ q.noted.owner _ k) ∙ c.if-topic_of-topic.true in
    let e = rw (c.table_at.ensures, (q.noted.table _ k).name) at (sym c.is_table.ensures ∙ c.if-is_table.true) in
    let found = i.1 ∙ table_hit _ _ _ _ _ (omega (arith, k, q.tables)) (omega arith) o e in
    inl (refl, record { table = c.loop-t.t; at = record { found = found; inside = omega (arith, k, q.tables); owed = sym i.0 ∙ c.if-mandatory.true } })

pub returns-else-mandatory : goal.returns-else-mandatory
returns-else-mandatory c =
    let q = c.requires in
    let i = c.loop-t.invariant in
    let k = c.loop-t-test.true in
    let o = sym (c.topic_of.ensures ∙ q.noted.owner _ k) ∙ c.if-topic_of-topic.true in
    let e = rw (c.table_at.ensures, (q.noted.table _ k).name) at (sym c.is_table.ensures ∙ c.if-is_table.true) in
    let found = i.1 ∙ table_hit _ _ _ _ _ (omega (arith, k, q.tables)) (omega arith) o e in
    record { found = found; inside = omega (arith, k, q.tables); owed = sym i.0 ∙ c.if-mandatory.false }

pub is_optional-requires : goal.is_optional-requires
is_optional-requires c =
    record {
      placed = c.requires;
      table_lt_tables = c.loop-t-test.true;
    }

pub loop-t-preserved : goal.loop-t-preserved
loop-t-preserved c =
    let q = c.requires in
    let i = c.loop-t.invariant in
    let k = c.loop-t-test.true in
    let o = sym (c.topic_of.ensures ∙ q.noted.owner _ k) in
    elim c.if-topic_of-topic.branch [
      | then-topic_of-topic+else-is_table w ↦
          let e = rw (w.table_at.ensures, (q.noted.table _ k).name) at (sym w.is_table.ensures ∙ w.if-is_table.false) in (
            w.mandatory-is
                ∙ owed_more _ _ _ _ (omega (arith, k, q.tables)) _ _ (omega arith) (o ∙ w.if-topic_of-topic.true) i.0 w.is_optional.ensures,
            i.1 ∙ table_pass _ _ _ _ _ (omega (arith, k, q.tables)) e,
          )
      | else-topic_of-topic w ↦ (
        w.mandatory-is ∙ owed_other _ _ _ _ (omega (arith, k, q.tables)) _ (λ e. w.if-topic_of-topic.false (sym o ∙ e)) i.0,
        i.1 ∙ table_other _ _ _ _ _ (omega (arith, k, q.tables)) (λ e. w.if-topic_of-topic.false (sym o ∙ e)),
      )
    ]

pub returns : goal.returns
returns c =
    let q = c.requires in inr (refl, c.loop-t.invariant.1 ∙ table_none _ _ _ _ _ (omega (arith, c.loop-t-test.false, q.tables)))
