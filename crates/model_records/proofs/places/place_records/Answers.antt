-- `model_records::place_records` meets its contract. Assumes nothing.
use native.Mathlib.Omega.{arith}
use mathlib.Core.Path.{sym, ◌∙◌}
use Rattle.meaning.proofs.Model.GoodModels.{checked_good}
use Rattle.model_records.proofs.AtRecord.{here, end_here, beginning, start}
use Rattle.model_records.proofs.Noting.{topic_room_lem, table_room_lem, noted_on}
use Rattle.model_records.proofs.places.place_records.Goals as goal

pub first_record-requires : goal.first_record-requires
first_record-requires c =
    let b = beginning _ _ c.requires in
    record {
      in_bounds = omega (arith, b.three_bytes, b.first_fits);
      model_in_bounds = omega (arith, b.second_fits);
    }

pub records-init : goal.records-init
records-init c =
    let q = c.requires in
    (rw c.first_record.ensures (start _ _ q), record { topic_room = cc; table_room = cc; topic = λ p l. absurd (omega arith); table = λ t l. absurd (omega arith); owner = λ t l. absurd (omega arith) })

pub kind_at-kind-requires : goal.kind_at-kind-requires
kind_at-kind-requires c = (here _ _ _ _ _ c.records.invariant.0).room

pub undefined_of-requires : goal.undefined_of-requires
undefined_of-requires c = c.requires

pub mark_of-requires : goal.mark_of-requires
mark_of-requires c = c.requires

pub returns-then-kind-eq-END : goal.returns-then-kind-eq-END
returns-then-kind-eq-END c =
    let i = c.records.invariant in
    let g = checked_good _ _ c.requires in
    let e = end_here _ _ _ _ _ i.0 (sym c.kind_at-kind.ensures ∙ c.if-kind-eq-END.true) in
    record {
      bytes = cc;
      placed = record {
        good = c.requires;
        topics = e.topics;
        tables = e.tables;
        topic_limit = omega (arith, e.topics, g.topic_limit);
        table_limit = omega (arith, e.tables, g.table_limit);
        undefined = c.undefined_of.ensures;
        mark = c.mark_of.ensures;
        noted = i.1;
      };
    }

pub note_record-requires : goal.note_record-requires
note_record-requires c =
    let i = c.records.invariant in
    let g = checked_good _ _ c.requires in
    let k = sym c.kind_at-kind.ensures in
    record {
      topics_bound = (λ e. topic_room_lem _ _ c.records.here i.0 g.topic_limit g.table_limit (k ∙ e));
      tables_bound = (λ e. table_room_lem _ _ c.records.here i.0 g.topic_limit g.table_limit (k ∙ e));
    }

pub pass_record-here-requires : goal.pass_record-here-requires
pass_record-here-requires c =
    let i = c.records.invariant in
    record {
      at_record = i.0;
      not_end = λ e. c.if-kind-eq-END.false (c.kind_at-kind.ensures ∙ e);
    }

pub records-smaller : goal.records-smaller
records-smaller c =
    let i = c.records.invariant in
    omega (arith, (here _ _ _ _ _ i.0).fits, c.pass_record-here.ensures.at)

pub records-preserved : goal.records-preserved
records-preserved c =
    let i = c.records.invariant in
    let g = checked_good _ _ c.requires in
    let p = c.pass_record-here.ensures in
    (p.standing, rw (c.note_record.ensures, c.kind_at-kind.ensures) (noted_on _ _ _ i.0 g.topic_limit g.table_limit _ _ i.1 p))
