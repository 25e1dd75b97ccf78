-- `read_frame::behind_objects` meets its contract. Assumes nothing.
use Rattle.read_frame.proofs.TableLines.{table_closed, closed_holds}
use Rattle.read_frame.proofs.Moves.{nothing_read}
use Rattle.read_frame.specs.Moves.{NextDueHolds}
use Rattle.read_state.specs.Meaning.{next_due_of}
use Rattle.base.specs.declared.reasons.Refusal.{Refusal}
use Rattle.read_state.specs.declared.Due.{Due}
use Rattle.std.proofs.Common.{Result}
use Rattle.meaning.specs.Field.{fields_of}
use Rattle.model_records.specs.Records.{model_at}
use mathlib.Core.Path.{refl, sym, ap, subst, ◌∙◌}
use native.Mathlib.Omega.{arith}
use Rattle.read_frame.proofs.tables.behind_objects.Goals as goal

pub topic_of-topic-requires : goal.topic_of-topic-requires
topic_of-topic-requires c =
    let q = c.requires in omega (arith, q.table_lt_tables, q.placed.table_limit)

pub overflow_add-table : goal.overflow_add-table
overflow_add-table c = let q = c.requires in omega (arith, q.table_lt_tables, q.placed.table_limit)

pub returns : goal.returns
returns c =
    let b = c.args.model.now.bytes.now in
    let l = c.args.line.now in
    let e = c.alone_line.ensures in
    let o = c.topic_of-topic.ensures ∙ c.requires.placed.noted.owner _ c.requires.table_lt_tables in
    let s = (c.requires.placed.noted.table _ c.requires.table_lt_tables).standing in
    record {
      meant = (λ rooms text s x. ap (λ (y : Result Due Refusal). next_due_of b y x) (e s 12 refl) ∙ table_closed _ b _ _ (fields_of s l) x o rooms text);
      held = subst (λ (y : Result Due Refusal). NextDueHolds (model_at b) b y) (sym (e 0 12 refl))
          (closed_holds _ b _ _ (fields_of 0 l) nothing_read (omega (arith, o, s.topic_count)) (omega (arith, c.requires.table_lt_tables, c.requires.placed.tables)));
    }
