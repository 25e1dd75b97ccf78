-- `model_records::pass_record` meets its contract. Assumes nothing.
use mathlib.Core.Path.{sym, ◌∙◌}
use native.Mathlib.Omega.{arith}
use Rattle.model_records.proofs.AtRecord.{here}
use Rattle.model_records.proofs.Noting.{pass_topic, pass_table, pass_attribute}
use Rattle.model_records.proofs.places.pass_record.Goals as goal

pub next_at-requires : goal.next_at-requires
next_at-requires c = (here _ _ _ _ _ c.requires.at_record).room

pub kind_at-requires : goal.kind_at-requires
kind_at-requires c = (here _ _ _ _ _ c.requires.at_record).room

pub overflow_add-next : goal.overflow_add-next
overflow_add-next c = omega (arith, c.requires.at_record.counted, (here _ _ _ _ _ c.requires.at_record).room)

pub overflow_add-next-in-4 : goal.overflow_add-next-in-4
overflow_add-next-in-4 c = omega (arith, c.requires.at_record.counted, (here _ _ _ _ _ c.requires.at_record).room)

pub returns-in-3 : goal.returns-in-3
returns-in-3 c =
    pass_topic _ _ c.args.here c.requires.at_record _ c.next_at.ensures (sym c.kind_at.ensures ∙ c.in-3.is)

pub returns-in-4 : goal.returns-in-4
returns-in-4 c =
    pass_table _ _ c.args.here c.requires.at_record _ c.next_at.ensures (sym c.kind_at.ensures ∙ c.in-4.is)

pub returns-in_default : goal.returns-in_default
returns-in_default c =
    let k = c.kind_at.ensures in
    let r = c.in_default.in_default-own.rest in
    pass_attribute _ _ c.args.here c.requires.at_record _ c.next_at.ensures (λ e. r.0.1 (k ∙ e)) (λ e. r.1 (k ∙ e)) c.requires.not_end
