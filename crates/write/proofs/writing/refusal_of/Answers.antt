-- `write::writing::refusal_of` meets its contract. Assumes nothing.
use mathlib.Core.Path.{sym, ◌∙◌}
use Rattle.meaning.proofs.Judge.Exactly.{judged_exactly}
use Rattle.meaning.specs.Writing.{lent_of}
use Rattle.model_records.specs.Records.{model_at}
use Rattle.write.proofs.Calls.{width_wrong, not_table, a_table}
use Rattle.write.proofs.writing.refusal_of.Goals as goal

pub returns-then-width-lt16 : goal.returns-then-width-lt16
returns-then-width-lt16 c = width_wrong _ _ _ c.then-width-lt16.either

pub returns-then-not-judge : goal.returns-then-not-judge
returns-then-not-judge c =
    let a = c.args in
    let b = a.table.now in
    let t = lent_of b.text.now b.marks.now b.rows.now b.cells.now b.points.now a.used.objects a.used.cells a.used.points in
    not_table (model_at a.model.now.bytes.now) t a.width c.if-width-lt16.false c.if-width-gt65535.false (sym (judged_exactly a.model.now.bytes.now (model_at a.model.now.bytes.now) t c.requires.good) ∙ sym c.judge.ensures ∙ c.if-not-judge.true)

pub returns : goal.returns
returns c =
    let a = c.args in
    let b = a.table.now in
    let t = lent_of b.text.now b.marks.now b.rows.now b.cells.now b.points.now a.used.objects a.used.cells a.used.points in
    a_table (model_at a.model.now.bytes.now) t a.width c.if-width-lt16.false c.if-width-gt65535.false (sym (judged_exactly a.model.now.bytes.now (model_at a.model.now.bytes.now) t c.requires.good) ∙ sym c.judge.ensures ∙ c.if-not-judge.false)
