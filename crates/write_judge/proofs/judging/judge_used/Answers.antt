-- `write_judge::judging::judge_used` meets its contract. Assumes nothing.
use mathlib.Core.Path.{sym, ◌∙◌}
use Rattle.model_records.specs.Records.{model_at}
use Rattle.table.specs.Contents.{content}
use Rattle.write_judge.proofs.Whole.{used_marks, used_tables, used_rows}
use Rattle.write_judge.proofs.judging.judge_used.Goals as goal

pub returns-then-not-are_marks : goal.returns-then-not-are_marks
returns-then-not-are_marks c =
    let t = c.args.table.now in
    used_marks (model_at c.args.model.now.bytes.now) t.text.now (content t) (sym c.are_marks.ensures ∙ c.if-not-are_marks.true)

pub returns-then-not-judge_tables : goal.returns-then-not-judge_tables
returns-then-not-judge_tables c =
    let t = c.args.table.now in
    used_tables (model_at c.args.model.now.bytes.now) t.text.now (content t)
    (sym c.are_marks.ensures ∙ c.if-not-are_marks.false)
    (sym c.judge_tables.ensures ∙ c.if-not-judge_tables.true)

pub returns : goal.returns
returns c =
    let t = c.args.table.now in
    c.judge_rows.ensures
    ∙ used_rows (model_at c.args.model.now.bytes.now) t.text.now (content t)
    (sym c.are_marks.ensures ∙ c.if-not-are_marks.false)
    (sym c.judge_tables.ensures ∙ c.if-not-judge_tables.false)
