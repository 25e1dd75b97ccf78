-- `write::writing::write_under` meets its contract. Assumes nothing.
use mathlib.Core.Path.{sym, ◌∙◌}
use lib.ListN.{length}
use Rattle.std.proofs.lemmas.Result.{err_from_is_err_and}
use Rattle.model_records.specs.Records.{model_at}
use Rattle.meaning.specs.Writing.{lent_of}
use Rattle.write.specs.Answers.{answer_of, unplaced, came_to}
use Rattle.write.proofs.Calls.{refused_with_lem, width_fits, counts_fit_lem, written_with, settled}
use Rattle.write.proofs.writing.write_under.Goals as goal

pub returns-in_err-refusal_of : goal.returns-in_err-refusal_of
unfolding unplaced came_to answer_of
returns-in_err-refusal_of c =
    let a = c.args in
    let b = a.table.now in
    let t = lent_of b.text.now b.marks.now b.rows.now b.cells.now b.points.now a.used.objects a.used.cells a.used.points in
    let p = err_from_is_err_and c.from_residual.result c.from_residual.ensures.1 in
    rw (p.1, p.2) (sym (refused_with_lem (model_at a.model.now.bytes.now) t a.width (length a.out.now) _ c.in_err-refusal_of.ensures))

pub put_used-put-requires-clause-le_width : goal.put_used-put-requires-clause-le_width
put_used-put-requires-clause-le_width c = width_fits _ _ _ c.in_ok-refusal_of.ensures

pub put_used-put-requires-clause-fitting : goal.put_used-put-requires-clause-fitting
put_used-put-requires-clause-fitting c = counts_fit_lem _ _ _ c.in_ok-refusal_of.ensures

pub returns : goal.returns
returns c =
    let a = c.args in
    let b = a.table.now in
    let t = lent_of b.text.now b.marks.now b.rows.now b.cells.now b.points.now a.used.objects a.used.cells a.used.points in
    let p = c.put_used-put in
    let k = settled _ _ _ p.result p.ensures ∙ sym (written_with (model_at a.model.now.bytes.now) t a.width c.in_ok-refusal_of.ensures (length a.out.now)) in
    let s = rw p.ensures.room at c.settle.ensures in
    s ∙ k
