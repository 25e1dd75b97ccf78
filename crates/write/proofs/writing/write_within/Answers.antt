-- `write::writing::write_within` meets its contract. Assumes nothing.
use mathlib.Core.Path.{◌≡◌, sym, ◌∙◌}
use borrow.Author.Rules.{rules}
use lib.ListN.{length}
use Rattle.std.proofs.lemmas.Result.{err_from_is_err_and}
use Rattle.meaning.specs.Writing.{lent_of}
use Rattle.model_check.specs.Walk.{checked_meant}
use Rattle.model_check.proofs.Found.{found_good}
use Rattle.write.specs.Answers.{answer_of, unplaced, came_to}
use Rattle.write.proofs.Calls.{under_bad, under_good}
use Rattle.write.proofs.writing.write_within.Goals as goal

pub returns-in_err-check : goal.returns-in_err-check
unfolding answer_of came_to checked_meant
returns-in_err-check c =
    let a = c.args in
    let p = err_from_is_err_and c.from_residual.result c.from_residual.ensures.1 in
    let b = a.table.now in
    let t = lent_of b.text.now b.marks.now b.rows.now b.cells.now b.points.now a.used.objects a.used.cells a.used.points in
    rw (p.1, p.2) (sym (under_bad a.model.now t a.width (length a.out.now) _ _ _ c.in_err-check.ensures))

pub place_records-records-requires : goal.place_records-records-requires
unfolding checked_meant
place_records-records-requires c = found_good c.args.model.now _ c.in_ok-check.ensures

pub returns : goal.returns
unfolding answer_of unplaced checked_meant
returns c =
    let a = c.args in
    let b = a.table.now in
    let t = lent_of b.text.now b.marks.now b.rows.now b.cells.now b.points.now a.used.objects a.used.cells a.used.points in
    let u = c.write_under in
    let g = found_good a.model.now _ c.in_ok-check.ensures in
    let e : c.map_err.result ≡ unplaced u.result = search rules in
    rw e ((rw c.place_records-records.ensures.bytes at u.ensures) ∙ sym (under_good a.model.now t a.width (length a.out.now) g))
