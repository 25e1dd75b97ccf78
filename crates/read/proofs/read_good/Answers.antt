-- `read::read_good` meets its contract. Assumes nothing.
use Prim.Native.Nat.{ℕ}
use mathlib.Core.Path.{◌≡◌, refl, sym, ap, subst, ◌∙◌}
use mathlib.Core.List.{List}
use native.Mathlib.Omega.{arith}
use lib.ListN.{length, take}
use lib.Seq.{length-take-le}
use Rattle.std.proofs.lemmas.Result.{err_from_is_err_and}
use Rattle.meaning.specs.Unfold.{unfold_file}
use Rattle.meaning.specs.Reading.{rooms_of}
use Rattle.meaning.proofs.Model.Marks.{good_mark}
use Rattle.model_records.specs.Records.{model_at}
use Rattle.read.specs.Unfolded.{unfolded_read}
use Rattle.read_text.specs.Outcomes.{MarksRead}
use Rattle.read.proofs.Unfolding.{Stands, refused_read, stands, stands_in, text_read}
use Rattle.read.proofs.read_good.Goals as goal

pub returns-in_err-used-clause-read : goal.returns-in_err-used-clause-read
returns-in_err-used-clause-read c =
    let a = c.args in
    let m = model_at a.model.now in
    let mark : c.place_records-records.result.shape.mark ≡ m.mark = c.place_records-records.ensures.placed.mark ∙ ap (λ (b : List ℕ). (model_at b).mark) c.place_records-records.ensures.bytes in
    let p = err_from_is_err_and c.from_residual.result c.from_residual.ensures.1 in
    let u = a.buffers.now in
    rw (p.1, p.2)
    (refused_read m (rooms_of a.text.now u.marks.now u.rows.now u.cells.now u.points.now) (unfold_file m.mark a.file.now) _ _ (rw mark at c.in_err-used.ensures.answer))

pub slice_bounds-read_unfolded-end : goal.slice_bounds-read_unfolded-end
slice_bounds-read_unfolded-end c =
    let u = c.unfold_with in
    omega (arith, u.auto.text, stands_in _ _ _ c.in_ok-used.ensures.answer)

pub slice_bounds-read_unfolded-end-2 : goal.slice_bounds-read_unfolded-end-2
slice_bounds-read_unfolded-end-2 c =
    let u = c.unfold_with in
    sym (length-take-le _ u.new.text (omega (arith, u.auto.text, stands_in _ _ _ c.in_ok-used.ensures.answer)))

pub returns-clause-read : goal.returns-clause-read
returns-clause-read c =
    let a = c.args in
    let b = a.model.now in
    let r = c.read_unfolded in
    let e = r.new in
    let rooms = rooms_of a.text.now a.buffers.now.marks.now a.buffers.now.rows.now a.buffers.now.cells.now a.buffers.now.points.now in
    let u = c.unfold_with in
    let mark : c.place_records-records.result.shape.mark ≡ (model_at a.model.now).mark = c.place_records-records.ensures.placed.mark ∙ ap (λ (b : List ℕ). (model_at b).mark) c.place_records-records.ensures.bytes in
    let known : Stands (length a.text.now) (unfold_file (model_at b).mark a.file.now) c.in_ok-used.used u.new.text =
    stands _ _ _ _ (rw mark at c.in_ok-used.ensures.answer) (rw mark at u.ensures.room) in
    text_read (model_at b) rooms (good_mark b (model_at b) c.requires.model_value) a.file.now c.in_ok-used.used u.new.text e.marks e.rows e.cells e.points r.result
    known (subst (λ (b : List ℕ). MarksRead (unfolded_read (model_at b) rooms (take c.in_ok-used.used u.new.text)) rooms (take c.in_ok-used.used u.new.text) e.marks e.rows e.cells e.points r.result) c.place_records-records.ensures.bytes (r.ensures.read rooms refl refl refl refl))
