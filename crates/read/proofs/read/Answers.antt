-- `read::read` meets its contract. Assumes nothing.
use Prim.Native.Nat.{ℕ}
use mathlib.Core.Path.{sym, ap, ◌∙◌}
use lib.ListN.{replicate}
use Rattle.meaning.specs.Table as table
use Rattle.meaning.specs.Reading.{rooms_of}
use Rattle.read_text.proofs.Endings.{left}
use Rattle.read.proofs.read.Goals as goal

pub returns : goal.returns
returns c =
    let a = c.args in
    let i = c.read_into-answer in
    let x = i.new.buffers in
    let f = c.finish in
    let e = i.ensures.same in
    let marks = c.marks-1.given.1.1 (sym e.marks.reference) in
    let rows = c.rows-1.given.1.1 (sym e.rows.reference) in
    let cells = c.cells-1.given.1.1 (sym e.cells.reference) in
    let points = c.points-1.given.1.1 (sym e.points.reference) in
    let rooms = rooms_of a.text.now a.marks.now a.rows.now a.cells.now a.points.now in
    let l = left (table.read a.model.now a.file.now rooms) rooms
    i.new.text x.marks.now x.rows.now x.cells.now x.points.now
    f.new.text f.new.marks f.new.rows f.new.cells f.new.points
    (sym i.auto.text) (sym e.marks.size) (sym e.rows.size) (sym e.cells.size) (sym e.points.size)
    i.result i.ensures.read i.ensures.fits (rw (marks, rows, cells, points) at f.ensures.finished) in
    record {
      answer = l.answer_is;
      text = l.text_is;
      marks = l.marks_are;
      rows = l.rows_are;
      cells = l.cells_are;
      points = l.points_are;
      index = f.ensures.index_after ∙ ap (λ (n : ℕ). replicate n 0) c.index-1.given.1.0;
    }
