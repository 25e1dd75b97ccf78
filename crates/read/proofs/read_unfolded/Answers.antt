-- `read::read_unfolded` meets its contract. Assumes nothing.
use Prim.Native.Nat.{ℕ, ◌+◌, ◌≤◌}
use mathlib.Core.Path.{◌≡◌, sym, ap, ◌∙◌}
use native.Mathlib.Omega.{arith}
use lib.ListN.{length, replicate}
use lib.Seq.{length-take-le}
use Rattle.meaning.specs.Reading.{start_of}
use Rattle.meaning.specs.Lines.{read_lines}
use Rattle.meaning.specs.Table.{read_run}
use Rattle.model_records.specs.Records.{model_at}
use Rattle.read_text.specs.Text.{lines_of}
use Rattle.read.proofs.Marking.{few_marks, marks_read}
use Rattle.read.proofs.read_unfolded.Goals as goal

pub returns-then-marks-count : goal.returns-then-marks-count
returns-then-marks-count c =
    let p = c.requires.placed in
    record {
      read = (λ rooms em er ec ep. few_marks rooms _ _ (omega (arith, c.if-marks-count.true, em, c.fill.auto.self, p.topics, p.tables)));
      fits = tt;
    }

pub returns-clause-read : goal.returns-clause-read
returns-clause-read c =
    let a = c.args in
    let m = model_at a.model.now.bytes.now in
    let t = a.text.now in
    let marks = c.fill.new.self in
    let r = c.read_exact in
    let e = r.new in
    let n = length m.topics + length m.tables in
    let k = a.model.now.shape.topics + a.model.now.shape.tables in
    let same : k ≡ n = omega (arith, c.requires.placed.topics, c.requires.placed.tables) in
    let inside : k ≤ length marks = c.if-marks-count.false in
    λ rooms em er ec ep.
    marks_read rooms n (read_run m rooms t (read_lines m rooms t (start_of m) (lines_of t))) k same t e.marks marks e.rows e.cells e.points r.result
    (c.fill.ensures.after (λ _ h. h) ∙ ap (λ (j : ℕ). replicate j 0) (sym em)) (omega (arith, em, c.fill.auto.self)) (r.auto.marks ∙ length-take-le k marks inside) (r.ensures.read rooms er ec ep)
