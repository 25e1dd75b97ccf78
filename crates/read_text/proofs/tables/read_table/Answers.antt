-- `read_text::tables::read_table` meets its contract. Assumes nothing.
use Prim.Native.Nat.{ℕ}
use mathlib.Core.List.{List}
use mathlib.Core.Path.{refl, ◌∙◌}
use Rattle.std.proofs.lemmas.Result.{err_from_is_err_and}
use Rattle.meaning.specs.Reading.{start_of, rooms_of}
use Rattle.meaning.specs.Lines.{read_lines}
use Rattle.model_records.specs.Records.{model_at}
use Rattle.read_text.specs.Text.{lines_of}
use Rattle.read_text.proofs.Referring.{stopped_read, all_read}
use Rattle.read_text.proofs.tables.read_table.Goals as goal

pub resolve_all-requires : goal.resolve_all-requires
resolve_all-requires c =
    let u = c.args.buffers.now in
    let h = c.in_ok-state.ensures.ran (rooms_of c.args.text.now u.marks.now u.rows.now u.cells.now u.points.now) refl refl refl in
    record {
      placed = c.requires.prepared.placed;
      indexed_table = rw c.in_ok-state.ensures.same.seed h.holds.objects;
      rows_laid_out = h.holds.laid;
    }

pub returns-in_err-state-clause-read : goal.returns-in_err-state-clause-read
returns-in_err-state-clause-read c =
    let a = c.args in
    let b : List ℕ = a.model.now.bytes.now in
    let p = err_from_is_err_and c.from_residual.result c.from_residual.ensures.1 in
    rw (p.1, p.2) (λ rooms er ec ep. stopped_read (model_at b) rooms a.text.now _ _ _ _ (c.in_err-state.ensures.ran rooms er ec ep))

pub returns : goal.returns
returns c =
    let a = c.args in
    let b : List ℕ = a.model.now.bytes.now in
    let text : List ℕ = a.text.now in
    let u = a.buffers.now in
    let f = c.resolve_all in
    let v = c.read_lines.new.buffers in
    let s = c.in_ok-state.ensures.same in
    let whole = c.in_ok-state.ensures.ran (rooms_of text u.marks.now u.rows.now u.cells.now u.points.now) refl refl refl in
    record {
      read = λ rooms er ec ep.
          let h = c.in_ok-state.ensures.ran rooms er ec ep in
          all_read b text u.seed v.marks.now v.rows.now v.cells.now v.points.now v.index.now (read_lines (model_at b) rooms text (start_of (model_at b)) (lines_of text)) rooms c.in_ok-state.state h f.new.cells f.result
          (f.ensures.read rooms v.marks.now v.points.now h.holds.points_fit);
      fits = f.ensures.fits v.points.now whole.holds.points_fit;
      same = record {
        marks = record { reference = s.marks.reference; size = s.marks.size ∙ c.fill.ensures.len };
        rows = record { reference = s.rows.reference; size = s.rows.size };
        cells = record { reference = s.cells.reference; size = f.auto.cells ∙ s.cells.size };
        points = s.points;
        index = record { reference = s.index.reference; size = s.index.size ∙ c.clear.auto.index };
        seed = s.seed;
      };
    }
