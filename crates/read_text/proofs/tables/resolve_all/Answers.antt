-- `read_text::tables::resolve_all` meets its contract. Assumes nothing.
use Rattle.std.proofs.lemmas.Result.{err_from_is_err_and}
use Rattle.model_records.specs.Records.{model_at}
use Rattle.read_text.proofs.Counted.{first_held, first_laid}
use Rattle.read_text.proofs.Referring.{resolved_read, unresolved_read, resolved_fits}
use Rattle.read_text.proofs.tables.resolve_all.Goals as goal

pub resolve_references-requires : goal.resolve_references-requires
resolve_references-requires c =
    let a = c.args in
    let h = c.requires.indexed_table in
    record {
      placed = c.requires.placed;
      indexed = first_held a.seed a.text.now a.state.rows a.state.cells a.rows.now a.cells.now a.index.now h;
      rows_laid_out = first_laid a.seed a.text.now a.state.rows a.state.cells a.rows.now a.cells.now a.index.now h (model_at a.model.now.bytes.now) c.requires.rows_laid_out;
    }

pub returns : goal.returns
returns c =
    let a = c.args in
    let r = c.resolve_references in
    let h = c.requires.indexed_table in
    let lent = r.new.cells in
    let k = r.auto.cells in
    let e = c.in_ok-resolve_references.ensures in
    record {
      read = λ rooms marks points p. resolved_read (model_at a.model.now.bytes.now) rooms a.text.now marks a.rows.now a.cells.now points a.state.rows a.state.cells a.state.points lent k h.cells_in e;
      fits = λ points p. resolved_fits a.rows.now a.cells.now lent points a.state.rows a.state.cells a.state.points h.known.listed.in_rows h.cells_in p k;
    }

pub returns-in_err-resolve_references : goal.returns-in_err-resolve_references
returns-in_err-resolve_references c =
    let a = c.args in
    let p = err_from_is_err_and c.from_residual.result c.from_residual.ensures.1 in
    rw (p.1, p.2)
    record {
      read = λ rooms marks points p. unresolved_read (model_at a.model.now.bytes.now) rooms a.text.now marks a.rows.now a.cells.now points a.state.rows a.state.cells a.state.points _ _ c.in_err-resolve_references.ensures;
      fits = λ points p. tt;
    }
