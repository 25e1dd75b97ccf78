-- `read_references::resolve_references` meets its contract. Assumes nothing.
use native.Mathlib.Omega.{arith}
use mathlib.Core.Path.{ap, ◌∙◌}
use Rattle.std.proofs.lemmas.Result.{err_from_is_err_and}
use Rattle.model_records.specs.Records.{model_at}
use Rattle.model_records.specs.Places.{attributes_place}
use Rattle.read_references.proofs.Resolving.{told_all, told_unresolved, rows_end, table_in_lem, row_here, rows_on, rows_stop}
use Rattle.read_references.proofs.rows.resolve_references.Goals as goal

pub attributes_at-first-requires : goal.attributes_at-first-requires
attributes_at-first-requires c =
    let b = c.args.model.now.bytes.now in
    let h = c.requires.placed in
    record {
      placed = h;
      table_lt_tables = omega (arith, table_in_lem (model_at b) b c.args.model.now.places _ _ _ _ _ _ _ _ c.loop-object.invariant c.loop-object-test.true c.requires.rows_laid_out (rw h.tables at h.noted), c.size_at-table.ensures, h.tables);
    }

pub resolve_row-requires : goal.resolve_row-requires
resolve_row-requires c =
    let b = c.args.model.now.bytes.now in
    let p = c.args.model.now.places in
    let h = c.requires.placed in
    let g = c.loop-object.invariant.going in
    let e = c.attributes_at-first.ensures ∙ ap (attributes_place b p) c.size_at-table.ensures in
    record {
      indexed = rw g.size g.held;
      row_here = row_here (model_at b) b p _ _ _ _ _ _ _ _ c.loop-object.invariant c.loop-object-test.true c.requires.rows_laid_out (rw h.tables at h.noted) _ e;
    }

pub returns-in_err-resolve_row : goal.returns-in_err-resolve_row
returns-in_err-resolve_row c =
    let b = c.args.model.now.bytes.now in
    let p = c.args.model.now.places in
    let h = c.requires.placed in
    let e = c.attributes_at-first.ensures ∙ ap (attributes_place b p) c.size_at-table.ensures in
    let given = err_from_is_err_and c.from_residual.result c.from_residual.ensures.1 in
    rw (given.1, given.2) (rows_stop (model_at b) b p _ _ _ _ _ _ _ _ c.loop-object.invariant c.loop-object-test.true c.requires.rows_laid_out (rw h.tables at h.noted) _ e _ _
    (told_unresolved _ _ _ c.resolve_row.ensures c.in_err-resolve_row.field-0.0 c.in_err-resolve_row.was))

pub loop-object-preserved : goal.loop-object-preserved
loop-object-preserved c =
    let b = c.args.model.now.bytes.now in
    let p = c.args.model.now.places in
    let h = c.requires.placed in
    let e = c.attributes_at-first.ensures ∙ ap (attributes_place b p) c.size_at-table.ensures in
    rows_on (model_at b) b p _ _ _ _ _ _ _ _ c.loop-object.invariant c.loop-object-test.true c.requires.rows_laid_out (rw h.tables at h.noted) _ e _
    (told_all _ _ _ c.resolve_row.ensures _ c.in_ok-resolve_row.was)

pub returns : goal.returns
returns c =
    let b = c.args.model.now.bytes.now in
    rows_end (model_at b) b c.args.model.now.places _ _ _ _ _ _ _ _ c.loop-object.invariant c.loop-object-test.false
