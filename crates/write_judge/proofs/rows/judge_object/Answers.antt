-- `write_judge::rows::judge_object` meets its contract. Assumes nothing.
use native.Mathlib.Omega.{arith}
use mathlib.Core.Path.{ap, sym, ◌∙◌}
use mathlib.Core.List.{List}
use lib.ListN.{length}
use Rattle.meaning.specs.Row.{Pair}
use Rattle.model_records.specs.Records.{model_at}
use Rattle.write_judge.proofs.Heads.{row_attributes, row_pairs}
use Rattle.write_judge.proofs.Turns.{fine_row, rows_moved, rows_bad, rows_unpaired, rows_on, pairs_told, told_at, told_none}
use Rattle.write_judge.proofs.rows.judge_object.Goals as goal

pub returns-then-table-object : goal.returns-then-table-object
returns-then-table-object c =
    let a = c.args in
    rows_moved (model_at a.model.now.bytes.now) a.table.now a.object a.place c.requires.object_in_bounds c.if-table-object.true

pub returns-in_err-end : goal.returns-in_err-end
returns-in_err-end c =
    let a = c.args in
    rw c.from_residual.ensures (rows_bad (model_at a.model.now.bytes.now) a.table.now a.object a.place c.requires.object_in_bounds (sym c.in_err-end.was ∙ c.judge_row.ensures.end))

pub attributes_at-first-requires : goal.attributes_at-first-requires
attributes_at-first-requires c =
    let a = c.args in
    let f = fine_row (model_at a.model.now.bytes.now) a.table.now a.object a.place c.requires.object_in_bounds _ (sym c.in_ok-end.was ∙ c.judge_row.ensures.end) in
    record {
      placed = c.requires.judging.placed;
      table_lt_tables = omega (arith, c.size_at-number.ensures, f.0, c.requires.judging.placed.tables);
    }

pub judge_pairs-requires : goal.judge_pairs-requires
judge_pairs-requires c =
    let a = c.args in
    let f = fine_row (model_at a.model.now.bytes.now) a.table.now a.object a.place c.requires.object_in_bounds _ (sym c.in_ok-end.was ∙ c.judge_row.ensures.end) in
    let z = c.size_at-number.ensures in
    let p = c.requires.judging.placed in
    let q = ap (λ (ps : List Pair). length ps) (row_pairs a.model.now p a.table.now.cells.now a.place.at _ z (omega (arith, z, f.0, p.tables)) _ c.attributes_at-first.ensures) in
    record {
      attributes_here = row_attributes a.model.now p a.table.now.cells.now a.place.at _ z (omega (arith, z, f.0, p.tables)) _ c.attributes_at-first.ensures;
      first_in_bounds = omega (arith, f.1, q);
      k_in_bounds = c.requires.at_row.points_fit;
    }

pub returns : goal.returns
returns c =
    let a = c.args in
    let f = fine_row (model_at a.model.now.bytes.now) a.table.now a.object a.place c.requires.object_in_bounds _ (sym c.in_ok-end.was ∙ c.judge_row.ensures.end) in
    let z = c.size_at-number.ensures in
    let p = c.requires.judging.placed in
    let q = row_pairs a.model.now p a.table.now.cells.now a.place.at _ z (omega (arith, z, f.0, p.tables)) _ c.attributes_at-first.ensures in
    let j = pairs_told (model_at a.model.now.bytes.now) a.table.now a.model.now.shape.undefined _ _ a.place p.undefined q c.judge_pairs.ensures.judged in (
      rows_on (model_at a.model.now.bytes.now) a.table.now a.object a.place c.requires.object_in_bounds c.if-table-object.false _ (sym c.in_ok-end.was ∙ c.judge_row.ensures.end) _ (told_at _ _ j _ c.in_ok-points.was) _ z,
      record { known = rw c.in_ok-end.was at c.judge_row.ensures.known; cells_fit = omega (arith, f.1, f.2); points_fit = c.judge_pairs.ensures.within _ c.in_ok-points.was },
    )

pub returns-in_err-points : goal.returns-in_err-points
returns-in_err-points c =
    let a = c.args in
    let f = fine_row (model_at a.model.now.bytes.now) a.table.now a.object a.place c.requires.object_in_bounds _ (sym c.in_ok-end.was ∙ c.judge_row.ensures.end) in
    let z = c.size_at-number.ensures in
    let p = c.requires.judging.placed in
    let q = row_pairs a.model.now p a.table.now.cells.now a.place.at _ z (omega (arith, z, f.0, p.tables)) _ c.attributes_at-first.ensures in
    let j = pairs_told (model_at a.model.now.bytes.now) a.table.now a.model.now.shape.undefined _ _ a.place p.undefined q c.judge_pairs.ensures.judged in
    rw c.from_residual-in_err-points.ensures (rows_unpaired (model_at a.model.now.bytes.now) a.table.now a.object a.place c.requires.object_in_bounds (told_none _ _ j c.in_err-points.was))
