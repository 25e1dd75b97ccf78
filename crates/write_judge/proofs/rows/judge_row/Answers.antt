-- `write_judge::rows::judge_row` meets its contract. Assumes nothing.
use mathlib.Core.Path.{sym, ◌∙◌}
use Rattle.write_judge.proofs.Heads.{row_first, row_second, row_third, row_all, row_row, row_cells_lem}
use Rattle.write_judge.proofs.rows.judge_row.Goals as goal

pub returns-in_err-end : goal.returns-in_err-end
returns-in_err-end c =
    let p = c.requires in
    rw c.from_residual.ensures (record {
      end = row_first c.args.model.now c.args.table.now p.judging.placed _ _ _ p.object_in_bounds.1 p.known.listed (rw c.in_err-end.was at c.end_of_row.ensures);
      known = tt;
    })

pub judge_name-requires : goal.judge_name-requires
judge_name-requires c =
    let p = c.requires in
    row_cells_lem c.args.model.now c.args.table.now p.judging.placed _ _ _ p.object_in_bounds.1 p.known.listed _ (rw c.in_ok-end.was at c.end_of_row.ensures)

pub returns-then-not-judge_name : goal.returns-then-not-judge_name
returns-then-not-judge_name c =
    let p = c.requires in
    record {
      end = row_second c.args.model.now c.args.table.now p.judging.placed _ _ _ p.object_in_bounds.1 p.known.listed (sym c.judge_name.ensures ∙ c.if-not-judge_name.true);
      known = tt;
    }

pub add_name-requires : goal.add_name-requires
add_name-requires c =
    let p = c.requires in
    let y = sym c.judge_name.ensures ∙ c.if-not-judge_name.false in
    record {
      known = p.known;
      object_in_bounds = (p.object_in_bounds.0, row_row c.args.model.now c.args.table.now p.judging.placed _ _ _ p.object_in_bounds.1 p.known.listed _ (rw c.in_ok-end.was at c.end_of_row.ensures) y);
    }

pub returns-then-not-add_name : goal.returns-then-not-add_name
returns-then-not-add_name c =
    let p = c.requires in
    let y = sym c.judge_name.ensures ∙ c.if-not-judge_name.false in
    let z = sym c.add_name.ensures.unused ∙ c.if-not-add_name.true in
    record {
      end = row_third c.args.model.now c.args.table.now p.judging.placed _ _ _ p.object_in_bounds.1 p.known.listed y z;
      known = tt;
    }

pub returns : goal.returns
returns c =
    let p = c.requires in
    let y = sym c.judge_name.ensures ∙ c.if-not-judge_name.false in
    let f = c.if-not-add_name.false in
    let z = sym c.add_name.ensures.unused ∙ f in
    record {
      end = row_all c.args.model.now c.args.table.now p.judging.placed _ _ _ p.object_in_bounds.1 p.known.listed _ (rw c.in_ok-end.was at c.end_of_row.ensures) y z;
      known = c.add_name.ensures.known f;
    }
