-- `write_judge::judging::judge` meets its contract. Assumes nothing.
use mathlib.Core.Path.{sym, ◌∙◌}
use Rattle.write_judge.proofs.Whole.{whole_none, fit_counts, whole_judging, whole_used}
use Rattle.write_judge.proofs.judging.judge.Goals as goal

pub returns-then-not-counts_fit : goal.returns-then-not-counts_fit
returns-then-not-counts_fit c =
    let a = c.args in
    whole_none a.model.now c.requires.placed a.table.now a.used (sym c.counts_fit.ensures ∙ c.if-not-counts_fit.true)

pub cut-requires : goal.cut-requires
cut-requires c =
    let a = c.args in
    let f = fit_counts a.model.now c.requires.placed a.table.now a.used (sym c.counts_fit.ensures ∙ c.if-not-counts_fit.false) in
    record { marks_in_bounds = f.0; objects_in_bounds = f.1; cells_in_bounds = f.2; points_in_bounds = f.3 }

pub judge_used-requires : goal.judge_used-requires
judge_used-requires c =
    let a = c.args in
    let e = c.cut.ensures in
    record {
      judging = whole_judging a.model.now c.requires.placed a.table.now a.used (sym c.counts_fit.ensures ∙ c.if-not-counts_fit.false) c.cut.result e.text e.marks e.rows e.cells e.points;
    }

pub returns : goal.returns
returns c =
    let a = c.args in
    let e = c.cut.ensures in
    c.judge_used.ensures
    ∙ whole_used a.model.now c.requires.placed a.table.now a.used (sym c.counts_fit.ensures ∙ c.if-not-counts_fit.false) c.cut.result e.text e.marks e.rows e.cells e.points
