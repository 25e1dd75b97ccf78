-- `write_judge::counts_fit` meets its contract. Assumes nothing.
use lib.ListN.{length}
use Rattle.write_judge.proofs.Whole.{points_fit_lem, four_counts}
use Rattle.write_judge.proofs.judging.counts_fit.Goals as goal

pub returns : goal.returns
returns c =
    let a = c.args in rw (points_fit_lem a.used.points (length a.table.now.points.now)) (four_counts _ _ _ _)
