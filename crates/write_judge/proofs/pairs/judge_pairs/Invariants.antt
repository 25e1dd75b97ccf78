-- `write_judge::pairs::judge_pairs` meets its contract. Assumes nothing.
use mathlib.Core.Path.{◌≡◌}
use Rattle.write_judge.proofs.Walk.{PairsLeft}
use Rattle.write_judge.proofs.pairs.judge_pairs.Given as goal

abbrev pub invariant-loop-at : goal.invariant-loop-at
invariant-loop-at l =
    let it = l.at-iterator in
    (it.model.now ≡ l.model.bytes.now) × PairsLeft l.model l.table l.first l.cell l.k it.at l.here l.before
