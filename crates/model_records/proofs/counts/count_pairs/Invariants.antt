-- `model_records::count_pairs` meets its contract: what is counted and the pairs from here on are all. Assumes nothing.
use Prim.Native.Nat.{◌+◌, ◌≤◌}
use mathlib.Core.Path.{◌≡◌}
use lib.ListN.{length}
use Rattle.model_records.specs.Records.{pairs_at}
use Rattle.model_records.proofs.counts.count_pairs.Given as goal

abbrev pub invariant-loop-at : goal.invariant-loop-at
invariant-loop-at l =
    let it = l.at-iterator in
    (it.model.now ≡ l.model) × (l.pairs + l.first ≤ it.at) × (length (pairs_at l.model l.first) ≡ l.pairs + length (pairs_at l.model it.at))
