-- `model_records::count_pairs` meets its contract: what is counted and the pairs from here on are all. Assumes nothing.
use Prim.Native.Nat.{◌+◌}
use native.Mathlib.Omega.{arith}
use mathlib.Core.Path.{ap}
use lib.ListN.{length, get_or}
use Rattle.model_records.proofs.AtRecord.{here}
use Rattle.model_records.proofs.Counting.{pairs_few}
use Rattle.model_records.proofs.Walking.{given_model, given_room, given_inside, given_turn, none_given}
use Rattle.model_records.proofs.counts.count_pairs.Goals as goal

pub bounds-model-at : goal.bounds-model-at
bounds-model-at c =
    let g = c.in-Some.ensures.steps in
    let e = c.loop-at.invariant.0 in
    omega (arith, given_room _ _ _ _ e g, given_inside _ _ _ _ e g)

pub overflow_add-pairs : goal.overflow_add-pairs
overflow_add-pairs c =
    let g = c.in-Some.ensures.steps in
    let i = c.loop-at.invariant in
    let few = pairs_few (get_or c.args.model.now (c.in-Some.at + 5) 0) in
    omega (arith, i.1, g.at, c.count_of-pairs.ensures.pairs, few, given_room _ _ _ _ i.0 g, given_inside _ _ _ _ i.0 g)

pub loop-at-preserved : goal.loop-at-preserved
loop-at-preserved c =
    let g = c.in-Some.ensures.steps in
    let i = c.loop-at.invariant in
    let p = c.count_of-pairs.ensures.pairs in
    let few = pairs_few (get_or c.args.model.now (c.in-Some.at + 5) 0) in
    (given_model _ _ _ _ i.0 g, omega (arith, i.1, g.at, p, few, given_room _ _ _ _ i.0 g), omega (arith, i.2, given_turn _ _ _ _ i.0 g _ p))

pub returns : goal.returns
returns c =
    let i = c.loop-at.invariant in
    record {
      count = omega (arith, i.2, ap length (none_given _ c.loop-at.at-iterator i.0 c.in-None.ensures.steps));
      few = omega (arith, i.1, ap length i.0, (here _ _ _ _ _ c.loop-at.iterator.0.standing).room);
    }
