-- `write_judge::pairs::judge_pairs` meets its contract. Assumes nothing.
use native.Mathlib.Omega.{arith}
use mathlib.Core.Path.{◌≡◌}
use Rattle.model_records.proofs.Walking.{given_model, given_here, given_next, given_kind, given_room, given_inside, none_kind}
use Rattle.write_judge.proofs.Walk.{pairs_end, own_inside, count_inside, pairs_stop, pairs_on}
use Rattle.write_judge.proofs.pairs.judge_pairs.Goals as goal

pub attribute_at-attribute-requires : goal.attribute_at-attribute-requires
attribute_at-attribute-requires c = (given_here _ _ _ _ c.loop-at.invariant.0 c.in-Some.ensures.steps).good

pub judge_attribute-requires : goal.judge_attribute-requires
judge_attribute-requires c =
    let i = c.loop-at.invariant.1 in
    let g = c.in-Some.ensures.steps in
    let e = given_kind _ _ _ _ c.loop-at.invariant.0 g in
    record {
      counted = c.attribute_at-attribute.ensures.counted;
      attribute_in_bounds = omega (arith, own_inside _ _ _ _ _ _ _ _ i e _ (rw g.at at c.attribute_at-attribute.ensures));
      first_in_bounds = i.drawn;
    }

pub returns-in_err-before : goal.returns-in_err-before
returns-in_err-before c =
    let g = c.in-Some.ensures.steps in
    let e = given_kind _ _ _ _ c.loop-at.invariant.0 g in
    let h = pairs_stop _ _ _ _ _ _ _ _ c.loop-at.invariant.1 e _ (rw g.at at c.attribute_at-attribute.ensures) (rw c.in_err-before.was at c.judge_attribute.ensures) in
    rw c.from_residual.ensures (record {
      judged = h;
      within = λ n e. cc;
    })

pub overflow_mul-here : goal.overflow_mul-here
overflow_mul-here c =
    let g = c.in-Some.ensures.steps in
    let e = given_kind _ _ _ _ c.loop-at.invariant.0 g in
    omega (arith, count_inside _ _ _ _ _ _ _ _ c.loop-at.invariant.1 e _ (rw g.at at c.attribute_at-attribute.ensures) _ (rw g.at at c.count_of-counts.ensures.pairs))

pub overflow_add-here : goal.overflow_add-here
overflow_add-here c =
    let g = c.in-Some.ensures.steps in
    let e = given_kind _ _ _ _ c.loop-at.invariant.0 g in
    omega (arith, count_inside _ _ _ _ _ _ _ _ c.loop-at.invariant.1 e _ (rw g.at at c.attribute_at-attribute.ensures) _ (rw g.at at c.count_of-counts.ensures.pairs))

pub loop-at-preserved : goal.loop-at-preserved
loop-at-preserved c =
    let l = c.loop-at.invariant in
    let g = c.in-Some.ensures.steps in
    let e = given_kind _ _ _ _ l.0 g in
    (given_model _ _ _ _ l.0 g, pairs_on _ _ _ _ _ _ _ _ l.1 e _ (rw g.at at c.attribute_at-attribute.ensures) _ (rw c.in_ok-before.was at c.judge_attribute.ensures) _ _ (rw g.at at c.count_of-counts.ensures.pairs) (rw g.at at (given_next _ _ _ _ l.0 g)))

pub bounds-model-at : goal.bounds-model-at
bounds-model-at c =
    let g = c.in-Some.ensures.steps in
    omega (arith, given_room _ _ _ _ c.loop-at.invariant.0 g, given_inside _ _ _ _ c.loop-at.invariant.0 g)

pub returns : goal.returns
returns c =
    let i = c.loop-at.invariant.1 in
    record {
      judged = pairs_end _ _ _ _ _ _ _ _ i (none_kind _ c.loop-at.at-iterator c.loop-at.invariant.0 c.in-None.ensures.steps);
      within = λ n e. let q : c.loop-at.before ≡ n = cc e in omega (arith, i.drawn, q);
    }
