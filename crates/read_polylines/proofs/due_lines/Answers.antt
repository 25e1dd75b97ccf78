-- `read_polylines::due_lines` meets its contract. The loop's invariant: the attribute records from here on have the same line attributes. Assumes nothing.
use native.Mathlib.Omega.{arith}
use mathlib.Core.Path.{refl}
use Rattle.meaning.specs.Reading.{due_lines}
use Rattle.model_records.proofs.Walking.{given_model, given_next, given_kind, given_room, given_inside, none_kind}
use Rattle.read_state.specs.Meaning.{due_of}
use Rattle.read_polylines.proofs.Next.{passed_size, passed, line_holds, none_reached, due_unstarted}
use Rattle.read_polylines.proofs.due_lines.Goals as goal

pub bounds-model-byte : goal.bounds-model-byte
bounds-model-byte c =
    let g = c.in-Some.ensures.steps in
    omega (arith, given_room _ _ _ _ c.loop-byte.invariant.0 g, given_inside _ _ _ _ c.loop-byte.invariant.0 g)

pub returns-then-kind-eq-LINE : goal.returns-then-kind-eq-LINE
returns-then-kind-eq-LINE c =
    let i = c.loop-byte.invariant.1 in
    let g = c.in-Some.ensures.steps in
    let e = given_kind _ _ _ _ c.loop-byte.invariant.0 g in
    rw g.at (record {
      due = due_unstarted _ _ _ refl i.same;
      holds = λ rows n used points behind fits f. line_holds _ _ _ _ _ _ i e rows n used points _ _ c.requires.table_in_bounds (rw g.at at c.if-kind-eq-LINE.true) behind fits f;
    })

pub overflow_mul-pair : goal.overflow_mul-pair
overflow_mul-pair c =
    let i = c.loop-byte.invariant.1 in
    let g = c.in-Some.ensures.steps in
    let e = given_kind _ _ _ _ c.loop-byte.invariant.0 g in
    omega (arith, i.left, c.requires.at_bound, passed_size _ _ _ _ _ _ i e (rw g.at at c.if-kind-eq-LINE.false) _ (rw g.at at c.count_of-counts.ensures.pairs))

pub overflow_add-pair : goal.overflow_add-pair
overflow_add-pair c =
    let i = c.loop-byte.invariant.1 in
    let g = c.in-Some.ensures.steps in
    let e = given_kind _ _ _ _ c.loop-byte.invariant.0 g in
    omega (arith, i.left, c.requires.at_bound, passed_size _ _ _ _ _ _ i e (rw g.at at c.if-kind-eq-LINE.false) _ (rw g.at at c.count_of-counts.ensures.pairs))

pub loop-byte-preserved : goal.loop-byte-preserved
loop-byte-preserved c =
    let l = c.loop-byte.invariant in
    let g = c.in-Some.ensures.steps in
    let e = given_kind _ _ _ _ l.0 g in
    (given_model _ _ _ _ l.0 g, rw (given_next _ _ _ _ l.0 g, g.at) (passed _ _ _ _ _ _ l.1 e (rw g.at at c.if-kind-eq-LINE.false) _ (rw g.at at c.count_of-counts.ensures.pairs)))

pub returns : goal.returns
unfolding due_of due_lines
returns c =
    let n = none_reached _ _ _ _ _ _ c.loop-byte.invariant.1 (none_kind _ c.loop-byte.byte-iterator c.loop-byte.invariant.0 c.in-None.ensures.steps) in
    record {
      due = rw n refl;
      holds = λ rows n used points behind fits f. c.requires.table_in_bounds;
    }
