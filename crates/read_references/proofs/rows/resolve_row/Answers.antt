-- `read_references::resolve_row` meets its contract. Assumes nothing.
use native.Mathlib.Omega.{arith}
use mathlib.Core.Path.{refl}
use Rattle.std.proofs.lemmas.Result.{err_from_is_err_and}
use Rattle.model_records.proofs.Walking.{given_model, given_here, given_next, given_kind, given_room, given_inside, none_kind}
use Rattle.read_references.proofs.Resolving.{told_all, told_unresolved, attributes_end, attribute_pair, attribute_room_lem, attributes_on, attributes_stop}
use Rattle.read_references.proofs.rows.resolve_row.Goals as goal

pub resolve_attribute-requires : goal.resolve_attribute-requires
resolve_attribute-requires c =
    let i = c.loop-at.invariant.1 in
    let g = c.in-Some.ensures.steps in
    let e = given_kind _ _ _ _ c.loop-at.invariant.0 g in
    record {
      attribute_here = (given_here _ _ _ _ c.loop-at.invariant.0 g).good;
      objects_known = i.going.held.known;
      pair_here = attribute_pair _ _ _ _ _ _ _ _ _ _ _ _ _ _ i e;
    }

pub returns-in_err-resolve_attribute : goal.returns-in_err-resolve_attribute
returns-in_err-resolve_attribute c =
    let i = c.loop-at.invariant.1 in
    let g = c.in-Some.ensures.steps in
    let e = given_kind _ _ _ _ c.loop-at.invariant.0 g in
    let given = err_from_is_err_and c.from_residual.result c.from_residual.ensures.1 in
    let f = c.in_err-resolve_attribute.field-0.0 in
    rw (given.1, given.2) (attributes_stop _ _ _ _ _ _ _ _ _ _ _ _ _ _ i e _ _ (record { fields = refl; pairs = refl }) _ _ (told_unresolved _ _ _ (rw g.at at c.resolve_attribute.ensures) f c.in_err-resolve_attribute.was))

pub bounds-model-at : goal.bounds-model-at
bounds-model-at c =
    let g = c.in-Some.ensures.steps in
    omega (arith, given_room _ _ _ _ c.loop-at.invariant.0 g, given_inside _ _ _ _ c.loop-at.invariant.0 g)

pub overflow_add-field : goal.overflow_add-field
overflow_add-field c =
    omega (arith, (attribute_room_lem _ _ _ _ _ _ _ _ _ _ _ _ _ _ c.loop-at.invariant.1 (given_kind _ _ _ _ c.loop-at.invariant.0 c.in-Some.ensures.steps) _ _ (rw c.in-Some.ensures.steps.at at c.count_of-counts.ensures)).0, c.well_formed.1.1.1.0)

pub overflow_mul-cell : goal.overflow_mul-cell
overflow_mul-cell c =
    omega (arith, (attribute_room_lem _ _ _ _ _ _ _ _ _ _ _ _ _ _ c.loop-at.invariant.1 (given_kind _ _ _ _ c.loop-at.invariant.0 c.in-Some.ensures.steps) _ _ (rw c.in-Some.ensures.steps.at at c.count_of-counts.ensures)).1, c.well_formed.1.1.1.0)

pub overflow_add-cell-in-loop-at : goal.overflow_add-cell-in-loop-at
overflow_add-cell-in-loop-at c =
    omega (arith, (attribute_room_lem _ _ _ _ _ _ _ _ _ _ _ _ _ _ c.loop-at.invariant.1 (given_kind _ _ _ _ c.loop-at.invariant.0 c.in-Some.ensures.steps) _ _ (rw c.in-Some.ensures.steps.at at c.count_of-counts.ensures)).1, c.well_formed.1.1.1.0)

pub loop-at-preserved : goal.loop-at-preserved
loop-at-preserved c =
    let i = c.loop-at.invariant.1 in
    let g = c.in-Some.ensures.steps in
    let e = given_kind _ _ _ _ c.loop-at.invariant.0 g in
    (given_model _ _ _ _ c.loop-at.invariant.0 g, rw (given_next _ _ _ _ c.loop-at.invariant.0 g, g.at) (attributes_on _ _ _ _ _ _ _ _ _ _ _ _ _ _ i e _ _ (rw g.at at c.count_of-counts.ensures) _ (told_all _ _ _ (rw g.at at c.resolve_attribute.ensures) _ c.in_ok-resolve_attribute.was)))

pub returns : goal.returns
returns c =
    attributes_end _ _ _ _ _ _ _ _ _ _ _ _ _ _ c.loop-at.invariant.1 (none_kind _ c.loop-at.at-iterator c.loop-at.invariant.0 c.in-None.ensures.steps)
