-- `write_objects::objects::put_pairs` meets its contract. Assumes nothing.
use Prim.Native.Nat.{◌+◌}
use mathlib.Core.Path.{ap}
use mathlib.Core.List.{List}
use native.Mathlib.Omega.{arith}
use lib.IntN.{ℤ}
use lib.ListN.{length}
use Rattle.meaning.specs.Writing.{pair_fields, spaced}
use Rattle.model_records.specs.Records.{model_at, pairs_at}
use Rattle.table.specs.Contents.{content}
use Rattle.model_records.proofs.Walking.{given_model, given_here, given_next, given_kind, given_room, given_inside, none_kind}
use Rattle.write_objects.proofs.Walking.{walk_start, walk_end, walk_count, walk_on}
use Rattle.write_objects.proofs.Walking.{fields_meant, fields_meant_lem, no_fields, row_fields}
use Rattle.write_objects.proofs.objects.put_pairs.Goals as goal

pub loop-at-init : goal.loop-at-init
loop-at-init c =
    let a = c.args in
    let m = c.min-cell.ensures in
    let n = c.put_nothing-all in
    let k = c.attribute_records-at-items.ensures in
    rw c.into_iter-at-iterator.ensures.into_iter_gives (k.model, rw k.first (walk_start (model_at a.model.now) a.model.now (fields_meant a.undefined a.table.now.text.now (content a.table.now) a.table.now.cells.now) (length a.table.now.cells.now + 3) _ a.first _ a.put n.result a.out.now c.requires (omega (arith, m)) (ap (λ (l : List ℤ). spaced (pair_fields a.undefined a.table.now.text.now (content a.table.now) (pairs_at a.model.now a.first) l)) (row_fields a.table.now.cells.now a.row _ m)) (n.ensures a.out.now)))

pub returns : goal.returns
returns c =
    let a = c.args in
    walk_end c.loop-at.invariant.1 a.put (none_kind _ c.loop-at.at-iterator c.loop-at.invariant.0 c.in-None.ensures.steps) (no_fields a.undefined a.table.now.text.now (content a.table.now) a.table.now.cells.now c.loop-at.cell) (c.put_nothing-all.ensures a.out.now)

pub put_attribute_at-all-requires-clause-attribute_here : goal.put_attribute_at-all-requires-clause-attribute_here
put_attribute_at-all-requires-clause-attribute_here c = (given_here _ _ _ _ c.loop-at.invariant.0 c.in-Some.ensures.steps).good

pub bounds-model-at : goal.bounds-model-at
bounds-model-at c =
    let g = c.in-Some.ensures.steps in
    let h = c.loop-at.invariant.0 in
    omega (arith, given_room _ _ _ _ h g, given_inside _ _ _ _ h g)

pub overflow_mul-cell : goal.overflow_mul-cell
overflow_mul-cell c =
    let g = c.in-Some.ensures.steps in
    let e = given_kind _ _ _ _ c.loop-at.invariant.0 g in
    omega (arith, walk_count c.loop-at.invariant.1 e _ _ (rw g.at at c.count_of.ensures))

pub overflow_add-cell-in-loop-at : goal.overflow_add-cell-in-loop-at
overflow_add-cell-in-loop-at c =
    let g = c.in-Some.ensures.steps in
    let h = c.loop-at.invariant.0 in
    let i = c.loop-at.invariant.1 in
    let e = given_kind _ _ _ _ h g in
    omega (arith, walk_count i e _ _ (rw g.at at c.count_of.ensures), given_room _ _ _ _ h g, given_inside _ _ _ _ h g, g.at, i.few, c.well_formed.1.1.1.1.1.0, c.well_formed.0)

pub loop-at-preserved : goal.loop-at-preserved
loop-at-preserved c =
    let g = c.in-Some.ensures.steps in
    let h = c.loop-at.invariant.0 in
    let i = c.loop-at.invariant.1 in
    let e = given_kind _ _ _ _ h g in
    let a = c.args in
    let p = c.put_attribute_at-all in
    (given_model _ _ _ _ h g, rw (given_next _ _ _ _ h g, g.at) (walk_on i e _ _ (rw g.at at c.count_of.ensures) (fields_meant_lem a.undefined a.table.now.text.now (content a.table.now) a.table.now.cells.now) _ p.result (rw g.at at p.ensures)))
