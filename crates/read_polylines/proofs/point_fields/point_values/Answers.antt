-- `read_polylines::point_fields::point_values` meets its contract. Assumes nothing.
use Prim.Native.Nat.{◌+◌}
use native.Mathlib.Omega.{arith}
use mathlib.Core.Path.{refl, subst}
use lib.ListN.{take, drop, length-drop, length-set}
use lib.IntN.{pos}
use mathlib.Core.List.{[], ◌∷◌}
use mir.Syntax.{w64}
use mir.Val.{SFits}
use mir.ValLaws.{to_z-of_z}
use Rattle.std.proofs.Common.{rules, ◌≡◌}
use Rattle.std.proofs.lemmas.Result.{err_from_is_err_and}
use Rattle.model_records.specs.Components.{list_of}
use Rattle.base.specs.Reasons.{number_of}
use Rattle.base.proofs.Fill.{to_end}
use Rattle.base.proofs.Results.{mapped_ok, mapped_err}
use Rattle.read_polylines.specs.PointFields.{GetsValue}
use Rattle.read_polylines.proofs.PointFields.{point_start, point_on, point_no, point_extra, point_read}
use Rattle.read_polylines.proofs.point_fields.point_values.Goals as goal

pub loop-i-init : goal.loop-i-init
loop-i-init c =
    (omega arith, refl, point_start c.args.undefined (list_of (take c.args.components.count c.args.components.items)) c.args.rest.now (pos 0 ∷ pos 0 ∷ pos 0 ∷ []))

pub returns-in_err-v : goal.returns-in_err-v
returns-in_err-v c =
    let r = mapped_err _ c.get_value-got.result c.map_err.result c.map_err.ensures.cases c.in_err-v.field-0.0 c.in_err-v.was in
    let p = err_from_is_err_and c.from_residual.result c.from_residual.ensures.1 in
    let refusal : c.in_err-v.field-0.0 ≡ record { reason = r.0; field = c.loop-i.i-counter + 2 } = search rules in
    let g = subst (GetsValue c.args.undefined _ (drop c.loop-i.at c.args.rest.now)) r.1 (rw (to_end c.args.rest.now c.loop-i.at) at c.get_value-got.ensures) in
    rw (p.1, p.2, refusal) (point_no c.args.undefined c.args.rest.now c.args.components.count c.args.components.items c.loop-i.at c.loop-i.i-counter c.loop-i.values _ (omega arith) (omega (arith, c.requires)) c.loop-i.invariant.2 (number_of r.0) g)

pub loop-i-preserved : goal.loop-i-preserved
loop-i-preserved c =
    let ok = mapped_ok _ c.get_value-got.result c.map_err.result c.map_err.ensures.cases (c.in_ok-v.v, c.in_ok-v.end) c.in_ok-v.was in
    let g = subst (GetsValue c.args.undefined _ (drop c.loop-i.at c.args.rest.now)) ok (rw (to_end c.args.rest.now c.loop-i.at) at c.get_value-got.ensures) in
    let fits : SFits w64 c.in_ok-v.v = search rules in (
      omega (arith, g.within, length-drop c.loop-i.at c.args.rest.now),
      rw length-set c.loop-i.invariant.1,
      rw (to_z-of_z w64 c.in_ok-v.v fits) (point_on c.args.undefined c.args.rest.now c.args.components.count c.args.components.items c.loop-i.at c.loop-i.i-counter c.loop-i.values _ (omega arith) (omega (arith, c.requires)) c.loop-i.invariant.2 c.in_ok-v.v c.in_ok-v.end (omega (arith, c.loop-i.invariant.1, c.requires)) g),
    )

pub returns-in-None : goal.returns-in-None
returns-in-None c =
    let none = rw (to_end c.args.rest.now c.loop-i.at) at c.in-None.ensures in
    (point_read c.args.undefined c.args.rest.now c.args.components.count c.args.components.items c.loop-i.at c.loop-i.i-counter c.loop-i.values (omega arith) c.loop-i.invariant.2 none, c.loop-i.invariant.1)

pub returns-in-Some : goal.returns-in-Some
returns-in-Some c =
    let count : c.loop-i.i-counter ≡ c.args.components.count = omega arith in
    let some = rw (to_end c.args.rest.now c.loop-i.at) at c.in-Some.ensures in
    rw count at (point_extra c.args.undefined c.args.rest.now c.args.components.count c.args.components.items c.loop-i.at c.loop-i.i-counter c.loop-i.values (omega arith) c.loop-i.invariant.2 _ _ some)
