-- `read_fields::filling::put_further` meets its contract. Assumes nothing.
use native.Mathlib.Omega.{arith}
use Rattle.std.proofs.lemmas.Result.{err_from_is_err_and}
use Rattle.read_fields.proofs.RowFilled.{none, wider}
use Rattle.read_fields.proofs.Coordinates.{component_on, component_rest, component_no, components_end}
use Rattle.read_fields.proofs.filling.put_further.Goals as goal

pub loop-i-init : goal.loop-i-init
loop-i-init c = (omega arith, none _ _ _ _ c.requires.within c.requires.placed)

pub returns : goal.returns
returns c =
    let a = c.args in
    wider _ (omega (arith, c.args.components.counted)) (components_end a.undefined a.start a.rest.now a.components.count a.components.items c.loop-i.i _ c.loop-i-test.false c.loop-i.invariant.1)

pub returns-in-RestUndefined : goal.returns-in-RestUndefined
returns-in-RestUndefined c =
    let a = c.args in
    let now = c.loop-i.invariant.1 in
    let f = rw (c.in-RestUndefined.is, c.ask_further-asked.ensures) at c.in_ok-v.ensures in
    (omega (arith, f.0, now.used, now.few, c.args.components.counted), wider _ (omega (arith, c.args.components.counted)) (component_rest a.undefined a.start a.rest.now a.components.count a.components.items c.loop-i.i _ (omega arith) (omega arith) now c.put_field.new.cells c.in-RestUndefined.v c.in-RestUndefined.left f))

pub returns-in_err-v : goal.returns-in_err-v
returns-in_err-v c =
    let a = c.args in
    let f = rw c.ask_further-asked.ensures at c.in_err-v.ensures in
    let p = err_from_is_err_and c.from_residual.result c.from_residual.ensures.1 in
    rw (p.1, p.2) (component_no a.undefined a.start a.rest.now a.components.count a.components.items c.loop-i.i _ (omega arith) (omega arith) c.loop-i.invariant.1 c.put_field.new.cells c.in_err-v.field-0.0 f)

pub loop-i-preserved : goal.loop-i-preserved
loop-i-preserved c =
    let a = c.args in
    let f = rw (c.in-On.is, c.ask_further-asked.ensures) at c.in_ok-v.ensures in
    (omega (arith, c.args.components.counted), wider _ (omega arith) (component_on a.undefined a.start a.rest.now a.components.count a.components.items c.loop-i.i _ (omega arith) (omega arith) c.loop-i.invariant.1 c.put_field.new.cells c.in-On.v f))
