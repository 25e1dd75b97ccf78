-- `write_objects::objects::put_point_fields` meets its contract. Assumes nothing.
use mathlib.Core.Path.{refl}
use native.Mathlib.Omega.{arith}
use mir.Syntax.{w64}
use mir.ValLaws.{to_z-of_z}
use Rattle.write_lines.proofs.Left.{left_start, left_on, left_end}
use Rattle.write_objects.proofs.Typed.{listed_good}
use Rattle.write_objects.proofs.Components.{values_turn, values_end}
use Rattle.write_objects.proofs.objects.put_point_fields.Goals as goal

pub loop-i-init : goal.loop-i-init
loop-i-init c =
    let a = c.args in
    let n = c.put_nothing-all in
    left_start _ _ a.put n.result a.out.now refl (n.ensures a.out.now)

pub put_number_field-all-requires : goal.put_number_field-all-requires
put_number_field-all-requires c =
    let l = c.loop-i in
    listed_good c.args.components.items l.i c.args.components.count _ c.loop-i-test.true (omega (arith, c.args.components.counted)) c.requires

pub loop-i-preserved : goal.loop-i-preserved
loop-i-preserved c =
    let l = c.loop-i in
    let a = c.args in
    let p = c.put_number_field-all in
    let d = c.cell_behind-v in
    let turn = values_turn a.components.count a.components.items a.at a.points.now l.i _ c.loop-i-test.true (omega (arith, a.components.counted)) in
    let q = rw (to_z-of_z w64 d.result (record { sfits = d.type_inv }), d.ensures) at p.ensures in
    left_on l.invariant _ _ turn _ p.result q

pub returns : goal.returns
returns c =
    let l = c.loop-i in
    let n = c.put_nothing-all in
    let a = c.args in
    left_end l.invariant a.put (values_end a.components.count a.components.items a.at a.points.now l.i c.loop-i-test.false) (n.ensures a.out.now)
