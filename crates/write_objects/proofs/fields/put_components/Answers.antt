-- `write_objects::fields::put_components` meets its contract. Assumes nothing.
use native.Mathlib.Omega.{arith}
use Rattle.write_lines.proofs.Left.{left_start, left_on, left_end}
use Rattle.write_objects.proofs.Typed.{listed_good}
use Rattle.write_objects.proofs.Components.{fields_start, fields_turn, fields_end}
use Rattle.write_objects.proofs.fields.put_components.Goals as goal

pub loop-i-init : goal.loop-i-init
loop-i-init c =
    let a = c.args in
    let n = c.put_nothing-all in
    left_start _ _ a.put n.result a.out.now (fields_start a.undefined a.components.count a.components.items a.cell a.cells.now) (n.ensures a.out.now)

pub put_component-all-requires : goal.put_component-all-requires
put_component-all-requires c =
    let l = c.loop-i in
    listed_good c.args.components.items l.i c.args.components.count _ c.loop-i-test.true (omega (arith, c.args.components.counted)) c.requires.good

pub loop-i-preserved : goal.loop-i-preserved
loop-i-preserved c =
    let l = c.loop-i in
    let a = c.args in
    let p = c.put_component-all in
    let turn = fields_turn a.undefined a.components.count a.components.items a.cell a.cells.now l.i _ c.loop-i-test.true (omega (arith, a.components.counted)) in
    left_on l.invariant _ _ turn _ p.result p.ensures

pub returns : goal.returns
returns c =
    let l = c.loop-i in
    let n = c.put_nothing-all in
    let a = c.args in
    left_end l.invariant a.put (fields_end a.undefined a.components.count a.components.items a.cell a.cells.now l.i c.loop-i-test.false) (n.ensures a.out.now)
