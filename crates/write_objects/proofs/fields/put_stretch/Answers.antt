-- `write_objects::fields::put_stretch` meets its contract. Assumes nothing.
use mathlib.Core.Path.{sym}
use mathlib.Core.Bool.{true, false}
use native.Mathlib.Omega.{arith}
use mir.Syntax.{w64}
use mir.ValLaws.{to_z-of_z}
use lib.IntN.{pos}
use Rattle.base.proofs.Signs.{plain}
use Rattle.write_lines.proofs.Puts.{renamed}
use Rattle.write_objects.proofs.Typed.{stretch_before, stretch_cut}
use Rattle.write_objects.proofs.fields.put_stretch.Goals as goal

pub returns-then-start-lt0 : goal.returns-then-start-lt0
returns-then-start-lt0 c =
    let a = c.args in
    rw (sym (stretch_before a.text.now a.start a.size (plain a.start (pos 0) true c.ranges.start (record { sfits = omega arith }) c.if-start-lt0.true))) (c.put_nothing.ensures a.out.now)

pub returns : goal.returns
returns c =
    let a = c.args in
    let m = rw (to_z-of_z w64 a.start c.ranges.start) at c.size_of.ensures in
    let k = c.cut_stretch-part in
    let p = c.put_bytes in
    let h = plain a.start (pos 0) false c.ranges.start (record { sfits = omega arith }) c.if-start-lt0.false in
    renamed _ _ a.put a.out.now _ p.result (stretch_cut a.text.now a.start a.size h k.result.start k.result.len (rw m at k.ensures)) p.ensures
