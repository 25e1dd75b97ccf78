-- `read_fields::put_coordinate` meets its contract. Assumes nothing.
use native.Mathlib.Omega.{arith}
use Rattle.std.proofs.lemmas.Result.{err_from_is_err_and}
use Rattle.read_fields.proofs.Attributes.{coordinate_none, coordinate_on, coordinate_rest, coordinate_no}
use Rattle.read_fields.proofs.filling.put_coordinate.Goals as goal

pub returns-then-count-eq0 : goal.returns-then-count-eq0
returns-then-count-eq0 c =
    coordinate_none c.args.undefined c.args.start c.args.rest.now c.args.optional c.args.components.count c.args.components.items c.if-count-eq0.true c.args.cursor c.args.cells.now c.requires.within c.requires.placed

pub returns-in-On : goal.returns-in-On
returns-in-On c =
    let f = rw (c.in-On.is, c.ask_own-asked.ensures) at c.in_ok-t.ensures in
    coordinate_on c.args.undefined c.args.start c.args.rest.now c.args.optional c.args.components.count c.args.components.items _ (omega (arith, c.if-count-eq0.false)) (omega (arith, c.args.components.counted)) c.args.cursor c.args.cells.now c.put_field.new.cells c.in-On.t f c.put_further.new.cells c.put_further.result c.put_further.ensures

pub returns-in-RestUndefined : goal.returns-in-RestUndefined
returns-in-RestUndefined c =
    let f = rw (c.in-RestUndefined.is, c.ask_own-asked.ensures) at c.in_ok-t.ensures in
    coordinate_rest c.args.undefined c.args.start c.args.rest.now c.args.optional c.args.components.count c.args.components.items _ (omega (arith, c.if-count-eq0.false)) (omega (arith, c.args.components.counted)) c.args.cursor c.args.cells.now c.put_field.new.cells c.in-RestUndefined.t c.in-RestUndefined.left c.args.components.counted f

pub returns-in_err-t : goal.returns-in_err-t
returns-in_err-t c =
    let f = rw c.ask_own-asked.ensures at c.in_err-t.ensures in
    let p = err_from_is_err_and c.from_residual.result c.from_residual.ensures.1 in
    rw (p.1, p.2) (coordinate_no c.args.undefined c.args.start c.args.rest.now c.args.optional c.args.components.count c.args.components.items _ (omega (arith, c.if-count-eq0.false)) (omega (arith, c.args.components.counted)) c.args.cursor c.args.cells.now c.put_field.new.cells c.in_err-t.field-0.0 f)
