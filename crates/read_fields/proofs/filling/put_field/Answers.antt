-- `read_fields::filling::put_field` meets its contract. Assumes nothing.
use Prim.Native.Nat.{◌+◌}
use mathlib.Core.Path.{◌≡◌, refl, sym}
use mathlib.Core.Bool.{true, false}
use native.Mathlib.Omega.{arith}
use Rattle.std.proofs.Common.{Some, None}
use Rattle.std.proofs.lemmas.Result.{err_from_is_err_and}
use Rattle.base.specs.declared.reasons.Reason.TheVariants.{FieldCount}
use Rattle.read_fields.proofs.Stores.{part_size}
use Rattle.read_fields.proofs.Due.{taken, formed, missing, form_wrong, twice_covers, undefined_filled, defined_filled, defined_wrong}
use Rattle.read_fields.proofs.filling.put_field.Goals as goal

pub returns-in_err-taken : goal.returns-in_err-taken
returns-in_err-taken c =
    let a = c.args in
    let none : c.take_field.result ≡ None = grind arith in
    let refusal : c.in_err-taken.field-0.0 ≡ record { reason = FieldCount; field = a.cursor.place } = grind arith in
    let p = err_from_is_err_and c.from_residual.result c.from_residual.ensures.1 in
    rw (p.1, p.2, refusal) (missing a.undefined a.start a.rest.now a.asked a.cursor c.requires (taken a.undefined a.rest.now a.cursor.at none c.take_field.ensures))

pub returns-then-forbids : goal.returns-then-forbids
returns-then-forbids c =
    let a = c.args in
    let t = c.in_ok-taken.taken in
    let some : c.take_field.result ≡ Some t = grind arith in
    form_wrong a.undefined a.start a.rest.now a.asked a.cursor c.requires t.part.start t.part.len t.form (taken a.undefined a.rest.now a.cursor.at some c.take_field.ensures) (sym c.if-forbids.ensures)

pub returns-in_err-t-in-Defined : goal.returns-in_err-t-in-Defined
returns-in_err-t-in-Defined c =
    let a = c.args in
    let t = c.in_ok-taken.taken in
    let some : c.take_field.result ≡ Some t = grind arith in
    let f = formed a.undefined _ t.part.start t.part.len c.in-Defined.is (taken a.undefined a.rest.now a.cursor.at some c.take_field.ensures) in
    let free = rw c.in-Defined.is at (sym c.if-forbids.ensures) in
    let p = rw (part_size (a.cursor.at + t.part.start) t.part.len, c.behind.ensures) at c.in_err-t-in-Defined.ensures in
    let r = err_from_is_err_and c.from_residual-in_err-t-in-Defined.result c.from_residual-in_err-t-in-Defined.ensures.1 in
    rw (r.1, r.2) (defined_wrong a.undefined a.start a.rest.now a.asked a.cursor c.requires t.part.start t.part.len false f refl free a.cells.now c.put_defined.new.cells c.in_err-t-in-Defined.field-0.0 p)

pub returns-in_ok-t-in-Defined : goal.returns-in_ok-t-in-Defined
returns-in_ok-t-in-Defined c =
    let a = c.args in
    let t = c.in_ok-taken.taken in
    let some : c.take_field.result ≡ Some t = grind arith in
    let f = formed a.undefined _ t.part.start t.part.len c.in-Defined.is (taken a.undefined a.rest.now a.cursor.at some c.take_field.ensures) in
    let free = rw c.in-Defined.is at (sym c.if-forbids.ensures) in
    let p = rw (part_size (a.cursor.at + t.part.start) t.part.len, c.behind.ensures) at c.in_ok-t-in-Defined.ensures in
    defined_filled a.undefined a.start a.rest.now a.asked a.cursor c.requires t.part.start t.part.len false f refl free a.cells.now c.put_defined.new.cells c.in_ok-t-in-Defined.t p

pub returns-in-Undefined : goal.returns-in-Undefined
returns-in-Undefined c =
    let a = c.args in
    let t = c.in_ok-taken.taken in
    let some : c.take_field.result ≡ Some t = grind arith in
    let f = formed a.undefined _ t.part.start t.part.len c.in-Undefined.is (taken a.undefined a.rest.now a.cursor.at some c.take_field.ensures) in
    let free = rw c.in-Undefined.is at (sym c.if-forbids.ensures) in
    let p = rw c.behind-in-Undefined.ensures at c.put_next.ensures.stored in
    let q = rw c.behind-in-Undefined.ensures at c.put_next.ensures.cursor in
    rw q (undefined_filled a.undefined a.start a.rest.now a.asked a.cursor c.requires t.part.start t.part.len true f refl free a.cells.now c.put_next.new.cells p)

pub returns-in-Twice : goal.returns-in-Twice
returns-in-Twice c =
    let a = c.args in
    let t = c.in_ok-taken.taken in
    let some : c.take_field.result ≡ Some t = grind arith in
    let f = formed a.undefined _ t.part.start t.part.len c.in-Twice.is (taken a.undefined a.rest.now a.cursor.at some c.take_field.ensures) in
    let free = rw c.in-Twice.is at (sym c.if-forbids.ensures) in
    rw c.behind-in-Twice.ensures (twice_covers a.undefined a.start a.rest.now a.asked a.cursor c.requires t.part.start t.part.len a.cells.now free f)
