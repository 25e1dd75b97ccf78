-- `read_objects::take_identification` meets its contract. Assumes nothing.
use Rattle.std.proofs.Common.{◌≡◌, Some, None, sym, subst, ◌∙◌, arith}
use Rattle.std.proofs.lemmas.Result.{err_from_is_err_and}
use Rattle.base.specs.declared.reasons.Reason.TheVariants.{FieldCount}
use Rattle.read_fields.specs.FieldForm.{Takes}
use Rattle.read_fields.proofs.Due.{formed}
use Rattle.read_fields.proofs.Stores.{part_size}
use Rattle.read_objects.proofs.Names.{none_missing, is_undefined_form, is_shapeless, is_identified}
use Rattle.read_objects.proofs.naming.take_identification.Goals as goal

pub returns-in_err-taken : goal.returns-in_err-taken
returns-in_err-taken c =
    let a = c.args in
    let none : c.take_field.result ≡ None = grind arith in
    let reason : c.in_err-taken.field-0.0 ≡ FieldCount = grind arith in
    let p = err_from_is_err_and c.from_residual.result c.from_residual.ensures.1 in
    rw (p.1, p.2, reason) (none_missing a.undefined a.rest.now (subst (Takes a.undefined a.rest.now) none c.take_field.ensures))

pub returns-then-is_identification : goal.returns-then-is_identification
returns-then-is_identification c =
    let a = c.args in
    let part = c.in_ok-taken.taken.part in
    let some : c.take_field.result ≡ Some c.in_ok-taken.taken = grind arith in
    let f = formed a.undefined a.rest.now _ _ c.in-Defined.is (subst (Takes a.undefined a.rest.now) some c.take_field.ensures) in
    let e = rw (part_size part.start part.len) at c.is_identification.ensures in
    is_identified _ _ part.start part.len f (sym e ∙ c.if-is_identification.true)

pub returns-else-is_identification : goal.returns-else-is_identification
returns-else-is_identification c =
    let a = c.args in
    let part = c.in_ok-taken.taken.part in
    let some : c.take_field.result ≡ Some c.in_ok-taken.taken = grind arith in
    let f = formed a.undefined a.rest.now _ _ c.in-Defined.is (subst (Takes a.undefined a.rest.now) some c.take_field.ensures) in
    let e = rw (part_size part.start part.len) at c.is_identification.ensures in
    is_shapeless _ _ part.start part.len f (sym e ∙ c.if-is_identification.false)

pub returns-in-Undefined : goal.returns-in-Undefined
returns-in-Undefined c =
    let a = c.args in
    let some : c.take_field.result ≡ Some c.in_ok-taken.taken = grind arith in
    is_undefined_form a.undefined a.rest.now _ _ c.in-Undefined.is (subst (Takes a.undefined a.rest.now) some c.take_field.ensures)
