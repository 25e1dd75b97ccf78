-- `read_polylines::point_fields::get_value` meets its contract. Assumes nothing.
use mathlib.Core.Path.{◌≡◌, subst}
use mathlib.Core.Logic.{⊎_elim}
use native.Mathlib.Omega.{arith}
use mir.Syntax.{w64}
use mir.Val.{SFits}
use mir.ValLaws.{to_z-of_z}
use Rattle.std.proofs.Common.{rules, Some, None}
use Rattle.std.proofs.lemmas.Result.{err_from_is_err_and}
use Rattle.base.specs.declared.reasons.Reason.TheVariants.{FieldCount}
use Rattle.model_records.specs.Components.{component_of}
use Rattle.read_fields.specs.FieldForm.{Takes}
use Rattle.read_fields.proofs.Due.{formed}
use Rattle.read_fields.proofs.Stores.{part_size}
use Rattle.read_polylines.proofs.PointFields.{value_missing, value_twice, value_undefined, value_wrong, value_got}
use Rattle.read_polylines.proofs.point_fields.get_value.Goals as goal

pub returns-in_err-taken : goal.returns-in_err-taken
returns-in_err-taken c =
    let a = c.args in
    let none : c.take_field.result ≡ None = grind arith in
    let count : c.in_err-taken.field-0.0 ≡ FieldCount = grind arith in
    let p = err_from_is_err_and c.from_residual.result c.from_residual.ensures.1 in
    rw (p.1, p.2, count) (value_missing a.undefined (component_of a.component) a.rest.now (subst (Takes a.undefined a.rest.now) none c.take_field.ensures))

pub returns-in_err-v-in-Defined : goal.returns-in_err-v-in-Defined
returns-in_err-v-in-Defined c =
    let a = c.args in
    let t = c.in_ok-taken.taken in
    let some : c.take_field.result ≡ Some t = grind arith in
    let f = formed a.undefined _ t.part.start t.part.len c.in-Defined.is (subst (Takes a.undefined a.rest.now) some c.take_field.ensures) in
    let p = err_from_is_err_and c.from_residual-in_err-v-in-Defined.result c.from_residual-in_err-v-in-Defined.ensures.1 in
    rw (p.1, p.2) (value_wrong a.undefined (component_of a.component) a.rest.now t.part.start t.part.len f _ (rw (part_size t.part.start t.part.len) at c.in_err-v-in-Defined.ensures))

pub returns-in_ok-v-in-Defined : goal.returns-in_ok-v-in-Defined
returns-in_ok-v-in-Defined c =
    let a = c.args in
    let t = c.in_ok-taken.taken in
    let some : c.take_field.result ≡ Some t = grind arith in
    let f = formed a.undefined _ t.part.start t.part.len c.in-Defined.is (subst (Takes a.undefined a.rest.now) some c.take_field.ensures) in
    let fits : SFits w64 c.in_ok-v-in-Defined.v = search rules in
    rw (to_z-of_z w64 c.in_ok-v-in-Defined.v fits) (value_got a.undefined (component_of a.component) a.rest.now t.part.start t.part.len f _ _ (rw (part_size t.part.start t.part.len) at c.in_ok-v-in-Defined.ensures))

pub returns-in-Undefined : goal.returns-in-Undefined
returns-in-Undefined c =
    let a = c.args in
    let t = c.in_ok-taken.taken in
    let some : c.take_field.result ≡ Some t = grind arith in
    let f = subst (Takes a.undefined a.rest.now) some c.take_field.ensures in
    ⊎_elim
    (λ e. value_undefined a.undefined (component_of a.component) a.rest.now t.part.start t.part.len (formed a.undefined a.rest.now t.part.start t.part.len e f))
    (λ e. value_twice a.undefined (component_of a.component) a.rest.now t.part.start t.part.len (formed a.undefined a.rest.now t.part.start t.part.len e f))
    c.in-Undefined.is
