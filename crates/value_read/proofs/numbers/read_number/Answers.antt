-- `value_read::numbers::read_number` meets its contract. Assumes nothing.
use Prim.Native.Nat.{ℕ}
use mathlib.Core.Path.{◌≡◌, ◌∙◌, subst}
use mathlib.Core.List.{List}
use native.Mathlib.Omega.{arith}
use mir.Syntax.{w64}
use mir.ValLaws.{to_z-of_z}
use Rattle.std.proofs.Common.{Some, None}
use Rattle.std.proofs.lemmas.Result.{err_from_is_err_and}
use Rattle.base.specs.declared.reasons.Reason.TheVariants.{WrongShape}
use Rattle.model_records.specs.Components.{component_of}
use Rattle.meaning.specs.Value.{digits_value, is_number, number_digits, unsigned}
use Rattle.base.proofs.Fill.{to_end}
use Rattle.value_read.specs.Meant.{Reads}
use Rattle.value_read.proofs.Shapes.{number_small, number_read, number_none}
use Rattle.value_read.proofs.numbers.read_number.Goals as goal

pub returns-in_err-n : goal.returns-in_err-n
returns-in_err-n c =
    let a = c.args in
    let s : List ℕ = a.field.now in
    let d = a.component.decimals in
    let e = rw (to_end s c.sign_size-size.result, c.sign_size-size.ensures.1) at c.read_unsigned.ensures in
    let none : c.read_unsigned.result ≡ None = grind arith in
    let shape : c.in_err-n.field-0.0 ≡ WrongShape = grind arith in
    let p = err_from_is_err_and c.from_residual.result c.from_residual.ensures.1 in
    rw (p.1, p.2, shape) (number_none (component_of a.component) s (subst (Reads (is_number d (unsigned s)) (digits_value (number_digits d (unsigned s)))) none e))

pub with_sign-v-requires : goal.with_sign-v-requires
with_sign-v-requires c =
    let a = c.args in
    let s : List ℕ = a.field.now in
    let d = a.component.decimals in
    let e = rw (to_end s c.sign_size-size.result, c.sign_size-size.ensures.1) at c.read_unsigned.ensures in
    let some : c.read_unsigned.result ≡ Some c.in_ok-n.n = grind arith in
    let r = subst (Reads (is_number d (unsigned s)) (digits_value (number_digits d (unsigned s)))) some e in
    omega (arith, r.1, number_small d (unsigned s) r.0)

pub returns : goal.returns
returns c =
    let a = c.args in
    let s : List ℕ = a.field.now in
    let d = a.component.decimals in
    let e = rw (to_end s c.sign_size-size.result, c.sign_size-size.ensures.1) at c.read_unsigned.ensures in
    let some : c.read_unsigned.result ≡ Some c.in_ok-n.n = grind arith in
    let r = subst (Reads (is_number d (unsigned s)) (digits_value (number_digits d (unsigned s)))) some e in
    let v = c.with_sign-v.result in
    let w = rw c.is_negative.ensures at c.with_sign-v.ensures in
    let is = to_z-of_z w64 v (record { sfits = c.with_sign-v.type_inv }) in
    c.judge.ensures ∙ rw (c.is_within.ensures, is) (number_read (component_of a.component) s _ v r w)
