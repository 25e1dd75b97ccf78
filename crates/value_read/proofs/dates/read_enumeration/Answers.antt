-- `value_read::dates::read_enumeration` meets its contract. Assumes nothing.
use mathlib.Core.Path.{◌≡◌, ◌∙◌, subst}
use native.Mathlib.Omega.{arith}
use mir.Syntax.{w64}
use mir.ValLaws.{to_z_pos}
use Rattle.std.proofs.Common.{Some, None}
use Rattle.std.proofs.lemmas.Result.{err_from_is_err_and}
use Rattle.base.specs.declared.reasons.Reason.TheVariants.{WrongShape}
use Rattle.meaning.specs.Bytes.{refuse}
use Rattle.meaning.specs.Value.{digits_value, is_digits, enumeration_of}
use Rattle.value_read.specs.Meant.{Reads}
use Rattle.value_read.proofs.Shapes.{count_small}
use Rattle.value_read.proofs.dates.read_enumeration.Goals as goal

pub returns-in_err-n : goal.returns-in_err-n
unfolding enumeration_of refuse
returns-in_err-n c =
    let s = c.args.field.now in
    let none : c.read_count.result ≡ None = grind arith in
    let shape : c.in_err-n.field-0.0 ≡ WrongShape = grind arith in
    let p = err_from_is_err_and c.from_residual.result c.from_residual.ensures.1 in
    rw (p.1, p.2, shape, subst (Reads (is_digits 1 18 s) (digits_value s)) none c.read_count.ensures)

pub overflow_cast-n : goal.overflow_cast-n
overflow_cast-n c =
    let s = c.args.field.now in
    let some : c.read_count.result ≡ Some c.in_ok-n.n = grind arith in
    let r = subst (Reads (is_digits 1 18 s) (digits_value s)) some c.read_count.ensures in
    omega (arith, r.1, count_small s r.0)

pub returns : goal.returns
unfolding enumeration_of refuse
returns c =
    let s = c.args.field.now in
    let n = c.in_ok-n.n in
    let some : c.read_count.result ≡ Some n = grind arith in
    let r = subst (Reads (is_digits 1 18 s) (digits_value s)) some c.read_count.ensures in
    c.judge.ensures ∙ rw (to_z_pos w64 n (omega (arith, r.1, count_small s r.0)), r.0, r.1)
