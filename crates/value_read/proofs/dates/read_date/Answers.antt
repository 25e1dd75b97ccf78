-- `value_read::dates::read_date` meets its contract. Assumes nothing.
use mathlib.Core.Path.{◌≡◌, ◌∙◌, subst}
use native.Mathlib.Omega.{arith}
use mir.Syntax.{w64}
use mir.ValLaws.{to_z_pos}
use Rattle.std.proofs.Common.{Some, None}
use Rattle.std.proofs.lemmas.Result.{err_from_is_err_and}
use Rattle.base.specs.declared.reasons.Reason.TheVariants.{WrongShape}
use Rattle.meaning.specs.Bytes.{digit, every}
use Rattle.meaning.specs.Value.{digits_value}
use Rattle.meaning.proofs.Values.Counts.{date_small}
use Rattle.value_read.specs.Meant.{Reads}
use Rattle.value_read.proofs.Shapes.{date_read, date_none, date_other}
use Rattle.value_read.proofs.dates.read_date.Goals as goal

pub returns-then-field-ne8 : goal.returns-then-field-ne8
returns-then-field-ne8 c = date_none _ (omega arith)

pub returns-in_err-n : goal.returns-in_err-n
returns-in_err-n c =
    let s = c.args.field.now in
    let none : c.read_digits.result ≡ None = grind arith in
    let shape : c.in_err-n.field-0.0 ≡ WrongShape = grind arith in
    let p = err_from_is_err_and c.from_residual.result c.from_residual.ensures.1 in
    rw (p.1, p.2, shape) (date_other s (omega arith) (subst (Reads (every digit s) (digits_value s)) none c.read_digits.ensures))

pub overflow_cast-n : goal.overflow_cast-n
overflow_cast-n c =
    let s = c.args.field.now in
    let some : c.read_digits.result ≡ Some c.in_ok-n.n = grind arith in
    let r = subst (Reads (every digit s) (digits_value s)) some c.read_digits.ensures in
    omega (arith, r.1, date_small s (omega arith) r.0)

pub returns : goal.returns
returns c =
    let s = c.args.field.now in
    let n = c.in_ok-n.n in
    let some : c.read_digits.result ≡ Some c.in_ok-n.n = grind arith in
    let r = subst (Reads (every digit s) (digits_value s)) some c.read_digits.ensures in
    c.judge.ensures ∙ rw (c.is_day.ensures, to_z_pos w64 n (omega (arith, r.1, date_small s (omega arith) r.0))) (date_read s n (omega arith) r.0 r.1)
