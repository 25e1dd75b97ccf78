-- `model_check::rules::is_name_byte` meets its contract. Assumes nothing.
use native.Mathlib.Omega.{arith}
use mathlib.Core.Bool.{true, false}
use mathlib.Core.Path.{◌≡◌, refl, sym}
use Rattle.meaning.specs.Check.{name_byte}
use Rattle.meaning.specs.Bytes.{letter, digit}
use Rattle.model_check.proofs.Ranges.{range_is, in_range, in_range_but}
use Rattle.model_check.proofs.rules.is_name_byte.Goals as goal

pub returns-in_default : goal.returns-in_default
unfolding name_byte letter digit range_is
returns-in_default c = sym (in_range name_byte false 0 48 c.args.b refl (omega arith) (omega arith))

pub returns-in_default-2 : goal.returns-in_default-2
unfolding name_byte letter digit range_is
returns-in_default-2 c = sym (in_range name_byte false 58 7 c.args.b refl (omega arith) (omega arith))

pub returns-in_default-3 : goal.returns-in_default-3
unfolding name_byte letter digit range_is
returns-in_default-3 c =
    sym (in_range_but name_byte false 91 4 1 c.args.b refl refl (omega arith) (omega arith) (omega arith))

pub returns-in_default-4 : goal.returns-in_default-4
unfolding name_byte letter digit range_is
returns-in_default-4 c = sym (in_range name_byte false 123 133 c.args.b refl (omega arith) (omega arith))

pub returns-in-65-to-90 : goal.returns-in-65-to-90
unfolding name_byte letter digit range_is
returns-in-65-to-90 c =
    let b = c.args.b in
    let is : b ≡ 95 = omega arith in
    rw is

pub returns-in-65-to-90-2 : goal.returns-in-65-to-90-2
unfolding name_byte letter digit range_is
returns-in-65-to-90-2 c = sym (in_range name_byte true 48 10 c.args.b refl (omega arith) (omega arith))

pub returns-in-65-to-90-3 : goal.returns-in-65-to-90-3
unfolding name_byte letter digit range_is
returns-in-65-to-90-3 c = sym (in_range name_byte true 65 26 c.args.b refl (omega arith) (omega arith))

pub returns-in-65-to-90-4 : goal.returns-in-65-to-90-4
unfolding name_byte letter digit range_is
returns-in-65-to-90-4 c = sym (in_range name_byte true 97 26 c.args.b refl (omega arith) (omega arith))
