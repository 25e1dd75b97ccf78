-- `model_check::rules::is_special` meets its contract. Assumes nothing.
use native.Mathlib.Omega.{arith}
use mathlib.Core.Bool.{true, false}
use mathlib.Core.Path.{◌≡◌, refl, sym}
use Rattle.meaning.specs.Check.{special}
use Rattle.meaning.specs.Bytes.{all_of, letter, digit}
use Rattle.model_check.proofs.Ranges.{range_is, in_range, in_range_but}
use Rattle.model_check.proofs.rules.is_special.Goals as goal

pub returns-in_default : goal.returns-in_default
unfolding special all_of letter digit range_is
returns-in_default c = sym (in_range special false 0 33 c.args.b refl (omega arith) (omega arith))

pub returns-in_default-2 : goal.returns-in_default-2
unfolding special all_of letter digit range_is
returns-in_default-2 c =
    sym (in_range_but special false 43 1 13 c.args.b refl refl (omega arith) (omega arith) (omega arith))

pub returns-in_default-3 : goal.returns-in_default-3
unfolding special all_of letter digit range_is
returns-in_default-3 c = sym (in_range special false 65 26 c.args.b refl (omega arith) (omega arith))

pub returns-in_default-4 : goal.returns-in_default-4
unfolding special all_of letter digit range_is
returns-in_default-4 c = sym (in_range special false 97 26 c.args.b refl (omega arith) (omega arith))

pub returns-in_default-5 : goal.returns-in_default-5
unfolding special all_of letter digit range_is
returns-in_default-5 c = sym (in_range special false 127 129 c.args.b refl (omega arith) (omega arith))

pub returns-in-33-to-42 : goal.returns-in-33-to-42
unfolding special all_of letter digit range_is
returns-in-33-to-42 c =
    let b = c.args.b in
    let is : b ≡ 44 = omega arith in
    rw is

pub returns-in-33-to-42-2 : goal.returns-in-33-to-42-2
unfolding special all_of letter digit range_is
returns-in-33-to-42-2 c = sym (in_range special true 33 10 c.args.b refl (omega arith) (omega arith))

pub returns-in-33-to-42-3 : goal.returns-in-33-to-42-3
unfolding special all_of letter digit range_is
returns-in-33-to-42-3 c = sym (in_range special true 58 7 c.args.b refl (omega arith) (omega arith))

pub returns-in-33-to-42-4 : goal.returns-in-33-to-42-4
unfolding special all_of letter digit range_is
returns-in-33-to-42-4 c = sym (in_range special true 91 6 c.args.b refl (omega arith) (omega arith))

pub returns-in-33-to-42-5 : goal.returns-in-33-to-42-5
unfolding special all_of letter digit range_is
returns-in-33-to-42-5 c = sym (in_range special true 123 4 c.args.b refl (omega arith) (omega arith))
