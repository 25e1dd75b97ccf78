-- `read_frame::head_of` meets its contract. Assumes nothing.
use Rattle.read_frame.proofs.Heads.{head_field, head_none}
use Prim.Native.Nat.{◌+◌, ◌-◌}
use mathlib.Core.Path.{◌≡◌, refl}
use native.Mathlib.Omega.{arith}
use Rattle.read_frame.proofs.codes.head_of.Goals as goal

pub returns : goal.returns
returns c =
    let f = c.in-Some.ensures in
    let e : (c.in-Some.first.start + c.in-Some.first.len) - c.in-Some.first.start ≡ c.in-Some.first.len = omega arith in
    head_field _ _ _ f _ (rw e at c.read_code.ensures) refl

pub returns-in_default : goal.returns-in_default
returns-in_default c = head_none _ (rw c.in_default.is at c.next_field.ensures) _ refl refl
