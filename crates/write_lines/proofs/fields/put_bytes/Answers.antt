-- `write_lines::fields::put_bytes` meets its contract. Assumes nothing.
use Prim.Native.Nat.{◌+◌, ◌≤◌}
use native.Mathlib.Omega.{arith}
use lib.ListN.{length}
use Rattle.write_lines.proofs.Puts.{stand, copied}
use Rattle.write_lines.proofs.fields.put_bytes.Goals as goal

pub returns-then-part-out : goal.returns-then-part-out
returns-then-part-out c =
    let a = c.args in
    let h : a.put.count + length a.part.now ≤ length a.out.now = omega arith in
    stand
    a.part.now
    a.put
    _
    a.out.now
    c.count_on.ensures
    c.last_in.ensures
    _
    (rw c.copy_from_slice.ensures.after (copied a.put.count a.out.now a.part.now h))
