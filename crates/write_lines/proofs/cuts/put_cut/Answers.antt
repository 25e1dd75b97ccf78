-- `write_lines::cuts::put_cut` meets its contract. Assumes nothing.
use Prim.Native.Nat.{◌+◌}
use native.Mathlib.Omega.{arith}
use Rattle.write_lines.proofs.Cutting.{cut_stored}
use Rattle.write_lines.proofs.cuts.put_cut.Goals as goal

pub returns : goal.returns
returns c =
    let a = c.args in
    rw (c.copy_within.ensures.after, c.copy_from_slice.ensures.after)
    (cut_stored a.mark a.from a.to (a.from + a.gap) a.out.now (omega arith) (omega arith))
