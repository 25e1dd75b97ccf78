-- `base::rooms::append` meets its contract. Assumes nothing.
use Prim.Native.Nat.{◌+◌, ◌-◌}
use native.Mathlib.Omega.{arith}
use mathlib.Core.Path.{ap}
use lib.ListN.{length}
use Rattle.std.proofs.lemmas.Slice.{drop-put_mid}
use Rattle.base.proofs.rooms.append.Goals as goal

pub returns-clause-behind : goal.returns-clause-behind
returns-clause-behind c =
    let a = c.args in
    let end = a.used + length a.part.now in
    let e = ap length c.copy_from_slice.ensures.after in
    drop-put_mid a.used (end - a.used) a.room.now c.copy_from_slice.new.self end (omega arith) (omega arith) (omega (arith, e))
