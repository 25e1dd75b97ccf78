-- `read_frame::same_name` meets its contract. Assumes nothing.
use Rattle.read_frame.proofs.Finds.{first_bytes}
use Rattle.meaning.specs.Reading.{same_name}
use lib.ListN.{length}
use Prim.Native.Nat.{min}
use mathlib.Core.Path.{◌≡◌}
use native.Mathlib.Omega.{arith}
use Rattle.read_frame.proofs.names.same_name.Goals as goal

pub returns : goal.returns
unfolding same_name
returns c =
    let a = c.args in
    let n : c.min-n.result ≡ min 24 (length a.a.now) = omega arith in
    let k : c.min-k.result ≡ min 24 (length a.name.now) = omega arith in
    rw (n, k, first_bytes, first_bytes) at c.same_bytes.ensures
