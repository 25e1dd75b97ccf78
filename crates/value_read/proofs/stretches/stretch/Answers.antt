-- `value_read::stretches::stretch` meets its contract. Assumes nothing.
use Prim.Native.Nat.{◌+◌}
use native.Mathlib.Omega.{arith}
use lib.ListN.{length}
use mir.Syntax.{w64}
use mir.ValLaws.{to_z_pos}
use Rattle.meaning.specs.Value.{stretch_of}
use Rattle.value_read.proofs.stretches.stretch.Goals as goal

pub returns : goal.returns
unfolding stretch_of
returns c =
    rw (to_z_pos w64 (1 + length c.args.field.now) (omega arith), to_z_pos w64 c.args.start (omega arith))
