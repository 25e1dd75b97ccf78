-- `base::rooms::put` meets its contract. Assumes nothing.
use mathlib.Core.Path.{sym}
use lib.Seq.{set_out}
use Rattle.base.proofs.rooms.put.Goals as goal

pub returns-else-i-room : goal.returns-else-i-room
returns-else-i-room g c = sym (set_out c.args.room.now c.args.i c.args.value c.if-i-room.false)
