-- `write_lines::cuts::last_room` meets its contract. Assumes nothing.
use Rattle.meaning.specs.Bytes.{choose}
use Rattle.write_lines.proofs.cuts.last_room.Goals as goal

pub returns-then-ended : goal.returns-then-ended
unfolding choose
returns-then-ended c = rw c.if-ended.true

pub returns-else-ended : goal.returns-else-ended
unfolding choose
returns-else-ended c = rw c.if-ended.false
