-- `unfold::lines::without_last` meets its contract. Assumes nothing.
use Rattle.unfold.proofs.Physical.{shorter, not_shorter}
use Rattle.unfold.proofs.lines.without_last.Goals as goal

pub returns-then-shorter : goal.returns-then-shorter
returns-then-shorter c = rw (c.if-shorter.true, c.saturating_sub.ensures) (shorter c.args.line.now)

pub returns-else-shorter : goal.returns-else-shorter
returns-else-shorter c = rw c.if-shorter.false (not_shorter c.args.line.now)
