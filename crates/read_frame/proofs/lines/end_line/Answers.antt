-- `read_frame::end_line` meets its contract. Assumes nothing.
use Rattle.read_frame.proofs.Moves.{bare_end, more_end}
use Rattle.read_frame.proofs.lines.end_line.Goals as goal

pub returns-then-is_bare : goal.returns-then-is_bare
returns-then-is_bare c = λ s. bare_end _ _ _ _ (c.is_bare.ensures s) c.if-is_bare.true

pub returns-else-is_bare : goal.returns-else-is_bare
returns-else-is_bare c = λ s. more_end _ _ _ _ (c.is_bare.ensures s) c.if-is_bare.false
