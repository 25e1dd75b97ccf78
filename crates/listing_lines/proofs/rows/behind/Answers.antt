-- `listing_lines::rows::behind` meets its contract. Assumes nothing.
use borrow.Author.Tests.{lt-ltb, le-ltb}
use Rattle.meaning.specs.Bytes.{choose}
use Rattle.listing_lines.proofs.rows.behind.Goals as goal

pub returns-then-i-count : goal.returns-then-i-count
unfolding choose
returns-then-i-count c = rw (lt-ltb _ _ c.if-i-count.true)

pub returns-else-i-count : goal.returns-else-i-count
unfolding choose
returns-else-i-count c = rw (le-ltb _ _ c.if-i-count.false)
