-- `listing_lines::rows::row_end` meets its contract. Assumes nothing.
use Rattle.meaning.specs.Bytes.{choose}
use Rattle.listing_lines.proofs.rows.row_end.Goals as goal

pub returns-in-Some : goal.returns-in-Some
unfolding choose
returns-in-Some c = let h = c.in-Some.ensures.lookup in rw (← h.0) (h.3.1 0)

pub returns-in-None : goal.returns-in-None
unfolding choose
returns-in-None c = rw (← c.in-None.ensures.lookup.0)
