-- `model_records::read_dimension` meets its contract. Assumes nothing.
use borrow.Author.Tests.{ne_eqb}
use Rattle.meaning.specs.Bytes.{choose}
use Rattle.model_records.proofs.read_dimension.Goals as goal

pub returns-then-b-eq3 : goal.returns-then-b-eq3
unfolding choose
returns-then-b-eq3 c = rw c.if-b-eq3.true

pub returns-else-b-eq3 : goal.returns-else-b-eq3
unfolding choose
returns-else-b-eq3 c = rw (ne_eqb c.args.b 3 c.if-b-eq3.false)
