-- `table_index::mix` meets its contract. Assumes nothing.
use Rattle.table_index.specs.Index.{mix_of}
use Rattle.table_index.proofs.mix.Goals as goal

pub returns-clause-value : goal.returns-clause-value
unfolding mix_of
returns-clause-value c = rw c.from.ensures
