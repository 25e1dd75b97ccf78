-- `table::cut_stretch` meets its contract. Assumes nothing.
use Rattle.table.proofs.Cutting.{cut_at}
use Rattle.table.proofs.stretches.cut_stretch.Goals as goal

pub returns : goal.returns
returns c = cut_at _ _ _ _ _ c.min-from.ensures c.min.ensures
