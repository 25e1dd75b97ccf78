-- `write_judge::marks::is_fine` meets its contract. Assumes nothing.
use mathlib.Core.Path.{refl}
use Rattle.write_judge.specs.Marks.{is_fine}
use Rattle.write_judge.proofs.marks.is_fine.Goals as goal

pub returns : goal.returns
unfolding is_fine
returns c = refl
