-- `write_lines::fields::put_nothing` meets its contract. Assumes nothing.
use mathlib.Core.Path.{refl}
use mathlib.Core.List.{[]}
use Rattle.write_lines.specs.Puts.{last_in}
use Rattle.write_lines.proofs.Puts.{stand}
use Rattle.write_lines.proofs.fields.put_nothing.Goals as goal

pub returns : goal.returns
unfolding last_in
returns c room = stand [] c.args.put _ room c.count_on.ensures refl room refl
