-- `write_judge::cells::is_number` meets its contract. Assumes nothing.
use mathlib.Core.Path.{sym, ◌∙◌}
use mir.Syntax.{w64}
use mir.ValLaws.{to_z-of_z}
use Rattle.write_judge.proofs.Signs.{below_is_not, size_is}
use Rattle.write_judge.proofs.cells.is_number.Goals as goal

pub returns-then-not-is_below : goal.returns-then-not-is_below
returns-then-not-is_below c =
    let t = to_z-of_z w64 c.args.a c.ranges.a in
    rw (rw t at c.size_of.ensures) (size_is c.args.a _ (sym (rw t at c.is_below.ensures) ∙ c.if-not-is_below.true))

pub returns-else-not-is_below : goal.returns-else-not-is_below
returns-else-not-is_below c =
    rw c.if-not-is_below.false (below_is_not c.args.a _ (sym (rw (to_z-of_z w64 c.args.a c.ranges.a) at c.is_below.ensures) ∙ c.if-not-is_below.false))
