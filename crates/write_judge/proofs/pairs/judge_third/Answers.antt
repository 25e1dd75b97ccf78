-- `write_judge::pairs::judge_third` meets its contract. Assumes nothing.
use Prim.Native.Nat.{◌+◌}
use native.Mathlib.Omega.{arith}
use lib.IntN.{pos}
use lib.ListN.{get_or}
use mir.Syntax.{w64}
use mir.ValLaws.{to_z-of_z}
use Rattle.write_judge.proofs.Walk.{third_is, third_none}
use Rattle.write_judge.proofs.pairs.judge_third.Goals as goal

pub returns-then-components-eq3 : goal.returns-then-components-eq3
returns-then-components-eq3 c =
    λ undefined k text table. third_is undefined text table k c.args.cell c.args.cells.now _ c.args.components.items c.args.components.count (omega arith) _ _ c.if-components-eq3.true
    (rw (to_z-of_z w64 (get_or c.args.cells.now c.args.cell (pos 0)) (record { sfits = omega arith }), to_z-of_z w64 (get_or c.args.cells.now (c.args.cell + 1) (pos 0)) (record { sfits = omega arith })) at c.judge_component.ensures)

pub returns-else-components-eq3 : goal.returns-else-components-eq3
returns-else-components-eq3 c =
    λ undefined k text table. third_none undefined text table k c.args.cell c.args.cells.now c.args.components.items c.args.components.count (omega arith) _ (omega (arith, c.requires.counted, c.if-components-eq3.false))
