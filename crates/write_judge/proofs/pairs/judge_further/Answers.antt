-- `write_judge::pairs::judge_further` meets its contract. Assumes nothing.
use Prim.Native.Nat.{◌+◌}
use native.Mathlib.Omega.{arith}
use lib.IntN.{pos}
use lib.ListN.{get_or}
use mir.Syntax.{w64}
use mir.ValLaws.{to_z-of_z}
use Rattle.write_judge.proofs.Walk.{further_is}
use Rattle.write_judge.proofs.pairs.judge_further.Goals as goal

pub returns : goal.returns
returns c =
    λ undefined k text table. further_is undefined text table k c.args.cell c.args.cells.now _ c.args.components.items c.args.components.count (omega arith) _ _ _ c.requires.counted.0
    (rw (to_z-of_z w64 (get_or c.args.cells.now c.args.cell (pos 0)) (record { sfits = omega arith }), to_z-of_z w64 (get_or c.args.cells.now (c.args.cell + 1) (pos 0)) (record { sfits = search arith })) at c.judge_component-second.ensures)
    (c.judge_third-third.ensures undefined k text table)
