-- `write_judge::pairs::judge_coordinate` meets its contract. Assumes nothing.
use Prim.Native.Nat.{◌+◌}
use native.Mathlib.Omega.{arith}
use lib.IntN.{pos}
use lib.ListN.{get_or}
use mir.Syntax.{w64}
use mir.ValLaws.{to_z-of_z}
use Rattle.write_judge.proofs.Walk.{coordinate_is}
use Rattle.write_judge.proofs.pairs.judge_coordinate.Goals as goal

pub returns : goal.returns
returns c =
    λ undefined k text table. let t = to_z-of_z w64 (get_or c.args.cells.now c.args.cell (pos 0)) (record { sfits = omega arith }) in
    coordinate_is undefined text table k c.args.cell c.args.cells.now _ c.args.components.items c.args.components.count (omega arith) _ _ _ (omega (arith, c.requires.counted))
    (rw (t, to_z-of_z w64 (get_or c.args.cells.now (c.args.cell + 1) (pos 0)) (record { sfits = omega arith })) at (c.judge_first-first.ensures undefined text table))
    (rw (rw t at c.is_number-undefined.ensures) at (c.judge_further-further.ensures undefined k text table))
