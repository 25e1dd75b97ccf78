-- `write_judge::pairs::judge_attribute` meets its contract. Assumes nothing.
use native.Mathlib.Omega.{arith}
use mathlib.Core.Path.{ap, ◌∙◌}
use mathlib.Core.Bool.{Bool}
use lib.IntN.{pos}
use lib.ListN.{length, get_or}
use Prim.Native.Nat.{◌+◌}
use mir.Syntax.{w64}
use mir.ValLaws.{to_z-of_z}
use Rattle.meaning.specs.Row.{OfAttribute, OfLine, pairs_of_type}
use Rattle.meaning.specs.Judge.{fine_if, judge_pair}
use Rattle.table.specs.Contents.{content}
use Rattle.write_judge.proofs.Walk.{coordinate_size, own_pair, pair_alone, fine_told}
use Rattle.write_judge.proofs.pairs.judge_attribute.Goals as goal

pub bounds-cells-cell : goal.bounds-cells-cell
unfolding pairs_of_type
bounds-cells-cell c = omega (arith, rw c.in-Line.is at c.requires.attribute_in_bounds)

pub bounds-cells-cell-in-Line : goal.bounds-cells-cell-in-Line
unfolding pairs_of_type
bounds-cells-cell-in-Line c = omega (arith, rw c.in-Line.is at c.requires.attribute_in_bounds)

pub judge_coordinate-requires-clause-count_in_bounds : goal.judge_coordinate-requires-clause-count_in_bounds
judge_coordinate-requires-clause-count_in_bounds c =
    let a = c.args.attribute in
    omega (arith, rw c.in-Coordinate.is at c.requires.attribute_in_bounds, coordinate_size a.optional c.in-Coordinate.components (search arith))

pub bounds-cells-cell-in_default : goal.bounds-cells-cell-in_default
bounds-cells-cell-in_default c =
    let a = c.args.attribute in
    omega (arith, c.requires.attribute_in_bounds, ap length (own_pair a.optional a.kind c.in_default.not-Coordinate c.in_default.not-Line))

pub bounds-cells-cell-in_default-2 : goal.bounds-cells-cell-in_default-2
bounds-cells-cell-in_default-2 c =
    let a = c.args.attribute in
    omega (arith, c.requires.attribute_in_bounds, ap length (own_pair a.optional a.kind c.in_default.not-Coordinate c.in_default.not-Line))

pub returns-in-Line : goal.returns-in-Line
unfolding pairs_of_type
returns-in-Line c =
    let a = c.args in
    let x = to_z-of_z w64 (get_or a.table.now.cells.now a.cell (pos 0)) (record { sfits = omega arith }) in
    let y = to_z-of_z w64 (get_or a.table.now.cells.now (a.cell + 1) (pos 0)) (record { sfits = omega arith }) in
    rw c.in-Line.is (rw (x, y) at (c.judge_line.ensures a.undefined)
    ∙ pair_alone a.undefined a.table.now.text.now (content a.table.now) _ _ (OfLine _ _ _) a.cell a.table.now.cells.now)

pub returns-in-Coordinate : goal.returns-in-Coordinate
returns-in-Coordinate c =
    let a = c.args in
    rw (c.in-Coordinate.is, fine_told _ _ _ c.then_some.ensures)
    (c.judge_coordinate.ensures a.undefined a.first a.table.now.text.now (content a.table.now))

pub returns-in_default : goal.returns-in_default
unfolding judge_pair
returns-in_default c =
    let a = c.args in
    let x = to_z-of_z w64 (get_or a.table.now.cells.now a.cell (pos 0)) (record { sfits = omega arith }) in
    let y = to_z-of_z w64 (get_or a.table.now.cells.now (a.cell + 1) (pos 0)) (record { sfits = omega arith }) in
    rw (own_pair a.attribute.optional a.attribute.kind c.in_default.not-Coordinate c.in_default.not-Line, fine_told _ _ _ c.then_some-in_default.ensures)
    (ap (λ (z : Bool). fine_if z a.first) (rw (x, y) at c.judge_own.ensures)
    ∙ pair_alone a.undefined a.table.now.text.now (content a.table.now) _ a.first (OfAttribute _ _) a.cell a.table.now.cells.now)
