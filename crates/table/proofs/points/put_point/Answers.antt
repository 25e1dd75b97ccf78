-- `table::put_point` meets its contract. Assumes nothing.
use Rattle.std.proofs.Common.{◌≡◌, [], ◌∷◌, slice_index_or, pos, arith, rules, ◌∙◌}
use Rattle.table.proofs.FourCells.{two_cells, three_cells}
use Rattle.table.proofs.Written.{written}
use Rattle.table.proofs.points.put_point.Goals.{then-count-lt3, else-count-lt3}
use Rattle.table.proofs.points.put_point.Goals as goal

pub returns : goal.returns
returns c =
    let a = c.args in
    let p = c.requires.le_count in
    let new = c.copy_from_slice.new.self in
    elim c.if-count-lt3.branch [
      | then-count-lt3 w ↦
          let e : new ≡ pos a.kind ∷ slice_index_or a.values 0 (pos 0) ∷ slice_index_or a.values 1 (pos 0) ∷ pos 0 ∷ [] = search rules in
          written a.points.now a.at _ new _ (e ∙ two_cells a.kind a.values a.count (pos 0) p.2 (omega arith)) (omega arith) (omega arith)
      | else-count-lt3 w ↦
          let e : new ≡ pos a.kind ∷ slice_index_or a.values 0 (pos 0) ∷ slice_index_or a.values 1 (pos 0) ∷ slice_index_or a.values 2 (pos 0) ∷ [] = search rules in
          written a.points.now a.at _ new _ (e ∙ three_cells a.kind a.values a.count (pos 0) p.2 (omega arith)) (omega arith) (omega arith)
    ]
