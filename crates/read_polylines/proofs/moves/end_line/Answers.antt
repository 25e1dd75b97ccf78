-- `read_polylines::end_line` meets its contract. Assumes nothing.
use native.Mathlib.Omega.{arith}
use Rattle.read_polylines.specs.Ways.{way_of}
use Rattle.read_polylines.proofs.Ways.{next_fits, ended_extra, ended_next, behind_pair_lem, refused_here}
use Rattle.read_polylines.proofs.moves.end_line.Goals as goal

pub returns-then-not-is_bare : goal.returns-then-not-is_bare
returns-then-not-is_bare c =
    let i = c.is_bare.ensures in
    let g = c.args in
    λ a rooms text fs start points fits d. refused_here _ _ _ _ _ points _ (λ x. ended_extra _ rooms text (way_of g.model.now a g.polyline) fs x _ start d _ (i start) (c.if-not-is_bare.true))

pub put_line-requires : goal.put_line-requires
put_line-requires c =
    let p = c.requires in
    let l = p.line_ready.line in
    record {
      cell_in_bounds = omega (arith, next_fits _ _ _ _ _ _ _ l, p.cells_in_bounds);
      count_bound = (omega (arith, p.line_ready.points), omega (arith, p.line_ready.points, l.first));
    }

pub returns : goal.returns
returns c =
    let i = c.is_bare.ensures in
    let p = c.requires in
    let g = c.args in
    λ a rooms text fs start points fits d.
    rw c.put_line.ensures
    (behind_pair_lem g.model.now a g.polyline g.state _ c.behind_line.ensures _ _ points (omega (arith, next_fits _ _ _ _ _ _ _ p.line_ready.line)) fits
    (λ x. ended_next _ rooms text (way_of g.model.now a g.polyline) fs x _ start d _ (i start) (c.if-not-is_bare.false)))
