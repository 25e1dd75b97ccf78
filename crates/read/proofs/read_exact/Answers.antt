-- `read::read_exact` meets its contract. Assumes nothing.
use mathlib.Core.Path.{sym}
use Rattle.read.proofs.Marking.{moved}
use Rattle.read.proofs.read_exact.Goals as goal

pub returns-clause-read : goal.returns-clause-read
returns-clause-read c =
    let r = c.read_table in
    let reached = r.ensures.same in
    λ rooms er ec ep. moved _ rooms _ _ _ _ _ r.result (r.ensures.read rooms er ec ep)
    _ _ _ _ (c.marks-1.given.1.1 (sym reached.marks.reference)) (c.rows-1.given.1.1 (sym reached.rows.reference))
    (c.cells-1.given.1.1 (sym reached.cells.reference)) (c.points-1.given.1.1 (sym reached.points.reference))
