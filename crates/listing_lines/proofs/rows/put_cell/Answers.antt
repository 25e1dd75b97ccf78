-- `listing_lines::rows::put_cell` meets its contract. Assumes nothing.
use native.Mathlib.Omega.{arith}
use mir.Syntax.{w64}
use mir.ValLaws.{to_z-of_z}
use Rattle.meaning.specs.Digits.{number_bytes}
use Rattle.listing_lines.proofs.Lines.{cell_put}
use Rattle.listing_lines.proofs.rows.put_cell.Goals as goal

pub returns-clause-bytes : goal.returns-clause-bytes
returns-clause-bytes c =
    let a = c.args in
    let e = rw (to_z-of_z w64 a.v c.ranges.v) at c.put_enumeration-size.ensures in
    rw (e.bytes, e.size) (cell_put a.n a.out.now (number_bytes 0 a.v) a.behind (omega (arith, e.size, e.few)))
