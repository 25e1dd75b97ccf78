-- `listing_lines::rows::put_values` meets its contract. Assumes nothing.
use native.Mathlib.Omega.{arith}
use mir.Syntax.{w64}
use mir.Val.{SFits}
use mir.ValLaws.{to_z-of_z}
use lib.IntN.{pos}
use lib.ListN.{take, get_or}
use borrow.Author.Rules.{rules}
use Rattle.listing_lines.proofs.Lines.{row_more}
use Rattle.listing_lines.proofs.rows.put_values.Goals as goal

pub loop-i-preserved : goal.loop-i-preserved
loop-i-preserved c =
    let l = c.loop-i in
    let values = c.args.values.now in
    let e = c.put_cell-n.ensures in
    let fits : SFits w64 (get_or values l.i (pos 0)) = search rules in
    (omega (arith, e.few), row_more values l.i c.loop-i-test.true (take l.n l.out) _ l.invariant.1 (rw (to_z-of_z w64 _ fits, c.behind.ensures) at e.bytes))
