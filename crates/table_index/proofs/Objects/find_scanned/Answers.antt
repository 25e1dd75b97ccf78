-- `table_index::find_scanned` meets its contract: what is looked for stands before `o`, or nowhere. Assumes nothing.
use Rattle.std.proofs.Common.{◌-◌, sym, ◌∙◌, arith}
use Rattle.table_index.proofs.Last.{scan_hit, scan_miss, scan_end}
use Rattle.table_index.proofs.Objects.find_scanned.Goals as goal

pub returns-then-is_named : goal.returns-then-is_named
returns-then-is_named c =
    let l = c.loop-o in
    scan_hit _ _ l.o l.invariant (l.o - 1) (omega arith) (sym c.is_named.ensures ∙ c.if-is_named.true)

pub loop-o-preserved : goal.loop-o-preserved
loop-o-preserved c =
    let l = c.loop-o in
    scan_miss _ _ l.o l.invariant (l.o - 1) (omega arith) (sym c.is_named.ensures ∙ c.if-is_named.false)

pub returns : goal.returns
returns c = let l = c.loop-o in scan_end _ _ l.o l.invariant (omega arith)
