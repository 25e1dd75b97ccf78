-- `write_lines::cuts::cut_line` meets its contract. Assumes nothing.
use mathlib.Core.Path.{refl}
use native.Mathlib.Omega.{arith}
use lib.ListN.{length-set}
use Rattle.write_lines.proofs.Ending.{cut_none, cut_stands}
use Rattle.write_lines.proofs.cuts.cut_line.Goals as goal

pub returns-then-n-more : goal.returns-then-n-more
returns-then-n-more c line before e at some p =
    let k = c.count_cuts-cuts in
    let a = c.args in
    cut_stands
    a.style.mark
    a.style.width
    line
    before
    a.put
    e
    a.out.now
    p
    a.start
    k.result.count
    k.result.last
    _
    at
    some
    c.requires.1
    k.ensures
    c.count_on.ensures
    refl
    _
    (rw length-set at c.put_cuts.auto.out)
    (omega arith)
    c.put_cuts.ensures

pub returns-else-n-more : goal.returns-else-n-more
returns-else-n-more c line before e at some p =
    let k = c.count_cuts-cuts in
    let a = c.args in
    cut_none
    a.style.mark
    a.style.width
    line
    before
    a.put
    e
    a.out.now
    p
    a.start
    k.result.count
    k.result.last
    _
    at
    some
    c.requires.1
    k.ensures
    c.count_on.ensures
    refl
    (omega arith)
