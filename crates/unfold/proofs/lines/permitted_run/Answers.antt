-- `unfold::lines::permitted_run` meets its contract: the rest at i begins with as many permitted bytes as are left. Assumes nothing.
use mathlib.Core.Path.{sym, ◌∙◌}
use Rattle.meaning.specs.Unfold.{permitted}
use Rattle.unfold.proofs.Leading.{leading_end, leading_stop, leading_on}
use native.Mathlib.Omega.{arith}
use Rattle.unfold.proofs.lines.permitted_run.Goals as goal

pub returns-then-not-is_permitted : goal.returns-then-not-is_permitted
returns-then-not-is_permitted c =
    omega (arith, leading_stop permitted c.args.rest.now c.loop-i.i (omega arith) (sym c.is_permitted.ensures ∙ c.if-not-is_permitted.true))

pub loop-i-preserved : goal.loop-i-preserved
loop-i-preserved c =
    omega (arith, leading_on permitted c.args.rest.now c.loop-i.i (omega arith) (sym c.is_permitted.ensures ∙ c.if-not-is_permitted.false))

pub returns : goal.returns
returns c = omega (arith, leading_end permitted c.args.rest.now c.loop-i.i c.loop-i-test.false)
