-- `write_file::behind_table` meets its contract. Assumes nothing.
use mathlib.Core.Path.{sym, ◌∙◌}
use Rattle.write_file.proofs.Walks.{run_on, run_stop, run_end}
use Rattle.write_file.proofs.walk.behind_table.Goals as goal

pub returns-then-size_at-number : goal.returns-then-size_at-number
returns-then-size_at-number c =
    run_stop _ _ _ _ _ c.loop-i.invariant c.loop-i-test.true (λ e. c.if-size_at-number.true (c.size_at.ensures ∙ e))

pub loop-i-preserved : goal.loop-i-preserved
loop-i-preserved c =
    run_on _ _ _ _ _ c.loop-i.invariant c.loop-i-test.true (sym c.size_at.ensures ∙ c.if-size_at-number.false)

pub returns : goal.returns
returns c = run_end _ _ _ _ _ c.loop-i.invariant c.loop-i-test.false
