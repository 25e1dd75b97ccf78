-- `write_judge::marks::judge_tables` meets its contract: the tables from here on mean what all mean. Assumes nothing.
use native.Mathlib.Omega.{arith}
use mathlib.Core.Path.{ap, ◌∙◌}
use mathlib.Core.Bool.{not}
use Rattle.write_judge.proofs.Marking.{tables_end, all_tables, told_no, told_yes}
use Rattle.write_judge.proofs.marks.judge_tables.Goals as goal

pub returns : goal.returns
returns c =
    let j = c.requires.judging in
    tables_end _ _ _ _ (omega (arith, c.loop-number-test.false, j.placed.tables)) ∙ c.loop-number.invariant ∙ all_tables _ _ j

pub returns-then-not-judge_delivery : goal.returns-then-not-judge_delivery
returns-then-not-judge_delivery c =
    told_no _ _ _ c.judge_delivery.ensures (ap not c.if-not-judge_delivery.true) ∙ c.loop-number.invariant ∙ all_tables _ _ c.requires.judging

pub loop-number-preserved : goal.loop-number-preserved
loop-number-preserved c =
    told_yes _ _ _ c.judge_delivery.ensures (ap not c.if-not-judge_delivery.false) ∙ c.loop-number.invariant
