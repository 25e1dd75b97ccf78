-- `write_judge::pairs::judge_date` meets its contract. Assumes nothing.
use mathlib.Core.Path.{sym, ◌∙◌}
use mir.Syntax.{w64}
use mir.ValLaws.{to_z-of_z}
use Rattle.write_judge.proofs.Values.{date_negative, date_large, date_day}
use Rattle.write_judge.proofs.pairs.judge_date.Goals as goal

pub returns-then-is_below : goal.returns-then-is_below
returns-then-is_below c =
    let t = to_z-of_z w64 c.args.b c.ranges.b in
    date_negative c.args.b (sym (rw t at c.is_below.ensures) ∙ c.if-is_below.true)

pub returns-then-not-is_below : goal.returns-then-not-is_below
returns-then-not-is_below c =
    let t = to_z-of_z w64 c.args.b c.ranges.b in
    date_large c.args.b (sym (rw t at c.is_below.ensures) ∙ c.if-is_below.false) (sym (rw t at c.is_below-2.ensures) ∙ c.if-not-is_below.true)

pub returns : goal.returns
returns c =
    let t = to_z-of_z w64 c.args.b c.ranges.b in
    c.is_day.ensures ∙ date_day c.args.b (sym (rw t at c.is_below.ensures) ∙ c.if-is_below.false) (sym (rw t at c.is_below-2.ensures) ∙ c.if-not-is_below.false) _ (rw t at c.size_of-n.ensures)
