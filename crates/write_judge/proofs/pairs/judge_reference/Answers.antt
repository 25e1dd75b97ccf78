-- `write_judge::pairs::judge_reference` meets its contract. Assumes nothing.
use native.Mathlib.Omega.{arith}
use mathlib.Core.Path.{refl, sym, ◌∙◌}
use lib.IntN.{pos}
use lib.ListN.{get_or}
use mir.Syntax.{w64}
use mir.ValLaws.{to_z-of_z}
use Rattle.write_judge.proofs.Values.{reference_negative, reference_none, reference_outside, reference_is}
use Rattle.write_judge.proofs.pairs.judge_reference.Goals as goal

pub returns-then-is_below : goal.returns-then-is_below
returns-then-is_below c =
    let t = to_z-of_z w64 c.args.b c.ranges.b in
    reference_negative _ _ c.args.b (sym (rw t at c.is_below.ensures) ∙ c.if-is_below.true)

pub returns-then-table-n : goal.returns-then-table-n
returns-then-table-n c =
    let t = to_z-of_z w64 c.args.b c.ranges.b in
    reference_none _ _ c.args.b (sym (rw t at c.is_below.ensures) ∙ c.if-is_below.false) _ (rw t at c.size_of-n.ensures) (omega arith)

pub returns-then-table-row : goal.returns-then-table-row
returns-then-table-row c =
    let t = to_z-of_z w64 c.args.b c.ranges.b in
    reference_outside _ _ c.args.b (sym (rw t at c.is_below.ensures) ∙ c.if-is_below.false) _ (rw t at c.size_of-n.ensures) (omega arith) _ refl (omega arith)

pub returns : goal.returns
returns c =
    let t = to_z-of_z w64 c.args.b c.ranges.b in
    let v = to_z-of_z w64 (get_or c.args.table.now.cells.now (get_or c.args.table.now.rows.now c.size_of-n.result 0) (pos 0)) (record { sfits = omega arith }) in
    rw v at c.is_number.ensures ∙ reference_is _ _ c.args.b (sym (rw t at c.is_below.ensures) ∙ c.if-is_below.false) _ (rw t at c.size_of-n.ensures) (omega arith) _ refl (omega arith)
