-- `write_judge::cells::judge_stretch` meets its contract. Assumes nothing.
use native.Mathlib.Omega.{arith}
use mathlib.Core.Path.{sym, ◌∙◌}
use mir.Syntax.{w64}
use mir.ValLaws.{to_z-of_z}
use Rattle.write_judge.proofs.Signs.{stretch_negative, stretch_outside, stretch_within, lent_stretch}
use Rattle.write_judge.proofs.cells.judge_stretch.Goals as goal

pub returns-then-is_below : goal.returns-then-is_below
returns-then-is_below c =
    let t = to_z-of_z w64 c.args.start c.ranges.start in
    stretch_negative _ _ c.args.start _ (sym (rw t at c.is_below.ensures) ∙ c.if-is_below.true)

pub returns-then-text-from : goal.returns-then-text-from
returns-then-text-from c =
    let t = to_z-of_z w64 c.args.start c.ranges.start in
    stretch_outside _ _ c.args.start _ (sym (rw t at c.is_below.ensures) ∙ c.if-is_below.false) (omega (arith, rw t at c.size_of-from.ensures))

pub returns-then-text-from-2 : goal.returns-then-text-from-2
returns-then-text-from-2 c =
    let t = to_z-of_z w64 c.args.start c.ranges.start in
    stretch_outside _ _ c.args.start _ (sym (rw t at c.is_below.ensures) ∙ c.if-is_below.false) (omega (arith, rw t at c.size_of-from.ensures))

pub returns : goal.returns
returns c =
    let t = to_z-of_z w64 c.args.start c.ranges.start in
    let z = rw t at c.size_of-from.ensures in
    c.judge_bytes.ensures
    ∙ stretch_within _ c.args.text.now c.args.start _ (sym (rw t at c.is_below.ensures) ∙ c.if-is_below.false) (omega (arith, z)) _ (lent_stretch c.args.text.now _ _ _ z)
