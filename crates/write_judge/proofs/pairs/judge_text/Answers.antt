-- `write_judge::pairs::judge_text` meets its contract. Assumes nothing.
use Prim.Native.Nat.{ℕ, ◌-◌}
use native.Mathlib.Omega.{arith}
use mathlib.Core.Path.{sym, ap, ◌∙◌}
use mir.Syntax.{w64}
use mir.ValLaws.{to_z-of_z}
use Rattle.write_judge.proofs.Values.{text_none, text_long, text_is_lem}
use Rattle.write_judge.proofs.pairs.judge_text.Goals as goal

pub returns-then-is_below : goal.returns-then-is_below
returns-then-is_below c =
    let t = to_z-of_z w64 c.args.a c.ranges.a in
    text_none _ _ _ _ c.args.a _ (sym (rw t at c.is_below.ensures) ∙ c.if-is_below.true)

pub returns-then-longest-size : goal.returns-then-longest-size
returns-then-longest-size c =
    let t = to_z-of_z w64 c.args.a c.ranges.a in
    text_long _ _ _ _ c.args.a _ (sym (rw t at c.is_below.ensures) ∙ c.if-is_below.false) (omega (arith, rw t at c.size_of-size.ensures))

pub returns : goal.returns
returns c =
    let t = to_z-of_z w64 c.args.a c.ranges.a in
    rw (to_z-of_z w64 c.args.b c.ranges.b) at c.judge_stretch.ensures ∙ text_is_lem _ _ _ _ c.args.a c.args.b (sym (rw t at c.is_below.ensures) ∙ c.if-is_below.false) _ (ap (λ (x : ℕ). x - 1) (rw t at c.size_of-size.ensures)) (omega arith)
