-- `write_judge::rows::judge_name` meets its contract. Assumes nothing.
use Prim.Native.Nat.{ℕ, ◌+◌}
use native.Mathlib.Omega.{arith}
use mathlib.Core.Path.{sym, ap, ◌∙◌}
use mir.Syntax.{w64}
use mir.ValLaws.{to_z-of_z}
use lib.IntN.{ℤ, pos}
use lib.ListN.{get_or}
use Rattle.meaning.specs.Judge.{judge_stretch}
use Rattle.write_judge.proofs.Heads.{name_short, name_is}
use Rattle.write_judge.proofs.rows.judge_name.Goals as goal

pub returns-then-is_below_at : goal.returns-then-is_below_at
returns-then-is_below_at c =
    let a = c.args in name_short a.table.now a.undefined a.at (sym c.is_below_at.ensures ∙ c.if-is_below_at.true)

pub returns : goal.returns
returns c =
    let a = c.args in
    let t = a.table.now in
    let start = get_or t.cells.now (a.at + 1) (pos 0) in
    c.judge_stretch.ensures
    ∙ ap (λ (x : ℤ). judge_stretch a.undefined t.text.now x c.size_at-size.result) (to_z-of_z w64 start (record { sfits = omega arith }))
    ∙ ap (λ (x : ℕ). judge_stretch a.undefined t.text.now start x) c.size_at-size.ensures
    ∙ name_is t a.undefined a.at (sym c.is_below_at.ensures ∙ c.if-is_below_at.false)
