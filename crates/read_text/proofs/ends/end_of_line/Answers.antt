-- `read_text::ends::end_of_line` meets its contract: what is left of the line is added to what was passed. Assumes nothing.
use Prim.Native.Nat.{ℕ}
use mathlib.Core.Path.{◌≡◌, ap, ◌∙◌}
use native.Mathlib.Omega.{arith}
use lib.ListN.{length, drop}
use Rattle.read_text.specs.Text.{line_end}
use Rattle.read_text.proofs.TextLines.{here, more, none}
use Rattle.read_text.proofs.ends.end_of_line.Goals as goal

pub returns-then-text-i-eq10 : goal.returns-then-text-i-eq10
returns-then-text-i-eq10 c =
    let i = c.loop-i.i in let s = c.args.text.now in record { end = omega (arith, here s i (omega arith) c.if-text-i-eq10.true); within = omega arith }

pub loop-i-preserved : goal.loop-i-preserved
loop-i-preserved c =
    let i = c.loop-i.i in let s = c.args.text.now in omega (arith, more s i (omega arith) c.if-text-i-eq10.false)

pub returns : goal.returns
returns c =
    let s = c.args.text.now in let e : c.loop-i.i ≡ length s = omega arith in record { end = omega (arith, ap (λ (k : ℕ). line_end (drop k s)) e ∙ none s); within = omega arith }
