-- `read_frame::alone_line` meets its contract. Assumes nothing.
use Rattle.read_frame.proofs.Moves.{other_code_lem, this_code}
use Rattle.read_frame.proofs.Words.{place_within, same_code}
use Rattle.read_frame.specs.Codes.{place_or_0}
use Rattle.std.proofs.Common.{Some, rules, ◌≡◌, ap}
use Rattle.base.proofs.Fill.{to_end}
use mathlib.Core.Path.{sym, ◌∙◌}
use native.Mathlib.Omega.{arith}
use Rattle.read_frame.proofs.lines.alone_line.Goals as goal

pub returns-then-ne : goal.returns-then-ne
returns-then-ne c =
    let h = c.head_of-head in
    λ s i e. other_code_lem c.args.line.now h.result h.ensures i (omega (arith, place_within c.args.code)) c.args.due (λ q. let same = same_code h.result.code c.args.code (q ∙ sym e) in let z = rw same at c.ne.ensures in search rules) s

pub returns : goal.returns
returns c =
    let h = c.head_of-head in
    let l = c.args.line.now in
    let g = rw (to_end l h.result.behind) at c.end_line.ensures in
    let same : h.result.code ≡ Some c.args.code = search rules in
    λ s i e. this_code l h.result h.ensures i (omega (arith, place_within c.args.code)) c.args.due _ (ap place_or_0 same ∙ e) g s
