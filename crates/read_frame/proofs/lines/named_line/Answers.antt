-- `read_frame::named_line` meets its contract. Assumes nothing.
use Rattle.std.proofs.Common.{rules}
use Rattle.std.proofs.lemmas.Result.{err_from_is_err_and}
use Rattle.read_frame.proofs.Moves.{no_name, this_name, other_name}
use Rattle.base.proofs.Fill.{to_end}
use Prim.Native.Nat.{◌+◌, ◌-◌}
use mathlib.Core.Path.{◌≡◌, sym, ◌∙◌}
use native.Mathlib.Omega.{arith}
use Rattle.read_frame.proofs.lines.named_line.Goals as goal

pub returns-in_err-part : goal.returns-in_err-part
returns-in_err-part c =
    let p = err_from_is_err_and c.from_residual.result c.from_residual.ensures.1 in
    let h = c.in_err-part.ensures in
    rw (p.1, p.2, h.0) (no_name _ _ _ h.1)

pub returns-then-not-same_bytes : goal.returns-then-not-same_bytes
returns-then-not-same_bytes c =
    let a = c.args in
    let part = c.in_ok-part.part in
    let z : part.start + part.len - part.start ≡ part.len = omega arith in
    other_name a.rest.now a.name.now part.start part.len c.in_ok-part.ensures a.due (sym (rw z at c.same_bytes.ensures) ∙ search rules)

pub returns : goal.returns
returns c =
    let a = c.args in
    let part = c.in_ok-part.part in
    let z : part.start + part.len - part.start ≡ part.len = omega arith in
    let k = rw (to_end a.rest.now (part.start + part.len)) at c.end_line.ensures in
    this_name a.rest.now a.name.now part.start part.len c.in_ok-part.ensures a.due (sym (rw z at c.same_bytes.ensures) ∙ search rules) _ k
