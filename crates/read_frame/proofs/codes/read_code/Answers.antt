-- `read_frame::read_code` meets its contract. Assumes nothing.
use native.Mathlib.Omega.{arith}
use mathlib.Core.Path.{sym, ap, ◌∙◌}
use Rattle.read_frame.specs.Codes.{codes, word_in}
use Rattle.read_frame.proofs.Words.{Four, word_code, no_code}
use Rattle.read_frame.proofs.codes.read_code.Goals as goal

pub returns-then-field-ne4 : goal.returns-then-field-ne4
returns-then-field-ne4 c = sym (no_code c.args.field.now (λ e. c.if-field-ne4.true e))

pub returns : goal.returns
returns c =
    let s = c.args.field.now in
    let f : Four s = record { size = omega arith; bounded = λ i. (c.shared_slice_known-1.given i).fits } in
    c.code_of_word.ensures ∙ ap (word_in 1 codes) c.u32_at.ensures ∙ sym (word_code s f)
