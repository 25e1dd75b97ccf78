-- `value_read::numbers::sign_size` meets its contract: what the two tests make together. Assumes nothing.
use native.Mathlib.Omega.{arith}
use mathlib.Core.Path.{◌≡◌, sym, ◌∙◌}
use mathlib.Core.Bool.{◌||◌}
use Rattle.meaning.specs.Bytes.{begins}
use Rattle.value_read.proofs.Shapes.{first_begins, signed_size, unsigned_size}
use Rattle.value_read.proofs.numbers.sign_size.Goals as goal
use Rattle.value_read.proofs.numbers.sign_size.Goals.{then-starts_with, else-starts_with}

pub returns-then-starts_with-2 : goal.returns-then-starts_with-2
returns-then-starts_with-2 c =
    let s = c.args.field.now in
    let plus = c.starts_with.ensures.value ∙ first_begins 0x2b s in
    let sign : (begins 0x2b s || begins 0x2d s) ≡ c.if-starts_with.value = elim c.if-starts_with.branch [
      | then-starts_with w ↦ rw (sym plus, w.if-starts_with.true) (sym (w.value-is ∙ w.if-starts_with.true))
      | else-starts_with w ↦ rw (sym plus, w.if-starts_with.false) (sym (w.value-is ∙ w.starts_with-else-starts_with.ensures.value ∙ first_begins 0x2d s))
    ] in
    signed_size s (sign ∙ c.if-starts_with-2.true)

pub returns-else-starts_with-2 : goal.returns-else-starts_with-2
returns-else-starts_with-2 c =
    let s = c.args.field.now in
    let plus = c.starts_with.ensures.value ∙ first_begins 0x2b s in
    let sign : (begins 0x2b s || begins 0x2d s) ≡ c.if-starts_with.value = elim c.if-starts_with.branch [
      | then-starts_with w ↦ rw (sym plus, w.if-starts_with.true) (sym (w.value-is ∙ w.if-starts_with.true))
      | else-starts_with w ↦ rw (sym plus, w.if-starts_with.false) (sym (w.value-is ∙ w.starts_with-else-starts_with.ensures.value ∙ first_begins 0x2d s))
    ] in
    (omega arith, unsigned_size s (sign ∙ c.if-starts_with-2.false))
