-- `value_read::numbers::read_pointed` meets its contract. Assumes nothing.
use Prim.Native.Nat.{ℕ, ◌+◌}
use mathlib.Core.Path.{◌≡◌}
use mathlib.Core.List.{List}
use native.Mathlib.Nat.{zero-add}
use native.Mathlib.Omega.{arith}
use lib.ListN.{length, take}
use lib.Seq.{length-take-le}
use Rattle.meaning.proofs.Values.Counts.{digits_below}
use Rattle.base.proofs.Fill.{to_end}
use Rattle.value_read.proofs.Shapes.{whole, pointed_short, pointed_long, pointed_other, pointed_none, pointed_read}
use Rattle.value_read.proofs.numbers.read_pointed.Goals as goal
use Rattle.value_read.proofs.numbers.read_pointed.Goals.{then-whole-decimals-gt18-via-then-whole-decimals-gt18, then-whole-decimals-gt18-via-else-whole-decimals-gt18+then-field-whole-ne46}

pub returns-then-field-decimals : goal.returns-then-field-decimals
returns-then-field-decimals c = pointed_short _ _ c.requires.decimals_nonzero (omega arith)

pub returns-then-whole-decimals-gt18 : goal.returns-then-whole-decimals-gt18
returns-then-whole-decimals-gt18 c =
    elim c.then-whole-decimals-gt18.branch [
      | then-whole-decimals-gt18-via-then-whole-decimals-gt18 w ↦ pointed_long _ _ c.requires.decimals_nonzero (omega arith) (omega arith)
      | then-whole-decimals-gt18-via-else-whole-decimals-gt18+then-field-whole-ne46 w ↦ pointed_other _ _ c.requires.decimals_nonzero w.if-field-whole-ne46.true
    ]

pub returns-in_err-n : goal.returns-in_err-n
returns-in_err-n c =
    let a = c.args in
    let s : List ℕ = a.field.now in
    rw c.from_residual.ensures (pointed_none a.decimals s c.requires.decimals_nonzero (omega arith) (omega arith) c.if-field-whole-ne46.false c.in_err-n.ensures)

pub read_digits-requires-2-clause-n_bound : goal.read_digits-requires-2-clause-n_bound
read_digits-requires-2-clause-n_bound c =
    let a = c.args in
    let s : List ℕ = a.field.now in
    let w : ℕ = whole a.decimals s in
    let l : length (take w s) ≡ w = length-take-le w s (omega arith) in
    let r = c.in_ok-n.ensures in
    rw r.1 (rw (l, zero-add w) at (digits_below (take w s) 0 0 r.0 (omega arith)))

pub returns : goal.returns
returns c =
    let a = c.args in
    let s : List ℕ = a.field.now in
    let w : ℕ = whole a.decimals s in
    pointed_read a.decimals s c.requires.decimals_nonzero (omega arith) (omega arith) c.if-field-whole-ne46.false _ c.read_digits-2.result c.in_ok-n.ensures (rw (to_end s (w + 1)) at c.read_digits-2.ensures)
