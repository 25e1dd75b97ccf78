-- `base::kinds::is_digit` meets its contract: the test's order at each byte. Assumes nothing.
use native.Mathlib.Omega.{arith}
use borrow.Author.Tests.{le-leb, lt-leb}
use Rattle.meaning.specs.Bytes.{digit}
use Rattle.base.proofs.kinds.is_digit.Goals as goal

pub returns-in-48-to-57 : goal.returns-in-48-to-57
unfolding digit
returns-in-48-to-57 c =
    let b = c.args.b in
    rw (le-leb 48 b (omega arith), le-leb b 57 (omega arith))

pub returns-in_default : goal.returns-in_default
unfolding digit
returns-in_default c =
    let b = c.args.b in
    rw (lt-leb 48 b (omega arith))

pub returns-in_default-2 : goal.returns-in_default-2
unfolding digit
returns-in_default-2 c =
    let b = c.args.b in
    rw (le-leb 48 b (omega arith), lt-leb b 57 (omega arith))
