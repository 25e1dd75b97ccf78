-- `base::kinds::is_letter` meets its contract: the test's order at each byte. Assumes nothing.
use native.Mathlib.Omega.{arith}
use borrow.Author.Tests.{le-leb, lt-leb}
use Rattle.meaning.specs.Bytes.{letter}
use Rattle.base.proofs.kinds.is_letter.Goals as goal

pub returns-in-65-to-90 : goal.returns-in-65-to-90
unfolding letter
returns-in-65-to-90 c =
    let b = c.args.b in
    rw (le-leb 65 b (omega arith), le-leb b 90 (omega arith))

pub returns-in-65-to-90-2 : goal.returns-in-65-to-90-2
unfolding letter
returns-in-65-to-90-2 c =
    let b = c.args.b in
    rw (le-leb 65 b (omega arith), lt-leb b 90 (omega arith), le-leb 97 b (omega arith), le-leb b 122 (omega arith))

pub returns-in_default : goal.returns-in_default
unfolding letter
returns-in_default c =
    let b = c.args.b in
    rw (lt-leb 65 b (omega arith), lt-leb 97 b (omega arith))

pub returns-in_default-2 : goal.returns-in_default-2
unfolding letter
returns-in_default-2 c =
    let b = c.args.b in
    rw (le-leb 65 b (omega arith), lt-leb b 90 (omega arith), lt-leb 97 b (omega arith))

pub returns-in_default-3 : goal.returns-in_default-3
unfolding letter
returns-in_default-3 c =
    let b = c.args.b in
    rw (le-leb 65 b (omega arith), lt-leb b 90 (omega arith), le-leb 97 b (omega arith), lt-leb b 122 (omega arith))
