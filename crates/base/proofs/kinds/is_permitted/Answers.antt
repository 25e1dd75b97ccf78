-- `base::kinds::is_permitted` meets its contract: the test's order at each byte. Assumes nothing.
use native.Mathlib.Omega.{arith}
use borrow.Author.Tests.{ne_eqb, le-leb, lt-leb}
use Rattle.meaning.specs.Bytes.{permitted}
use Rattle.base.proofs.kinds.is_permitted.Goals as goal

pub returns-in_default : goal.returns-in_default
unfolding permitted
returns-in_default c =
    let b = c.args.b in
    rw (ne_eqb b 9 (omega arith), lt-leb 32 b (omega arith), lt-leb 160 b (omega arith))

pub returns-in_default-2 : goal.returns-in_default-2
unfolding permitted
returns-in_default-2 c =
    let b = c.args.b in
    rw (ne_eqb b 9 (omega arith), le-leb 32 b (omega arith), lt-leb b 126 (omega arith), lt-leb 160 b (omega arith))

pub returns-in-9-2 : goal.returns-in-9-2
unfolding permitted
returns-in-9-2 c =
    let b = c.args.b in
    rw (ne_eqb b 9 (omega arith), le-leb 32 b (omega arith), le-leb b 126 (omega arith))

pub returns-in-9-3 : goal.returns-in-9-3
unfolding permitted
returns-in-9-3 c =
    let b = c.args.b in
    rw (ne_eqb b 9 (omega arith), le-leb 32 b (omega arith), lt-leb b 126 (omega arith), le-leb 160 b (omega arith), le-leb b 255 (omega arith))

pub returns-in-9 : goal.returns-in-9
unfolding permitted
returns-in-9 c = rw c.in-9.in-9-own.keys1
