-- `base::kinds::is_text_byte` meets its contract: the test's order at each byte. Assumes nothing.
use mathlib.Core.Path.{◌≡◌}
use native.Mathlib.Omega.{arith}
use borrow.Author.Tests.{ne_eqb, le-leb, lt-leb}
use Rattle.meaning.specs.Bytes.{text_byte}
use Rattle.base.proofs.kinds.is_text_byte.Goals as goal

pub returns-in-33-to-126 : goal.returns-in-33-to-126
unfolding text_byte
returns-in-33-to-126 c =
    let b = c.args.b in
    rw (le-leb 33 b (omega arith), le-leb b 126 (omega arith))

pub returns-in-33-to-126-2 : goal.returns-in-33-to-126-2
unfolding text_byte
returns-in-33-to-126-2 c =
    let b = c.args.b in
    rw (le-leb 33 b (omega arith), lt-leb b 126 (omega arith), le-leb 192 b (omega arith), le-leb b 255 (omega arith), ne_eqb b 215 (omega arith), ne_eqb b 247 (omega arith))

pub returns-in-33-to-126-3 : goal.returns-in-33-to-126-3
unfolding text_byte
returns-in-33-to-126-3 c =
    let b = c.args.b in
    rw (le-leb 33 b (omega arith), lt-leb b 126 (omega arith), le-leb 192 b (omega arith), le-leb b 255 (omega arith), ne_eqb b 215 (omega arith), ne_eqb b 247 (omega arith))

pub returns-in-33-to-126-4 : goal.returns-in-33-to-126-4
unfolding text_byte
returns-in-33-to-126-4 c =
    let b = c.args.b in
    rw (le-leb 33 b (omega arith), lt-leb b 126 (omega arith), le-leb 192 b (omega arith), le-leb b 255 (omega arith), ne_eqb b 215 (omega arith), ne_eqb b 247 (omega arith))

pub returns-in_default : goal.returns-in_default
unfolding text_byte
returns-in_default c =
    let b = c.args.b in
    rw (lt-leb 33 b (omega arith), lt-leb 192 b (omega arith))

pub returns-in_default-2 : goal.returns-in_default-2
unfolding text_byte
returns-in_default-2 c =
    let b = c.args.b in
    rw (le-leb 33 b (omega arith), lt-leb b 126 (omega arith), lt-leb 192 b (omega arith))

pub returns-in_default-3 : goal.returns-in_default-3
unfolding text_byte
returns-in_default-3 c =
    let b = c.args.b in
    let is : b ≡ 215 = omega arith in rw is

pub returns-in_default-4 : goal.returns-in_default-4
unfolding text_byte
returns-in_default-4 c =
    let b = c.args.b in
    let is : b ≡ 247 = omega arith in rw is
