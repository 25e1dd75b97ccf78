-- `base::kinds::tests_permitted` meets its contract: a byte is at most FF hex. Assumes nothing.
use mathlib.Core.Bool.{and-true}
use borrow.Author.Tests.{le-leb}
use Rattle.meaning.specs.Bytes.{permitted}
use native.Mathlib.Omega.{arith}
use Rattle.base.proofs.kinds.tests_permitted.Goals as goal

pub returns : goal.returns
unfolding permitted
returns c = rw (le-leb c.args.b 255 (omega arith), and-true)
