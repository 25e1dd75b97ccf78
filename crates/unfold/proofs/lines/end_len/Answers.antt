-- `unfold::lines::end_len` meets its contract: by the two texts that a line end may be. Assumes nothing.
use native.Mathlib.Omega.{arith}
use mathlib.Core.Path.{refl}
use Rattle.meaning.specs.Bytes.{choose}
use Rattle.unfold.proofs.Physical.{end_begins}
use Rattle.unfold.proofs.lines.end_len.Goals as goal

pub returns-then-begins_with : goal.returns-then-begins_with
unfolding choose
returns-then-begins_with c = (rw (end_begins c.args.rest.now, ← c.begins_with.ensures, c.if-begins_with.true) refl, omega arith)

pub returns-then-begins_with-2 : goal.returns-then-begins_with-2
unfolding choose
returns-then-begins_with-2 c =
    (rw (end_begins c.args.rest.now, ← c.begins_with.ensures, c.if-begins_with.false, ← c.begins_with-else-begins_with.ensures, c.if-begins_with-2.true) refl, omega arith)

pub returns-else-begins_with-2 : goal.returns-else-begins_with-2
unfolding choose
returns-else-begins_with-2 c =
    rw (end_begins c.args.rest.now, ← c.begins_with.ensures, c.if-begins_with.false, ← c.begins_with-else-begins_with.ensures, c.if-begins_with-2.false) refl
