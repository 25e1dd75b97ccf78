-- `base::kinds::is_separator` meets its contract: the test's order at each byte. Assumes nothing.
use mathlib.Core.Logic.{⊎_elim, inl, inr}
use borrow.Author.Tests.{ne_eqb}
use Rattle.meaning.specs.Bytes.{separator}
use Rattle.base.proofs.kinds.is_separator.Goals as goal

pub returns-in-32 : goal.returns-in-32
unfolding separator
returns-in-32 c = ⊎_elim (λ e. rw e) (λ e. rw e) c.in-32.is

pub returns-in_default : goal.returns-in_default
unfolding separator
returns-in_default c =
    let b = c.args.b in
    rw (ne_eqb b 32 (λ e. c.in_default.in_default-own.rest.1 (inr e)), ne_eqb b 9 (λ e. c.in_default.in_default-own.rest.1 (inl e)))
