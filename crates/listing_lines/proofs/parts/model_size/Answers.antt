-- `listing_lines::parts::model_size` meets its contract. Assumes nothing.
use mathlib.Core.Path.{sym, ◌∙◌}
use Prim.Native.Nat.{◌≤◌}
use lib.ListN.{length}
use borrow.Author.Tests.{leb-true, leb-false}
use Rattle.meaning.proofs.Model.Records.{next_at}
use Rattle.listing_lines.proofs.Split.{ends, goes_on, no_more}
use Rattle.listing_lines.proofs.parts.model_size.Goals as goal

pub returns-then-kind-eq-END-clause-size : goal.returns-then-kind-eq-END-clause-size
returns-then-kind-eq-END-clause-size c =
    let at = c.loop-kind.at in
    let input = c.args.input.now in
    let h : next_at input at ≤ length input = leb-true _ _ (sym c.fits_at.ensures ∙ c.loop-kind-test.true) in
    c.next_at-at.ensures ∙ sym (ends (length input) input at h (sym c.kind_at-kind.ensures ∙ c.if-kind-eq-END.true)) ∙ c.loop-kind.invariant.1

pub loop-kind-preserved : goal.loop-kind-preserved
loop-kind-preserved c =
    let at = c.loop-kind.at in
    let input = c.args.input.now in
    let h : next_at input at ≤ length input = leb-true _ _ (sym c.fits_at.ensures ∙ c.loop-kind-test.true) in
    rw c.next_at-at.ensures (h, sym (goes_on (length input) input at h (λ e. c.if-kind-eq-END.false (c.kind_at-kind.ensures ∙ e))) ∙ c.loop-kind.invariant.1)

pub returns-clause-size : goal.returns-clause-size
returns-clause-size c =
    let at = c.loop-kind.at in
    let input = c.args.input.now in
    sym (no_more (length input) input at (leb-false _ _ (sym c.fits_at.ensures ∙ c.loop-kind-test.false))) ∙ c.loop-kind.invariant.1
