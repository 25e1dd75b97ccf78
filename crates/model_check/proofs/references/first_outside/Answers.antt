-- `model_check::references::first_outside` meets its contract. Assumes nothing.
use Prim.Native.Nat.{◌≤◌}
use native.Mathlib.Omega.{arith}
use mathlib.Core.Path.{refl, sym, ◌∙◌}
use lib.ListN.{length}
use borrow.Author.Tests.{leb-true, leb-false}
use Rattle.model_check.specs.References.{judged_from, outside_meant}
use Rattle.model_records.specs.Records.{next_at}
use Rattle.model_check.proofs.Judging.{judged_bad, judged_on_lem, judged_end, judged_topics, judged_falls}
use Rattle.model_check.proofs.references.first_outside.Goals as goal

pub loop-j-init : goal.loop-j-init
unfolding judged_from
loop-j-init c = (omega arith, λ ts rest e. refl)

pub returns-then-is_bad : goal.returns-then-is_bad
unfolding outside_meant
returns-then-is_bad c =
    λ ts rest e. let l = c.loop-j in
    let m = c.args.model.now in
    sym (judged_bad ts rest m l.j (leb-true _ _ (sym c.fits_at.ensures ∙ c.loop-j-test.true)) (sym (c.is_bad.ensures ts e) ∙ c.if-is_bad.true)) ∙ l.invariant.1 ts rest e

pub loop-j-smaller : goal.loop-j-smaller
loop-j-smaller c =
    let l = c.loop-j in
    let m = c.args.model.now in
    let h : next_at m l.j.at ≤ length m = leb-true _ _ (sym c.fits_at.ensures ∙ c.loop-j-test.true) in
    rw c.go_on-j.ensures (judged_falls _ (next_at m l.j.at) (length m) l.j (omega arith) h)

pub loop-j-preserved : goal.loop-j-preserved
loop-j-preserved c =
    let l = c.loop-j in
    let m = c.args.model.now in
    let h : next_at m l.j.at ≤ length m = leb-true _ _ (sym c.fits_at.ensures ∙ c.loop-j-test.true) in
    (rw c.go_on-j.ensures (judged_topics _ (next_at m l.j.at) l.j l.invariant.0 (omega arith)), λ ts rest e. rw c.go_on-j.ensures (judged_on_lem ts rest m l.j h (sym (c.is_bad.ensures ts e) ∙ c.if-is_bad.false) ∙ l.invariant.1 ts rest e))

pub returns : goal.returns
unfolding outside_meant
returns c =
    λ ts rest e. let l = c.loop-j in
    let m = c.args.model.now in
    sym (judged_end ts rest m l.j (leb-false _ _ (sym c.fits_at.ensures ∙ c.loop-j-test.false))) ∙ l.invariant.1 ts rest e
