-- `model_check::check::check_records` meets its contract. Assumes nothing.
use Prim.Native.Nat.{◌≤◌}
use native.Mathlib.Omega.{arith}
use mathlib.Core.Path.{sym, ap, ◌∙◌}
use lib.ListN.{length}
use Rattle.meaning.specs.Answer.{check_answer}
use Rattle.model_check.specs.Walk.{checked_meant}
use Rattle.model_records.specs.Records.{next_at}
use Rattle.model_check.proofs.Walking.{start, step, stopped, walked, fitting, advanced_at}
use Rattle.model_check.proofs.check.check_records.Goals as goal

pub loop-w-init : goal.loop-w-init
loop-w-init c = start _

pub loop-w-smaller : goal.loop-w-smaller
loop-w-smaller c =
    let l = c.loop-w in
    let m = c.args.model.now in
    let h : next_at m l.w.at ≤ length m = fitting m l.w l.topics l.tables l.attributes (sym c.passes.ensures ∙ c.if-not-passes.false) in
    rw (c.advance-w.ensures, advanced_at _ _ l.w) (omega arith)

pub returns-then-not-passes : goal.returns-then-not-passes
unfolding checked_meant check_answer
returns-then-not-passes c =
    let l = c.loop-w in
    sym (ap check_answer (stopped c.args.model.now l.w l.topics l.tables l.attributes l.places l.invariant c.loop-w-test.true (sym c.passes.ensures ∙ c.if-not-passes.true) _))

pub finish-requires : goal.finish-requires
finish-requires c =
    let l = c.loop-w in
    walked c.args.model.now l.w l.topics l.tables l.attributes l.places l.invariant c.loop-w-test.false

pub loop-w-preserved : goal.loop-w-preserved
loop-w-preserved c =
    let l = c.loop-w in
    let m = c.args.model.now in
    rw (c.advance-w.ensures, c.saturating_sub.ensures) (step m l.w l.topics l.tables l.attributes l.places l.invariant c.name_at-name.result (sym c.passes.ensures ∙ c.if-not-passes.false) c.name_at-name.ensures)
