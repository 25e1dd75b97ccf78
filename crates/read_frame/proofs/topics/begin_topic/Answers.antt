-- `read_frame::begin_topic` meets its contract. Assumes nothing.
use Rattle.std.proofs.Common.{Some, None}
use Rattle.std.proofs.lemmas.Result.{err_from_is_err_and}
use Rattle.base.specs.declared.reasons.Reason.TheVariants.{NameWrong}
use Rattle.read_frame.proofs.TopicLines.{topic_no_name, topic_missing, topic_begun, topic_holds}
use Rattle.read_frame.specs.Finds.{topic_found_of}
use Rattle.base.proofs.Fill.{to_end}
use Prim.Native.Nat.{◌+◌, ◌-◌}
use mathlib.Core.Path.{◌≡◌, sym, ap, ◌∙◌}
use native.Mathlib.Omega.{arith}
use Rattle.read_frame.proofs.topics.begin_topic.Goals as goal

pub returns-in_err-part-clause-meant : goal.returns-in_err-part-clause-meant
returns-in_err-part-clause-meant c =
    let p = err_from_is_err_and c.from_residual.result c.from_residual.ensures.1 in
    let h = c.in_err-part.ensures in
    rw (p.1, p.2, h.0) (λ s k. topic_no_name _ c.args.model.now.bytes.now _ _ k h.1 s)

pub returns-in_err-p-clause-meant : goal.returns-in_err-p-clause-meant
returns-in_err-p-clause-meant c =
    let a = c.args in
    let part = c.in_ok-part.part in
    let z : part.start + part.len - part.start ≡ part.len = omega arith in
    let none : c.find_topic-found.result ≡ None = grind arith in
    let refusal : c.in_err-p.field-0.0 ≡ record { reason = NameWrong; field = 2 } = grind arith in
    let e = rw z at (sym c.find_topic-found.ensures ∙ ap topic_found_of none) in
    let p = err_from_is_err_and c.from_residual-in_err-p.result c.from_residual-in_err-p.ensures.1 in
    rw (p.1, p.2, refusal) (λ s k. topic_missing _ a.model.now.bytes.now _ a.rest.now k part.start part.len c.in_ok-part.ensures e s)

pub returns : goal.returns
returns c =
    let a = c.args in
    let part = c.in_ok-part.part in
    let z : part.start + part.len - part.start ≡ part.len = omega arith in
    let some : c.find_topic-found.result ≡ Some c.in_ok-p.p = grind arith in
    let e = rw z at (sym c.find_topic-found.ensures ∙ ap topic_found_of some) in
    let k = rw (to_end a.rest.now (part.start + part.len)) at c.end_line.ensures in
    record {
      meant = (λ s x. topic_begun _ _ _ a.rest.now x part.start part.len c.in_ok-part.ensures _ _ e k s);
      held = topic_holds _ _ _ _ _ _ _ e (k 0);
    }
