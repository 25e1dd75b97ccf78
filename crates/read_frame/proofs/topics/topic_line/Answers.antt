-- `read_frame::topic_line` meets its contract. Assumes nothing.
use mathlib.Core.Path.{◌≡◌, sym, ap, subst}
use Rattle.std.proofs.Common.{Result, Some, rules}
use Rattle.base.specs.declared.reasons.Reason.TheVariants.{OtherCode}
use Rattle.base.specs.declared.reasons.Refusal.{Refusal}
use Rattle.model_records.specs.Records.{model_at}
use Rattle.read_state.specs.declared.Due.{Due}
use Rattle.read_frame.specs.Codes.{place_or_0}
use Rattle.read_frame.specs.Moves.{refused, end_in, NextDueHolds}
use Rattle.read_frame.specs.declared.codes.Code.TheVariants.{Topi, Emod}
use Rattle.read_frame.proofs.TopicLines.{model_closed, topic_opened, topic_other}
use Rattle.read_frame.proofs.Moves.{holds_refuse}
use Rattle.read_frame.proofs.Words.{same_code}
use Rattle.base.proofs.Fill.{to_end}
use Rattle.read_frame.proofs.topics.topic_line.Goals as goal

pub returns-in-Some-Emod : goal.returns-in-Some-Emod
unfolding end_in
returns-in-Some-Emod c =
    let a = c.args in
    let h = c.head_of-head in
    let same : h.result.code ≡ Some Emod = search rules in
    let k = rw (to_end a.line.now h.result.behind) at c.end_line.ensures in
    record {
      meant = (λ rooms text s x. model_closed _ rooms text _ _ a.line.now h.result h.ensures _ x s (ap place_or_0 same) k);
      held = subst (λ (x : Result Due Refusal). NextDueHolds (model_at a.model.now.bytes.now) a.model.now.bytes.now x) (sym (k 0)) (holds_refuse _ _ _ _ _ tt (λ rows n used points. tt));
    }

pub returns-in-Some-Topi-clause-meant : goal.returns-in-Some-Topi-clause-meant
returns-in-Some-Topi-clause-meant c =
    let a = c.args in
    let h = c.head_of-head in
    let same : h.result.code ≡ Some Topi = search rules in
    let k = rw (to_end a.line.now h.result.behind) at c.begin_topic.ensures.meant in
    λ rooms text s x. topic_opened _ rooms text a.model.now.bytes.now _ a.line.now h.result h.ensures c.begin_topic.result x s (ap place_or_0 same) k

pub returns-in_default-clause-meant : goal.returns-in_default-clause-meant
returns-in_default-clause-meant c =
    let a = c.args in
    let h = c.head_of-head in
    λ rooms text s x. topic_other _ rooms text a.model.now.bytes.now _ a.line.now h.result h.ensures (refused OtherCode 1) x s (λ q. let same = same_code h.result.code Emod q in search rules) (λ q. let same = same_code h.result.code Topi q in search rules)

pub returns-in_default-2-clause-meant : goal.returns-in_default-2-clause-meant
returns-in_default-2-clause-meant c =
    let a = c.args in
    let h = c.head_of-head in
    λ rooms text s x. topic_other _ rooms text a.model.now.bytes.now _ a.line.now h.result h.ensures (refused OtherCode 1) x s (λ q. let same = same_code h.result.code Emod q in search rules) (λ q. let same = same_code h.result.code Topi q in search rules)
