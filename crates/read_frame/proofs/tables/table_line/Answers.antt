-- `read_frame::table_line` meets its contract. Assumes nothing.
use mathlib.Core.Path.{◌≡◌, ap}
use Rattle.std.proofs.Common.{Some, rules}
use Rattle.base.specs.declared.reasons.Reason.TheVariants.{OtherCode}
use Rattle.read_frame.specs.Codes.{place_or_0}
use Rattle.read_frame.specs.Moves.{refused}
use Rattle.read_frame.specs.declared.codes.Code.TheVariants.{Tabl, Etop}
use Rattle.read_frame.proofs.TableLines.{topic_closed, table_opened, table_other}
use Rattle.read_frame.proofs.Words.{same_code}
use Rattle.base.proofs.Fill.{to_end}
use Rattle.read_frame.proofs.tables.table_line.Goals as goal

pub returns-in-Some-Etop-clause-meant : goal.returns-in-Some-Etop-clause-meant
returns-in-Some-Etop-clause-meant c =
    let a = c.args in
    let h = c.head_of-head in
    let same : h.result.code ≡ Some Etop = search rules in
    let k = rw (to_end a.line.now h.result.behind) at c.end_topic.ensures.meant in
    λ rooms text s x. topic_closed _ rooms text a.model.now.bytes.now _ _ a.line.now h.result h.ensures c.end_topic.result x s (ap place_or_0 same) k

pub returns-in-Some-Tabl-clause-meant : goal.returns-in-Some-Tabl-clause-meant
returns-in-Some-Tabl-clause-meant c =
    let a = c.args in
    let h = c.head_of-head in
    let same : h.result.code ≡ Some Tabl = search rules in
    let k = rw (to_end a.line.now h.result.behind) at c.begin_table.ensures.meant in
    λ rooms text s x. table_opened _ rooms text a.model.now.bytes.now _ _ a.line.now h.result h.ensures c.begin_table.result x s (ap place_or_0 same) k

pub returns-in_default-clause-meant : goal.returns-in_default-clause-meant
returns-in_default-clause-meant c =
    let a = c.args in
    let h = c.head_of-head in
    λ rooms text s x. table_other _ rooms text a.model.now.bytes.now _ _ a.line.now h.result h.ensures (refused OtherCode 1) x s (λ q. let same = same_code h.result.code Etop q in search rules) (λ q. let same = same_code h.result.code Tabl q in search rules)

pub returns-in_default-2-clause-meant : goal.returns-in_default-2-clause-meant
returns-in_default-2-clause-meant c =
    let a = c.args in
    let h = c.head_of-head in
    λ rooms text s x. table_other _ rooms text a.model.now.bytes.now _ _ a.line.now h.result h.ensures (refused OtherCode 1) x s (λ q. let same = same_code h.result.code Etop q in search rules) (λ q. let same = same_code h.result.code Tabl q in search rules)
