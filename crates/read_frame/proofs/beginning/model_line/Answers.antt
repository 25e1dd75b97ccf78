-- `read_frame::model_line` meets its contract. Assumes nothing.
use Rattle.base.specs.declared.reasons.Reason.TheVariants.{OtherCode}
use Rattle.read_frame.proofs.TopicLines.{model_named, model_other}
use Rattle.read_frame.proofs.Moves.{named_holds, nothing_read}
use Rattle.read_frame.specs.Moves.{refused, NextDueHolds}
use Rattle.model_records.proofs.Types.{payload_part}
use Rattle.model_records.proofs.AtRecord.{beginning}
use Rattle.model_records.specs.Records.{payload_at, next_at, model_at}
use Rattle.base.specs.declared.reasons.Refusal.{Refusal}
use Rattle.read_state.specs.declared.Due.{Due}
use Rattle.std.proofs.Common.{Result, Some, rules}
use Rattle.read_frame.specs.Codes.{place_or_0}
use Rattle.read_frame.specs.declared.codes.Code.TheVariants.{Modl}
use Rattle.read_frame.proofs.Words.{same_code}
use Rattle.base.proofs.Fill.{to_end}
use lib.ListN.{take, drop}
use Prim.Native.Nat.{ℕ, ◌+◌, ◌-◌}
use mathlib.Core.Path.{◌≡◌, sym, ap, subst, ◌∙◌}
use native.Mathlib.Omega.{arith}
use Rattle.read_frame.proofs.beginning.model_line.Goals as goal

pub returns-then-ne-clause-meant : goal.returns-then-ne-clause-meant
returns-then-ne-clause-meant c =
    let a = c.args in
    let h = c.head_of-head in
    λ rooms text s x. model_other _ rooms text a.model.now a.line.now h.result h.ensures (refused OtherCode 1) x s (λ q. let same = rw (same_code h.result.code Modl q) at c.ne.ensures in search rules)

pub next_at-second-requires : goal.next_at-second-requires
next_at-second-requires c =
    let g = beginning (model_at c.args.model.now) c.args.model.now c.requires in
    omega (arith, g.first_fits)

pub next_at-first-requires : goal.next_at-first-requires
next_at-first-requires c =
    let g = beginning (model_at c.args.model.now) c.args.model.now c.requires in
    omega (arith, g.second_fits, c.next_at-second.ensures)

pub slice_bounds-named_line-end-2 : goal.slice_bounds-named_line-end-2
slice_bounds-named_line-end-2 c =
    let g = beginning (model_at c.args.model.now) c.args.model.now c.requires in
    let e = c.next_at-first.ensures ∙ ap (next_at c.args.model.now) c.next_at-second.ensures in
    omega (arith, g.second_fits, e)

pub returns : goal.returns
returns c =
    let g = beginning (model_at c.args.model.now) c.args.model.now c.requires in
    let a = c.args in
    let b = a.model.now in
    let h = c.head_of-head in
    let same : h.result.code ≡ Some Modl = search rules in
    let q = c.next_at-second.ensures in
    let p = c.next_at-first.ensures in
    let n = ap (λ (x : ℕ). take (x - (c.next_at-second.result + 4)) (drop (c.next_at-second.result + 4) b)) p ∙ payload_part b c.next_at-second.result 0 _ (omega arith) ∙ ap (payload_at b) q ∙ g.name in
    let k = rw (to_end a.line.now h.result.behind, n) at c.named_line.ensures in
    record {
      meant = (λ rooms text s x. model_named _ rooms text _ a.line.now h.result h.ensures _ x s (ap place_or_0 same) k);
      held = subst (λ (x : Result Due Refusal). NextDueHolds (model_at b) b x) (sym (k 0)) (named_holds _ nothing_read _ _ _ _ (λ rows n used points. omega arith));
    }
