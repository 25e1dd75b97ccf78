-- `read_frame::transfer_line` meets its contract. Assumes nothing.
use Rattle.base.specs.declared.reasons.Reason.TheVariants.{OtherCode, MotrForMtid}
use Rattle.read_frame.proofs.TopicLines.{transfer_named, transfer_motr, transfer_other}
use Rattle.read_frame.proofs.Moves.{named_holds, nothing_read}
use Rattle.read_frame.specs.Moves.{refused, NextDueHolds}
use Rattle.model_records.proofs.Types.{payload_part}
use Rattle.model_records.proofs.AtRecord.{beginning}
use Rattle.model_records.specs.Records.{model_at}
use Rattle.base.specs.declared.reasons.Refusal.{Refusal}
use Rattle.read_state.specs.declared.Due.{Due}
use Rattle.std.proofs.Common.{Result, Some, rules}
use Rattle.read_frame.specs.Codes.{place_or_0}
use Rattle.read_frame.specs.declared.codes.Code.TheVariants.{Mtid, Motr}
use Rattle.read_frame.proofs.Words.{same_code}
use Rattle.base.proofs.Fill.{to_end}
use lib.ListN.{take, drop}
use Prim.Native.Nat.{ℕ, ◌-◌}
use mathlib.Core.Path.{◌≡◌, refl, sym, ap, subst, ◌∙◌}
use native.Mathlib.Omega.{arith}
use Rattle.read_frame.proofs.beginning.transfer_line.Goals as goal

pub next_at-second-requires : goal.next_at-second-requires
next_at-second-requires c =
    let g = beginning (model_at c.args.model.now) c.args.model.now c.requires in
    omega (arith, g.first_fits)

pub slice_bounds-named_line-count-in-Some-Mtid : goal.slice_bounds-named_line-count-in-Some-Mtid
slice_bounds-named_line-count-in-Some-Mtid c =
    let g = beginning (model_at c.args.model.now) c.args.model.now c.requires in
    omega (arith, g.three_bytes, c.next_at-second.ensures)

pub slice_bounds-named_line-start-in-Some-Mtid : goal.slice_bounds-named_line-start-in-Some-Mtid
slice_bounds-named_line-start-in-Some-Mtid c =
    let g = beginning (model_at c.args.model.now) c.args.model.now c.requires in
    omega (arith, g.three_bytes, c.next_at-second.ensures)

pub slice_bounds-named_line-end-in-Some-Mtid : goal.slice_bounds-named_line-end-in-Some-Mtid
slice_bounds-named_line-end-in-Some-Mtid c =
    let g = beginning (model_at c.args.model.now) c.args.model.now c.requires in
    omega (arith, g.first_fits, c.next_at-second.ensures)

pub returns-in-Some-Mtid : goal.returns-in-Some-Mtid
returns-in-Some-Mtid c =
    let g = beginning (model_at c.args.model.now) c.args.model.now c.requires in
    let a = c.args in
    let h = c.head_of-head in
    let same : h.result.code ≡ Some Mtid = search rules in
    let n = ap (λ (x : ℕ). take (x - 7) (drop 7 a.model.now)) c.next_at-second.ensures ∙ payload_part a.model.now 0 3 7 refl ∙ g.transfer in
    let k = rw (to_end a.line.now h.result.behind, n) at c.named_line.ensures in
    record {
      meant = (λ rooms text s x. transfer_named _ rooms text _ a.line.now h.result h.ensures _ x s (ap place_or_0 same) k);
      held = subst (λ (x : Result Due Refusal). NextDueHolds (model_at a.model.now) a.model.now x) (sym (k 0)) (named_holds _ nothing_read _ _ _ _ (λ rows n used points. tt));
    }

pub returns-in-Some-Motr-clause-meant : goal.returns-in-Some-Motr-clause-meant
returns-in-Some-Motr-clause-meant c =
    let a = c.args in
    let h = c.head_of-head in
    let same : h.result.code ≡ Some Motr = search rules in
    λ rooms text s x. transfer_motr _ rooms text a.model.now a.line.now h.result h.ensures (refused MotrForMtid 1) x s (ap place_or_0 same)

pub returns-in_default-clause-meant : goal.returns-in_default-clause-meant
returns-in_default-clause-meant c =
    let a = c.args in
    let h = c.head_of-head in
    λ rooms text s x. transfer_other _ rooms text a.model.now a.line.now h.result h.ensures (refused OtherCode 1) x s (λ q. let same = same_code h.result.code Mtid q in search rules) (λ q. let same = same_code h.result.code Motr q in search rules)

pub returns-in_default-2-clause-meant : goal.returns-in_default-2-clause-meant
returns-in_default-2-clause-meant c =
    let a = c.args in
    let h = c.head_of-head in
    λ rooms text s x. transfer_other _ rooms text a.model.now a.line.now h.result h.ensures (refused OtherCode 1) x s (λ q. let same = same_code h.result.code Mtid q in search rules) (λ q. let same = same_code h.result.code Motr q in search rules)
