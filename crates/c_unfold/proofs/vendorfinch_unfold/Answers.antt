-- `c_unfold::vendorfinch_unfold` meets its contract. Assumes nothing.
use Prim.Native.Nat.{ℕ}
use mathlib.Core.Path.{sym, ap, ◌∙◌}
use lib.ListN.{length}
use Rattle.meaning.specs.Unfold.{unfold_file}
use Rattle.meaning.specs.Answer.{TextResult, text_unfolded, code_for_c}
use Rattle.model_check.specs.Walk.{checked_meant}
use Rattle.std.proofs.Common.{Result}
use Rattle.model_check.specs.declared.check.BadRecord.{BadRecord}
use Rattle.model_check.proofs.Found.{found_good, found_bad}
use Rattle.c_unfold.proofs.Codes.{check_small, too_long, under_bad, under_good}
use Rattle.c_unfold.proofs.vendorfinch_unfold.Goals as goal

pub returns-then-file-gt16777216 : goal.returns-then-file-gt16777216
unfolding code_for_c checked_meant
returns-then-file-gt16777216 c =
    let a = c.args in
    let e = too_long a.model.now a.file.now (length a.text.now) c.if-file-gt16777216.true in
    record {
      code = rw e;
      room = c.fill.ensures.after (λ _ h. h) ∙ sym (ap (λ (r : TextResult). r.text) e);
    }

pub code_of_check-requires : goal.code_of_check-requires
code_of_check-requires c = rw c.check-checked.ensures (check_small c.args.model.now)

pub mark_of-requires : goal.mark_of-requires
unfolding code_for_c checked_meant
mark_of-requires c =
    found_good c.args.model.now _ (sym (ap checked_meant c.in-Ok.is) ∙ c.check-checked.ensures)

pub returns-in-Err : goal.returns-in-Err
unfolding code_for_c checked_meant
returns-in-Err c =
    let a = c.args in
    let t = c.in-Err.is in
    let b = found_bad a.model.now _ (sym (ap checked_meant t) ∙ c.check-checked.ensures) in
    let e = under_bad a.model.now a.file.now (length a.text.now) c.if-file-gt16777216.false _ b in
    record {
      code = c.code_of_check.ensures ∙ ap (λ (x : Result ℕ BadRecord). code_for_c (checked_meant x)) t ∙ sym (ap (λ (r : TextResult). code_for_c r.answer) e);
      room = c.fill-in-Err.ensures.after (λ _ h. h) ∙ sym (ap (λ (r : TextResult). r.text) e);
    }

pub returns-in-Ok : goal.returns-in-Ok
unfolding code_for_c checked_meant
returns-in-Ok c =
    let a = c.args in
    let b = found_good a.model.now _ (sym (ap checked_meant c.in-Ok.is) ∙ c.check-checked.ensures) in
    let e = under_good a.model.now a.file.now (length a.text.now) c.if-file-gt16777216.false _ b in
    let m = ap (λ (k : ℕ). text_unfolded (length a.text.now) (unfold_file k a.file.now)) c.mark_of.ensures in
    let u = c.unfold_with in
    record {
      code = c.code_of_text.ensures ∙ ap code_for_c u.ensures.answer ∙ ap (λ (r : TextResult). code_for_c r.answer) (m ∙ sym e);
      room = u.ensures.room ∙ ap (λ (r : TextResult). r.text) (m ∙ sym e);
    }
