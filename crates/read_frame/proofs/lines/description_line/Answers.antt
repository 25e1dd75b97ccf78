-- `read_frame::description_line` meets its contract. Assumes nothing.
use mathlib.Core.Bool.{true, false}
use Rattle.meaning.specs.Bytes.{choose, prefix}
use Rattle.read_frame.proofs.Moves.{alone_moved, alone_holds, nothing_read}
use Rattle.read_frame.specs.Moves.{NextDueHolds}
use Rattle.read_state.specs.Meaning.{frame_due_of, due_of, next_due_of}
use Rattle.base.specs.declared.reasons.Refusal.{Refusal}
use Rattle.read_state.specs.declared.Due.{Due}
use Rattle.std.proofs.Common.{Result}
use Rattle.meaning.specs.Field.{fields_of, slashes}
use Rattle.meaning.specs.Lines.{description_line}
use mathlib.Core.Path.{◌≡◌, refl, sym, ap, subst, ◌∙◌}
use Rattle.read_frame.proofs.lines.description_line.Goals as goal

pub returns-then-begins_with : goal.returns-then-begins_with
unfolding description_line frame_due_of due_of choose
returns-then-begins_with c =
    let l = c.args.line.now in
    let e = c.alone_line.ensures in
    let p : prefix slashes l ≡ true = sym c.begins_with.ensures ∙ c.if-begins_with.true in
    record {
      meant = (λ m rooms text b s k. ap (λ (x : Result Due Refusal). next_due_of b x k) (e s 1 refl) ∙ alone_moved b k slashes (fields_of s l) _ ∙ rw p);
      held = (λ m b. subst (λ (x : Result Due Refusal). NextDueHolds m b x) (sym (e 0 1 refl)) (alone_holds b nothing_read slashes (fields_of 0 l) _ m (λ rows n used points. tt)));
    }

pub returns-else-begins_with : goal.returns-else-begins_with
unfolding description_line frame_due_of due_of choose
returns-else-begins_with c =
    let l = c.args.line.now in
    let p : prefix slashes l ≡ false = sym c.begins_with.ensures ∙ c.if-begins_with.false in
    record {
      meant = (λ m rooms text b s k. rw p);
      held = (λ m b rows n used points. tt);
    }
