-- `read_frame::closing_line` meets its contract. Assumes nothing.
use Rattle.read_frame.proofs.Moves.{alone_moved, alone_holds, nothing_read}
use Rattle.read_frame.specs.Moves.{NextDueHolds}
use Rattle.read_state.specs.Meaning.{frame_due_of, due_of, next_due_of}
use Rattle.base.specs.declared.reasons.Refusal.{Refusal}
use Rattle.read_state.specs.declared.Due.{Due}
use Rattle.std.proofs.Common.{Result}
use Rattle.meaning.specs.Field.{fields_of, ENDE}
use Rattle.meaning.specs.Lines.{closing_line}
use mathlib.Core.Path.{refl, sym, ap, subst, ◌∙◌}
use Rattle.read_frame.proofs.lines.closing_line.Goals as goal

pub returns : goal.returns
unfolding closing_line frame_due_of due_of
returns c =
    let l = c.args.line.now in
    let e = c.alone_line.ensures in
    record {
      meant = (λ m rooms text b s k. ap (λ (x : Result Due Refusal). next_due_of b x k) (e s 15 refl) ∙ alone_moved b k ENDE (fields_of s l) _);
      held = (λ m b. subst (λ (x : Result Due Refusal). NextDueHolds m b x) (sym (e 0 15 refl)) (alone_holds b nothing_read ENDE (fields_of 0 l) _ m (λ rows n used points. tt)));
    }
