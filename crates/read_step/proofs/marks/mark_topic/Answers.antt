-- `read_step::mark_topic` meets its contract. Assumes nothing.
use Prim.Native.Nat.{ℕ}
use native.Mathlib.Nat.{zero-add}
use mathlib.Core.Path.{◌≡◌, refl, ap}
use Rattle.meaning.specs.Reading.{Content}
use Rattle.read_state.specs.Meaning.{topic_marked_by}
use Rattle.read_state.specs.declared.FrameDue.{FrameDue}
use Rattle.read_state.specs.declared.FrameDue.TheVariants as frame
use Rattle.read_step.proofs.marks.mark_topic.Goals as goal

-- no other line adds a mark
unmarked : (due : FrameDue) (c : Content) → ((topic from : ℕ) → due ≡ frame.Table topic from → ⊥) → c ≡ topic_marked_by due c
unfolding topic_marked_by
unmarked frame.Opening c other = refl
unmarked frame.Description c other = refl
unmarked frame.Transfer c other = refl
unmarked frame.ModelName c other = refl
unmarked (frame.Topic from) c other = refl
unmarked (frame.Table topic from) c other = absurd (other topic from refl)
unmarked frame.Closing c other = refl
unmarked frame.Nothing c other = refl

pub returns-in-Table : goal.returns-in-Table
unfolding topic_marked_by
returns-in-Table c = rw c.in-Table.is (rw (zero-add c.in-Table.topic) at c.put_mark.ensures)

pub returns-in_default : goal.returns-in_default
returns-in_default c = ap (λ (x : Content). x.marks) (unmarked c.args.due _ c.in_default.not-Table)
