-- What is used of text and marks by a file that is accepted. Assumes nothing.
use Prim.Native.Nat.{ℕ}
use mathlib.Core.Path.{◌≡◌, sym, subst}
use mathlib.Core.Bool.{◌||◌}
use mathlib.Core.List.{List}
use lib.Dec.{ltb}
use lib.ListN.{length}
use Rattle.meaning.specs.Unfold.{unfolded_text}
use Rattle.meaning.specs.Model.{Model, mark_count}
use Rattle.meaning.specs.Answer.{accepted}
use Rattle.meaning.specs.Reading.{Content, Rooms}
use Rattle.meaning.specs.Lines.{Run, ran, stopped}
use Rattle.meaning.specs.Table.{Resolved, resolved, unresolved, resolve, Result, refused_with, accepted_with, read_resolved, read_run, read_text, read}
use Rattle.meaning.specs.RightClaims.{Opened, HasRoom}
use Rattle.meaning.specs.RoomClaims.{UsedText, LinesSayWhatIsUsed}
use Rattle.meaning.proofs.Tests.Unequal.{not_accepted}
use Rattle.meaning.proofs.Tests.Refuse.{refuse_keeps, neither_less}
use Rattle.meaning.proofs.Reading.Claims.{cut_reads_as_lines}
use Rattle.meaning.proofs.Reading.Buffers.{Ran, lines_fit, behind_filled}

module _ (m : Model) (ls : List (List ℕ)) (rooms : Rooms) where
  -- where it is accepted, a result holds text and marks, and zeros behind them
  abbrev Uses : Result → Type 0
  Uses r = (objects cells points : ℕ) → r.answer ≡ accepted objects cells points → UsedText m ls rooms r

  refused_uses : (number first second : ℕ) → Uses (refused_with rooms number first second)
  unfolding refused_with
  refused_uses number first second objects cells points e = absurd (not_accepted number first second objects cells points e)

  resolved_uses : HasRoom m ls rooms → (c : Content) → length c.marks ≡ mark_count m → (r : Resolved) → Uses (read_resolved rooms (unfolded_text ls) c r)
  unfolding read_resolved accepted_with
  resolved_uses room c long (unresolved object field) = refused_uses 17 object field
  resolved_uses room c long (resolved cs) = λ objects cells points e. record {
    text_fits = room.text;
    marks_fit = room.marks;
    text = behind_filled 0 rooms.text (unfolded_text ls);
    marks = rw (← long) (behind_filled 0 rooms.marks c.marks);
  }

  run_uses : HasRoom m ls rooms → (r : Run) → Ran m rooms (unfolded_text ls) r → Uses (read_run m rooms (unfolded_text ls) r)
  unfolding read_run Ran
  run_uses room (stopped number line field) h = refused_uses number line field
  run_uses room (ran s) h = resolved_uses room s.content h.marks (resolve m (unfolded_text ls) s.content)

  text_uses : Uses (read_text m rooms ls)
  unfolding read_text
  text_uses = refuse_keeps Uses (ltb rooms.text (length (unfolded_text ls)) || ltb rooms.marks (mark_count m)) _ _ (refused_uses 6 0 0) (λ e.
      let h = (neither_less rooms.text (length (unfolded_text ls)) rooms.marks (mark_count m)).0 e in
      run_uses (record { text = h.0; marks = h.1 }) _ (lines_fit m rooms (unfolded_text ls) ls))

-- a file that is opened is read as its lines
read_text_lem : (model file : List ℕ) (m : Model) (ls : List (List ℕ)) (rooms : Rooms) → Opened model file m ls → read model file rooms ≡ read_text m rooms ls
read_text_lem model file m ls rooms o = cut_reads_as_lines model m ls file rooms o.is_good o.short o.cut

pub lines_say_what_is_used : LinesSayWhatIsUsed
lines_say_what_is_used model file m ls rooms objects cells points o =
    subst (λ (r : Result). Uses m ls rooms r) (sym (read_text_lem model file m ls rooms o)) (text_uses m ls rooms) objects cells points
