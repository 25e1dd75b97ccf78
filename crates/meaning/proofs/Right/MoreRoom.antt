-- More room gives the same answer, unless it was one for want of room. Assumes nothing.
use Prim.Native.Nat.{ℕ}
use native.Mathlib.Omega.{arith}
use mathlib.Core.Path.{◌≡◌, refl}
use mathlib.Core.Bool.{Bool, true, false, ◌||◌}
use mathlib.Core.List.{List}
use lib.Dec.{ltb}
use lib.ListN.{length}
use Rattle.meaning.specs.Bytes.{refuse}
use Rattle.meaning.specs.Unfold.{Unfolded, lines, fault, unfold_file, unfolded_text}
use Rattle.meaning.specs.Model.{Model, mark_count}
use Rattle.meaning.specs.Check.{Checked, good, bad, check_model}
use Rattle.meaning.specs.Answer.{too_long}
use Rattle.meaning.specs.Reading.{Content, start_of, Rooms}
use Rattle.meaning.specs.Lines.{Run, ran, stopped, read_lines}
use Rattle.meaning.specs.Table.{Resolved, resolved, unresolved, Result, refused_with, accepted_with, read_resolved, read_run, read_text, read_unfolded, read_checked, read}
use Rattle.meaning.specs.RoomClaims.{NoLess, HadRoom, MoreRoomSameAnswer}
use Rattle.meaning.proofs.Tests.Refuse.{neither_less}
use Rattle.meaning.proofs.Reading.Rooms.{Wider}
use Rattle.meaning.proofs.Right.Rooms.{RunAlike, runs_same, runs_full, run_alike}

-- ## More room

module _ (rooms rooms' : Rooms) (more : NoLess rooms rooms') where
  -- in more room the answer is the same, unless it was one for want of room
  abbrev SameAnswer : Result → Result → Type 0
  SameAnswer r r' = HadRoom r.answer → r'.answer ≡ r.answer

  same_refusal : (number first second : ℕ) → SameAnswer (refused_with rooms number first second) (refused_with rooms' number first second)
  unfolding refused_with
  same_refusal number first second had = refl

  module _ (m : Model) where
    -- the answer says nothing of the rooms
    resolved_answer : (text : List ℕ) (c : Content) (r : Resolved) → (read_resolved rooms' text c r).answer ≡ (read_resolved rooms text c r).answer
    unfolding read_resolved accepted_with refused_with
    resolved_answer text c (resolved cs) = refl
    resolved_answer text c (unresolved object field) = refl

    run_answer : (text : List ℕ) (r : Run) → (read_run m rooms' text r).answer ≡ (read_run m rooms text r).answer
    unfolding read_run refused_with
    run_answer text (stopped number line field) = refl
    run_answer text (ran s) = resolved_answer text s.content _

    -- what lines that have room for text and marks are read to
    abbrev outcome : Rooms → List (List ℕ) → Result
    outcome r ls = read_run m r (unfolded_text ls) (read_lines m r (unfolded_text ls) (start_of m) ls)

    lines_answer : (ls : List (List ℕ)) → SameAnswer (outcome rooms ls) (outcome rooms' ls)
    unfolding read_lines read_run refused_with
    lines_answer ls had = by (run_alike m rooms rooms' (unfolded_text ls) wide ls (start_of m))
      where
        wide : Wider rooms rooms'
        wide = record { rows = more.rows; cells = more.cells; points = more.points }

        by : RunAlike m rooms rooms' (unfolded_text ls) wide (start_of m) ls → (outcome rooms' ls).answer ≡ (outcome rooms ls).answer
        by (runs_same e) = rw e (run_answer (unfolded_text ls) (read_lines m rooms' (unfolded_text ls) (start_of m) ls))
        by (runs_full line e) = absurd ((had line 0).1 (rw e))

    -- is there too little room for text or marks?
    abbrev crowded : Rooms → List (List ℕ) → Bool
    crowded r ls = ltb r.text (length (unfolded_text ls)) || ltb r.marks (mark_count m)

    -- where there was room for text and marks, there still is
    still_room : (ls : List (List ℕ)) → crowded rooms ls ≡ false → crowded rooms' ls ≡ false
    still_room ls e =
        let h = (neither_less rooms.text (length (unfolded_text ls)) rooms.marks (mark_count m)).0 e in
        (neither_less rooms'.text (length (unfolded_text ls)) rooms'.marks (mark_count m)).1 (omega (arith, more.text, h.0), omega (arith, more.marks, h.1))

    text_answer : (ls : List (List ℕ)) → SameAnswer (read_text m rooms ls) (read_text m rooms' ls)
    unfolding read_text refuse refused_with
    text_answer ls = by (crowded rooms ls) refl
      where
        by : (x : Bool) → crowded rooms ls ≡ x → HadRoom (refuse x (refused_with rooms 6 0 0) (outcome rooms ls)).answer
            → (read_text m rooms' ls).answer ≡ (refuse x (refused_with rooms 6 0 0) (outcome rooms ls)).answer
        by true e had = absurd ((had 0 0).0 refl)
        by false e had = rw (still_room ls e) (lines_answer ls had)

    unfolded_answer : (u : Unfolded) → SameAnswer (read_unfolded m rooms u) (read_unfolded m rooms' u)
    unfolding read_unfolded
    unfolded_answer (fault number line) = same_refusal number line 0
    unfolded_answer (lines ls) = text_answer ls

  checked_answer : (file : List ℕ) (c : Checked) → SameAnswer (read_checked file rooms c) (read_checked file rooms' c)
  unfolding read_checked
  checked_answer file (bad at) = same_refusal 2 at 0
  checked_answer file (good m) = unfolded_answer m (unfold_file m.mark file)

  read_answer : (model file : List ℕ) → SameAnswer (read model file rooms) (read model file rooms')
  unfolding read refuse
  read_answer model file = by (too_long file)
    where
      by : (x : Bool) → SameAnswer (refuse x (refused_with rooms 1 0 0) (read_checked file rooms (check_model model))) (refuse x (refused_with rooms' 1 0 0) (read_checked file rooms' (check_model model)))
      by true = same_refusal 1 0 0
      by false = checked_answer file (check_model model)

pub more_room_same_answer : MoreRoomSameAnswer
more_room_same_answer model file rooms rooms' more = read_answer rooms rooms' more model file
