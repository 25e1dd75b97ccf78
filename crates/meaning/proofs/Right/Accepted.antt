-- Lines that were read are right; and lines that are right are read, or there is no room. Assumes nothing.
use Prim.Native.Nat.{ℕ, ◌+◌}
use native.Mathlib.Omega.{arith}
use mathlib.Core.Path.{◌≡◌, refl, sym, ap, ap₂, subst, ◌∙◌}
use mathlib.Core.Bool.{Bool, true, false, ◌||◌}
use mathlib.Core.List.{List}
use lib.Dec.{ltb}
use lib.IntN.{ℤ}
use lib.ListN.{length, replicate}
use borrow.Author.Tests.{ltb-false}
use Rattle.meaning.specs.Bytes.{refuse}
use Rattle.meaning.specs.Unfold.{unfolded_text}
use Rattle.meaning.specs.Model.{Model}
use Rattle.meaning.specs.Check.{GoodModel}
use Rattle.meaning.specs.Answer.{accepted}
use Rattle.meaning.specs.Reading.{Due, nothing, Content, State, nothing_read, start_of, Rooms}
use Rattle.meaning.specs.Lines.{go, Run, ran, stopped, run, read_lines}
use Rattle.meaning.specs.Table.{Resolved, resolved, unresolved, resolve, refused_with, read_resolved, read_run, read_text}
use Rattle.meaning.specs.WritingClaims.{Enough, resolved_table}
use Rattle.meaning.specs.Right.{Delivered, DeliveredTopic, objects_of_topics, with_starts, File, Unique, Right, names_of, points_of, cells_of_points, table_of}
use Rattle.meaning.specs.RightClaims.{RightWithin, IsAccepted, HasRoom}
use Rattle.meaning.proofs.Tests.Unequal.{no_resolved, not_accepted}
use Rattle.meaning.proofs.Tests.Refuse.{neither}
use Rattle.meaning.proofs.Reading.Rooms.{Wider}
use Rattle.meaning.proofs.Reading.References.{flat_rows, row_starts}
use Rattle.meaning.proofs.Reading.Buffers.{Fits, Ran, lines_fit}
use Rattle.meaning.proofs.Reading.LinesRead.{read_to}
use Rattle.meaning.proofs.Writing.Writable.{read_to_end}
use Rattle.meaning.proofs.Right.Steps.{RanTo, run_steps}
use Rattle.meaning.proofs.Right.Content.{rows_from, content_of, starts_list, cells_length}
use Rattle.meaning.proofs.Right.Objects.{lines_stand, RoomFor}
use Rattle.meaning.proofs.Right.Topics.{file_read}
use Rattle.meaning.proofs.Right.Table.{References, all_named, first_unnamed, references_of, lines_read, resolved_is}
use Rattle.meaning.proofs.Right.Rooms.{RunAlike, runs_same, runs_full, run_alike}
use Rattle.meaning.proofs.Right.BackTopics.{FileOf, file_of_lem}

-- ## Lines that were read are right

abbrev pub no_marks : Model → List ℕ
no_marks m = replicate (length m.topics + length m.tables) 0

module _ (m : Model) (rooms : Rooms) (ls : List (List ℕ)) where
  abbrev pub own : List ℕ
  own = unfolded_text ls

  pub lines_right : (s : State) → read_lines m rooms own (start_of m) ls ≡ ran s → FileOf m rooms own s.content (no_marks m) (with_starts 0 ls)
  unfolding start_of nothing_read rows_from flat_rows row_starts points_of cells_of_points
  lines_right s e =
      let to = read_to m rooms own (start_of m) ls s e in
      file_of_lem m rooms own s.content (no_marks m) (with_starts 0 ls) (lines_stand own 0 ls refl)
      (run_steps m rooms own ls (start_of m) s to.runs ∙ ap (λ (d : Due). go d s.content) to.complete)

  fits_of : (s : State) → read_lines m rooms own (start_of m) ls ≡ ran s → Fits m rooms s.content
  unfolding Ran
  fits_of s e = subst (λ (r : Run). Ran m rooms own r) e (lines_fit m rooms own ls)

  pub enough_of : HasRoom m ls rooms → (s : State) → read_lines m rooms own (start_of m) ls ≡ ran s → (f : FileOf m rooms own s.content (no_marks m) (with_starts 0 ls)) → Enough m ls (table_of m f.ds) rooms
  unfolding table_of
  enough_of room s e f =
      let os : List Delivered = objects_of_topics f.ds in
      let fit = subst (λ (c : Content). Fits m rooms c) (sym f.same) (fits_of s e) in
      record {
        text = room.text;
        marks = room.marks;
        rows = rw (← starts_list 0 0 os) fit.rows;
        cells = rw (← cells_length (names_of os) 0 os) fit.cells;
        points = fit.points;
      }

  -- all references of lines that were read
  pub references_read : (s : State) → (f : FileOf m rooms own s.content (no_marks m) (with_starts 0 ls)) → References m own (table_of m f.ds).marks (objects_of_topics f.ds)
  references_read s f = references_of m own (table_of m f.ds).marks (objects_of_topics f.ds) (file_read m own f.structure (lines_stand own 0 ls refl))

  pub content_is : (s : State) → (f : FileOf m rooms own s.content (no_marks m) (with_starts 0 ls)) → content_of (table_of m f.ds).marks (objects_of_topics f.ds) ≡ s.content
  unfolding table_of
  content_is s f = f.same

  -- lines that were read and whose references were resolved are right, and what they gave is the table of what they deliver
  pub record RightRead (s : State) (cs : List ℤ) : Type 0 where
    pub file : FileOf m rooms own s.content (no_marks m) (with_starts 0 ls)
    pub right : Right m ls file.ds
    pub table : resolved_table s.content cs ≡ table_of m file.ds

  pub right_read : (s : State) (cs : List ℤ) → read_lines m rooms own (start_of m) ls ≡ ran s → resolve m own s.content ≡ resolved cs → RightRead s cs
  unfolding table_of
  right_read s cs e q = by (lines_right s e)
    where
      made : (f : FileOf m rooms own s.content (no_marks m) (with_starts 0 ls)) → References m own (table_of m f.ds).marks (objects_of_topics f.ds) → RightRead s cs
      made f (first_unnamed a b n h) = absurd (no_resolved a b cs (sym h ∙ (ap (λ (c : Content). resolve m own c) (content_is s f) ∙ q)))
      made f (all_named r h) =
          let given : resolved (table_of m f.ds).cells ≡ resolved cs = sym h ∙ (ap (λ (c : Content). resolve m own c) (content_is s f) ∙ q) in
          let cells : (table_of m f.ds).cells ≡ cs = cc in
          record {
            file = f;
            right = record { file = f.structure; unique = f.unique; references = r };
            table = ap₂ (λ (c : Content) (xs : List ℤ). resolved_table c xs) (sym (content_is s f)) (sym cells) ∙ resolved_is m f.ds;
          }

      by : (f : FileOf m rooms own s.content (no_marks m) (with_starts 0 ls)) → RightRead s cs
      by f = made f (references_read s f)

  resolved_right : HasRoom m ls rooms → (s : State) (cs : List ℤ) → read_lines m rooms own (start_of m) ls ≡ ran s → resolve m own s.content ≡ resolved cs → RightWithin m ls rooms
  resolved_right room s cs e q = let r = right_read s cs e q in record { delivered = r.file.ds; right = r.right; enough = enough_of room s e r.file }

  has_room : (ltb rooms.text (length own) || ltb rooms.marks (length m.topics + length m.tables)) ≡ false → HasRoom m ls rooms
  has_room e =
      let n = neither (ltb rooms.text (length own)) _ e in
      record { text = ltb-false rooms.text (length own) n.0; marks = ltb-false rooms.marks (length m.topics + length m.tables) n.1 }

  pub read_is_right : IsAccepted (read_text m rooms ls).answer → RightWithin m ls rooms
  unfolding read_text refuse refused_with read_run read_resolved
  read_is_right a = text_by (ltb rooms.text (length own) || ltb rooms.marks (length m.topics + length m.tables)) refl a.is
    where
      resolved_by : HasRoom m ls rooms → (s : State) → read_lines m rooms own (start_of m) ls ≡ ran s → (r : Resolved) → resolve m own s.content ≡ r
          → (read_resolved rooms own s.content r).answer ≡ accepted a.first a.second a.third → RightWithin m ls rooms
      resolved_by room s e (unresolved object field) q h = absurd (not_accepted 17 object field a.first a.second a.third h)
      resolved_by room s e (resolved cs) q h = resolved_right room s cs e q

      run_by : HasRoom m ls rooms → (r : Run) → read_lines m rooms own (start_of m) ls ≡ r → (read_run m rooms own r).answer ≡ accepted a.first a.second a.third → RightWithin m ls rooms
      run_by room (stopped number line field) e h = absurd (not_accepted number line field a.first a.second a.third h)
      run_by room (ran s) e h = resolved_by room s e _ refl h

      text_by : (t : Bool) → (ltb rooms.text (length own) || ltb rooms.marks (length m.topics + length m.tables)) ≡ t
          → (refuse t (refused_with rooms 6 0 0) (read_run m rooms own (read_lines m rooms own (start_of m) ls))).answer ≡ accepted a.first a.second a.third → RightWithin m ls rooms
      text_by true e h = absurd (not_accepted 6 0 0 a.first a.second a.third h)
      text_by false e h = run_by (has_room e) _ refl h

  -- ## Lines that are right are read, or there is no room

  pub data ReadOrFull (ds : List DeliveredTopic) : Type 0 where
    read_all : (s : State) → read_lines m rooms own (start_of m) ls ≡ ran s → s.content ≡ content_of (table_of m ds).marks (objects_of_topics ds) → ReadOrFull ds
    too_full : (line : ℕ) → read_lines m rooms own (start_of m) ls ≡ stopped 16 line 0 → ReadOrFull ds

  full_lines : (line : ℕ) → run m rooms own (start_of m) ls ≡ stopped 16 line 0 → read_lines m rooms own (start_of m) ls ≡ stopped 16 line 0
  unfolding read_lines
  full_lines line e = rw e

  pub read_or_full : GoodModel m → (ds : List DeliveredTopic) → File m (with_starts 0 ls) ds → Unique (objects_of_topics ds) → ReadOrFull ds
  read_or_full good ds structure unique = by (run_alike m rooms q own wide ls (start_of m)) (lines_read m good q ls ds structure unique space)
    where
      -- wider rooms, with space for all objects
      q : Rooms
      q = record {
        text = 0;
        marks = 0;
        rows = rooms.rows + length (objects_of_topics ds);
        cells = rooms.cells + length (flat_rows (rows_from 0 (objects_of_topics ds)));
        points = rooms.points + length (cells_of_points (points_of (objects_of_topics ds)));
      }

      wide : Wider rooms q
      wide = record { rows = omega arith; cells = omega arith; points = omega arith }

      space : RoomFor q (objects_of_topics ds)
      space = record { rows = omega arith; cells = omega arith; points = omega arith }

      by : RunAlike m rooms q own wide (start_of m) ls → RanTo m q own (start_of m) ls nothing (content_of (table_of m ds).marks (objects_of_topics ds)) → ReadOrFull ds
      by (runs_same e) r = read_all r.final (read_to_end m rooms own (start_of m) r.final ls (e ∙ r.runs) r.due) r.content
      by (runs_full line e) r = too_full line (full_lines line e)
