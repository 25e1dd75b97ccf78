-- Lines that may follow one another to the end are right, references aside, and the other way round. Assumes nothing.
use Prim.Native.Nat.{ℕ}
use native.Mathlib.Omega.{arith}
use mathlib.Core.Path.{◌≡◌, refl, sym, ap, ◌∙◌}
use mathlib.Core.List.{List, [], ◌∷◌}
use lib.ListN.{length}
use Rattle.meaning.specs.Unfold.{unfolded_text}
use Rattle.meaning.specs.Model.{Model}
use Rattle.meaning.specs.Check.{GoodModel}
use Rattle.meaning.specs.Reading.{Due, opening, nothing, is_complete, Content, nothing_read, start_of, Rooms, objects_of}
use Rattle.meaning.specs.Lines.{go}
use Rattle.meaning.specs.Right.{Delivered, DeliveredTopic, objects_of_topics, with_starts, File, names_of, points_of, cells_of_points, table_of}
use Rattle.meaning.specs.Reasons.{end, Reached}
use Rattle.meaning.specs.RightClaims.{identifications_of, Complete}
use Rattle.meaning.proofs.Reading.References.{flat_rows, row_starts}
use Rattle.meaning.proofs.Right.Steps.{steps, run_steps}
use Rattle.meaning.proofs.Right.Content.{rows_from, content_of, cells_length, objects_names}
use Rattle.meaning.proofs.Right.Objects.{LinesStand, lines_stand, read_names}
use Rattle.meaning.proofs.Right.Topics.{file_read}
use Rattle.meaning.proofs.Right.Table.{lines_read}
use Rattle.meaning.proofs.Right.BackTopics.{FileOf, file_of_lem}
use Rattle.meaning.proofs.Right.Accepted.{no_marks}
use Rattle.meaning.proofs.Right.Places.{identifications_in, UsedIn}
use Rattle.meaning.proofs.Right.Come.{lines_come, LeadTo, reached_lead}
use Rattle.meaning.proofs.Right.Behind.{at_end_lem, due_nothing}

-- ## What a content says of what it is the table of

names_identifications : (os : List Delivered) → identifications_in (names_of os) ≡ identifications_of os
unfolding identifications_in identifications_of names_of
names_identifications [] = refl
names_identifications (o ∷ os) = rw (names_identifications os)

-- the counts are the table's
cell_count_lem : (m : Model) (ds : List DeliveredTopic) → length (content_of [] (objects_of_topics ds)).cells ≡ length (table_of m ds).cells
unfolding table_of
cell_count_lem m ds = cells_length (names_of (objects_of_topics ds)) 0 (objects_of_topics ds)

point_cells_lem : (m : Model) (ds : List DeliveredTopic) → length (content_of [] (objects_of_topics ds)).points ≡ length (table_of m ds).points
unfolding table_of
point_cells_lem m ds = refl

module _ (m : Model) (ls : List (List ℕ)) where
  abbrev own : List ℕ
  own = unfolded_text ls

  stand : LinesStand own (with_starts 0 ls)
  stand = lines_stand own 0 ls refl

  -- the identifications of the objects are used, and no others
  used_in : (ds : List DeliveredTopic) → File m (with_starts 0 ls) ds → UsedIn own (content_of [] (objects_of_topics ds)) (identifications_of (objects_of_topics ds))
  used_in ds structure =
      let os : List Delivered = objects_of_topics ds in
      ap identifications_in (objects_names own [] os (read_names m own os (file_read m own structure stand))) ∙ names_identifications os

  module _ (good : GoodModel m) (used : List (List ℕ)) (cells points : ℕ) where
    -- ## To the end

    -- with room for all of it
    abbrev rooms : Rooms
    rooms = record { text = 0; marks = 0; rows = length used; cells = cells; points = points }

    complete_of : (k : LeadTo m rooms own (with_starts 0 ls) end used cells points) → FileOf m rooms own k.content (no_marks m) (with_starts 0 ls) → Complete m ls used cells points
    complete_of k f =
        let s = f.structure in
        record {
          delivered = f.ds;
          file = s;
          unique = f.unique;
          identifications = sym (used_in f.ds s) ∙ (ap (λ (c : Content). identifications_in (objects_of own c.cells c.rows)) f.same ∙ k.stands.names);
          cell_count = sym (cell_count_lem m f.ds) ∙ (ap (λ (c : Content). length c.cells) f.same ∙ k.cell_count);
          point_cells = sym (point_cells_lem m f.ds) ∙ (ap (λ (c : Content). length c.points) f.same ∙ k.point_cells);
        }

    pub reached_complete : Reached m (with_starts 0 ls) end used cells points → Complete m ls used cells points
    unfolding nothing_read rows_from flat_rows row_starts points_of cells_of_points
    reached_complete r =
        let k = reached_lead m rooms own good r stand (record { for_rows = omega arith; for_cells = omega arith; for_points = omega arith }) in
        complete_of k (file_of_lem m rooms own k.content (no_marks m) (with_starts 0 ls) stand (k.goes ∙ ap (λ (d : Due). go d k.content) (due_nothing k.stands.at refl)))

    -- ## And back

    rooms_for : List Delivered → Rooms
    rooms_for os = record { text = 0; marks = 0; rows = length os; cells = length (flat_rows (rows_from 0 os)); points = length (cells_of_points (points_of os)) }

    pub complete_reached : Complete m ls used cells points → Reached m (with_starts 0 ls) end used cells points
    unfolding rooms_for start_of is_complete
    complete_reached k =
        let os : List Delivered = objects_of_topics k.delivered in
        let marks : List ℕ = (table_of m k.delivered).marks in
        let q : Rooms = rooms_for os in
        let to = lines_read m good q ls k.delivered k.file k.unique (record { rows = omega arith; cells = omega arith; points = omega arith }) in
        let goes : steps m q own opening (nothing_read m) (with_starts 0 ls) ≡ go nothing (content_of marks os) = rw (to.due, to.content) at (run_steps m q own ls (start_of m) to.final to.runs) in
        let come = lines_come m q own (with_starts 0 ls) stand nothing (content_of marks os) goes in
        let place : come.place ≡ end = at_end_lem come.stands.at refl in
        let names : come.used ≡ used = sym come.stands.names ∙ (used_in k.delivered k.file ∙ k.identifications) in
        let cells-e : length (content_of marks os).cells ≡ cells = cell_count_lem m k.delivered ∙ k.cell_count in
        let points-e : length (content_of marks os).points ≡ points = point_cells_lem m k.delivered ∙ k.point_cells in
        rw (place, names, cells-e, points-e) at come.reached
