-- Lines that are right are read as their table. Assumes nothing.
use Prim.Native.Nat.{ℕ, ◌+◌, ◌≤◌}
use native.Mathlib.Omega.{arith}
use mathlib.Core.Path.{◌≡◌, refl, sym, ap, ◌∙◌}
use mathlib.Core.Bool.{false, ◌||◌}
use mathlib.Core.List.{List, [], ◌∷◌, ◌++◌, append_assoc}
use lib.Dec.{ltb}
use lib.IntN.{ℤ}
use lib.ListN.{length, replicate, length-append}
use borrow.Author.Tests.{le-ltb}
use Rattle.meaning.specs.Bytes.{refuse}
use Rattle.meaning.specs.Unfold.{unfolded_text}
use Rattle.meaning.specs.Model.{Model, table_at}
use Rattle.meaning.specs.Check.{GoodModel}
use Rattle.meaning.specs.Row.{Pair, pairs_of}
use Rattle.meaning.specs.Reading.{nothing, Content, State, nothing_read, start_of, Rooms, objects_of}
use Rattle.meaning.specs.Lines.{ran, read_lines}
use Rattle.meaning.specs.Table.{Resolved, resolved, unresolved, after_resolved, resolve_pairs, resolve_rows, resolve, accepted_with, read_resolved, read_run, read_text}
use Rattle.meaning.specs.WritingClaims.{Enough, resolved_table}
use Rattle.meaning.specs.Right.{Entry, Delivered, DeliveredTopic, objects_of_topics, with_starts, File, Unique, AllNamed, Referred, Right, names_of, entry_cells, entry_points, points_of, cells_of_points, rows_cells, table_of}
use Rattle.meaning.specs.RightClaims.{FirstOfEntries, FirstOfObjects}
use Rattle.meaning.specs.RightClaims as claims
use Rattle.meaning.proofs.Reading.References.{row_cells, flat_rows, row_starts, table_at_lem}
use Rattle.meaning.proofs.Writing.Writable.{read_to_end}
use Rattle.meaning.proofs.Right.Steps.{RanTo, steps_run}
use Rattle.meaning.proofs.Right.Content.{late_cells, late_length, entry_length, row_for, rows_from, content_of, head_of, objects_names, starts_list, cells_length}
use Rattle.meaning.proofs.Right.Objects.{lines_stand, RoomFor, starts_length, AllRead, read_names}
use Rattle.meaning.proofs.Right.Topics.{file_read, file_run}
use Rattle.meaning.proofs.Right.References.{Outcome, settled, broken, entries_outcome}

-- ## References of all objects

module _ (m : Model) (own : List ℕ) (all : List Delivered) where
  pub data RowsOutcome (os : List Delivered) (object k : ℕ) (front : List ℤ) : Type 0 where
    all_settled : Referred all os → resolve_rows own (names_of all) m.tables object (row_starts (length front) (rows_from k os)) (front ++ flat_rows (rows_from k os)) ≡ resolved (front ++ rows_cells (names_of all) k os)
        → RowsOutcome os object k front
    one_broken : (a b : ℕ) → FirstOfObjects m all object os a b
        → resolve_rows own (names_of all) m.tables object (row_starts (length front) (rows_from k os)) (front ++ flat_rows (rows_from k os)) ≡ unresolved a b → RowsOutcome os object k front

  rows_outcome : (os : List Delivered) → AllRead m own os → (object k : ℕ) (front : List ℤ) → RowsOutcome os object k front
  unfolding resolve_rows row_starts rows_from flat_rows rows_cells
  rows_outcome [] h object k front = all_settled tt refl
  rows_outcome (o ∷ os) h object k front =
      let k' : ℕ = k + length (entry_points o.entries) in
      by (entries_outcome own all h.0.entries h.0.fields_stand object 3 k (front ++ head_of o) (flat_rows (rows_from k' os))) (λ front'. rows_outcome os h.1 (object + 1) k' front')
    where
      whole : front ++ (row_cells (row_for k o) ++ flat_rows (rows_from (k + length (entry_points o.entries)) os))
          ≡ (front ++ head_of o) ++ (late_cells k o.entries ++ flat_rows (rows_from (k + length (entry_points o.entries)) os))
      whole = sym (append_assoc front (head_of o) (late_cells k o.entries ++ flat_rows (rows_from (k + length (entry_points o.entries)) os)))

      at : length (front ++ head_of o) ≡ length front + 3
      at = length-append front (head_of o)

      -- the row, once its table is known
      opened : (r : Resolved) → resolve_pairs own (names_of all) object 3 (length (front ++ head_of o)) (pairs_of (table_at m.tables o.table).attributes)
          ((front ++ head_of o) ++ (late_cells k o.entries ++ flat_rows (rows_from (k + length (entry_points o.entries)) os))) ≡ r
          → resolve_rows own (names_of all) m.tables object (row_starts (length front) (rows_from k (o ∷ os))) (front ++ flat_rows (rows_from k (o ∷ os)))
          ≡ after_resolved r (λ ds. resolve_rows own (names_of all) m.tables (object + 1) (row_starts (length front + length (row_cells (row_for k o))) (rows_from (k + length (entry_points o.entries)) os)) ds)
      opened r e =
          let here : resolve_pairs own (names_of all) object 3 (length front + 3) (pairs_of (table_at m.tables o.table).attributes) (front ++ flat_rows (rows_from k (o ∷ os))) ≡ r = rw (whole, ← at) e in
          rw (table_at_lem front (row_for k o) (flat_rows (rows_from (k + length (entry_points o.entries)) os))) (rw here)

      by : Outcome own all (pairs_of (table_at m.tables o.table).attributes) o.entries object 3 k (front ++ head_of o) (flat_rows (rows_from (k + length (entry_points o.entries)) os))
          → ((front' : List ℤ) → RowsOutcome os (object + 1) (k + length (entry_points o.entries)) front') → RowsOutcome (o ∷ os) object k front
      by (broken b f e) ih = one_broken object b (claims.FirstOfObjects.here f) (opened _ e)
      by (settled n e) ih =
          let k' : ℕ = k + length (entry_points o.entries) in
          let here : List ℤ = entry_cells (names_of all) k o.entries in
          let front' : List ℤ = front ++ (head_of o ++ here) in
          let moved-e : (front ++ head_of o) ++ (here ++ flat_rows (rows_from k' os)) ≡ front' ++ flat_rows (rows_from k' os) =
          append_assoc front (head_of o) (here ++ flat_rows (rows_from k' os)) ∙ sym (append_assoc front (head_of o ++ here) (flat_rows (rows_from k' os))) in
          let long : length front' ≡ length front + length (row_cells (row_for k o)) =
          length-append front (head_of o ++ here) ∙ (let z : length (head_of o ++ here) ≡ length (row_cells (row_for k o)) = omega (arith, late_length k o.entries, entry_length (names_of all) k o.entries) in rw z) in
          next front' refl long n (opened _ (e ∙ ap resolved moved-e)) (ih front')
        where
          next : (front' : List ℤ) → front' ≡ front ++ (head_of o ++ entry_cells (names_of all) k o.entries) → length front' ≡ length front + length (row_cells (row_for k o)) → AllNamed all o.entries
              → resolve_rows own (names_of all) m.tables object (row_starts (length front) (rows_from k (o ∷ os))) (front ++ flat_rows (rows_from k (o ∷ os)))
              ≡ resolve_rows own (names_of all) m.tables (object + 1) (row_starts (length front + length (row_cells (row_for k o))) (rows_from (k + length (entry_points o.entries)) os)) (front' ++ flat_rows (rows_from (k + length (entry_points o.entries)) os))
              → RowsOutcome os (object + 1) (k + length (entry_points o.entries)) front' → RowsOutcome (o ∷ os) object k front
          next front' same long n e (one_broken a b f q) = one_broken a b (claims.FirstOfObjects.later n f) (e ∙ (rw long at q))
          next front' same long n e (all_settled s q) =
              let k' : ℕ = k + length (entry_points o.entries) in
              let out : front' ++ rows_cells (names_of all) k' os ≡ front ++ ((head_of o ++ entry_cells (names_of all) k o.entries) ++ rows_cells (names_of all) k' os) =
              rw same (append_assoc front (head_of o ++ entry_cells (names_of all) k o.entries) (rows_cells (names_of all) k' os)) in
              all_settled (n, s) (e ∙ ((rw long at q) ∙ ap resolved out))

-- all references name an object and are resolved, or the first that does not is refused
pub data References (m : Model) (own : List ℕ) (marks : List ℕ) (os : List Delivered) : Type 0 where
  all_named : Referred os os → resolve m own (content_of marks os) ≡ resolved (rows_cells (names_of os) 0 os) → References m own marks os
  first_unnamed : (object field : ℕ) → FirstOfObjects m os 0 os object field → resolve m own (content_of marks os) ≡ unresolved object field → References m own marks os

pub references_of : (m : Model) (own : List ℕ) (marks : List ℕ) (os : List Delivered) → AllRead m own os → References m own marks os
unfolding resolve
references_of m own marks os h = by (rows_outcome m own os os h 0 0 [])
  where
    here : objects_of own (content_of marks os).cells (content_of marks os).rows ≡ names_of os
    here = objects_names own marks os (read_names m own os h)

    by : RowsOutcome m own os os 0 0 [] → References m own marks os
    by (all_settled s q) = all_named s (rw here q)
    by (one_broken a b f q) = first_unnamed a b f (rw here q)

-- the first is no more where all are named
pub entries_unnamed : (all : List Delivered) {field at : ℕ} {ps : List Pair} {es : List Entry} → FirstOfEntries all field ps es at → AllNamed all es → ⊥
entries_unnamed all (claims.FirstOfEntries.here h) n = h n.0
entries_unnamed all (claims.FirstOfEntries.later i r) n = entries_unnamed all r n.1

pub objects_unnamed : (m : Model) (all : List Delivered) {n a b : ℕ} {os : List Delivered} → FirstOfObjects m all n os a b → Referred all os → ⊥
objects_unnamed m all (claims.FirstOfObjects.here f) r = entries_unnamed all f r.0
objects_unnamed m all (claims.FirstOfObjects.later i f) r = objects_unnamed m all f r.1

-- ## The lines

-- lines whose structure, values and identifications are right are read to their end, with room for their objects
pub lines_read : (m : Model) → GoodModel m → (rooms : Rooms) (ls : List (List ℕ)) (ds : List DeliveredTopic) → File m (with_starts 0 ls) ds → Unique (objects_of_topics ds) → RoomFor rooms (objects_of_topics ds)
    → RanTo m rooms (unfolded_text ls) (start_of m) ls nothing (content_of (table_of m ds).marks (objects_of_topics ds))
unfolding start_of nothing_read table_of row_starts flat_rows rows_from points_of cells_of_points
lines_read m good rooms ls ds structure unique room =
    steps_run m rooms (unfolded_text ls) ls (start_of m) nothing _
    (file_run m rooms (unfolded_text ls) good structure (lines_stand (unfolded_text ls) 0 ls refl) (replicate (length m.topics + length m.tables) 0) unique room)

-- the lengths of the table are the room that its objects need
pub room_for : (m : Model) (rooms : Rooms) (ds : List DeliveredTopic) → length (table_of m ds).rows ≤ rooms.rows → length (table_of m ds).cells ≤ rooms.cells → length (table_of m ds).points ≤ rooms.points
    → RoomFor rooms (objects_of_topics ds)
unfolding table_of
room_for m rooms ds rows cells points =
    let os : List Delivered = objects_of_topics ds in
    let a = ap length (starts_list 0 0 os) in
    let b = starts_length 0 0 os in
    let c = cells_length (names_of os) 0 os in
    record { rows = omega (arith, rows); cells = omega (arith, cells); points = points }

-- what the lines give, with its references resolved, is the table
pub resolved_is : (m : Model) (ds : List DeliveredTopic) → resolved_table (content_of (table_of m ds).marks (objects_of_topics ds)) (table_of m ds).cells ≡ table_of m ds
unfolding table_of
resolved_is m ds = rw (starts_list 0 0 (objects_of_topics ds))

-- and the references of lines that are right are resolved
pub right_resolved : (m : Model) (ls : List (List ℕ)) (ds : List DeliveredTopic) → Right m ls ds → resolve m (unfolded_text ls) (content_of (table_of m ds).marks (objects_of_topics ds)) ≡ resolved (table_of m ds).cells
unfolding table_of
right_resolved m ls ds r = by (references_of m (unfolded_text ls) (table_of m ds).marks (objects_of_topics ds) (file_read m (unfolded_text ls) r.file (lines_stand (unfolded_text ls) 0 ls refl)))
  where
    by : References m (unfolded_text ls) (table_of m ds).marks (objects_of_topics ds) → resolve m (unfolded_text ls) (content_of (table_of m ds).marks (objects_of_topics ds)) ≡ resolved (table_of m ds).cells
    by (all_named s q) = q
    by (first_unnamed a b f q) = absurd (objects_unnamed m (objects_of_topics ds) f r.references)

-- lines that are right are read to their end
pub record RightRun (m : Model) (rooms : Rooms) (ls : List (List ℕ)) (ds : List DeliveredTopic) : Type 0 where
  pub state : State
  pub reads : read_lines m rooms (unfolded_text ls) (start_of m) ls ≡ ran state
  pub resolves : resolve m (unfolded_text ls) state.content ≡ resolved (table_of m ds).cells
  pub table : resolved_table state.content (table_of m ds).cells ≡ table_of m ds

pub right_run : (m : Model) → GoodModel m → (rooms : Rooms) (ls : List (List ℕ)) (ds : List DeliveredTopic) → Right m ls ds → RoomFor rooms (objects_of_topics ds) → RightRun m rooms ls ds
right_run m good rooms ls ds r room =
    let ran_to = lines_read m good rooms ls ds r.file r.unique room in
    record {
      state = ran_to.final;
      reads = read_to_end m rooms (unfolded_text ls) (start_of m) ran_to.final ls ran_to.runs ran_to.due;
      resolves = ap (λ (c : Content). resolve m (unfolded_text ls) c) ran_to.content ∙ right_resolved m ls ds r;
      table = ap (λ (c : Content). resolved_table c (table_of m ds).cells) ran_to.content ∙ resolved_is m ds;
    }

no_refusal : (m : Model) (rooms : Rooms) (ls : List (List ℕ)) (c : Content) → Enough m ls c rooms
    → (ltb rooms.text (length (unfolded_text ls)) || ltb rooms.marks (length m.topics + length m.tables)) ≡ false
no_refusal m rooms ls c e = rw (le-ltb rooms.text (length (unfolded_text ls)) e.text, le-ltb rooms.marks (length m.topics + length m.tables) e.marks)

pub right_is_read : (m : Model) → GoodModel m → (ls : List (List ℕ)) (ds : List DeliveredTopic) (rooms : Rooms) → Right m ls ds → Enough m ls (table_of m ds) rooms
    → read_text m rooms ls ≡ accepted_with rooms (unfolded_text ls) (table_of m ds) (table_of m ds).cells
unfolding read_text refuse read_run read_resolved accepted_with
right_is_read m good ls ds rooms r enough =
    let run = right_run m good rooms ls ds r (room_for m rooms ds enough.rows enough.cells enough.points) in
    rw (no_refusal m rooms ls (table_of m ds) enough, run.reads) (rw run.resolves (ap (λ (c : Content). accepted_with rooms (unfolded_text ls) c (table_of m ds).cells) run.table))
