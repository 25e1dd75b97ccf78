-- Objects that are right are read. Assumes nothing.
use Prim.Native.Nat.{ℕ, suc, ◌+◌, ◌*◌, ◌≤◌, ◌<◌}
use native.Mathlib.Omega.{arith}
use mathlib.Core.Path.{◌≡◌, refl, sym, ap, ◌∙◌}
use mathlib.Core.Bool.{true, false}
use mathlib.Core.List.{List, [], ◌∷◌, ◌++◌, append_assoc, append-nil}
use lib.IntN.{ℤ, pos}
use lib.ListN.{length, drop, length-append, get_or-append}
use lib.Seq.{get_or-append_seam}
use borrow.Author.Tests.{lt-ltb, le-ltb, lt-leb}
use Rattle.meaning.specs.Bytes.{choose, refuse, same}
use Rattle.meaning.specs.Unfold.{unfolded_text}
use Rattle.meaning.specs.Model.{Model, table_at}
use Rattle.meaning.specs.Field.{Field, fields_of, has_code, OBJE}
use Rattle.meaning.specs.Value.{same_identification}
use Rattle.meaning.specs.Row.{Pair, cells, pairs_of, pair_cells}
use Rattle.meaning.specs.Reading.{line_attributes, object_of, due_lines, Content, with_row, point_count, Rooms, stretch, objects_of, is_used}
use Rattle.meaning.specs.Lines.{go, store_row, object_fields, object_line, line_due}
use Rattle.meaning.specs.Right.{Entry, Delivered, Line, with_starts, Coded, Identification, StandFor, Entries, ObjectLines, object, Objects, none, more, no_object, identification_at, Unique, names_of, entry_points, points_of, cells_of_points}
use Rattle.meaning.proofs.Tests.Same.{same_not}
use Rattle.meaning.proofs.Reading.Fields.{Solid}
use Rattle.meaning.proofs.Reading.FieldsRead.{AllAre, fields_are_lem}
use Rattle.meaning.proofs.Reading.Stretches.{AllStand, text_behind, line_stands}
use Rattle.meaning.proofs.Reading.References.{flat_rows, row_cells, row_starts, flat_append}
use Rattle.meaning.proofs.Right.Steps.{step_at, steps, step_on, steps_on}
use Rattle.meaning.proofs.Right.Content.{early_cells, late_cells, early_length, late_length, points_length, points_append, delivered_points, row_for, rows_from, rows_append, content_of, head_of, content_more, AllNamesStand, names_stand_append, objects_names}
use Rattle.meaning.proofs.Right.Points.{coded_fields}
use Rattle.meaning.proofs.Right.PairEntries.{was_defined, is_covered, PairEntries, pairs_of_entries}
use Rattle.meaning.proofs.Right.Rows.{flag_of, entries_cells, with_entries, entries_lines}

-- ## Where lines stand

-- the fields of each of these lines stand in the text where they say
abbrev pub LinesStand : (own : List ℕ) → List Line → Type 0
LinesStand own [] = Unit {0}
LinesStand own (l ∷ ls) = AllStand own (fields_of l.start l.bytes) × LinesStand own ls

pub lines_stand : (own : List ℕ) (start : ℕ) (ls : List (List ℕ)) → drop start own ≡ unfolded_text ls → LinesStand own (with_starts start ls)
unfolding with_starts
lines_stand own start [] e = tt
lines_stand own start (l ∷ ls) e = (line_stands own start l ls e, lines_stand own (start + length l + 1) ls (text_behind own start l ls e))

pub stand_left : (own : List ℕ) (ls ks : List Line) → LinesStand own (ls ++ ks) → LinesStand own ls
stand_left own [] ks h = tt
stand_left own (l ∷ ls) ks h = (h.0, stand_left own ls ks h.1)

pub stand_right : (own : List ℕ) (ls ks : List Line) → LinesStand own (ls ++ ks) → LinesStand own ks
stand_right own [] ks h = h
stand_right own (l ∷ ls) ks h = stand_right own ls ks h.1

-- ## Identifications

pub name_left : (os ds : List Delivered) (i : ℕ) → i < length os → identification_at (os ++ ds) i ≡ identification_at os i
name_left os ds i l = ap (λ (o : Delivered). o.identification.bytes) (get_or-append os ds no_object i l)

pub name_seam : (os : List Delivered) (o : Delivered) (ds : List Delivered) → identification_at (os ++ (o ∷ ds)) (length os) ≡ o.identification.bytes
name_seam os o ds = ap (λ (o : Delivered). o.identification.bytes) (get_or-append_seam os o ds no_object)

pub unique_left : (os ds : List Delivered) → Unique (os ++ ds) → Unique os
unique_left os ds h i j l k e =
    h i j l (omega (arith, length-append os ds)) (name_left os ds i (omega arith) ∙ (e ∙ sym (name_left os ds j k)))

unused : (b : List ℕ) (os : List Delivered) → ((i : ℕ) → i < length os → identification_at os i ≡ b → ⊥) → is_used b (names_of os) ≡ false
unfolding is_used names_of same_identification
unused b [] h = refl
unused b (o ∷ os) h = rw (same_not o.identification.bytes b (λ e. h 0 (omega arith) e), unused b os (λ i l e. h (suc i) (omega arith) e))

pub unique_unused : (os : List Delivered) (o : Delivered) → Unique (os ++ (o ∷ [])) → is_used o.identification.bytes (names_of os) ≡ false
unique_unused os o h = unused o.identification.bytes os
    (λ i l e. h i (length os) l (omega (arith, length-append os (o ∷ []))) (name_left os (o ∷ []) i l ∙ (e ∙ sym (name_seam os o []))))

-- ## Room

pub record RoomFor (rooms : Rooms) (os : List Delivered) : Type 0 where
  pub rows : length os ≤ rooms.rows
  pub cells : length (flat_rows (rows_from 0 os)) ≤ rooms.cells
  pub points : length (cells_of_points (points_of os)) ≤ rooms.points

pub room_left : (rooms : Rooms) (os ds : List Delivered) → RoomFor rooms (os ++ ds) → RoomFor rooms os
room_left rooms os ds r =
    let a = length-append os ds in
    let b = ap length (ap flat_rows (rows_append 0 os ds) ∙ flat_append (rows_from 0 os) (rows_from (0 + length (points_of os)) ds)) ∙ length-append (flat_rows (rows_from 0 os)) (flat_rows (rows_from (0 + length (points_of os)) ds)) in
    let c = ap length (ap cells_of_points (delivered_points os ds) ∙ points_append (points_of os) (points_of ds)) ∙ length-append (cells_of_points (points_of os)) (cells_of_points (points_of ds)) in
    record { rows = omega (arith, r.rows); cells = omega (arith, r.cells); points = omega (arith, r.points) }

pub starts_length : (base k : ℕ) (os : List Delivered) → length (row_starts base (rows_from k os)) ≡ length os
unfolding row_starts rows_from
starts_length base k [] = refl
starts_length base k (o ∷ os) = ap suc (starts_length (base + length (row_cells (row_for k o))) (k + length (entry_points o.entries)) os)

record RoomMore (rooms : Rooms) (os : List Delivered) (o : Delivered) : Type 0 where
  rows : length os < rooms.rows
  cells : length (flat_rows (rows_from 0 os)) + (3 + 2 * length o.entries) ≤ rooms.cells
  points : length (cells_of_points (points_of os)) + 4 * length (entry_points o.entries) ≤ rooms.points

room_more : (rooms : Rooms) (marks : List ℕ) (os : List Delivered) (o : Delivered) → RoomFor rooms (os ++ (o ∷ [])) → RoomMore rooms os o
room_more rooms marks os o r =
    let a = length-append os (o ∷ []) in
    let b = ap (λ (c : Content). length c.cells) (content_more marks os o) in
    let c = length-append (flat_rows (rows_from 0 os) ++ head_of o) (late_cells (length (points_of os)) o.entries) in
    let d = length-append (flat_rows (rows_from 0 os)) (head_of o) in
    let e = late_length (length (points_of os)) o.entries in
    let f = ap (λ (c : Content). length c.points) (content_more marks os o) in
    let g = length-append (cells_of_points (points_of os)) (cells_of_points (entry_points o.entries)) in
    let h = points_length (entry_points o.entries) in
    record { rows = omega (arith, r.rows); cells = omega (arith, r.cells); points = omega (arith, r.points) }

-- ## An object

-- what is known of an object that is read
pub record ReadObject (m : Model) (own : List ℕ) (o : Delivered) : Type 0 where
  pub fields : List Field
  pub lines : List Line
  pub stands : stretch own o.identification.start (length o.identification.bytes) ≡ o.identification.bytes
  pub fields_stand : AllStand own fields
  pub solid : Solid o.identification.bytes
  pub fields_are : AllAre fields
  pub within : o.table < length m.tables
  pub entries : PairEntries m.undefined was_defined (pairs_of (table_at m.tables o.table).attributes) fields lines o.entries

abbrev pub AllRead : Model → List ℕ → List Delivered → Type 0
AllRead m own [] = Unit {0}
AllRead m own (o ∷ os) = ReadObject m own o × AllRead m own os

pub read_append : (m : Model) (own : List ℕ) (os ds : List Delivered) → AllRead m own os → AllRead m own ds → AllRead m own (os ++ ds)
read_append m own [] ds h k = k
read_append m own (o ∷ os) ds h k = (h.0, read_append m own os ds h.1 k)

pub read_names : (m : Model) (own : List ℕ) (os : List Delivered) → AllRead m own os → AllNamesStand own os
read_names m own [] h = tt
read_names m own (o ∷ os) h = (h.0.stands, read_names m own os h.1)

-- an object's entries by pairs
object_pairs : (m : Model) (t : ℕ) {fs gs : List Field} {ls : List Line} {es : List Entry} → StandFor m.undefined fs gs → Entries m.undefined (table_at m.tables t).attributes gs ls es
    → PairEntries m.undefined was_defined (pairs_of (table_at m.tables t).attributes) fs ls es
object_pairs m t {fs} {gs} {ls} {es} stand r = pairs_of_entries m.undefined (table_at m.tables t).attributes fs gs ls es stand r was_defined

-- its identification stands in the text
pub object_stands : (m : Model) (own : List ℕ) (t : ℕ) {ls : List Line} {o : Delivered} → ObjectLines m t ls o → LinesStand own ls → AllNamesStand own (o ∷ [])
object_stands m own t (object c d st r) h = let at = rw c.fields at h.0 in (at.1.0, tt)

object_read : (m : Model) (own : List ℕ) (t : ℕ) {ls : List Line} {o : Delivered} → t < length m.tables → ObjectLines m t ls o → LinesStand own ls → ReadObject m own o
object_read m own t within (object {l = l} {ls = ls} {i = i} {fs = fs} c d st r) h =
    let at = rw c.fields at h.0 in
    let are = rw c.fields at (fields_are_lem l.start l.bytes) in
    record { fields = fs; lines = ls; stands = at.1.0; fields_stand = at.1.1; solid = are.1.0; fields_are = are.1.1; within = within; entries = object_pairs m t st r }

pub objects_read : (m : Model) (own : List ℕ) (t : ℕ) {ls : List Line} {os : List Delivered} → t < length m.tables → Objects m t ls os → LinesStand own ls → AllRead m own os
objects_read m own t l none h = tt
objects_read m own t l (more {ls = ls} {others = others} o r) h = (object_read m own t l o (stand_left own ls others h), objects_read m own t l r (stand_right own ls others h))

module _ (m : Model) (rooms : Rooms) (own : List ℕ) (t : ℕ) where
  abbrev pairs : List Pair
  pairs = pairs_of (table_at m.tables t).attributes

  object_step : (l : Line) (i : Field) (fs : List Field) (xs : List ℤ) (c : Content) → Coded OBJE l (i ∷ fs) → Identification m.undefined i
      → is_used i.bytes (objects_of own c.cells c.rows) ≡ false → pair_cells m.undefined true 3 pairs fs ≡ cells xs
      → length c.rows < rooms.rows → length c.cells + (3 + length xs) ≤ rooms.cells
      → step_at m rooms own (object_of t) c l ≡ go (due_lines t (point_count c) (line_attributes (length c.cells + 3) pairs)) (with_row (pos t ∷ pos i.start ∷ pos (length i.bytes) ∷ xs) c)
  unfolding line_due object_line object_fields store_row has_code same choose refuse
  object_step l i fs xs c h d fresh e rows cells' =
      rw (
        coded_fields OBJE l (i ∷ fs) h,
        lt-ltb 1 (length (h.first ∷ (i ∷ fs))) (omega arith),
        d.defined.one,
        d.defined.two,
        d.shape,
        fresh,
        e,
        lt-leb rooms.rows (length c.rows) rows,
        le-ltb rooms.cells (length c.cells + length (pos t ∷ pos i.start ∷ pos (length i.bytes) ∷ xs)) (omega arith),
      )

  pub object_run : {ls : List Line} {o : Delivered} → ObjectLines m t ls o → (marks : List ℕ) (before : List Delivered) → AllNamesStand own before → Unique (before ++ (o ∷ []))
      → RoomFor rooms (before ++ (o ∷ [])) → steps m rooms own (object_of t) (content_of marks before) ls ≡ go (object_of t) (content_of marks (before ++ (o ∷ [])))
  unfolding flag_of is_covered
  object_run (object {l = l} {ls = ls} {i = i} {fs = fs} {es = es} h d st x) marks before stand unique room =
      let r = object_pairs m t st x in
      let o : Delivered = record { table = t; identification = i; entries = es } in
      let k : ℕ = length (points_of before) in
      let c : Content = content_of marks before in
      let space = room_more rooms marks before o room in
      let front : List ℤ = c.cells ++ head_of o in
      let at : length front ≡ length c.cells + 3 = length-append c.cells (head_of o) in
      let count = points_length (points_of before) in
      let points_k : point_count c ≡ k = omega arith in
      let c₁ : Content = with_row (pos t ∷ pos i.start ∷ pos (length i.bytes) ∷ early_cells es) c in
      let first : step_at m rooms own (object_of t) c l ≡ go (due_lines t (point_count c) (line_attributes (length c.cells + 3) pairs)) c₁ =
      object_step l i fs (early_cells es) c h d (rw (objects_names own marks before stand) (unique_unused before o unique)) (entries_cells r refl 3)
      (omega (arith, space.rows, starts_length 0 0 before)) (omega (arith, space.cells, early_length es)) in
      let behind : steps m rooms own (due_lines t k (line_attributes (length front) pairs)) c₁ ls ≡ go (object_of t) (with_entries c₁ front k es) =
      entries_lines m rooms own t r refl k front c₁ (sym (append_assoc c.cells (head_of o) (early_cells es))) (sym count) space.points in
      step_on m rooms own _ _ c c₁ l ls _ first (rw (points_k, ← at) (behind ∙ ap (λ (x : Content). go (object_of t) x) (content_more marks before o)))

  pub objects_run : {ls : List Line} {os : List Delivered} → Objects m t ls os → LinesStand own ls → (marks : List ℕ) (before : List Delivered) → AllNamesStand own before → Unique (before ++ os)
      → RoomFor rooms (before ++ os) → steps m rooms own (object_of t) (content_of marks before) ls ≡ go (object_of t) (content_of marks (before ++ os))
  unfolding steps
  objects_run none h marks before stand unique room = rw (append-nil before)
  objects_run (more {ls = ls} {others = others} {o = o} {os = os} x r) h marks before stand unique room =
      let e : (before ++ (o ∷ [])) ++ os ≡ before ++ (o ∷ os) = append_assoc before (o ∷ []) os in
      let unique' : Unique ((before ++ (o ∷ [])) ++ os) = rw e unique in
      let room' : RoomFor rooms ((before ++ (o ∷ [])) ++ os) = rw e room in
      let one = object_stands m own t x (stand_left own ls others h) in
      steps_on m rooms own ls _ (object_of t) _ (content_of marks (before ++ (o ∷ []))) others _
      (object_run x marks before stand (unique_left (before ++ (o ∷ [])) os unique') (room_left rooms (before ++ (o ∷ [])) os room'))
      ((objects_run r (stand_right own ls others h) marks (before ++ (o ∷ [])) (names_stand_append own before (o ∷ []) stand one) unique' room')
      ∙ ap (λ (x : List Delivered). go (object_of t) (content_of marks x)) e)
