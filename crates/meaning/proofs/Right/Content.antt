-- The table so far, from the objects delivered so far, before references are resolved. Assumes nothing.
use Prim.Native.Nat.{ℕ, ◌+◌, ◌*◌}
use native.Mathlib.Omega.{arith}
use mathlib.Core.Path.{◌≡◌, refl, sym, ap, ◌∙◌}
use mathlib.Core.List.{List, [], ◌∷◌, ◌++◌, append_assoc, append-nil}
use lib.IntN.{ℤ, pos}
use lib.ListN.{length, length-append}
use Rattle.meaning.specs.Row.{point_cells}
use Rattle.meaning.specs.Reading.{Content, Object, stretch, objects_of}
use Rattle.meaning.specs.Right.{Point, Entry, Undefined, OfValue, OfText, OfReference, OfPoints, Delivered, names_of, entry_cells, entry_points, points_of, cells_of_points, rows_cells, row_list}
use Rattle.meaning.proofs.Reading.Buffers.{point_length}
use Rattle.meaning.proofs.Reading.References.{Row, row_cells, flat_rows, row_starts, objects_of_rows, flat_append, starts_append, objects_flat}

-- ## Cells of entries

-- as the OBJE line gives them, and with the lines behind it read
unfoldable pub early_cells : List Entry → List ℤ
early_cells [] = []
early_cells (Undefined ∷ es) = pos 0 ∷ pos 0 ∷ early_cells es
early_cells (OfValue v ∷ es) = pos 1 ∷ v ∷ early_cells es
early_cells (OfText f ∷ es) = pos (1 + length f.bytes) ∷ pos f.start ∷ early_cells es
early_cells (OfReference target f ∷ es) = pos (1 + length f.bytes) ∷ pos f.start ∷ early_cells es
early_cells (OfPoints ps ∷ es) = pos 0 ∷ pos 0 ∷ early_cells es

unfoldable pub late_cells : (k : ℕ) → List Entry → List ℤ
late_cells k [] = []
late_cells k (Undefined ∷ es) = pos 0 ∷ pos 0 ∷ late_cells k es
late_cells k (OfValue v ∷ es) = pos 1 ∷ v ∷ late_cells k es
late_cells k (OfText f ∷ es) = pos (1 + length f.bytes) ∷ pos f.start ∷ late_cells k es
late_cells k (OfReference target f ∷ es) = pos (1 + length f.bytes) ∷ pos f.start ∷ late_cells k es
late_cells k (OfPoints ps ∷ es) = pos (1 + length ps) ∷ pos k ∷ late_cells (k + length ps) es

pub early_length : (es : List Entry) → length (early_cells es) ≡ 2 * length es
unfolding early_cells
early_length [] = refl
early_length (Undefined ∷ es) = omega (arith, early_length es)
early_length (OfValue v ∷ es) = omega (arith, early_length es)
early_length (OfText f ∷ es) = omega (arith, early_length es)
early_length (OfReference target f ∷ es) = omega (arith, early_length es)
early_length (OfPoints ps ∷ es) = omega (arith, early_length es)

pub late_length : (k : ℕ) (es : List Entry) → length (late_cells k es) ≡ 2 * length es
unfolding late_cells
late_length k [] = refl
late_length k (Undefined ∷ es) = omega (arith, late_length k es)
late_length k (OfValue v ∷ es) = omega (arith, late_length k es)
late_length k (OfText f ∷ es) = omega (arith, late_length k es)
late_length k (OfReference target f ∷ es) = omega (arith, late_length k es)
late_length k (OfPoints ps ∷ es) = omega (arith, late_length (k + length ps) es)

pub entry_length : (os : List Object) (k : ℕ) (es : List Entry) → length (entry_cells os k es) ≡ 2 * length es
unfolding entry_cells
entry_length os k [] = refl
entry_length os k (Undefined ∷ es) = omega (arith, entry_length os k es)
entry_length os k (OfValue v ∷ es) = omega (arith, entry_length os k es)
entry_length os k (OfText f ∷ es) = omega (arith, entry_length os k es)
entry_length os k (OfReference target f ∷ es) = omega (arith, entry_length os k es)
entry_length os k (OfPoints ps ∷ es) = omega (arith, entry_length os (k + length ps) es)

-- ## Points

pub points_length : (ps : List Point) → length (cells_of_points ps) ≡ 4 * length ps
unfolding cells_of_points
points_length [] = refl
points_length (p ∷ ps) = omega (arith, length-append (point_cells p.kind p.values) (cells_of_points ps), point_length p.kind p.values, points_length ps)

pub points_append : (ps qs : List Point) → cells_of_points (ps ++ qs) ≡ cells_of_points ps ++ cells_of_points qs
unfolding cells_of_points
points_append [] qs = refl
points_append (p ∷ ps) qs = rw (points_append ps qs) (sym (append_assoc (point_cells p.kind p.values) (cells_of_points ps) (cells_of_points qs)))

pub delivered_points : (os ds : List Delivered) → points_of (os ++ ds) ≡ points_of os ++ points_of ds
unfolding points_of
delivered_points [] ds = refl
delivered_points (o ∷ os) ds = rw (delivered_points os ds) (sym (append_assoc (entry_points o.entries) (points_of os) (points_of ds)))

-- ## Rows

abbrev pub row_for : ℕ → Delivered → Row
row_for k o = record { table = o.table; start = o.identification.start; size = length o.identification.bytes; pairs = late_cells k o.entries }

unfoldable pub rows_from : (k : ℕ) → List Delivered → List Row
rows_from k [] = []
rows_from k (o ∷ os) = row_for k o ∷ rows_from (k + length (entry_points o.entries)) os

pub rows_append : (k : ℕ) (os ds : List Delivered) → rows_from k (os ++ ds) ≡ rows_from k os ++ rows_from (k + length (points_of os)) ds
unfolding rows_from points_of
rows_append k [] ds = let z : k + 0 ≡ k = omega arith in rw z
rows_append k (o ∷ os) ds =
    let z : k + length (entry_points o.entries ++ points_of os) ≡ k + length (entry_points o.entries) + length (points_of os) =
    rw (length-append (entry_points o.entries) (points_of os)) (omega arith) in
    rw (z, rows_append (k + length (entry_points o.entries)) os ds)

abbrev pub content_of : List ℕ → List Delivered → Content
content_of marks os = record { marks = marks; rows = row_starts 0 (rows_from 0 os); cells = flat_rows (rows_from 0 os); points = cells_of_points (points_of os) }

abbrev pub head_of : Delivered → List ℤ
head_of o = pos o.table ∷ pos o.identification.start ∷ pos (length o.identification.bytes) ∷ []

-- one object more
pub content_more : (marks : List ℕ) (os : List Delivered) (o : Delivered)
    → record {
      marks = marks;
      rows = row_starts 0 (rows_from 0 os) ++ (length (flat_rows (rows_from 0 os)) ∷ []);
      cells = (flat_rows (rows_from 0 os) ++ head_of o) ++ late_cells (length (points_of os)) o.entries;
      points = cells_of_points (points_of os) ++ cells_of_points (entry_points o.entries);
    } ≡ content_of marks (os ++ (o ∷ []))
unfolding row_starts flat_rows rows_from points_of
content_more marks os o =
    let k : ℕ = length (points_of os) in
    let r : Row = row_for k o in
    let rows-e : rows_from 0 (os ++ (o ∷ [])) ≡ rows_from 0 os ++ (r ∷ []) = let z : 0 + k ≡ k = omega arith in rw z at (rows_append 0 os (o ∷ [])) in
    let starts-e : row_starts 0 (rows_from 0 (os ++ (o ∷ []))) ≡ row_starts 0 (rows_from 0 os) ++ (length (flat_rows (rows_from 0 os)) ∷ []) =
    ap (row_starts 0) rows-e ∙ (let z : 0 + length (flat_rows (rows_from 0 os)) ≡ length (flat_rows (rows_from 0 os)) = omega arith in rw z at (starts_append 0 (rows_from 0 os) (r ∷ []))) in
    let cells-e : flat_rows (rows_from 0 (os ++ (o ∷ []))) ≡ (flat_rows (rows_from 0 os) ++ head_of o) ++ late_cells k o.entries =
    ap flat_rows rows-e ∙ (flat_append (rows_from 0 os) (r ∷ []) ∙ (ap (λ (l : List ℤ). flat_rows (rows_from 0 os) ++ l) (append-nil (row_cells r))
    ∙ sym (append_assoc (flat_rows (rows_from 0 os)) (head_of o) (late_cells k o.entries)))) in
    let points-e : cells_of_points (points_of (os ++ (o ∷ []))) ≡ cells_of_points (points_of os) ++ cells_of_points (entry_points o.entries) =
    ap cells_of_points (delivered_points os (o ∷ []) ∙ ap (λ (l : List Point). points_of os ++ l) (append-nil (entry_points o.entries))) ∙ points_append (points_of os) (entry_points o.entries) in
    rw (starts-e, cells-e, points-e)

-- ## The objects in it

-- each identification stands in the text where it says
abbrev pub AllNamesStand : (text : List ℕ) → List Delivered → Type 0
AllNamesStand text [] = Unit {0}
AllNamesStand text (o ∷ os) = (stretch text o.identification.start (length o.identification.bytes) ≡ o.identification.bytes) × AllNamesStand text os

pub names_stand_append : (text : List ℕ) (os ds : List Delivered) → AllNamesStand text os → AllNamesStand text ds → AllNamesStand text (os ++ ds)
names_stand_append text [] ds h k = k
names_stand_append text (o ∷ os) ds h k = (h.0, names_stand_append text os ds h.1 k)

names_rows : (text : List ℕ) (k : ℕ) (os : List Delivered) → AllNamesStand text os → objects_of_rows text (rows_from k os) ≡ names_of os
unfolding objects_of_rows rows_from names_of
names_rows text k [] h = refl
names_rows text k (o ∷ os) h = rw (h.0, names_rows text (k + length (entry_points o.entries)) os h.1)

pub objects_names : (text : List ℕ) (marks : List ℕ) (os : List Delivered) → AllNamesStand text os → objects_of text (content_of marks os).cells (content_of marks os).rows ≡ names_of os
objects_names text marks os h = (rw (append-nil (flat_rows (rows_from 0 os))) at (objects_flat text (rows_from 0 os) [] [])) ∙ names_rows text 0 os h

-- ## The table of them

pub starts_list : (cell k : ℕ) (os : List Delivered) → row_starts cell (rows_from k os) ≡ row_list cell os
unfolding row_starts rows_from row_list
starts_list cell k [] = refl
starts_list cell k (o ∷ os) =
    let z : cell + length (row_cells (row_for k o)) ≡ cell + (3 + 2 * length o.entries) = omega (arith, late_length k o.entries) in
    rw (z, starts_list (cell + (3 + 2 * length o.entries)) (k + length (entry_points o.entries)) os)

pub cells_length : (names : List Object) (k : ℕ) (os : List Delivered) → length (flat_rows (rows_from k os)) ≡ length (rows_cells names k os)
unfolding flat_rows rows_from rows_cells
cells_length names k [] = refl
cells_length names k (o ∷ os) =
    let a = length-append (late_cells k o.entries) (flat_rows (rows_from (k + length (entry_points o.entries)) os)) in
    let b = length-append (entry_cells names k o.entries) (rows_cells names (k + length (entry_points o.entries)) os) in
    let c = late_length k o.entries in
    let d = entry_length names k o.entries in
    let e = cells_length names (k + length (entry_points o.entries)) os in
    omega arith
