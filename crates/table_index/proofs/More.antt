-- One object more, whose identification is not used: among rows that stand already, and in a row that is written behind the others.
-- Assumes nothing.
use Prim.Native.Nat.{ℕ, ◌+◌, ◌≤◌, ◌<◌}
use mathlib.Core.Path.{◌≡◌, sym, ap, ◌∙◌}
use mathlib.Core.Bool.{false}
use mathlib.Core.List.{List, [], ◌∷◌, ◌++◌}
use native.Mathlib.Omega.{arith}
use lib.IntN.{ℤ, pos}
use lib.ListN.{length, get_or, take, length-append}
use lib.Seq.{length-take-le, get_or-take, take_at, get_or_at, get_or-append-add, take-take}
use borrow.Author.Count.{below_more}
use Rattle.meaning.specs.Value.{same_identification}
use Rattle.meaning.specs.Reading.{stretch, objects_of, is_used}
use Rattle.table_index.specs.Objects.{Unique}
use Rattle.table.specs.Rows.{identification_of, Row}
use Rattle.table_index.specs.Index.{hash_of, insert_of}
use Rattle.table_index.specs.Holds.{ObjectsKnown, IndexedTable}
use Rattle.table_index.proofs.Grown.{indexed_more}
use Rattle.table_index.proofs.Meant.{unused_none}
use Rattle.table_index.proofs.Kept.{held_behind, held_objects}

unique_more : (ids : ℕ → List ℕ) (n : ℕ) → Unique ids n → ((o : ℕ) → o < n → same_identification (ids o) (ids n) ≡ false) → Unique ids (n + 1)
unique_more ids n u new = record { apart = λ o p l m. below_more (λ (q : ℕ). o < q → same_identification (ids o) (ids q) ≡ false) n (λ q g k. u.apart o q k g) (new o) p m l }

-- among rows that stand already
pub known_more : (seed : ℕ) (text rows : List ℕ) (cells : List ℤ) (index : List ℕ) (n : ℕ) → ObjectsKnown seed text rows cells index n → n < length rows → Row text cells (get_or rows n 0)
    → is_used (identification_of text rows cells n) (objects_of text cells (take n rows)) ≡ false
    → ObjectsKnown seed text rows cells (insert_of index (length rows) n (hash_of seed (identification_of text rows cells n))) (n + 1)
known_more seed text rows cells index n k l row unused = record {
  listed = record { in_rows = omega arith; row = below_more (λ (o : ℕ). Row text cells (get_or rows o 0)) n k.listed.row row };
  unique = unique_more (identification_of text rows cells) n k.unique (unused_none text rows cells (identification_of text rows cells n) n k.listed.in_rows unused);
  indexed = indexed_more seed text rows cells index n l k.indexed;
}

-- a row written behind the n rows, and its cells behind the `used` cells
module _
    (seed : ℕ) (text : List ℕ) (n used : ℕ) (rows : List ℕ) (cells : List ℤ) (index : List ℕ) (h : IndexedTable seed text n used rows cells index)
    (used' : ℕ) (rows' : List ℕ) (cells' : List ℤ) (t start size : ℕ) (pairs : List ℤ)
    (lr : length rows' ≡ length rows) (lc : length cells' ≡ length cells) (room : n < length rows) (room' : used' ≤ length cells)
    (er : take (n + 1) rows' ≡ take n rows ++ (used ∷ []))
    (ec : take used' cells' ≡ take used cells ++ (pos t ∷ pos start ∷ pos size ∷ pairs))
  where
    rows_length : length (take n rows) ≡ n
    rows_length = length-take-le n rows (omega arith)

    cells_length : length (take used cells) ≡ used
    cells_length = length-take-le used cells h.cells_in

    used_is_lem : used' ≡ used + (3 + length pairs)
    used_is_lem = sym (length-take-le used' cells' (omega arith)) ∙ ap length ec ∙ length-append (take used cells) (pos t ∷ pos start ∷ pos size ∷ pairs) ∙ omega (arith, cells_length)

    rows_first : take n rows' ≡ take n rows
    rows_first = sym (take-take n (n + 1) rows' (omega arith)) ∙ ap (take n) er ∙ take_at (take n rows) (used ∷ []) n rows_length

    cells_first : take used cells' ≡ take used cells
    cells_first = sym (take-take used used' cells' (omega (arith, used_is_lem))) ∙ ap (take used) ec ∙ take_at (take used cells) (pos t ∷ pos start ∷ pos size ∷ pairs) used cells_length

    at_row : get_or rows' n 0 ≡ used
    at_row = sym (get_or-take (n + 1) rows' n 0 (omega arith)) ∙ ap (λ (l : List ℕ). get_or l n 0) er ∙ get_or_at (take n rows) used [] 0 n rows_length

    -- a cell of the row
    at_cell : (k : ℕ) → k < 3 → get_or cells' (used + k) (pos 0) ≡ get_or (pos t ∷ pos start ∷ pos size ∷ pairs) k (pos 0)
    at_cell k l =
        sym (get_or-take used' cells' (used + k) (pos 0) (omega (arith, used_is_lem)))
        ∙ ap (λ (s : List ℤ). get_or s (used + k) (pos 0)) ec
        ∙ ap (λ (j : ℕ). get_or (take used cells ++ (pos t ∷ pos start ∷ pos size ∷ pairs)) (j + k) (pos 0)) (sym cells_length)
        ∙ get_or-append-add (take used cells) (pos t ∷ pos start ∷ pos size ∷ pairs) k (pos 0)

    at_table : get_or cells' used (pos 0) ≡ pos t
    at_table = let e : used ≡ used + 0 = omega arith in ap (λ (j : ℕ). get_or cells' j (pos 0)) e ∙ at_cell 0 (omega arith)

    pub new_named : identification_of text rows' cells' n ≡ stretch text start size
    unfolding identification_of
    new_named = rw (at_row, at_cell 1 (omega arith), at_cell 2 (omega arith))

    before : IndexedTable seed text n used rows' cells' index
    before = held_behind seed text n used rows cells index h rows' cells' lr lc rows_first cells_first

    module _ (in_text : start + size ≤ length text) where
      new_row : Row text cells' used
      new_row = record { in_cells = omega (arith, used_is_lem); table_pos = rw at_table tt; start_pos = rw (at_cell 1 (omega arith)) tt; length_pos = rw (at_cell 2 (omega arith)) tt; in_text = rw (at_cell 1 (omega arith), at_cell 2 (omega arith)) in_text }

      new_unused : is_used (stretch text start size) (objects_of text (take used cells) (take n rows)) ≡ false → is_used (identification_of text rows' cells' n) (objects_of text cells' (take n rows')) ≡ false
      new_unused unused =
          ap (λ (i : List ℕ). is_used i (objects_of text cells' (take n rows'))) new_named
          ∙ ap (is_used (stretch text start size)) (sym (held_objects seed text n used rows' cells' index before) ∙ ap (λ (s : List ℤ). objects_of text s (take n rows')) cells_first ∙ ap (objects_of text (take used cells)) rows_first)
          ∙ unused

      -- the index that `insert` leaves, with the hash of the identification
      pub held_more : is_used (stretch text start size) (objects_of text (take used cells) (take n rows)) ≡ false
          → (index' : List ℕ) (links hash : ℕ) → links ≡ length rows → hash ≡ hash_of seed (stretch text start size) → index' ≡ insert_of index links n hash
          → IndexedTable seed text (n + 1) used' rows' cells' index'
      held_more unused index' links hash el eh ei = record {
        known = rw (ei, el ∙ sym lr, eh ∙ ap (hash_of seed) (sym new_named)) (known_more seed text rows' cells' index n before.known (omega arith) (rw at_row new_row) (new_unused unused));
        cells_in = omega arith;
        within = below_more (λ (o : ℕ). get_or rows' o 0 + 2 < used') n (λ o l. omega (arith, before.within o l, used_is_lem)) (omega (arith, at_row, used_is_lem));
        spaced = λ o p l m. below_more (λ (q : ℕ). o < q → get_or rows' o 0 + 2 < get_or rows' q 0) n (λ q g k. before.spaced o q k g) (λ k. omega (arith, at_row, before.within o k)) p m l;
      }
