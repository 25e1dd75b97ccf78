-- What a caller keeps while its table grows and changes: rows behind those that count do not matter, nor cells that are none
-- of the first three of a row. Assumes nothing.
use Prim.Native.Nat.{ℕ, zero, suc, ◌+◌, ◌-◌, ◌≤◌, ◌<◌}
use mathlib.Core.Path.{◌≡◌, refl, sym, ap, ◌∙◌}
use mathlib.Core.Bool.{Bool, true, false}
use mathlib.Core.List.{List, [], ◌∷◌, ◌++◌}
use native.Mathlib.Omega.{arith}
use lib.Dec.{eqb, ltb}
use lib.IntN.{ℤ, pos}
use lib.ListN.{length, get_or, take, set, length-set, replicate}
use lib.Seq.{get_or-take, get_or-set_other}
use borrow.Author.Tests.{ltb-true, ltb-false}
use Rattle.std.specs.Prelude.{Option, None, Some}
use Rattle.meaning.specs.Reading.{Object, object_at, objects_of, is_used}
use Rattle.table_index.specs.Objects.{last_of, Unique}
use Rattle.table.specs.Rows.{identification_of, RowsListed}
use Rattle.table_index.specs.Index.{head_of, has_head, word_of, Chained, Indexed}
use Rattle.table_index.specs.Holds.{ObjectsKnown, IndexedTable}
use Rattle.table.specs.Rows.{BesideRows}
use Rattle.table_index.proofs.Last.{upto, last_same, last_le}
use Rattle.table_index.proofs.Grown.{nothing_chained}
use Rattle.table_index.proofs.Meant.{objects_more}
use Rattle.meaning.proofs.Lists.{first_same}

-- ## The index depends on the identifications of its objects alone

word_same : (seed : ℕ) (ids ids' : ℕ → List ℕ) (k : Option ℕ) → ((o : ℕ) → o < upto k → ids o ≡ ids' o) → word_of seed ids k ≡ word_of seed ids' k
unfolding word_of
word_same seed ids ids' None h = refl
word_same seed ids ids' (Some o) h = rw (h o (omega arith))

chained_same : (seed : ℕ) (ids ids' : ℕ → List ℕ) (links : ℕ) (index : List ℕ) (n : ℕ) → ((o : ℕ) → o < n → ids' o ≡ ids o) → Chained seed ids links index n → Chained seed ids' links index n
chained_same seed ids ids' links index n same ch = record {
  link = λ o l. ch.link o l
      ∙ ap (λ (s : List ℕ). word_of seed ids (last_of (has_head seed (length index - links) ids (head_of seed (length index - links) s)) o)) (sym (same o l))
      ∙ words o (head_of seed (length index - links) (ids' o)) (omega arith);
  head = λ h l. ch.head h l ∙ words n h (omega arith);
}
  where
    word : (k : Option ℕ) → upto k ≤ n → word_of seed ids k ≡ word_of seed ids' k
    word k l = word_same seed ids ids' k (λ o g. sym (same o (omega arith)))

    words : (k h : ℕ) → k ≤ n → word_of seed ids (last_of (has_head seed (length index - links) ids h) k) ≡ word_of seed ids' (last_of (has_head seed (length index - links) ids' h) k)
    words k h l =
        word _ (omega (arith, last_le (has_head seed (length index - links) ids h) k))
        ∙ ap (word_of seed ids') (last_same _ _ k (λ j g. ap (λ (s : List ℕ). eqb (head_of seed (length index - links) s) h) (sym (same j (omega arith)))))

-- ## Tables that agree

-- the first n objects stand in the same rows, with the same first three cells
pub record Agree (rows rows' : List ℕ) (cells cells' : List ℤ) (n : ℕ) : Type 0 where
  pub rows_same : (o : ℕ) → o < n → get_or rows' o 0 ≡ get_or rows o 0
  pub table_same : (o : ℕ) → o < n → get_or cells' (get_or rows o 0) (pos 0) ≡ get_or cells (get_or rows o 0) (pos 0)
  pub start_same : (o : ℕ) → o < n → get_or cells' (get_or rows o 0 + 1) (pos 0) ≡ get_or cells (get_or rows o 0 + 1) (pos 0)
  pub length_same : (o : ℕ) → o < n → get_or cells' (get_or rows o 0 + 2) (pos 0) ≡ get_or cells (get_or rows o 0 + 2) (pos 0)

module _ (text rows rows' : List ℕ) (cells cells' : List ℤ) (n : ℕ) (a : Agree rows rows' cells cells' n) where
  named_kept : (o : ℕ) → o < n → identification_of text rows' cells' o ≡ identification_of text rows cells o
  unfolding identification_of
  named_kept o l = rw (a.rows_same o l, a.start_same o l, a.length_same o l)

  object_kept : (o : ℕ) → o < n → object_at text cells' (get_or rows' o 0) ≡ object_at text cells (get_or rows o 0)
  unfolding object_at
  object_kept o l = rw (a.rows_same o l, a.table_same o l, a.start_same o l, a.length_same o l)

  pub objects_kept : n ≤ length rows → n ≤ length rows' → (k : ℕ) → k ≤ n → objects_of text cells' (take k rows') ≡ objects_of text cells (take k rows)
  unfolding objects_of
  objects_kept r r' zero l = refl
  objects_kept r r' (suc k) l =
      objects_more text cells' rows' k (omega arith)
      ∙ ap (λ (os : List Object). os ++ (object_at text cells' (get_or rows' k 0) ∷ [])) (objects_kept r r' k (omega arith))
      ∙ ap (λ (o : Object). objects_of text cells (take k rows) ++ (o ∷ [])) (object_kept k (omega arith))
      ∙ sym (objects_more text cells rows k (omega arith))

  module _ (lr : length rows' ≡ length rows) (lc : length cells' ≡ length cells) where
    listed_kept : RowsListed text rows cells n → RowsListed text rows' cells' n
    listed_kept k = record {
      in_rows = omega (arith, k.in_rows);
      row = λ o l. rw (a.rows_same o l) (record {
        in_cells = omega (arith, (k.row o l).in_cells);
        table_pos = rw (a.table_same o l) (k.row o l).table_pos;
        start_pos = rw (a.start_same o l) (k.row o l).start_pos;
        length_pos = rw (a.length_same o l) (k.row o l).length_pos;
        in_text = rw (a.start_same o l, a.length_same o l) (k.row o l).in_text;
      });
    }

    unique_kept : Unique (identification_of text rows cells) n → Unique (identification_of text rows' cells') n
    unique_kept u = record { apart = λ o p l m. rw (named_kept o (omega arith), named_kept p m) (u.apart o p l m) }

    indexed_kept : (seed : ℕ) (index : List ℕ) → Indexed seed text rows cells index n → Indexed seed text rows' cells' index n
    indexed_kept seed index k = rw lr (λ t. chained_same seed (identification_of text rows cells) (identification_of text rows' cells') (length rows) index n named_kept (k t))

    pub known_kept : (seed : ℕ) (index : List ℕ) → ObjectsKnown seed text rows cells index n → ObjectsKnown seed text rows' cells' index n
    known_kept seed index k = record { listed = listed_kept k.listed; unique = unique_kept k.unique; indexed = indexed_kept seed index k.indexed }

    pub held_kept : (seed used : ℕ) (index : List ℕ) → IndexedTable seed text n used rows cells index → IndexedTable seed text n used rows' cells' index
    held_kept seed used index h = record {
      known = known_kept seed index h.known;
      cells_in = omega (arith, h.cells_in);
      within = λ o l. omega (arith, a.rows_same o l, h.within o l);
      spaced = λ o p l m. omega (arith, a.rows_same o (omega arith), a.rows_same p m, h.spaced o p l m);
    }

-- ## No object

pub held_start : (seed : ℕ) (text rows : List ℕ) (cells : List ℤ) (index : List ℕ) (k : ℕ) → index ≡ replicate k 0 → IndexedTable seed text 0 0 rows cells index
held_start seed text rows cells index k e = record {
  known = record {
    listed = record { in_rows = omega arith; row = λ o l. absurd (omega arith) };
    unique = record { apart = λ o p l m. absurd (omega arith) };
    indexed = λ t. rw e (nothing_chained seed (identification_of text rows cells) (length rows) k);
  };
  cells_in = omega arith;
  within = λ o l. absurd (omega arith);
  spaced = λ o p l m. absurd (omega arith);
}

-- ## The same first elements

module _ (seed : ℕ) (text : List ℕ) (n used : ℕ) (rows : List ℕ) (cells : List ℤ) (index : List ℕ) (h : IndexedTable seed text n used rows cells index) where
  -- where the rows and the cells that count are the same
  agree_first : (rows' : List ℕ) (cells' : List ℤ) → take n rows' ≡ take n rows → take used cells' ≡ take used cells → Agree rows rows' cells cells' n
  agree_first rows' cells' r k = record {
    rows_same = λ o l. first_same rows rows' n o 0 r l;
    table_same = λ o l. first_same cells cells' used (get_or rows o 0) (pos 0) k (omega (arith, h.within o l));
    start_same = λ o l. first_same cells cells' used (get_or rows o 0 + 1) (pos 0) k (omega (arith, h.within o l));
    length_same = λ o l. first_same cells cells' used (get_or rows o 0 + 2) (pos 0) k (h.within o l);
  }

  -- rows and cells written behind those that count
  pub held_behind : (rows' : List ℕ) (cells' : List ℤ) → length rows' ≡ length rows → length cells' ≡ length cells → take n rows' ≡ take n rows → take used cells' ≡ take used cells → IndexedTable seed text n used rows' cells' index
  held_behind rows' cells' lr lc r k = held_kept text rows rows' cells cells' n (agree_first rows' cells' r k) lr lc seed used index h

  -- the objects stand in the cells that count
  pub held_objects : objects_of text (take used cells) (take n rows) ≡ objects_of text cells (take n rows)
  held_objects =
      objects_kept text rows rows cells (take used cells) n
      (record {
        rows_same = λ o l. refl;
        table_same = λ o l. get_or-take used cells (get_or rows o 0) (pos 0) (omega (arith, h.within o l));
        start_same = λ o l. get_or-take used cells (get_or rows o 0 + 1) (pos 0) (omega (arith, h.within o l));
        length_same = λ o l. get_or-take used cells (get_or rows o 0 + 2) (pos 0) (h.within o l);
      })
      h.known.listed.in_rows h.known.listed.in_rows n (omega arith)

  -- so the same is used and named there
  pub held_used : (i : List ℕ) → is_used i (objects_of text cells (take n rows)) ≡ is_used i (objects_of text (take used cells) (take n rows))
  held_used i = ap (is_used i) (sym held_objects)

  -- ## A cell changed

  -- a cell of row p behind its first three and before the later rows
  pub beside_in : (p cell : ℕ) → p < n → get_or rows p 0 + 2 < cell → ((o : ℕ) → p < o → o < n → cell < get_or rows o 0) → BesideRows rows n cell
  beside_in p cell l b later = record { beside = λ o k m s e. go o k m s e (ltb o p) refl (ltb p o) refl }
    where
      go : (o k : ℕ) → o < n → k < 3 → cell ≡ get_or rows o 0 + k → (x : Bool) → ltb o p ≡ x → (y : Bool) → ltb p o ≡ y → ⊥
      go o k m s e true x y r = omega (arith, h.spaced o p (ltb-true o p x) l)
      go o k m s e false x true y = omega (arith, later o (ltb-true p o y) m)
      go o k m s e false x false y =
          let same : o ≡ p = omega (arith, ltb-false o p x, ltb-false p o y) in
          omega (arith, ap (λ (j : ℕ). get_or rows j 0) same)

  agree_beside : (cell : ℕ) (v : ℤ) → BesideRows rows n cell → Agree rows rows cells (set cells cell v) n
  agree_beside cell v b = record {
    rows_same = λ o l. refl;
    table_same = λ o l. get_or-set_other cells cell (get_or rows o 0) v (pos 0) (λ q. b.beside o 0 l (omega arith) (omega arith));
    start_same = λ o l. get_or-set_other cells cell (get_or rows o 0 + 1) v (pos 0) (λ q. b.beside o 1 l (omega arith) (sym q));
    length_same = λ o l. get_or-set_other cells cell (get_or rows o 0 + 2) v (pos 0) (λ q. b.beside o 2 l (omega arith) (sym q));
  }

  pub held_beside : (cell : ℕ) (v : ℤ) → BesideRows rows n cell → IndexedTable seed text n used rows (set cells cell v) index
  held_beside cell v b = held_kept text rows rows cells (set cells cell v) n (agree_beside cell v b) refl (length-set cells cell v) seed used index h

  -- the objects are the same as before
  pub objects_beside : (cell : ℕ) (v : ℤ) → BesideRows rows n cell → objects_of text (set cells cell v) (take n rows) ≡ objects_of text cells (take n rows)
  objects_beside cell v b = objects_kept text rows rows cells (set cells cell v) n (agree_beside cell v b) h.known.listed.in_rows h.known.listed.in_rows n (omega arith)

-- a cell behind the first three of every row
pub beside_behind : (rows : List ℕ) (n cell : ℕ) → ((o : ℕ) → o < n → get_or rows o 0 + 2 < cell) → BesideRows rows n cell
beside_behind rows n cell behind = record { beside = λ o k l s e. omega (arith, behind o l) }

-- a pair of cells: a line's, or a reference that is resolved
module _ (seed : ℕ) (text : List ℕ) (n used : ℕ) (rows : List ℕ) (cells : List ℤ) (index : List ℕ) (h : IndexedTable seed text n used rows cells index) where
  module _ (cell : ℕ) (v w : ℤ) (b : BesideRows rows n cell) (b' : BesideRows rows n (cell + 1)) where
    pub held_pair : IndexedTable seed text n used rows (set (set cells cell v) (cell + 1) w) index
    held_pair = held_beside seed text n used rows (set cells cell v) index (held_beside seed text n used rows cells index h cell v b) (cell + 1) w b'
