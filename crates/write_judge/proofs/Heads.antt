-- The tests of a row's first three cells, and its pairs counted. Assumes nothing.
use Prim.Native.Nat.{ℕ, suc, ◌+◌, ◌≤◌, ◌<◌}
use native.Mathlib.Omega.{arith}
use mathlib.Core.Path.{◌≡◌, refl, sym, ap, ◌∙◌}
use mathlib.Core.Bool.{Bool, true, false, not, ◌&&◌, false≢true}
use mathlib.Core.List.{List, [], ◌∷◌}
use Rattle.std.proofs.Common.{Some, None}
use lib.Dec.{T, leb, eqb}
use lib.IntN.{ℤ, pos, negsuc, nat_abs}
use lib.Signed.{lt_z, non_neg}
use lib.ListN.{length, get_or, take}
use lib.Seq.{get_or-take, length-take-le}
use borrow.Author.Tests.{ltb-true, ltb-false, leb-true, le-leb, lt-leb, not-true}
use Rattle.meaning.specs.Bytes.{choose, all_of}
use Rattle.meaning.specs.Model.{Model, table_at}
use Rattle.meaning.specs.Row.{pairs_of}
use Rattle.meaning.specs.Reading.{stretch, cell_at, object_at, objects_of, is_used}
use Rattle.meaning.specs.Writing.{stretch_bytes, identification_bytes}
use Rattle.meaning.specs.Judge as judge
use Rattle.meaning.specs.Judge.{judge_stretch, lent_objects, row_end, judge_row}
use Rattle.meaning.proofs.Tests.Refuse.{both, holds}
use Rattle.meaning.proofs.Reading.Stretches.{stretch_pos}
use Rattle.model_records.specs.Records.{model_at, pairs_at}
use Rattle.model_records.specs.AtRecord.{AttributesHere}
use Rattle.model_records.specs.Places.{attributes_place, Placed}
use Rattle.model_records.specs.declared.places.Shape.{Shape}
use Rattle.model_records.specs.declared.places.Records.{Records}
use Rattle.table.specs.declared.Table.{Table}
use Rattle.table.specs.Contents.{content}
use Rattle.table.specs.Rows.{identification_of, Row, RowsListed}
use Rattle.table_index.specs.Index.{hash_of, insert_of}
use Rattle.table_index.proofs.More.{known_more}
use Rattle.write_judge.specs.Rows.{Known, table_tests, name_tests}
use Rattle.write_judge.proofs.Signs.{alone}

-- ## A cell and a number

-- a cell that is no less than a number is not below zero
pub least_pos : (a : ℤ) (n : ℕ) → not (lt_z a (pos n)) ≡ true → T (non_neg a) × (n ≤ nat_abs a)
least_pos (pos x) n h = (tt, ltb-false x n (not-true _ h))
least_pos (negsuc x) n h = absurd (false≢true h)

pub below_is : (a : ℤ) (n : ℕ) → T (non_neg a) → lt_z a (pos n) ≡ true → nat_abs a < n
below_is (pos x) n p h = ltb-true x n h
below_is (negsuc x) n p h = absurd p

-- ## The table

module _ (shape : Shape) (t : Table) (least at : ℕ) where
  abbrev table_cell : ℤ
  table_cell = get_or t.cells.now at (pos 0)

  abbrev mark : ℕ
  mark = get_or t.marks.now (shape.topics + cell_at t.cells.now at) 0

  pub table_early : lt_z table_cell (pos least) ≡ true → false ≡ table_tests shape t least at
  unfolding table_tests all_of
  table_early h = rw h

  pub table_none : lt_z table_cell (pos shape.tables) ≡ false → false ≡ table_tests shape t least at
  unfolding table_tests all_of
  table_none h = rw h (first (not (lt_z table_cell (pos least))))
    where
      first : (x : Bool) → false ≡ (x && false)
      first true = refl
      first false = refl

  pub table_marked : lt_z table_cell (pos least) ≡ false → lt_z table_cell (pos shape.tables) ≡ true → not (eqb mark 0) ≡ table_tests shape t least at
  unfolding table_tests all_of
  table_marked h k = rw (h, k) (alone (not (eqb mark 0)))

  module _ (h : table_tests shape t least at ≡ true) where
    table_pos : T (non_neg table_cell)
    unfolding table_tests
    table_pos = (least_pos table_cell least (holds _ 0 h)).0

    pub table_in_lem : cell_at t.cells.now at < shape.tables
    unfolding table_tests
    table_in_lem = below_is table_cell shape.tables table_pos (holds _ 1 h)

-- the attribute records of the row's table
module _ (model : Records) (h : Placed model) (cells : List ℤ) (at n : ℕ) (e : n ≡ cell_at cells at) (l : n < model.shape.tables)
    (first : ℕ) (f : first ≡ attributes_place model.bytes.now model.places n) where
  pub row_attributes : AttributesHere (model_at model.bytes.now) model.bytes.now first
  row_attributes = rw f (record { topics = _; tables = _; standing = (h.noted.table n l).standing })

  pub row_pairs : pairs_at model.bytes.now first ≡ judge.pairs_at (model_at model.bytes.now) cells at
  row_pairs = rw f (ap pairs_of (h.noted.table n l).attributes ∙ ap (λ (k : ℕ). pairs_of (table_at (model_at model.bytes.now).tables k).attributes) e)

-- ## The end of a row

pub end_table : (x y : Bool) (e : ℕ) → x ≡ false → None ≡ choose (x && y) (Some e) None
unfolding choose
end_table x y e h = rw h

pub end_short : (x : Bool) (e size : ℕ) → size < e → None ≡ choose (x && leb e size) (Some e) None
unfolding choose
end_short true e size h = rw (lt-leb e size h)
end_short false e size h = refl

pub end_is : (x : Bool) (e size r : ℕ) → x ≡ true → e ≤ size → r ≡ e → Some r ≡ choose (x && leb e size) (Some e) None
unfolding choose
end_is x e size r h l q = rw (h, le-leb e size l) (ap Some q)

-- ## The identification

module _ (t : Table) (u at : ℕ) where
  abbrev start_cell : ℤ
  start_cell = get_or t.cells.now (at + 1) (pos 0)

  abbrev size_cell : ℤ
  size_cell = get_or t.cells.now (at + 2) (pos 0)

  pub name_short : lt_z size_cell (pos 1) ≡ true → false ≡ name_tests t u at
  unfolding name_tests
  name_short h = rw h

  pub name_is : lt_z size_cell (pos 1) ≡ false → judge_stretch u t.text.now start_cell (nat_abs size_cell) ≡ name_tests t u at
  unfolding name_tests
  name_is h = rw h

  module _ (h : name_tests t u at ≡ true) where
    stretch_fine : judge_stretch u t.text.now start_cell (nat_abs size_cell) ≡ true
    unfolding name_tests
    stretch_fine = (both (not (lt_z size_cell (pos 1))) _ h).1

    start_pos : T (non_neg start_cell)
    unfolding judge_stretch
    start_pos = (least_pos start_cell 0 (holds _ 0 stretch_fine)).0

    size_pos : T (non_neg size_cell)
    unfolding name_tests
    size_pos = (least_pos size_cell 1 (both (not (lt_z size_cell (pos 1))) _ h).0).0

    in_text : nat_abs start_cell + nat_abs size_cell ≤ length t.text.now
    unfolding judge_stretch
    in_text = leb-true _ _ (holds _ 1 stretch_fine)

    row_here : T (non_neg (get_or t.cells.now at (pos 0))) → at + 2 < length t.cells.now → Row t.text.now t.cells.now at
    row_here p l = record { in_cells = l; table_pos = p; start_pos = start_pos; length_pos = size_pos; in_text = in_text }

-- an identification whose start is not below zero
name_bytes : (text : List ℕ) (a : ℤ) (size : ℕ) → T (non_neg a) → stretch_bytes text a size ≡ stretch text (nat_abs a) size
name_bytes text (pos x) size p = stretch_pos text x size
name_bytes text (negsuc x) size p = absurd p

own_name : (text rows : List ℕ) (cells : List ℤ) (o at : ℕ) → get_or rows o 0 ≡ at → T (non_neg (get_or cells (at + 1) (pos 0))) → identification_bytes text cells at ≡ identification_of text rows cells o
unfolding identification_bytes identification_of
own_name text rows cells o at e p = rw e (name_bytes text (get_or cells (at + 1) (pos 0)) (cell_at cells (at + 2)) p)

-- the objects of rows that are fine are those that a reading has
objects_same : (text : List ℕ) (cells : List ℤ) (rows : List ℕ) → ((o : ℕ) → o < length rows → T (non_neg (get_or cells (get_or rows o 0 + 1) (pos 0)))) → lent_objects text cells rows ≡ objects_of text cells rows
unfolding lent_objects objects_of object_at identification_bytes
objects_same text cells [] h = refl
objects_same text cells (row ∷ rows) h =
    let p : T (non_neg (get_or cells (row + 1) (pos 0))) = h 0 (omega arith) in
    rw (name_bytes text (get_or cells (row + 1) (pos 0)) (cell_at cells (row + 2)) p, objects_same text cells rows (λ o l. h (suc o) (omega arith)))

lent_same : (text rows : List ℕ) (cells : List ℤ) (n : ℕ) → RowsListed text rows cells n → lent_objects text cells (take n rows) ≡ objects_of text cells (take n rows)
lent_same text rows cells n h = objects_same text cells (take n rows) (λ o l. each o (let z = length-take-le n rows h.in_rows in omega arith))
  where
    each : (o : ℕ) → o < n → T (non_neg (get_or cells (get_or (take n rows) o 0 + 1) (pos 0)))
    each o l = rw (get_or-take n rows o 0 l) (h.row o l).start_pos

-- an identification that is looked for, and goes into the index where it is not used
module _ (seed : ℕ) (t : Table) (o : ℕ) (part : List ℕ) (e : part ≡ identification_of t.text.now t.rows.now t.cells.now o) (u : Bool)
    (is : u ≡ is_used part (objects_of t.text.now t.cells.now (take o t.rows.now))) where
  abbrev own : Bool
  own = is_used (identification_of t.text.now t.rows.now t.cells.now o) (objects_of t.text.now t.cells.now (take o t.rows.now))

  used_is_lem : u ≡ own
  used_is_lem = rw e at is

  pub add_used : u ≡ true → false ≡ not own
  add_used h = rw (← used_is_lem, h)

  pub add_unused : u ≡ false → true ≡ not own
  add_unused h = rw (← used_is_lem, h)

  pub add_known : (index : List ℕ) → Known seed t index o → o < length t.rows.now → Row t.text.now t.cells.now (get_or t.rows.now o 0) → u ≡ false → (hash : ℕ) → hash ≡ hash_of seed part
      → (index' : List ℕ) → index' ≡ insert_of index (length t.rows.now) o hash → Known seed t index' (o + 1)
  add_known index k l r h hash eh index' ei =
      rw (ei, eh, e) (known_more seed t.text.now t.rows.now t.cells.now index o k l r (sym used_is_lem ∙ h))

-- ## The row

seven : (a b c d e f g : Bool) → (a && (b && (c && (d && (e && (f && (g && true))))))) ≡ (((a && (b && (c && true))) && d) && ((e && f) && g))
seven false b c d e f g = refl
seven true false c d e f g = refl
seven true true false d e f g = refl
seven true true true false e f g = refl
seven true true true true false f g = refl
seven true true true true true false g = refl
seven true true true true true true true = refl
seven true true true true true true false = refl

-- a row's end, by its three groups of rules
module _ (x y z j : Bool) (e : ℕ) (s : j ≡ (x && (y && z))) where
  end_first : None ≡ choose x (Some e) None → None ≡ choose j (Some e) None
  unfolding choose
  end_first q = rw s (go x y z q)
    where
      go : (x y z : Bool) → None ≡ choose x (Some e) None → None ≡ choose (x && (y && z)) (Some e) None
      go true true true q = q
      go true true false q = refl
      go true false z q = refl
      go false y z q = refl

  end_second : y ≡ false → None ≡ choose j (Some e) None
  unfolding choose
  end_second h = rw (s, h) (go x)
    where
      go : (x : Bool) → None ≡ choose (x && false) (Some e) None
      go true = refl
      go false = refl

  end_third : z ≡ false → None ≡ choose j (Some e) None
  unfolding choose
  end_third h = rw (s, h) (go x y)
    where
      go : (x y : Bool) → None ≡ choose (x && (y && false)) (Some e) None
      go true true = refl
      go true false = refl
      go false y = refl

  end_all : (r : ℕ) → Some r ≡ choose x (Some e) None → y ≡ true → z ≡ true → Some r ≡ choose j (Some e) None
  unfolding choose
  end_all r h p q = rw (s, p, q) (go x h)
    where
      go : (x : Bool) → Some r ≡ choose x (Some e) None → Some r ≡ choose (x && true) (Some e) None
      go true h = h
      go false h = h

-- a row has an end only where its first rules hold
end_told : (x : Bool) (e size r : ℕ) → Some r ≡ choose (x && leb e size) (Some e) None → (x ≡ true) × (e ≤ size) × (r ≡ e)
unfolding choose
end_told true e size r h = go (leb e size) refl h
  where
    go : (y : Bool) → leb e size ≡ y → Some r ≡ choose y (Some e) None → (true ≡ true) × (e ≤ size) × (r ≡ e)
    go true q h = let same : r ≡ e = cc in (refl, leb-true e size q, same)
    go false q h = cc
end_told false e size r h = cc

module _ (model : Records) (t : Table) (placed : Placed model) (o at least : ℕ) (er : get_or t.rows.now o 0 ≡ at) (listed : RowsListed t.text.now t.rows.now t.cells.now o) where
  abbrev shape : Shape
  shape = model.shape

  abbrev m : Model
  m = model_at model.bytes.now

  abbrev cells : List ℤ
  cells = t.cells.now

  abbrev end : ℕ
  end = row_end m cells at

  abbrev X : Bool
  X = table_tests shape t least at && leb end (length cells)

  abbrev Y : Bool
  Y = name_tests t shape.undefined at

  abbrev Z : Bool
  Z = not (is_used (identification_bytes t.text.now cells at) (lent_objects t.text.now cells (take o t.rows.now)))

  abbrev J : Bool
  J = judge_row m t.text.now (content t) least at (take o t.rows.now)

  abbrev Unused : Bool
  Unused = not (is_used (identification_of t.text.now t.rows.now cells o) (objects_of t.text.now cells (take o t.rows.now)))

  row_split : J ≡ (X && (Y && Z))
  unfolding judge_row all_of table_tests name_tests
  row_split = rw (placed.topics, placed.tables, placed.undefined)
      (seven (not (lt_z (get_or cells at (pos 0)) (pos least))) (lt_z (get_or cells at (pos 0)) (pos (length m.tables))) (not (eqb (get_or t.marks.now (length m.topics + cell_at cells at) 0) 0)) (leb end (length cells))
      (not (lt_z (get_or cells (at + 2) (pos 0)) (pos 1))) (judge_stretch m.undefined t.text.now (get_or cells (at + 1) (pos 0)) (cell_at cells (at + 2))) Z)

  row_name : Y ≡ true → identification_bytes t.text.now cells at ≡ identification_of t.text.now t.rows.now cells o
  row_name h = own_name t.text.now t.rows.now cells o at er (start_pos t shape.undefined at h)

  row_used : Y ≡ true → Z ≡ Unused
  row_used h = rw (row_name h, lent_same t.text.now t.rows.now cells o listed)

  pub row_first : None ≡ choose X (Some end) None → None ≡ choose J (Some end) None
  row_first = end_first X Y Z J end row_split

  pub row_second : Y ≡ false → None ≡ choose J (Some end) None
  row_second = end_second X Y Z J end row_split

  pub row_third : Y ≡ true → Unused ≡ false → None ≡ choose J (Some end) None
  row_third y z = end_third X Y Z J end row_split (row_used y ∙ z)

  pub row_all : (r : ℕ) → Some r ≡ choose X (Some end) None → Y ≡ true → Unused ≡ true → Some r ≡ choose J (Some end) None
  row_all r h y z = end_all X Y Z J end row_split r h y (row_used y ∙ z)

  -- a row that has an end lies within the cells
  pub row_row : (r : ℕ) → Some r ≡ choose X (Some end) None → Y ≡ true → Row t.text.now cells (get_or t.rows.now o 0)
  row_row r h y =
      let q = end_told (table_tests shape t least at) end (length cells) r h in
      rw er (row_here t shape.undefined at y (table_pos shape t least at q.0) (omega (arith, q.1)))

  pub row_cells_lem : (r : ℕ) → Some r ≡ choose X (Some end) None → at + 2 < length cells
  row_cells_lem r h = omega (arith, (end_told (table_tests shape t least at) end (length cells) r h).1)
