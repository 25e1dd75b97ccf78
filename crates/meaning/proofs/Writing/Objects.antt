-- Reading the lines that are written of an object, behind rows that are read already. Assumes nothing.
use Prim.Native.Nat.{ℕ, suc, ◌+◌, ◌*◌, ◌/◌, ◌≤◌, ◌<◌}
use native.Mathlib.Omega.{arith}
use mathlib.Core.Path.{◌≡◌, refl, sym, ap, subst, ◌∙◌}
use mathlib.Core.Bool.{Bool, true}
use mathlib.Core.List.{List, [], ◌∷◌, ◌++◌, append_assoc, append-nil}
use lib.IntN.{ℤ, pos}
use lib.ListN.{length, take, drop, get_or, length-append, length-take}
use lib.Seq.{get_or-append_seam, get_or-append-add}
use borrow.Author.Tests.{lt-ltb, le-ltb, lt-leb}
use Rattle.meaning.specs.Bytes.{choose, refuse, separator, every, same}
use Rattle.meaning.specs.Model.{Model, table_at}
use Rattle.meaning.specs.Field.{has_code, OBJE}
use Rattle.meaning.specs.Value.{is_undefined, is_undefined_twice}
use Rattle.meaning.specs.Row.{Pair, pairs_of, pair_cells}
use Rattle.meaning.specs.Reading.{line_attributes, object_of, due_lines, Content, Rooms, stretch, object_at, objects_of}
use Rattle.meaning.specs.Lines.{go, store_row, object_fields, object_line, line_due}
use Rattle.meaning.specs.Writing.{identification_bytes, pair_fields, attribute_lines, object_lines, line_bytes}
use Rattle.meaning.specs.Readback.{shown_stretch}
use Rattle.meaning.proofs.Reading.Fields.{solid, Solid, placed}
use Rattle.meaning.proofs.Reading.Stretches.{stretch_pos}
use Rattle.meaning.proofs.Judge.Shown.{shows, text_shows, identification_shows}
use Rattle.meaning.proofs.Judge.Valid.{RowOk, done, absent, plain, word, name, without, along, no_line, line, lent_objects, ObjectOk}
use Rattle.meaning.proofs.Writing.Rows.{Like, nil, also, RowRead, row_solid, row_reads}
use Rattle.meaning.proofs.Writing.OwnLines.{Reads, reads_line}
use Rattle.meaning.proofs.Writing.Attributes.{attributes_read}

-- ## Rows as they are read, against the rows of the table

module _ (m : Model) (text : List ℕ) (c : Content) (own : List ℕ) where
  -- the row at this cell shows the identification that the text `own` has at this start, with this size
  abbrev pub IdentificationShown : (at start size : ℕ) → Type 0
  IdentificationShown at start size = shown_stretch own (pos start) 0 (pos size) ≡ shown_stretch text (get_or c.cells (at + 1) (pos 0)) 0 (get_or c.cells (at + 2) (pos 0))

  identification_shown : (at start : ℕ) → let i : List ℕ = identification_bytes text c.cells at in
      Solid i → get_or c.cells (at + 2) (pos 0) ≡ pos (length i) → stretch own start (length i) ≡ i → IdentificationShown at start (length i)
  identification_shown at start h e there =
      let i : List ℕ = identification_bytes text c.cells at in
      shows own (pos start) 0 (pos (length i)) i (text_shows own (pos start) 0 (pos (length i)) i h (ap pos (omega arith)) (stretch_pos own start (length i) ∙ there))
      ∙ sym (shows text _ 0 _ i (identification_shows text c.cells at h e))

  -- the rows from one cell to another, and what is read for them
  pub data RowsLike : (at : ℕ) → List ℕ → List ℤ → (to : ℕ) → Type 0 where
    stop : {at : ℕ} → RowsLike at [] [] at
    row : {at to t start size : ℕ} {rows : List ℕ} {xs zs : List ℤ} → get_or c.cells at (pos 0) ≡ pos t → get_or c.cells (at + 2) (pos 0) ≡ pos size
        → stretch own start size ≡ identification_bytes text c.cells at → IdentificationShown at start size → Like text c own true (pairs_of (table_at m.tables t).attributes) (drop (at + 3) c.cells) xs
        → RowsLike (at + (3 + length xs)) rows zs to → RowsLike at (at ∷ rows) (pos t ∷ pos start ∷ pos size ∷ (xs ++ zs)) to

  pub rows_size : {at to : ℕ} {rows : List ℕ} {zs : List ℤ} → RowsLike at rows zs to → at + length zs ≡ to
  rows_size stop = omega arith
  rows_size (row {xs = xs} {zs = zs} a b e v l r) = let ih = rows_size r in let z = length-append xs zs in omega arith

  rows_more : (start : ℕ) {at to t size : ℕ} {rows : List ℕ} {xs zs : List ℤ} → RowsLike at rows zs to → get_or c.cells to (pos 0) ≡ pos t → get_or c.cells (to + 2) (pos 0) ≡ pos size
      → stretch own start size ≡ identification_bytes text c.cells to → IdentificationShown to start size → Like text c own true (pairs_of (table_at m.tables t).attributes) (drop (to + 3) c.cells) xs
      → RowsLike at (rows ++ (to ∷ [])) (zs ++ (pos t ∷ pos start ∷ pos size ∷ xs)) (to + (3 + length xs))
  rows_more start {t = t} {size = size} {xs = ys} (stop {at = at}) a b e v l =
      subst (λ (l : List ℤ). RowsLike at (at ∷ []) (pos t ∷ pos start ∷ pos size ∷ l) (at + (3 + length ys))) (append-nil ys) (row a b e v l stop)
  rows_more start {t = t} {size = size} {xs = ys} (row {at = at} {to = to} {t = t'} {start = start'} {size = size'} {rows = rows} {xs = xs} {zs = zs} a' b' e' v' l' r) a b e v l =
      subst (λ (l : List ℤ). RowsLike at (at ∷ (rows ++ (to ∷ []))) (pos t' ∷ pos start' ∷ pos size' ∷ l) (to + (3 + length ys))) (sym (append_assoc xs zs (pos t ∷ pos start ∷ pos size ∷ ys)))
      (row a' b' e' v' l' (rows_more start r a b e v l))

  -- the objects that are read are those of the table
  pub rows_objects : {at to : ℕ} {rows : List ℕ} {zs : List ℤ} → RowsLike at rows zs to → (front rest : List ℤ) → length front ≡ at
      → objects_of own (front ++ (zs ++ rest)) rows ≡ lent_objects text c.cells rows
  unfolding objects_of object_at lent_objects
  rows_objects stop front rest e = refl
  rows_objects (row {at = at} {t = t} {start = start} {size = size} {rows = rows} {xs = xs} {zs = zs} a b i v l r) front rest e =
      let here : List ℤ = pos t ∷ pos start ∷ pos size ∷ xs in
      let all : List ℤ = here ++ (zs ++ rest) in
      let whole : (pos t ∷ pos start ∷ pos size ∷ (xs ++ zs)) ++ rest ≡ all = ap (λ (l : List ℤ). pos t ∷ pos start ∷ pos size ∷ l) (append_assoc xs zs rest) in
      let c₀ : get_or (front ++ all) at (pos 0) ≡ pos t = rw (← e) (get_or-append_seam front (pos t) _ (pos 0)) in
      let c₁ : get_or (front ++ all) (at + 1) (pos 0) ≡ pos start = rw (← e) (get_or-append-add front all 1 (pos 0)) in
      let c₂ : get_or (front ++ all) (at + 2) (pos 0) ≡ pos size = rw (← e) (get_or-append-add front all 2 (pos 0)) in
      let ih = rw (append_assoc front here (zs ++ rest)) at (rows_objects r (front ++ here) rest (length-append front here ∙ (let z : length here ≡ 3 + length xs = omega arith in rw (e, z)))) in
      subst (λ (l : List ℤ). objects_of own (front ++ l) (at ∷ rows) ≡ lent_objects text c.cells (at ∷ rows)) (sym whole) (rw (c₀, c₁, c₂, a, i, ih))

pub like_length : {text : List ℕ} {c : Content} {own : List ℕ} {drawn : Bool} {ps : List Pair} {cs xs : List ℤ} → Like text c own drawn ps cs xs → length xs ≡ 2 * length ps
like_length nil = refl
like_length (also p l) = let ih = like_length l in omega arith

pub row_points : {u : ℕ} {text : List ℕ} {c : Content} {before : Bool} {k k' : ℕ} {ps : List Pair} {cs : List ℤ} → RowOk u text c before k ps cs k' → 4 * k ≤ length c.points → 4 * k' ≤ length c.points
row_points done h = h
row_points (absent r) h = row_points r h
row_points (plain a b d w v r) h = row_points r h
row_points (word f w e l s r) h = row_points r h
row_points (name f w e s g r) h = row_points r h
row_points (without r) h = row_points r h
row_points (along w r) h = row_points r h
row_points (no_line r) h = row_points r h
row_points (line n l q r) h = row_points r l

-- ## An object

solid_OBJE : Solid OBJE
unfolding every solid separator
solid_OBJE = refl

-- the table that is read so far: marks and rows, what is read for the rows, and so many of the table's points
abbrev pub read_so_far : Content → (marks rows : List ℕ) → List ℤ → (k : ℕ) → Content
read_so_far c marks rows zs k = record { marks = marks; rows = rows; cells = zs; points = take (4 * k) c.points }

module _ (m : Model) (rooms : Rooms) (text : List ℕ) (c : Content) (own : List ℕ) (P : Content → Type 0) (su : Solid (m.undefined ∷ [])) where
  -- its OBJE line
  object_goes : (t k k' : ℕ) (before marks : List ℕ) (zs : List ℤ) → RowsLike m text c own 0 before zs (length zs) → ObjectOk m text c t before (length zs) k k'
      → length before < rooms.rows → length c.cells ≤ rooms.cells → 4 * k ≤ length c.points → (start : ℕ) →
      let at : ℕ = length zs in
      let ps : List Pair = pairs_of (table_at m.tables t).attributes in
      let i : List ℕ = identification_bytes text c.cells at in
      let fs : List (List ℕ) = pair_fields m.undefined text c ps (drop (at + 3) c.cells) in
      (q : RowRead m.undefined text c own ps (drop (at + 3) c.cells) (pair_cells m.undefined true 3 ps (placed (start + 4 + 1 + length i + 1) fs)))
      → line_due m rooms own (object_of t) (line_bytes (OBJE ∷ i ∷ fs)) (placed start (OBJE ∷ i ∷ fs)) (read_so_far c marks before zs k)
      ≡ go (due_lines t k (line_attributes (at + 3) ps)) (read_so_far c marks (before ++ (at ∷ [])) (zs ++ (pos t ∷ pos (start + 4 + 1) ∷ pos (length i) ∷ q.xs)) k)
  unfolding line_due object_line object_fields has_code same choose refuse store_row is_undefined is_undefined_twice placed
  object_goes t k k' before marks zs like o room_row room_cell room_point start q =
      let at : ℕ = length zs in
      let ps : List Pair = pairs_of (table_at m.tables t).attributes in
      let i : List ℕ = identification_bytes text c.cells at in
      let fs : List (List ℕ) = pair_fields m.undefined text c ps (drop (at + 3) c.cells) in
      let field = o.identification.field in
      let objects : objects_of own zs before ≡ lent_objects text c.cells before = rw (append-nil zs) at (rows_objects m text c own like [] [] refl) in
      let count : length (take (4 * k) c.points) / 4 ≡ k = rw (length-take (4 * k) c.points) (omega arith) in
      let long : length q.xs ≡ 2 * length ps = like_length q.like in
      let room : at + suc (suc (suc (length q.xs))) ≤ rooms.cells = let r = o.room in omega arith in
      rw (
        lt-ltb 1 (suc (suc (length (placed (start + 4 + 1 + length i + 1) fs)))) (omega arith),
        field.one,
        field.two,
        o.identification.shape,
        objects,
        o.fresh,
        q.is,
        lt-leb rooms.rows (length before) room_row,
        le-ltb rooms.cells (at + suc (suc (suc (length q.xs)))) room,
        count,
      )

  object_here : (t k k' : ℕ) (before marks : List ℕ) (zs : List ℤ) (ks : List (List (List ℕ))) → RowsLike m text c own 0 before zs (length zs) → ObjectOk m text c t before (length zs) k k'
      → length before < rooms.rows → length c.cells ≤ rooms.cells → length c.points ≤ rooms.points → 4 * k ≤ length c.points →
      let at : ℕ = length zs in
      let ps : List Pair = pairs_of (table_at m.tables t).attributes in
      ((zs' : List ℤ) → RowsLike m text c own 0 (before ++ (at ∷ [])) zs' (at + (3 + 2 * length ps)) → Reads m rooms own P (object_of t) (read_so_far c marks (before ++ (at ∷ [])) zs' k') ks)
      → Reads m rooms own P (object_of t) (read_so_far c marks before zs k) (object_lines m text c ps at ++ ks)
  unfolding object_lines placed
  object_here t k k' before marks zs ks like o room_row room_cell room_point enough then =
      let at : ℕ = length zs in
      let u : ℕ = m.undefined in
      let ps : List Pair = pairs_of (table_at m.tables t).attributes in
      let cs : List ℤ = drop (at + 3) c.cells in
      let i : List ℕ = identification_bytes text c.cells at in
      let fs : List (List ℕ) = pair_fields u text c ps cs in
      reads_line m rooms own P (object_of t) (read_so_far c marks before zs k) OBJE (i ∷ fs) (attribute_lines c (line_attributes (at + 3) ps) ++ ks)
      solid_OBJE (o.identification.field.solid, row_solid su o.row) (λ start st.
      let start-i : ℕ = start + 4 + 1 in
      let q : RowRead u text c own ps cs (pair_cells u true 3 ps (placed (start-i + length i + 1) fs)) = row_reads u text c own o.row (start-i + length i + 1) 3 st.1.1 in
      let head : List ℤ = pos t ∷ pos start-i ∷ pos (length i) ∷ [] in
      let more : (ys : List ℤ) → Like text c own true ps cs ys → Reads m rooms own P (object_of t) (read_so_far c marks (before ++ (at ∷ [])) ((zs ++ head) ++ ys) k') ks = λ ys l.
      rw (append_assoc zs head ys) (then (zs ++ (head ++ ys))
      (subst (λ (n : ℕ). RowsLike m text c own 0 (before ++ (at ∷ [])) (zs ++ (head ++ ys)) (at + (3 + n))) (like_length l)
      (rows_more m text c own start-i like o.table o.size st.1.0 (identification_shown m text c own at start-i o.identification.field.solid o.size st.1.0) l))) in
      let rest : Reads m rooms own P (due_lines t k (line_attributes (at + 3) ps)) (read_so_far c marks (before ++ (at ∷ [])) ((zs ++ head) ++ q.xs) k) (attribute_lines c (line_attributes (at + 3) ps) ++ ks) =
      attributes_read m rooms own P text c room_point t ks o.row q.like (read_so_far c marks (before ++ (at ∷ [])) zs k) (at + 3) (zs ++ head) (length-append zs head) refl more in
      record {
        due = due_lines t k (line_attributes (at + 3) ps);
        content = read_so_far c marks (before ++ (at ∷ [])) (zs ++ (head ++ q.xs)) k;
        goes = object_goes t k k' before marks zs like o room_row room_cell enough start q;
        reads = rw (append_assoc zs head q.xs) at rest;
      })

  -- the lines of an object, and what follows
  pub object_read : (t k k' at : ℕ) (before marks : List ℕ) (zs : List ℤ) (ks : List (List (List ℕ))) → RowsLike m text c own 0 before zs at → ObjectOk m text c t before at k k'
      → length before < rooms.rows → length c.cells ≤ rooms.cells → length c.points ≤ rooms.points → 4 * k ≤ length c.points →
      let ps : List Pair = pairs_of (table_at m.tables t).attributes in
      ((zs' : List ℤ) → RowsLike m text c own 0 (before ++ (at ∷ [])) zs' (at + (3 + 2 * length ps)) → Reads m rooms own P (object_of t) (read_so_far c marks (before ++ (at ∷ [])) zs' k') ks)
      → Reads m rooms own P (object_of t) (read_so_far c marks before zs k) (object_lines m text c ps at ++ ks)
  object_read t k k' at before marks zs ks like o r₁ r₂ r₃ r₄ then =
      let e : length zs ≡ at = let z = rows_size m text c own like in omega arith in
      let ps : List Pair = pairs_of (table_at m.tables t).attributes in
      subst (λ (at : ℕ). RowsLike m text c own 0 before zs at → ObjectOk m text c t before at k k'
      → ((zs' : List ℤ) → RowsLike m text c own 0 (before ++ (at ∷ [])) zs' (at + (3 + 2 * length ps)) → Reads m rooms own P (object_of t) (read_so_far c marks (before ++ (at ∷ [])) zs' k') ks)
      → Reads m rooms own P (object_of t) (read_so_far c marks before zs k) (object_lines m text c ps at ++ ks)) e
      (λ like o then. object_here t k k' before marks zs ks like o r₁ r₂ r₃ r₄ then) like o then
