-- Tables that compare equal are fine together. Assumes nothing.
use Prim.Native.Nat.{ℕ, suc, ◌+◌, ◌-◌}
use native.Mathlib.Omega.{arith}
use mathlib.Core.Path.{◌≡◌, refl, sym, ap, subst, ◌∙◌}
use mathlib.Core.Bool.{Bool, true, false, true≢false}
use mathlib.Core.List.{List, [], ◌∷◌, ◌++◌}
use lib.IntN.{ℤ, pos, nat_abs}
use lib.ListN.{length, drop, get_or, replicate, length-drop}
use Rattle.meaning.specs.Bytes.{choose}
use Rattle.meaning.specs.Model.{AttributeType, Reference, Coordinate, Number, Text, Date, Enumeration, Line, found, missing, target_of, Model, table_at}
use Rattle.meaning.specs.Row.{Pair, OfAttribute, OfComponent, OfLine, pairs_of}
use Rattle.meaning.specs.Reading.{Content, cell_at}
use Rattle.meaning.specs.Table.{find_object}
use Rattle.meaning.specs.Writing.{stretch_bytes, identification_bytes, type_bytes, rows_of_table, rows_behind_table, rows_behind_topic}
use Rattle.meaning.specs.Readback.{Shown, of_cells, of_bytes, ShownObject, shown_stretch, is_text, has_start, shown_pairs, shown_objects}
use Rattle.meaning.specs.WritingClaims.{ObjectsInside, SameTable}
use Rattle.meaning.proofs.Tests.Unequal.{no_found}
use Rattle.meaning.proofs.Reading.Fields.{Solid}
use Rattle.meaning.proofs.Judge.Valid.{RowOk, done, absent, plain, word, name, without, along, no_line, line, lent_objects, ObjectOk, Place, topics_from, Rest, finished, topic_out, topic_in, topic_end, table_out, table_in, object, table_end, Valid}
use Rattle.meaning.proofs.Judge.Shown.{no_bytes, no_cells, cells_same, start_zero, start_plain, start_word, start_reference, shows, inside_shows, shown_shows, text_shows, shows_identification}
use Rattle.meaning.proofs.Reading.RowsRead.{found_at}

-- ## One pair

pub cons_inv : {A : Type 0} (x y : A) (xs ys : List A) → x ∷ xs ≡ y ∷ ys → (x ≡ y) × (xs ≡ ys)
cons_inv x y xs ys e = (cc, cc)

module _ (text text' : List ℕ) (ps : List Pair) (xs ys : List ℤ) where
  -- the other table's cells ys begin with the pair a b, and the pairs behind it show what those of the cells xs do
  pub record PairAlike (a b : ℤ) : Type 0 where
    pub others : List ℤ
    pub is : ys ≡ a ∷ b ∷ others
    pub long : length others ≡ length xs
    pub pairs : shown_pairs text ps xs ≡ shown_pairs text' ps others

  -- the pair of a text that stands elsewhere
  pub record WordAlike (f : List ℕ) : Type 0 where
    pub b' : ℤ
    pub there : stretch_bytes text' b' (length f) ≡ f
    pub pair : PairAlike (pos (1 + length f)) b'

-- what a pair shows
abbrev shown_pair : (text : List ℕ) → Pair → (a b : ℤ) → Shown
shown_pair text p a b = choose (has_start p a) (shown_stretch text b 1 a) (of_cells a b)

-- cells that are shown are those of the pair
cells_shown : (text : List ℕ) (p : Pair) (a b a' b' : ℤ) → of_cells a b ≡ shown_pair text p a' b' → (a ≡ a') × (b ≡ b')
unfolding choose
cells_shown text p a b a' b' e = by (has_start p a') e
  where
    by : (t : Bool) → of_cells a b ≡ choose t (shown_stretch text b' 1 a') (of_cells a' b') → (a ≡ a') × (b ≡ b')
    by true e = absurd (no_cells text b' 1 a' a b e)
    by false e = cells_same a b a' b' e

-- bytes that are shown are those of a text
bytes_shown : (text : List ℕ) (p : Pair) (a b : ℤ) (s : List ℕ) → of_bytes s ≡ shown_pair text p a b → shown_stretch text b 1 a ≡ of_bytes s
unfolding choose
bytes_shown text p a b s e = by (has_start p a) e
  where
    by : (t : Bool) → of_bytes s ≡ choose t (shown_stretch text b 1 a) (of_cells a b) → shown_stretch text b 1 a ≡ of_bytes s
    by true e = sym e
    by false e = absurd (no_bytes a b s (sym e))

-- a pair without a start is the same
pub pair_alike : (text text' : List ℕ) (p : Pair) (ps : List Pair) (a b : ℤ) (xs ys : List ℤ) → has_start p a ≡ false → length ys ≡ suc (suc (length xs))
    → shown_pairs text (p ∷ ps) (a ∷ b ∷ xs) ≡ shown_pairs text' (p ∷ ps) ys → PairAlike text text' ps xs ys a b
unfolding shown_pairs choose
pair_alike text text' p ps a b xs [] h l e = absurd (omega arith)
pair_alike text text' p ps a b xs (y ∷ []) h l e = absurd (omega arith)
pair_alike text text' p ps a b xs (a' ∷ (b' ∷ ys)) h l e =
    let q = cons_inv _ _ _ _ e in
    let r = cells_shown text' p a b a' b' (rw h at q.0) in
    record { others = ys; is = rw (r.0, r.1); long = omega arith; pairs = q.1 }

-- a text has the same bytes
pub word_alike : (text text' : List ℕ) (o : Bool) (longest : ℕ) (ps : List Pair) (f : List ℕ) (b : ℤ) (xs ys : List ℤ) → Solid f → stretch_bytes text b (length f) ≡ f → length ys ≡ suc (suc (length xs))
    → shown_pairs text (OfAttribute o (Text longest) ∷ ps) (pos (1 + length f) ∷ b ∷ xs) ≡ shown_pairs text' (OfAttribute o (Text longest) ∷ ps) ys → WordAlike text text' ps xs ys f
unfolding shown_pairs choose
word_alike text text' o longest ps f b xs [] h there l e = absurd (omega arith)
word_alike text text' o longest ps f b xs (y ∷ []) h there l e = absurd (omega arith)
word_alike text text' o longest ps f b xs (a' ∷ (b' ∷ ys)) h there l e =
    let q = cons_inv _ _ _ _ e in
    let s = shows text b 1 (pos (1 + length f)) f (text_shows text b 1 (pos (1 + length f)) f h refl there) in
    let r = shown_shows text' b' 1 a' f (bytes_shown text' (OfAttribute o (Text longest)) a' b' f (rw (start_word o longest (length f), s) at q.0)) in
    record { b' = b'; there = r.bytes; pair = record { others = ys; is = rw r.says; long = omega arith; pairs = q.1 } }

-- ## A row

module _ (text : List ℕ) (c : Content) (text' : List ℕ) (c' : Content) (same_points : c.points ≡ c'.points)
    (same_objects_lem : lent_objects text c.cells c.rows ≡ lent_objects text' c'.cells c'.rows) where
  pub plain_bytes : (type : AttributeType) (a b : ℤ) → is_text type ≡ false → target_of type ≡ missing → type_bytes text c type a b ≡ type_bytes text' c' type a b
  unfolding is_text target_of type_bytes
  plain_bytes (Reference t) a b h g = absurd (no_found t (sym g))
  plain_bytes (Coordinate ks) a b h g = refl
  plain_bytes (Number x) a b h g = refl
  plain_bytes (Text longest) a b h g = absurd (true≢false h)
  plain_bytes Date a b h g = refl
  plain_bytes (Enumeration leaves) a b h g = refl
  plain_bytes (Line forms ks) a b h g = refl

  row_alike : {u : ℕ} {before : Bool} {k k' : ℕ} {ps : List Pair} {xs : List ℤ} → RowOk u text c before k ps xs k' → (ys : List ℤ) → length ys ≡ length xs
      → shown_pairs text ps xs ≡ shown_pairs text' ps ys → RowOk u text' c' before k ps ys k'
  unfolding has_start
  row_alike done ys l e = done
  row_alike (absent {type = type} {ps = ps} {cs = xs} r) ys l e =
      let q = pair_alike text text' (OfAttribute true type) ps (pos 0) (pos 0) xs ys (start_zero (OfAttribute true type)) l e in
      rw q.is (absent (row_alike r q.others q.long q.pairs))
  row_alike (plain {o = o} {type = type} {ps = ps} {a = a} {b = b} {cs = xs} h g z d v r) ys l e =
      let q = pair_alike text text' (OfAttribute o type) ps a b xs ys (start_plain o type a h) l e in
      let bytes : type_bytes text c type a b ≡ type_bytes text' c' type a b = plain_bytes type a b h g in
      rw q.is (plain h g z (rw bytes at d) (rw bytes at v) (row_alike r q.others q.long q.pairs))
  row_alike (word {o = o} {longest = longest} {ps = ps} {b = b} {cs = xs} f d v s st r) ys l e =
      let q = word_alike text text' o longest ps f b xs ys d.solid st l e in
      rw q.pair.is (word f d v s q.there (row_alike r q.pair.others q.pair.long q.pair.pairs))
  row_alike (name {o = o} {target = target} {n = n} {ps = ps} {cs = xs} f d v st g r) ys l e =
      let q = pair_alike text text' (OfAttribute o (Reference target)) ps (pos 1) (pos n) xs ys (start_reference o target (pos 1)) l e in
      let g' : find_object target 0 f (lent_objects text' c'.cells c'.rows) ≡ found n = rw same_objects_lem at g in
      let y : n - 0 ≡ n = omega arith in
      let at : identification_bytes text' c'.cells (get_or c'.rows n 0) ≡ f = rw y at (found_at text' c'.cells target 0 f c'.rows n g').1 in
      rw q.is (name f d v at g' (row_alike r q.others q.long q.pairs))
  row_alike (without {x = x} {ps = ps} {cs = xs} r) ys l e =
      let q = pair_alike text text' (OfComponent x) ps (pos 0) (pos 0) xs ys refl l e in
      rw q.is (without (row_alike r q.others q.long q.pairs))
  row_alike (along {x = x} {ps = ps} {b = b} {cs = xs} w r) ys l e =
      let q = pair_alike text text' (OfComponent x) ps (pos 1) b xs ys refl l e in
      rw q.is (along w (row_alike r q.others q.long q.pairs))
  row_alike (no_line {forms = forms} {ks = ks} {ps = ps} {cs = xs} r) ys l e =
      let q = pair_alike text text' (OfLine true forms ks) ps (pos 0) (pos 0) xs ys refl l e in
      rw q.is (no_line (row_alike r q.others q.long q.pairs))
  row_alike (line {o = o} {k = k} {forms = forms} {ks = ks} {ps = ps} {cs = xs} n room p r) ys l e =
      let q = pair_alike text text' (OfLine o forms ks) ps (pos (1 + suc n)) (pos k) xs ys refl l e in
      rw q.is (line n (rw same_points at room) (rw same_points at p) (row_alike r q.others q.long q.pairs))

-- ## Rows

module _ (m : Model) (text : List ℕ) (cs : List ℤ) (text' : List ℕ) (cs' : List ℤ) where
  abbrev pub pairs_at : ℕ → List Pair
  pairs_at row = pairs_of (table_at m.tables (cell_at cs row)).attributes

  pub record RowAlike (row : ℕ) : Type 0 where
    pub table : get_or cs row (pos 0) ≡ get_or cs' row (pos 0)
    pub size : get_or cs (row + 2) (pos 0) ≡ get_or cs' (row + 2) (pos 0)
    pub identification : identification_bytes text cs row ≡ identification_bytes text' cs' row
    pub pairs : shown_pairs text (pairs_at row) (drop (row + 3) cs) ≡ shown_pairs text' (pairs_at row) (drop (row + 3) cs')

  abbrev pub AllAlike : List ℕ → Type 0
  AllAlike [] = Unit {0}
  AllAlike (row ∷ rows) = RowAlike row × AllAlike rows

  alike_append : (rows others : List ℕ) → AllAlike rows → AllAlike others → AllAlike (rows ++ others)
  alike_append [] others h k = k
  alike_append (row ∷ rows) others h k = (h.0, alike_append rows others h.1 k)

  pub rows_alike : (rows : List ℕ) → shown_objects m text cs rows ≡ shown_objects m text' cs' rows → ObjectsInside (shown_objects m text cs rows) → AllAlike rows
  unfolding shown_objects
  rows_alike [] e i = tt
  rows_alike (row ∷ rows) e i =
      let a = cons_inv _ _ _ _ e in
      let table : get_or cs row (pos 0) ≡ get_or cs' row (pos 0) = ap (λ (x : ShownObject). x.table) a.0 in
      let s = inside_shows text (get_or cs (row + 1) (pos 0)) 0 (get_or cs (row + 2) (pos 0)) i.0 in
      let s' = shown_shows text' (get_or cs' (row + 1) (pos 0)) 0 (get_or cs' (row + 2) (pos 0)) _ (sym (ap (λ (x : ShownObject). x.identification) a.0) ∙ shows text _ 0 _ _ s) in (
        record {
          table = table;
          size = s.says ∙ sym s'.says;
          identification = shows_identification text cs row _ s ∙ sym (shows_identification text' cs' row _ s');
          pairs = rw (← table) at (ap (λ (x : ShownObject). x.pairs) a.0);
        },
        rows_alike rows a.1 i.2,
      )

  pub objects_alike : (rows : List ℕ) → AllAlike rows → lent_objects text cs rows ≡ lent_objects text' cs' rows
  unfolding lent_objects
  objects_alike [] h = refl
  objects_alike (row ∷ rows) h = rw (h.0.table, h.0.identification, objects_alike rows h.1)

  pub of_table : (t : ℕ) (rows : List ℕ) → AllAlike rows → rows_of_table t cs rows ≡ rows_of_table t cs' rows
  unfolding rows_of_table
  of_table t [] h = refl
  of_table t (row ∷ rows) h = rw (h.0.table, of_table t rows h.1)

  pub behind_table : (t : ℕ) (rows : List ℕ) → AllAlike rows → rows_behind_table t cs rows ≡ rows_behind_table t cs' rows
  unfolding rows_behind_table
  behind_table t [] h = refl
  behind_table t (row ∷ rows) h = rw (h.0.table, behind_table t rows h.1)

  pub behind_topic_lem : (p : ℕ) (rows : List ℕ) → AllAlike rows → rows_behind_topic m.tables p cs rows ≡ rows_behind_topic m.tables p cs' rows
  unfolding rows_behind_topic
  behind_topic_lem p [] h = refl
  behind_topic_lem p (row ∷ rows) h = rw (h.0.table, behind_topic_lem p rows h.1)

-- ## The rest of a table

module _ (m : Model) (text : List ℕ) (c : Content) (text' : List ℕ) (c' : Content) (s : SameTable m text c text' c') where
  abbrev pub Alikes : List ℕ → Type 0
  Alikes rows = AllAlike m text c.cells text' c'.cells rows

  pub all_alike : Alikes c.rows
  all_alike = rows_alike m text c.cells text' c'.cells c.rows (s.objects ∙ ap (shown_objects m text' c'.cells) (sym s.rows)) s.inside

  pub all_objects : lent_objects text c.cells c.rows ≡ lent_objects text' c'.cells c'.rows
  all_objects = objects_alike m text c.cells text' c'.cells c.rows all_alike ∙ ap (lent_objects text' c'.cells) s.rows

  object_alike : {t : ℕ} {before : List ℕ} {at k k' : ℕ} → Alikes before → RowAlike m text c.cells text' c'.cells at → ObjectOk m text c t before at k k' → ObjectOk m text' c' t before at k k'
  object_alike {t = t} {before = before} {at = at} before-a h o =
      let ps : List Pair = pairs_of (table_at m.tables t).attributes in
      let here : cell_at c.cells at ≡ t = ap nat_abs o.table in
      let same-t : pairs_at m text c.cells text' c'.cells at ≡ ps = ap (λ (n : ℕ). pairs_of (table_at m.tables n).attributes) here in
      let pairs : shown_pairs text ps (drop (at + 3) c.cells) ≡ shown_pairs text' ps (drop (at + 3) c'.cells) = rw same-t at h.pairs in
      let long : length (drop (at + 3) c'.cells) ≡ length (drop (at + 3) c.cells) =
      length-drop (at + 3) c'.cells ∙ (ap (λ (n : ℕ). n - (at + 3)) (sym s.cells) ∙ sym (length-drop (at + 3) c.cells)) in
      let objects-e : lent_objects text c.cells before ≡ lent_objects text' c'.cells before = objects_alike m text c.cells text' c'.cells before before-a in
      record {
        table = sym h.table ∙ o.table;
        size = sym h.size ∙ (o.size ∙ ap (λ (i : List ℕ). pos (length i)) h.identification);
        identification = rw h.identification at o.identification;
        fresh = rw (h.identification, objects-e) at o.fresh;
        row = row_alike text c text' c' s.points all_objects o.row (drop (at + 3) c'.cells) long pairs;
        room = rw s.cells at o.room;
      }

  rest_alike : {place : Place} {marks before : List ℕ} {at k : ℕ} {rows : List ℕ} → Rest m text c place marks before at k rows → Alikes before → Alikes rows → Rest m text' c' place marks before at k rows
  rest_alike (finished a b d e) before-a rows-a = finished (a ∙ s.marks) (b ∙ s.rows) (d ∙ s.cells) (e ∙ ap length s.points)
  rest_alike (topic_out e r) before-a rows-a = topic_out (rw s.marks at e) (rest_alike r before-a rows-a)
  rest_alike (topic_in e d f r) before-a rows-a = topic_in (rw s.marks at e) d f (rest_alike r before-a rows-a)
  rest_alike (topic_end {p = p} {rows = rows} g e r) before-a rows-a =
      topic_end g (sym (behind_topic_lem m text c.cells text' c'.cells p rows rows-a) ∙ e) (rest_alike r before-a rows-a)
  rest_alike (table_out e r) before-a rows-a = table_out (rw s.marks at e) (rest_alike r before-a rows-a)
  rest_alike (table_in e here d f g r) before-a rows-a = table_in (rw s.marks at e) here d f g (rest_alike r before-a rows-a)
  rest_alike (object {at = at} {before = before} o topic r) before-a rows-a =
      object (object_alike before-a rows-a.0 o) topic (rest_alike r (alike_append m text c.cells text' c'.cells before (at ∷ []) before-a (rows-a.0, tt)) rows-a.1)
  rest_alike (table_end {t = t} {rows = rows} topic none behind r) before-a rows-a =
      table_end topic (sym (of_table m text c.cells text' c'.cells t rows rows-a) ∙ none) (sym (behind_table m text c.cells text' c'.cells t rows rows-a) ∙ behind) (rest_alike r before-a rows-a)

  -- a table that compares equal to one that is fine is fine
  pub valid_alike : Valid m text c → Valid m text' c'
  valid_alike v =
      subst (λ (rows : List ℕ). Rest m text' c' (topics_from 0 0 m.topics) (replicate (length m.topics + length m.tables) 0) [] 0 0 rows) s.rows
      (rest_alike v tt all_alike)
