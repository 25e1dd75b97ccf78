-- Tables that compare equal have the same lines. Assumes nothing.
use Prim.Native.Nat.{ℕ, suc, ◌+◌, ◌*◌, ◌-◌, ◌/◌, min}
use native.Mathlib.Omega.{arith}
use mathlib.Core.Path.{◌≡◌, refl, sym, ap, ap₂, ◌∙◌}
use mathlib.Core.Bool.{Bool, true}
use mathlib.Core.List.{List, [], ◌∷◌, ◌++◌}
use lib.IntN.{ℤ, pos, nat_abs}
use lib.ListN.{length, drop, get_or, length-drop}
use lib.Seq.{drop-drop, get_or-drop}
use Rattle.meaning.specs.Bytes.{choose}
use Rattle.meaning.specs.Model.{Component, Reference, Model, table_at, found}
use Rattle.meaning.specs.Field.{SCNT, slashes, MTID, MODL, TOPI, TABL, OBJE, ELIN, ETAB, ETOP}
use Rattle.meaning.specs.Row.{Pair, OfAttribute, OfComponent, OfLine, pairs_of}
use Rattle.meaning.specs.Reading.{Content, cell_at, line_attributes}
use Rattle.meaning.specs.Table.{find_object}
use Rattle.meaning.specs.Writing.{identification_bytes, type_bytes, field_bytes, pair_fields, attribute_lines, point_lines, object_lines, field_lines, lines_bytes, lines_of}
use Rattle.meaning.specs.Readback.{has_start, shown_pairs}
use Rattle.meaning.specs.WritingClaims.{SameTable}
use Rattle.meaning.proofs.Judge.Valid.{RowOk, done, absent, plain, word, name, without, along, no_line, line, lent_objects, ObjectOk, Place, topics_from, Rest, finished, topic_out, topic_in, topic_end, table_out, table_in, object, table_end, Valid}
use Rattle.meaning.proofs.Reading.RowsRead.{found_at}
use Rattle.meaning.proofs.Writing.Rows.{word_bytes}
use Rattle.meaning.proofs.Writing.Tables.{lines_at, last_lines_lem, topic_out_lines, topic_in_lines, topic_end_lines, table_out_lines, table_in_lines, object_lines_lem, table_end_lines}
use Rattle.meaning.proofs.Judge.Shown.{cells_same, start_zero, start_plain, start_reference}
use Rattle.meaning.proofs.Judge.EqualTables.{pair_alike, word_alike, plain_bytes, pairs_at, RowAlike, AllAlike, all_alike, of_table, behind_table, behind_topic_lem, all_objects, cons_inv}

-- ## The fields of a row

module _ (text : List ℕ) (c : Content) (text' : List ℕ) (c' : Content) (same_points : c.points ≡ c'.points)
    (same_objects_lem : lent_objects text c.cells c.rows ≡ lent_objects text' c'.cells c'.rows) where
  -- a field, where the first cell is the same
  field : (u : ℕ) (a : ℤ) (f f' : List ℕ) (fs fs' : List (List ℕ)) → f ≡ f' → fs ≡ fs' → field_bytes u a f ∷ fs ≡ field_bytes u a f' ∷ fs'
  field u a f f' fs fs' e r = rw (e, r)

  pub fields_alike : {u : ℕ} {before : Bool} {k k' : ℕ} {ps : List Pair} {xs : List ℤ} → RowOk u text c before k ps xs k' → (ys : List ℤ) → length ys ≡ length xs
      → shown_pairs text ps xs ≡ shown_pairs text' ps ys → pair_fields u text c ps xs ≡ pair_fields u text' c' ps ys
  unfolding has_start pair_fields field_bytes choose type_bytes
  fields_alike done ys l e = refl
  fields_alike {u = u} (absent {type = type} {ps = ps} {cs = xs} r) ys l e =
      let q = pair_alike text text' (OfAttribute true type) ps (pos 0) (pos 0) xs ys (start_zero (OfAttribute true type)) l e in
      rw q.is (ap (λ (fs : List (List ℕ)). (u ∷ []) ∷ fs) (fields_alike r q.others q.long q.pairs))
  fields_alike {u = u} (plain {o = o} {type = type} {ps = ps} {a = a} {b = b} {cs = xs} h g z d v r) ys l e =
      let q = pair_alike text text' (OfAttribute o type) ps a b xs ys (start_plain o type a h) l e in
      rw q.is (field u a _ _ _ _ (plain_bytes text c text' c' same_points same_objects_lem type a b h g) (fields_alike r q.others q.long q.pairs))
  fields_alike {u = u} (word {o = o} {longest = longest} {ps = ps} {b = b} {cs = xs} f d v s st r) ys l e =
      let q = word_alike text text' o longest ps f b xs ys d.solid st l e in
      rw q.pair.is (field u (pos (1 + length f)) _ _ _ _ (word_bytes text c longest b f st ∙ sym (word_bytes text' c' longest q.b' f q.there)) (fields_alike r q.pair.others q.pair.long q.pair.pairs))
  fields_alike {u = u} (name {o = o} {target = target} {n = n} {ps = ps} {cs = xs} f d v st g r) ys l e =
      let q = pair_alike text text' (OfAttribute o (Reference target)) ps (pos 1) (pos n) xs ys (start_reference o target (pos 1)) l e in
      let g' : find_object target 0 f (lent_objects text' c'.cells c'.rows) ≡ found n = rw same_objects_lem at g in
      let y : n - 0 ≡ n = omega arith in
      let at : identification_bytes text' c'.cells (get_or c'.rows n 0) ≡ f = rw y at (found_at text' c'.cells target 0 f c'.rows n g').1 in
      rw q.is (field u (pos 1) _ _ _ _ (st ∙ sym at) (fields_alike r q.others q.long q.pairs))
  fields_alike {u = u} (without {x = x} {ps = ps} {cs = xs} r) ys l e =
      let q = pair_alike text text' (OfComponent x) ps (pos 0) (pos 0) xs ys refl l e in
      rw q.is (ap (λ (fs : List (List ℕ)). (u ∷ []) ∷ fs) (fields_alike r q.others q.long q.pairs))
  fields_alike {u = u} (along {x = x} {ps = ps} {b = b} {cs = xs} w r) ys l e =
      let q = pair_alike text text' (OfComponent x) ps (pos 1) b xs ys refl l e in
      rw q.is (field u (pos 1) _ _ _ _ refl (fields_alike r q.others q.long q.pairs))
  fields_alike (no_line {forms = forms} {ks = ks} {ps = ps} {cs = xs} r) ys l e =
      let q = pair_alike text text' (OfLine true forms ks) ps (pos 0) (pos 0) xs ys refl l e in
      rw q.is (fields_alike r q.others q.long q.pairs)
  fields_alike (line {o = o} {k = k} {forms = forms} {ks = ks} {ps = ps} {cs = xs} n room p r) ys l e =
      let q = pair_alike text text' (OfLine o forms ks) ps (pos (1 + suc n)) (pos k) xs ys refl l e in
      rw q.is (fields_alike r q.others q.long q.pairs)

-- ## The lines of line attributes

-- the points of a line attribute whose pair is a b
abbrev drawn_by : List Component → (a b : ℤ) (points : List ℤ) → List (List (List ℕ))
drawn_by ks a b points = point_lines ks (min (nat_abs a - 1) (length points / 4)) (drop (4 * nat_abs b) points)

drawn_same : (ks : List Component) (a a' b b' : ℤ) (points points' : List ℤ) → a ≡ a' → b ≡ b' → points ≡ points' → drawn_by ks a b points ≡ drawn_by ks a' b' points'
drawn_same ks a a' b b' points points' e f g = rw (e, f, g)

module _ (text : List ℕ) (c : Content) (text' : List ℕ) (c' : Content) (same_points : c.points ≡ c'.points) where
  pub drawn_alike : (ps : List Pair) (cell : ℕ) → shown_pairs text ps (drop cell c.cells) ≡ shown_pairs text' ps (drop cell c'.cells)
      → attribute_lines c (line_attributes cell ps) ≡ attribute_lines c' (line_attributes cell ps)
  unfolding attribute_lines line_attributes shown_pairs has_start choose
  drawn_alike [] cell e = refl
  drawn_alike (OfAttribute o type ∷ ps) cell e = drawn_alike ps (cell + 2) (rw (drop-drop 2 cell c.cells, drop-drop 2 cell c'.cells) at (cons_inv _ _ _ _ e).1)
  drawn_alike (OfComponent x ∷ ps) cell e = drawn_alike ps (cell + 2) (rw (drop-drop 2 cell c.cells, drop-drop 2 cell c'.cells) at (cons_inv _ _ _ _ e).1)
  drawn_alike (OfLine o forms ks ∷ ps) cell e =
      let q = cons_inv _ _ _ _ e in
      let a = cells_same _ _ _ _ q.0 in
      let at_first : (cs : List ℤ) → get_or (drop cell cs) 0 (pos 0) ≡ get_or cs cell (pos 0) = λ cs. get_or-drop cell cs 0 (pos 0) ∙ ap (λ (n : ℕ). get_or cs n (pos 0)) (omega arith) in
      let first : get_or c.cells cell (pos 0) ≡ get_or c'.cells cell (pos 0) = sym (at_first c.cells) ∙ (a.0 ∙ at_first c'.cells) in
      let second : get_or c.cells (cell + 1) (pos 0) ≡ get_or c'.cells (cell + 1) (pos 0) = sym (get_or-drop cell c.cells 1 (pos 0)) ∙ (a.1 ∙ get_or-drop cell c'.cells 1 (pos 0)) in
      let others = drawn_alike ps (cell + 2) (rw (drop-drop 2 cell c.cells, drop-drop 2 cell c'.cells) at q.1) in
      ap₂ (λ (l k : List (List (List ℕ))). l ++ ((ELIN ∷ []) ∷ k)) (drawn_same ks _ _ _ _ _ _ first second same_points) others

-- ## The lines of a table

module _ (m : Model) (text : List ℕ) (c : Content) (text' : List ℕ) (c' : Content) (s : SameTable m text c text' c') where
  object_same : {t : ℕ} {before : List ℕ} {at k k' : ℕ} → RowAlike m text c.cells text' c'.cells at → ObjectOk m text c t before at k k'
      → object_lines m text c (pairs_of (table_at m.tables t).attributes) at ≡ object_lines m text' c' (pairs_of (table_at m.tables t).attributes) at
  unfolding object_lines
  object_same {t = t} {at = at} h o =
      let ps : List Pair = pairs_of (table_at m.tables t).attributes in
      let here : cell_at c.cells at ≡ t = ap nat_abs o.table in
      let same-t : pairs_at m text c.cells text' c'.cells at ≡ ps = ap (λ (n : ℕ). pairs_of (table_at m.tables n).attributes) here in
      let pairs : shown_pairs text ps (drop (at + 3) c.cells) ≡ shown_pairs text' ps (drop (at + 3) c'.cells) = rw same-t at h.pairs in
      let long : length (drop (at + 3) c'.cells) ≡ length (drop (at + 3) c.cells) =
      length-drop (at + 3) c'.cells ∙ (ap (λ (n : ℕ). n - (at + 3)) (sym s.cells) ∙ sym (length-drop (at + 3) c.cells)) in
      let fields = fields_alike text c text' c' s.points (all_objects m text c text' c' s) o.row (drop (at + 3) c'.cells) long pairs in
      ap₂ (λ (l : List (List ℕ)) (k : List (List (List ℕ))). l ∷ k) (ap₂ (λ (i : List ℕ) (fs : List (List ℕ)). OBJE ∷ i ∷ fs) h.identification fields)
      (drawn_alike text c text' c' s.points ps (at + 3) pairs)

  abbrev Same : Place → List ℕ → Type 0
  Same place rows = lines_at m text c place rows ≡ lines_at m text' c' place rows

  rest_same : {place : Place} {marks before : List ℕ} {at k : ℕ} {rows : List ℕ} → Rest m text c place marks before at k rows → AllAlike m text c.cells text' c'.cells rows → Same place rows
  rest_same (finished {from = from} {p = p} a b d e) rows-a = sym (last_lines_lem m text c from p) ∙ last_lines_lem m text' c' from p
  rest_same (topic_out {from = from} {p = p} {name = title} {names = names} {rows = rows} e r) rows-a =
      topic_out_lines m text c from p title names rows e ∙ (rest_same r rows-a ∙ sym (topic_out_lines m text' c' from p title names rows (rw s.marks at e)))
  rest_same (topic_in {from = from} {p = p} {name = title} {names = names} {rows = rows} e d f r) rows-a =
      topic_in_lines m text c from p title names rows e
      ∙ (ap (λ (l : List (List (List ℕ))). (TOPI ∷ title ∷ []) ∷ l) (rest_same r rows-a) ∙ sym (topic_in_lines m text' c' from p title names rows (rw s.marks at e)))
  rest_same (topic_end {p = p} {from = from} {n = n} {names = names} {rows = rows} g e r) rows-a =
      topic_end_lines m text c p from n names rows e
      ∙ (ap (λ (l : List (List (List ℕ))). (ETOP ∷ []) ∷ l) (rest_same r rows-a)
      ∙ sym (topic_end_lines m text' c' p from n names rows (sym (behind_topic_lem m text c.cells text' c'.cells p rows rows-a) ∙ e)))
  rest_same (table_out {p = p} {from = from} {n = n} {table = table} {ts = ts} {names = names} {rows = rows} e r) rows-a =
      table_out_lines m text c p from n table ts names rows e ∙ (rest_same r rows-a ∙ sym (table_out_lines m text' c' p from n table ts names rows (rw s.marks at e)))
  rest_same (table_in {p = p} {from = from} {n = n} {table = table} {ts = ts} {names = names} {rows = rows} e here d f g r) rows-a =
      table_in_lines m text c p from n table ts names rows e here
      ∙ (ap (λ (l : List (List (List ℕ))). (TABL ∷ table.name ∷ []) ∷ l) (rest_same r rows-a) ∙ sym (table_in_lines m text' c' p from n table ts names rows (rw s.marks at e) here))
  rest_same (object {p = p} {t = t} {at = at} {ts = ts} {names = names} {rows = rows} o topic r) rows-a =
      object_lines_lem m text c p t ts names at rows (ap nat_abs o.table) topic
      ∙ (ap₂ (λ (l k : List (List (List ℕ))). l ++ k) (object_same rows-a.0 o) (rest_same r rows-a.1)
      ∙ sym (object_lines_lem m text' c' p t ts names at rows (ap nat_abs (sym rows-a.0.table ∙ o.table)) topic))
  rest_same (table_end {p = p} {t = t} {ts = ts} {names = names} {rows = rows} topic none behind r) rows-a =
      table_end_lines m text c p t ts names rows none behind
      ∙ (ap (λ (l : List (List (List ℕ))). (ETAB ∷ []) ∷ l) (rest_same r rows-a)
      ∙ sym (table_end_lines m text' c' p t ts names rows (sym (of_table m text c.cells text' c'.cells t rows rows-a) ∙ none) (sym (behind_table m text c.cells text' c'.cells t rows rows-a) ∙ behind)))

  -- a table that compares equal to one that is fine has its lines
  pub lines_same : Valid m text c → lines_of m text c ≡ lines_of m text' c'
  unfolding lines_of field_lines lines_at
  lines_same v =
      ap (λ (ls : List (List (List ℕ))). lines_bytes ((SCNT ∷ []) ∷ (slashes ∷ []) ∷ (MTID ∷ m.transfer ∷ []) ∷ (MODL ∷ m.name ∷ []) ∷ ls))
      (rest_same v (all_alike m text c text' c' s)
      ∙ ap (λ (rows : List ℕ). lines_at m text' c' (topics_from 0 0 m.topics) rows) s.rows)
