-- Reading the lines that are written of an object's line attributes. Assumes nothing.
use Prim.Native.Nat.{ℕ, suc, ◌+◌, ◌*◌, ◌-◌, ◌/◌, ◌≤◌, min}
use native.Mathlib.Omega.{arith}
use mathlib.Core.Path.{◌≡◌, refl, sym, ◌∙◌}
use mathlib.Core.Bool.{Bool, true, false, false≢true}
use mathlib.Core.List.{List, [], ◌∷◌, ◌++◌, append_assoc}
use lib.IntN.{ℤ, pos}
use lib.ListN.{length, take, drop, get_or, set, length-append, length-take}
use lib.Seq.{get_or-drop, drop-drop, take-add, set-append_seam, set_at}
use Rattle.meaning.specs.Bytes.{choose, refuse, separator, every, same}
use Rattle.meaning.specs.Model.{Component, AttributeType, Reference, Text, Model}
use Rattle.meaning.specs.Field.{has_code, ELIN}
use Rattle.meaning.specs.Row.{Pair, OfAttribute, OfComponent, OfLine}
use Rattle.meaning.specs.Reading.{unstarted, reached, line_code_of, move, LineAttribute, line_attributes, Underway, Due, object_of, line_of, due_lines, with_state, Content, with_point, point_count, with_line, Rooms}
use Rattle.meaning.specs.Lines.{bare, attribute_line, line_due}
use Rattle.meaning.specs.Writing.{point_lines, attribute_lines}
use Rattle.meaning.proofs.Reading.Fields.{solid, placed}
use Rattle.meaning.proofs.Judge.Valid.{PointsOk, RowOk, done, absent, plain, word, name, without, along, no_line, line}
use Rattle.meaning.proofs.Writing.Rows.{is_plain, PairLike, alike, word_at, name_at, undrawn, is_drawn, Like, nil, also}
use Rattle.meaning.proofs.Writing.OwnLines.{Reads, reads_simple}
use Rattle.meaning.proofs.Writing.Points.{points_read}

-- ## Two cells of a list

-- two cells that a list begins with from a place on
module _ {a b : ℤ} {xs : List ℤ} (cs : List ℤ) (cell : ℕ) (e : (a ∷ b ∷ xs) ≡ drop cell cs) where
  pub first_cell : get_or cs cell (pos 0) ≡ a
  first_cell = let z : cell + 0 ≡ cell = omega arith in sym (rw z at (get_or-drop cell cs 0 (pos 0))) ∙ rw (← e)

  pub second_cell : get_or cs (cell + 1) (pos 0) ≡ b
  second_cell = sym (get_or-drop cell cs 1 (pos 0)) ∙ rw (← e)

  pub cells_behind : xs ≡ drop (cell + 2) cs
  cells_behind = rw (← e) at (drop-drop 2 cell cs)

module _ (front : List ℤ) (a b : ℤ) (rest : List ℤ) where
  pub set_pair : (x y : ℤ) → set (set (front ++ (a ∷ b ∷ rest)) (length front) x) (length front + 1) y ≡ front ++ (x ∷ y ∷ rest)
  set_pair x y =
      rw (set-append_seam front a (b ∷ rest) x, ← append_assoc front (x ∷ []) (b ∷ rest), ← append_assoc front (x ∷ []) (y ∷ rest))
      (set_at (front ++ (x ∷ [])) b rest y (length front + 1) (length-append front (x ∷ [])))

  -- the two cells join what stands before
  pub moved : (front ++ (a ∷ b ∷ [])) ++ rest ≡ front ++ (a ∷ b ∷ rest)
  moved = append_assoc front (a ∷ b ∷ []) rest

  pub moved_length : length (front ++ (a ∷ b ∷ [])) ≡ length front + 2
  moved_length = length-append front (a ∷ b ∷ [])

-- ## Pairs of no line

module _ {text : List ℕ} {c : Content} {own : List ℕ} where
  attribute_drawn : {o : Bool} {type : AttributeType} {a b x y : ℤ} → PairLike text c own false (OfAttribute o type) a b x y → PairLike text c own true (OfAttribute o type) a b x y
  attribute_drawn (alike h) = alike h
  attribute_drawn (word_at size h) = word_at size h
  attribute_drawn (name_at size h) = name_at size h

  component_drawn : {k : Component} {a b x y : ℤ} → PairLike text c own false (OfComponent k) a b x y → PairLike text c own true (OfComponent k) a b x y
  component_drawn (alike h) = alike h

line_plain : (o : Bool) (forms : ℕ) (ks : List Component) (a : ℤ) → is_plain (OfLine o forms ks) a ≡ true → ⊥
unfolding is_plain
line_plain o forms ks a h = false≢true h

-- ## The lines of one line attribute

abbrev pub with_cells : Content → List ℤ → List ℤ → Content
with_cells d cells points = record { marks = d.marks; rows = d.rows; cells = cells; points = points }

module _ (c : Content) (a : LineAttribute) (others : List LineAttribute) where
  lines_undefined : get_or c.cells a.cell (pos 0) ≡ pos 0 → attribute_lines c (a ∷ others) ≡ (ELIN ∷ []) ∷ attribute_lines c others
  unfolding attribute_lines point_lines
  lines_undefined e = let z : min 0 (length c.points / 4) ≡ 0 = omega arith in rw (e, z)

  lines_drawn : (n k : ℕ) → get_or c.cells a.cell (pos 0) ≡ pos (1 + n) → get_or c.cells (a.cell + 1) (pos 0) ≡ pos k → 4 * n ≤ length c.points
      → attribute_lines c (a ∷ others) ≡ point_lines a.components n (drop (4 * k) c.points) ++ ((ELIN ∷ []) ∷ attribute_lines c others)
  unfolding attribute_lines
  lines_drawn n k e f room = let z : min (1 + n - 1) (length c.points / 4) ≡ n = omega arith in rw (e, f, z)

module _ (m : Model) (rooms : Rooms) (own : List ℕ) (P : Content → Type 0) where
  reads_undefined : (w : Underway) (d : Content) (ks : List (List (List ℕ))) → w.state ≡ unstarted → w.attribute.optional ≡ true
      → Reads m rooms own P (due_lines w.table w.first w.others) d ks → Reads m rooms own P (line_of w) d ((ELIN ∷ []) ∷ ks)
  unfolding line_due attribute_line refuse bare placed line_code_of has_code same choose move every solid separator
  reads_undefined w d ks e o r = reads_simple m rooms own P (line_of w) d ELIN [] ks _ d refl tt (λ start. rw (e, o)) r

  reads_ended : (w : Underway) (d : Content) (ks : List (List (List ℕ))) → w.state ≡ reached
      → Reads m rooms own P (due_lines w.table (point_count d) w.others) (with_line w d) ks → Reads m rooms own P (line_of w) d ((ELIN ∷ []) ∷ ks)
  unfolding line_due attribute_line refuse bare placed line_code_of has_code same choose move every solid separator
  reads_ended w d ks e r = reads_simple m rooms own P (line_of w) d ELIN [] ks _ (with_line w d) refl tt (λ start. rw e) r

-- ## The line attributes of an object

module _ (m : Model) (rooms : Rooms) (own : List ℕ) (P : Content → Type 0) (text : List ℕ) (c : Content) (fits : length c.points ≤ rooms.points) (t : ℕ) (ks : List (List (List ℕ))) where
  abbrev Then : Due → Content → List LineAttribute → Type 0
  Then due d rest = Reads m rooms own P due d (attribute_lines c rest ++ ks)

  -- a line attribute whose pair is 0 0
  undefined_read : (a : LineAttribute) (others : List LineAttribute) (k : ℕ) (d : Content) → get_or c.cells a.cell (pos 0) ≡ pos 0 → a.optional ≡ true
      → Then (due_lines t k others) d others → Then (due_lines t k (a ∷ others)) d (a ∷ others)
  unfolding due_lines
  undefined_read a others k d e o r =
      rw (lines_undefined c a others e) (reads_undefined m rooms own P (record { table = t; state = unstarted; first = k; attribute = a; others = others }) d _ refl o r)

  -- one that has points
  drawn_read : (a : LineAttribute) (others : List LineAttribute) (k n : ℕ) (d : Content) (front xs : List ℤ) (x y : ℤ)
      → get_or c.cells a.cell (pos 0) ≡ pos (1 + n) → get_or c.cells (a.cell + 1) (pos 0) ≡ pos k → length front ≡ a.cell → 4 * (k + n) ≤ length c.points
      → PointsOk m.undefined a.forms a.components unstarted n (drop (4 * k) c.points)
      → Then (due_lines t (k + n) others) (with_cells d (front ++ (pos (1 + n) ∷ pos k ∷ xs)) (take (4 * (k + n)) c.points)) others
      → Then (due_lines t k (a ∷ others)) (with_cells d (front ++ (x ∷ y ∷ xs)) (take (4 * k) c.points)) (a ∷ others)
  unfolding due_lines with_line
  drawn_read a others k n d front xs x y e f at room points r =
      let w : Underway = record { table = t; state = unstarted; first = k; attribute = a; others = others } in
      let ps : List ℤ = drop (4 * k) c.points in
      let c₀ : Content = with_cells d (front ++ (x ∷ y ∷ xs)) (take (4 * k) c.points) in
      let size : length (take (4 * k) c.points) ≡ 4 * k = rw (length-take (4 * k) c.points) (omega arith) in
      let all : take (4 * k) c.points ++ take (4 * n) ps ≡ take (4 * (k + n)) c.points =
      let z : 4 * (k + n) ≡ 4 * k + 4 * n = omega arith in rw z (sym (take-add (4 * k) (4 * n) c.points)) in
      let count : length (take (4 * (k + n)) c.points) / 4 ≡ k + n = rw (length-take (4 * (k + n)) c.points) (omega arith) in
      let more : k + n - k ≡ n = omega arith in
      let cells : set (set (front ++ (x ∷ y ∷ xs)) a.cell (pos (1 + n))) (a.cell + 1) (pos k) ≡ front ++ (pos (1 + n) ∷ pos k ∷ xs) = rw (← at) (set_pair front x y xs (pos (1 + n)) (pos k)) in
      let ended : Reads m rooms own P (line_of (with_state reached w)) (with_point (take (4 * n) ps) c₀) ((ELIN ∷ []) ∷ (attribute_lines c others ++ ks)) =
      rw all (reads_ended m rooms own P (with_state reached w) (with_cells d (front ++ (x ∷ y ∷ xs)) (take (4 * (k + n)) c.points)) _ refl (rw (count, more, cells) r)) in
      rw (lines_drawn c a others n k e f (omega arith), append_assoc (point_lines a.components n ps) ((ELIN ∷ []) ∷ attribute_lines c others) ks)
      (points_read m rooms own P w _ c₀ points (rw size (omega arith)) ended)

  -- the lines of the line attributes of these pairs, whose cells are cs in the table and xs as far as they are read
  abbrev AttributesRead : (k k' : ℕ) → List Pair → (cs xs : List ℤ) → Type 0
  AttributesRead k k' ps cs xs = (d : Content) (cell : ℕ) (front : List ℤ) → length front ≡ cell → cs ≡ drop cell c.cells
      → ((ys : List ℤ) → Like text c own true ps cs ys → Reads m rooms own P (object_of t) (with_cells d (front ++ ys) (take (4 * k') c.points)) ks)
      → Then (due_lines t k (line_attributes cell ps)) (with_cells d (front ++ xs) (take (4 * k) c.points)) (line_attributes cell ps)

  -- the lines behind a pair
  behind_pair_lem : (k k' : ℕ) (p : Pair) (ps : List Pair) (a b x y : ℤ) (cs xs : List ℤ) → PairLike text c own true p a b x y → AttributesRead k k' ps cs xs
      → (d : Content) (cell : ℕ) (front : List ℤ) → length front ≡ cell → (a ∷ b ∷ cs) ≡ drop cell c.cells
      → ((ys : List ℤ) → Like text c own true (p ∷ ps) (a ∷ b ∷ cs) ys → Reads m rooms own P (object_of t) (with_cells d (front ++ ys) (take (4 * k') c.points)) ks)
      → Then (due_lines t k (line_attributes (cell + 2) ps)) (with_cells d (front ++ (x ∷ y ∷ xs)) (take (4 * k) c.points)) (line_attributes (cell + 2) ps)
  behind_pair_lem k k' p ps a b x y cs xs q r d cell front e at then =
      rw (moved front x y xs) at
      (r d (cell + 2) (front ++ (x ∷ y ∷ [])) (moved_length front x y xs ∙ rw e) (cells_behind c.cells cell at)
      (λ ys l. rw (moved front x y ys) (then (x ∷ y ∷ ys) (also q l))))

  attribute_read : (k k' : ℕ) (o : Bool) (type : AttributeType) (ps : List Pair) (a b : ℤ) (cs xs : List ℤ) → Like text c own false (OfAttribute o type ∷ ps) (a ∷ b ∷ cs) xs
      → ((xs : List ℤ) → Like text c own false ps cs xs → AttributesRead k k' ps cs xs) → AttributesRead k k' (OfAttribute o type ∷ ps) (a ∷ b ∷ cs) xs
  unfolding line_attributes
  attribute_read k k' o type ps a b cs _ (also {x = x} {y = y} {xs = xs} q l) r = behind_pair_lem k k' (OfAttribute o type) ps a b x y cs xs (attribute_drawn q) (r xs l)

  component_read : (k k' : ℕ) (x : Component) (ps : List Pair) (a b : ℤ) (cs xs : List ℤ) → Like text c own false (OfComponent x ∷ ps) (a ∷ b ∷ cs) xs
      → ((xs : List ℤ) → Like text c own false ps cs xs → AttributesRead k k' ps cs xs) → AttributesRead k k' (OfComponent x ∷ ps) (a ∷ b ∷ cs) xs
  unfolding line_attributes
  component_read k k' z ps a b cs _ (also {x = x} {y = y} {xs = xs} q l) r = behind_pair_lem k k' (OfComponent z) ps a b x y cs xs (component_drawn q) (r xs l)

  undefined_line : (k k' forms : ℕ) (comps : List Component) (ps : List Pair) (cs xs : List ℤ) → Like text c own false (OfLine true forms comps ∷ ps) (pos 0 ∷ pos 0 ∷ cs) xs
      → ((xs : List ℤ) → Like text c own false ps cs xs → AttributesRead k k' ps cs xs) → AttributesRead k k' (OfLine true forms comps ∷ ps) (pos 0 ∷ pos 0 ∷ cs) xs
  unfolding line_attributes
  undefined_line k k' forms comps ps cs _ (also (alike h) l) r d cell front e at then = absurd (line_plain _ _ _ _ h)
  undefined_line k k' forms comps ps cs _ (also {xs = xs} undrawn l) r d cell front e at then =
      undefined_read (record { cell = cell; optional = true; forms = forms; components = comps }) (line_attributes (cell + 2) ps) k
      (with_cells d (front ++ (pos 0 ∷ pos 0 ∷ xs)) (take (4 * k) c.points)) (first_cell c.cells cell at) refl
      (behind_pair_lem k k' (OfLine true forms comps) ps (pos 0) (pos 0) (pos 0) (pos 0) cs xs is_drawn (r xs l) d cell front e at then)

  drawn_line : (k k' n : ℕ) (o : Bool) (forms : ℕ) (comps : List Component) (ps : List Pair) (cs xs : List ℤ) → 4 * (k + suc n) ≤ length c.points
      → PointsOk m.undefined forms comps unstarted (suc n) (drop (4 * k) c.points) → Like text c own false (OfLine o forms comps ∷ ps) (pos (1 + suc n) ∷ pos k ∷ cs) xs
      → ((xs : List ℤ) → Like text c own false ps cs xs → AttributesRead (k + suc n) k' ps cs xs) → AttributesRead k k' (OfLine o forms comps ∷ ps) (pos (1 + suc n) ∷ pos k ∷ cs) xs
  unfolding line_attributes
  drawn_line k k' n o forms comps ps cs _ room points (also (alike h) l) r d cell front e at then = absurd (line_plain _ _ _ _ h)
  drawn_line k k' n o forms comps ps cs _ room points (also {xs = xs} undrawn l) r d cell front e at then =
      drawn_read (record { cell = cell; optional = o; forms = forms; components = comps }) (line_attributes (cell + 2) ps) k (suc n) d front xs (pos 0) (pos 0)
      (first_cell c.cells cell at) (second_cell c.cells cell at) e room points
      (behind_pair_lem (k + suc n) k' (OfLine o forms comps) ps (pos (1 + suc n)) (pos k) (pos (1 + suc n)) (pos k) cs xs is_drawn (r xs l) d cell front e at then)

  no_pairs_read : (k : ℕ) (cs xs : List ℤ) → Like text c own false [] cs xs → AttributesRead k k [] cs xs
  unfolding line_attributes due_lines attribute_lines
  no_pairs_read k cs _ nil d cell front e at then = then [] nil

  pub attributes_read : {before : Bool} {k k' : ℕ} {ps : List Pair} {cs xs : List ℤ} → RowOk m.undefined text c before k ps cs k' → Like text c own false ps cs xs
      → (d : Content) (cell : ℕ) (front : List ℤ) → length front ≡ cell → cs ≡ drop cell c.cells
      → ((ys : List ℤ) → Like text c own true ps cs ys → Reads m rooms own P (object_of t) (with_cells d (front ++ ys) (take (4 * k') c.points)) ks)
      → Then (due_lines t k (line_attributes cell ps)) (with_cells d (front ++ xs) (take (4 * k) c.points)) (line_attributes cell ps)
  attributes_read {xs = xs} (done {k = k} {cs = cs}) l = no_pairs_read k cs xs l
  attributes_read {xs = xs} (absent {k = k} {k' = k'} {type = type} {ps = ps} {cs = cs} r) l =
      attribute_read k k' true type ps (pos 0) (pos 0) cs xs l (λ xs l. attributes_read r l)
  attributes_read {xs = xs} (plain {o = o} {k = k} {k' = k'} {type = type} {ps = ps} {a = a} {b = b} {cs = cs} h g z w v r) l =
      attribute_read k k' o type ps a b cs xs l (λ xs l. attributes_read r l)
  attributes_read {xs = xs} (word {o = o} {k = k} {k' = k'} {longest = longest} {ps = ps} {b = b} {cs = cs} f w v h s r) l =
      attribute_read k k' o (Text longest) ps (pos (1 + length f)) b cs xs l (λ xs l. attributes_read r l)
  attributes_read {xs = xs} (name {o = o} {k = k} {k' = k'} {target = target} {n = n} {ps = ps} {cs = cs} f w v s h r) l =
      attribute_read k k' o (Reference target) ps (pos 1) (pos n) cs xs l (λ xs l. attributes_read r l)
  attributes_read {xs = xs} (without {k = k} {k' = k'} {x = x} {ps = ps} {cs = cs} r) l =
      component_read k k' x ps (pos 0) (pos 0) cs xs l (λ xs l. attributes_read r l)
  attributes_read {xs = xs} (along {k = k} {k' = k'} {x = x} {ps = ps} {b = b} {cs = cs} w r) l =
      component_read k k' x ps (pos 1) b cs xs l (λ xs l. attributes_read r l)
  attributes_read {xs = xs} (no_line {k = k} {k' = k'} {forms = forms} {ks = comps} {ps = ps} {cs = cs} r) l =
      undefined_line k k' forms comps ps cs xs l (λ xs l. attributes_read r l)
  attributes_read {xs = xs} (line {o = o} {k = k} {k' = k'} {forms = forms} {ks = comps} {ps = ps} {cs = cs} n room points r) l =
      drawn_line k k' n o forms comps ps cs xs room points l (λ xs l. attributes_read r l)
