-- A row that was read is fine: its fields, its line attributes and its references together. Assumes nothing.
use Prim.Native.Nat.{ℕ, suc, ◌+◌, ◌*◌, ◌-◌, ◌≤◌}
use native.Mathlib.Omega.{arith}
use mathlib.Core.Path.{◌≡◌, refl, sym, ap, ap₂, ◌∙◌}
use mathlib.Core.Bool.{Bool, true, false, ◌&&◌, false≢true, true≢false}
use mathlib.Core.List.{List, [], ◌∷◌, ◌++◌, append_assoc}
use lib.Dec.{eqb}
use lib.IntN.{ℤ, pos, nat_abs}
use lib.ListN.{length, drop, get_or, length-append, length-drop}
use lib.Seq.{drop-drop, drop-append_seam}
use borrow.Author.Tests.{ne_eqb}
use Rattle.meaning.specs.Bytes.{choose}
use Rattle.meaning.specs.Model.{Component, AttributeType, Reference, Coordinate, Number, Text, Date, Enumeration, Line, found, missing, target_of}
use Rattle.meaning.specs.Check.{special, good_component, good_components, is_dimension}
use Rattle.meaning.specs.Field.{Field}
use Rattle.meaning.specs.Value.{pair, date_of, same_identification, value_of, is_undefined, is_undefined_twice}
use Rattle.meaning.specs.Digits.{date_bytes}
use Rattle.meaning.specs.Row.{Pair, OfAttribute, OfComponent, OfLine}
use Rattle.meaning.specs.Reading.{LineState, unstarted, Content, Object, stretch}
use Rattle.meaning.specs.Table.{find_object}
use Rattle.meaning.specs.Writing.{identification_bytes, type_bytes}
use Rattle.meaning.specs.Readback.{is_text}
use Rattle.meaning.proofs.Reading.Stretches.{stretch_pos}
use Rattle.meaning.proofs.Tests.Unequal.{no_pair, no_found, same_found}
use Rattle.meaning.proofs.Tests.Refuse.{both}
use Rattle.meaning.proofs.Tests.Same.{same_is}
use Rattle.meaning.proofs.Reading.Fields.{Solid}
use Rattle.meaning.proofs.Values.Numerals.{Defined, NumberOk, number_writes, number_defined}
use Rattle.meaning.proofs.Values.Digits.{small_leaf_reads}
use Rattle.meaning.proofs.Values.Values.{date_given, leaf_given, text_given, name_given}
use Rattle.meaning.proofs.Judge.Valid.{PointsOk, end, add, RowOk, lent_objects}
use Rattle.meaning.proofs.Judge.Valid as valid
use Rattle.meaning.proofs.Reading.FieldsRead.{Given, number_within}
use Rattle.meaning.proofs.Reading.FieldsRead as given
use Rattle.meaning.proofs.Reading.PointsRead.{Drawing, LinesGood}
use Rattle.meaning.proofs.Reading.PointsRead as lines
use Rattle.meaning.proofs.Reading.References.{ResolvedTo}
use Rattle.meaning.proofs.Reading.References as to

-- ## Good pairs

abbrev pub GoodValue : AttributeType → Type 0
GoodValue (Reference t) = Unit {0}
GoodValue (Coordinate ks) = Unit {0}
GoodValue (Number x) = good_component x ≡ true
GoodValue (Text longest) = Unit {0}
GoodValue Date = Unit {0}
GoodValue (Enumeration leaves) = Unit {0}
GoodValue (Line forms ks) = Unit {0}

abbrev pub PairsGood : List Pair → Type 0
PairsGood [] = Unit {0}
PairsGood (OfAttribute o type ∷ ps) = GoodValue type × PairsGood ps
PairsGood (OfComponent x ∷ ps) = (good_component x ≡ true) × PairsGood ps
PairsGood (OfLine o forms ks ∷ ps) = ((is_dimension (length ks) ≡ true) × (good_components ks ≡ true)) × PairsGood ps

pub lines_good : (ps : List Pair) → PairsGood ps → LinesGood ps
lines_good [] h = tt
lines_good (OfAttribute o type ∷ ps) h = lines_good ps h.1
lines_good (OfComponent x ∷ ps) h = lines_good ps h.1
lines_good (OfLine o forms ks ∷ ps) h = (h.0, lines_good ps h.1)

-- ## An object that was found

module _ (text : List ℕ) (cs : List ℤ) where
  pub found_at : (t n : ℕ) (i : List ℕ) (rows : List ℕ) (k : ℕ) → find_object t n i (lent_objects text cs rows) ≡ found k → (n ≤ k) × (identification_bytes text cs (get_or rows (k - n) 0) ≡ i)
  unfolding find_object lent_objects choose same_identification
  found_at t n i [] k e = absurd (no_found k e)
  found_at t n i (row ∷ rows) k e = by _ refl e (found_at t (n + 1) i rows k)
    where
      by : (x : Bool) → (eqb (nat_abs (get_or cs row (pos 0))) t && same_identification (identification_bytes text cs row) i) ≡ x
          → choose x (found n) (find_object t (n + 1) i (lent_objects text cs rows)) ≡ found k
          → (find_object t (n + 1) i (lent_objects text cs rows) ≡ found k → (n + 1 ≤ k) × (identification_bytes text cs (get_or rows (k - (n + 1)) 0) ≡ i))
          → (n ≤ k) × (identification_bytes text cs (get_or (row ∷ rows) (k - n) 0) ≡ i)
      by true p e ih =
          let q : n ≡ k = same_found n k e in
          let z : k - n ≡ 0 = omega arith in
          (omega arith, rw z (same_is (identification_bytes text cs row) i (both (eqb (nat_abs (get_or cs row (pos 0))) t) _ p).1))
      by false p e ih =
          let r = ih e in
          let low = r.0 in
          let z : k - n ≡ suc (k - (n + 1)) = omega arith in
          (omega arith, rw z r.1)

-- ## An attribute's pair

-- a defined field's first cell is not 0
value_first : (type : AttributeType) (f : Field) (a b : ℤ) → value_of type f ≡ pair a b → eqb (nat_abs a) 0 ≡ true → ⊥
unfolding value_of
value_first (Reference t) f a b e z = let g = name_given f a b e in true≢false (sym (rw g.first at z) ∙ ne_eqb (1 + length f.bytes) 0 (omega arith))
value_first (Coordinate ks) f a b e z = no_pair 13 a b e
value_first (Number x) f a b e z = false≢true (rw (number_within x f.bytes a b e).0 at z)
value_first (Text longest) f a b e z = let g = text_given longest f a b e in true≢false (sym (rw g.first at z) ∙ ne_eqb (1 + length f.bytes) 0 (omega arith))
value_first Date f a b e z = false≢true (rw (date_given f.bytes a b e).first at z)
value_first (Enumeration leaves) f a b e z = false≢true (rw (leaf_given leaves f.bytes a b e).first at z)
value_first (Line forms ks) f a b e z = no_pair 13 a b e

module _ (u : ℕ) (text : List ℕ) (c : Content) (su : special u ≡ true) where
  -- a pair that is written from its cells alone
  plain_pair : {before : Bool} {k k' : ℕ} {ps : List Pair} {cs : List ℤ} (o : Bool) (type : AttributeType) (a b x y : ℤ) → a ≡ x → b ≡ y → is_text type ≡ false → target_of type ≡ missing
      → eqb (nat_abs x) 0 ≡ false → Defined u (type_bytes text c type x y) → ((start : ℕ) → value_of type (record { start = start; bytes = type_bytes text c type x y }) ≡ pair x y)
      → RowOk u text c true k ps cs k' → RowOk u text c before k (OfAttribute o type ∷ ps) (a ∷ b ∷ cs) k'
  plain_pair o type a b x y p q t g z d v r = rw (p, q) (valid.plain t g z d v r)

  attribute_ok : {before : Bool} {k k' : ℕ} {ps : List Pair} {cs : List ℤ} (o : Bool) (type : AttributeType) (f : Field) (a b : ℤ) → target_of type ≡ missing → GoodValue type → Defined u f.bytes
      → stretch text f.start (length f.bytes) ≡ f.bytes → value_of type f ≡ pair a b
      → RowOk u text c true k ps cs k' → RowOk u text c before k (OfAttribute o type ∷ ps) (a ∷ b ∷ cs) k'
  unfolding value_of target_of is_text type_bytes
  attribute_ok o (Reference t) f a b g good d st e r = absurd (no_found t (sym g))
  attribute_ok o (Coordinate ks) f a b g good d st e r = absurd (no_pair 13 a b e)
  attribute_ok o (Number x) f a b g good d st e r =
      let w = number_within x f.bytes a b e in
      let n = number_writes u x b su good w.1 in
      plain_pair o (Number x) a b (pos 1) b w.0 refl refl refl refl n.field (λ start. n.reads) r
  attribute_ok o (Text longest) f a b g good d st e r =
      let w = text_given longest f a b e in
      rw (w.first, w.second) (valid.word f.bytes d w.bytes w.short (stretch_pos text f.start (length f.bytes) ∙ st) r)
  attribute_ok o Date f a b g good d st e r =
      let w = date_given f.bytes a b e in
      let v : date_of (date_bytes (pos w.value)) ≡ pair (pos 1) (pos w.value) = rw w.bytes (e ∙ ap₂ pair w.first w.second) in
      plain_pair o Date a b (pos 1) (pos w.value) w.first w.second refl refl refl (rw w.bytes d) (λ start. v) r
  attribute_ok o (Enumeration leaves) f a b g good d st e r =
      let w = leaf_given leaves f.bytes a b e in
      plain_pair o (Enumeration leaves) a b (pos 1) (pos w.value) w.first w.second refl refl refl (number_defined u 0 (pos w.value) su (omega arith) w.small)
      (λ start. small_leaf_reads leaves w.value w.small w.below) r
  attribute_ok o (Line forms ks) f a b g good d st e r = absurd (no_pair 13 a b e)

  reference_ok : {before : Bool} {k k' : ℕ} {ps : List Pair} {cs : List ℤ} (o : Bool) (type : AttributeType) (f : Field) (a b : ℤ) (target n : ℕ) → target_of type ≡ found target → Defined u f.bytes
      → stretch text f.start (length f.bytes) ≡ f.bytes → value_of type f ≡ pair a b
      → find_object target 0 (stretch text (nat_abs b) (nat_abs a - 1)) (lent_objects text c.cells c.rows) ≡ found n
      → RowOk u text c true k ps cs k' → RowOk u text c before k (OfAttribute o type ∷ ps) (pos 1 ∷ pos n ∷ cs) k'
  unfolding value_of target_of
  reference_ok o (Reference t) f a b target n g d st e h r =
      let w = name_given f a b e in
      let q : t ≡ target = same_found t target g in
      let z : 1 + length f.bytes - 1 ≡ length f.bytes = omega arith in
      let there : find_object target 0 f.bytes (lent_objects text c.cells c.rows) ≡ found n = rw (w.first, w.second, z, st) at h in
      let at : identification_bytes text c.cells (get_or c.rows n 0) ≡ f.bytes =
      let y : n - 0 ≡ n = omega arith in rw y at (found_at text c.cells target 0 f.bytes c.rows n there).1 in
      valid.name {target = t} f.bytes d w.shape at (rw q there) r
  reference_ok o (Coordinate ks) f a b target n g d st e h r = absurd (no_found target g)
  reference_ok o (Number x) f a b target n g d st e h r = absurd (no_found target g)
  reference_ok o (Text longest) f a b target n g d st e h r = absurd (no_found target g)
  reference_ok o Date f a b target n g d st e h r = absurd (no_found target g)
  reference_ok o (Enumeration leaves) f a b target n g d st e h r = absurd (no_found target g)
  reference_ok o (Line forms ks) f a b target n g d st e h r = absurd (no_found target g)

-- ## A row

-- more points may stand behind
points_front : {u forms : ℕ} {ks : List Component} {state : LineState} {n : ℕ} {points : List ℤ} (rest : List ℤ) → PointsOk u forms ks state n points → PointsOk u forms ks state n (points ++ rest)
points_front rest end = end
points_front rest (add kind a b v p) = add kind a b v (points_front rest p)

defined_field : (u : ℕ) (f : Field) → is_undefined u f ≡ false → is_undefined_twice u f ≡ false → Solid f.bytes → Defined u f.bytes
unfolding is_undefined is_undefined_twice
defined_field u f one two s = record { solid = s; one = one; two = two }

module _ (u : ℕ) (text : List ℕ) (c : Content) (su : special u ≡ true) (os : List Object) (all : lent_objects text c.cells c.rows ≡ os) (rest : List ℤ) where
  -- these pairs are fine, however their lines were drawn and their references resolved
  abbrev PairsOk : Bool → List Pair → List ℤ → Type 0
  PairsOk before ps xs = (k k' : ℕ) (ys zs points : List ℤ) → Drawing u k ps xs ys points k' → ResolvedTo text os ps ys zs → (more : List ℤ) → drop (4 * k) c.points ≡ points ++ more
      → RowOk u text c before k ps (zs ++ rest) k'

  absent_ok : (before : Bool) (type : AttributeType) (ps : List Pair) (xs : List ℤ) → PairsOk false ps xs → PairsOk before (OfAttribute true type ∷ ps) (pos 0 ∷ pos 0 ∷ xs)
  absent_ok before type ps xs ih k k' _ _ points (lines.attribute d) (to.other z r) more e = valid.absent (ih k k' _ _ points d r more e)
  absent_ok before type ps xs ih k k' _ _ points (lines.attribute d) (to.empty z r) more e = valid.absent (ih k k' _ _ points d r more e)
  absent_ok before type ps xs ih k k' _ _ points (lines.attribute d) (to.names target n z y h r) more e = absurd (true≢false y)

  present_ok : (before o : Bool) (type : AttributeType) (ps : List Pair) (xs : List ℤ) (a b : ℤ) (f : Field) → GoodValue type → Defined u f.bytes
      → stretch text f.start (length f.bytes) ≡ f.bytes → value_of type f ≡ pair a b → PairsOk true ps xs → PairsOk before (OfAttribute o type ∷ ps) (a ∷ b ∷ xs)
  present_ok before o type ps xs a b f good w st v ih k k' _ _ points (lines.attribute d) (to.other z r) more e =
      attribute_ok u text c su o type f a b z good w st v (ih k k' _ _ points d r more e)
  present_ok before o type ps xs a b f good w st v ih k k' _ _ points (lines.attribute d) (to.empty z r) more e = absurd (value_first type f a b v z)
  present_ok before o type ps xs a b f good w st v ih k k' _ _ points (lines.attribute d) (to.names target n z y h r) more e =
      reference_ok u text c su o type f a b target n z w st v (rw all h) (ih k k' _ _ points d r more e)

  without_ok : (x : Component) (ps : List Pair) (xs : List ℤ) → PairsOk false ps xs → PairsOk false (OfComponent x ∷ ps) (pos 0 ∷ pos 0 ∷ xs)
  without_ok x ps xs ih k k' _ _ points (lines.component d) (to.further r) more e = valid.without (ih k k' _ _ points d r more e)

  along_ok : (x : Component) (ps : List Pair) (b : ℤ) (xs : List ℤ) → NumberOk u x b → PairsOk true ps xs → PairsOk true (OfComponent x ∷ ps) (pos 1 ∷ b ∷ xs)
  along_ok x ps b xs w ih k k' _ _ points (lines.component d) (to.further r) more e = valid.along w (ih k k' _ _ points d r more e)

  -- a line with points
  drawn_ok : (before o : Bool) (forms k k' n : ℕ) (ks : List Component) (ps : List Pair) (zs these points more : List ℤ) → PointsOk u forms ks unstarted (suc n) these → length these ≡ 4 * suc n
      → drop (4 * k) c.points ≡ (these ++ points) ++ more → (drop (4 * (k + suc n)) c.points ≡ points ++ more → RowOk u text c before (k + suc n) ps (zs ++ rest) k')
      → RowOk u text c before k (OfLine o forms ks ∷ ps) (pos (1 + suc n) ∷ pos k ∷ (zs ++ rest)) k'
  drawn_ok before o forms k k' n ks ps zs these points more p l e ih =
      let whole : drop (4 * k) c.points ≡ these ++ (points ++ more) = e ∙ append_assoc these points more in
      let long : length c.points - 4 * k ≡ length these + length (points ++ more) = sym (length-drop (4 * k) c.points) ∙ (ap length whole ∙ length-append these (points ++ more)) in
      let room : 4 * (k + suc n) ≤ length c.points = omega arith in
      let z : 4 * (k + suc n) ≡ 4 * k + length these = omega arith in
      let behind : drop (4 * (k + suc n)) c.points ≡ points ++ more = rw (z, ← drop-drop (length these) (4 * k) c.points, whole) (drop-append_seam these (points ++ more)) in
      valid.line {forms = forms} {ks = ks} n room (rw whole (points_front (points ++ more) p)) (ih behind)

  line_ok : (before o : Bool) (forms : ℕ) (ks : List Component) (ps : List Pair) (xs : List ℤ) → PairsOk before ps xs → PairsOk before (OfLine o forms ks ∷ ps) (pos 0 ∷ pos 0 ∷ xs)
  line_ok before o forms ks ps xs ih k k' _ _ points (lines.undrawn d) (to.aside r) more e = valid.no_line (ih k k' _ _ points d r more e)
  line_ok before o forms ks ps xs ih k k' _ _ _ (lines.drawn {points = points} n these p l d) (to.aside {ys = zs} r) more e =
      drawn_ok before o forms k k' n ks ps zs these points more p l e (λ behind. ih (k + suc n) k' _ zs points d r more behind)

  done_ok : (before : Bool) → PairsOk before [] []
  done_ok before k _ _ _ _ lines.stop to.nil more e = valid.done

  pairs_ok : {before : Bool} {ps : List Pair} {xs : List ℤ} → PairsGood ps → Given u text before ps xs → PairsOk before ps xs
  pairs_ok good (given.done {before = before}) = done_ok before
  pairs_ok good (given.absent {before = before} {type = type} {ps = ps} {xs = xs} g) = absent_ok before type ps xs (pairs_ok good.1 g)
  pairs_ok good (given.present {before = before} {o = o} {type = type} {ps = ps} {a = a} {b = b} {xs = xs} f one two s st v g) =
      present_ok before o type ps xs a b f good.0 (defined_field u f one two s) st v (pairs_ok good.1 g)
  pairs_ok good (given.without {x = x} {ps = ps} {xs = xs} g) = without_ok x ps xs (pairs_ok good.1 g)
  pairs_ok good (given.along {x = x} {ps = ps} {b = b} {xs = xs} w g) = along_ok x ps b xs (number_writes u x b su good.0 w) (pairs_ok good.1 g)
  pairs_ok good (given.line {before = before} {o = o} {forms = forms} {ks = ks} {ps = ps} {xs = xs} g) = line_ok before o forms ks ps xs (pairs_ok good.1 g)

  pub row_ok : {before : Bool} {k k' : ℕ} {ps : List Pair} {xs ys zs points : List ℤ} → PairsGood ps → Given u text before ps xs → Drawing u k ps xs ys points k' → ResolvedTo text os ps ys zs
      → (more : List ℤ) → drop (4 * k) c.points ≡ points ++ more → RowOk u text c before k ps (zs ++ rest) k'
  row_ok {k = k} {k' = k'} {ys = ys} {zs = zs} {points = points} good g d r more e = pairs_ok good g k k' ys zs points d r more e
