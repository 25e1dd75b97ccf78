-- A row's fields as they are written: they read as the row's cells, but for starts and references. Assumes nothing.
use Prim.Native.Nat.{ℕ, suc, ◌+◌}
use native.Mathlib.Omega.{arith}
use mathlib.Core.Path.{◌≡◌, refl, sym, ap, ◌∙◌}
use mathlib.Core.Bool.{Bool, true, false, true≢false}
use mathlib.Core.List.{List, [], ◌∷◌}
use lib.Dec.{eqb, ltb}
use lib.IntN.{ℤ, pos, nat_abs}
use lib.ListN.{length, get_or}
use borrow.Author.Tests.{ne_eqb}
use Rattle.meaning.specs.Bytes.{choose, refuse, text_byte, every}
use Rattle.meaning.specs.Model.{Component, AttributeType, Reference, Coordinate, Number, Text, Date, Enumeration, Line, found, missing, target_of}
use Rattle.meaning.specs.Field.{Field}
use Rattle.meaning.specs.Value.{pair, stretch_of, text_of, is_identification, reference_of, value_of, is_undefined, is_undefined_twice}
use Rattle.meaning.specs.Digits.{number_bytes}
use Rattle.meaning.specs.Row.{Pair, OfAttribute, OfComponent, OfLine, Cells, cells, put_pair, pair_cells}
use Rattle.meaning.specs.Reading.{Content, stretch}
use Rattle.meaning.specs.Table.{find_object}
use Rattle.meaning.specs.Writing.{stretch_bytes, identification_bytes, type_bytes, field_bytes, pair_fields}
use Rattle.meaning.specs.Readback.{shown_stretch, is_text}
use Rattle.meaning.specs.Right as right
use Rattle.meaning.specs.Reasons.{MayBeUndefined, MayBeDefined, FieldType, of_attribute, of_component}
use Rattle.meaning.proofs.Tests.Unequal.{no_found}
use Rattle.meaning.proofs.Reading.Fields.{Solid, AllSolid, placed}
use Rattle.meaning.proofs.Reading.Stretches.{AllStand, stretch_pos}
use Rattle.meaning.proofs.Reading.PairCells.{undefined_field_lem, FieldRead, field_is}
use Rattle.meaning.proofs.Values.Numerals.{Defined, NumberOk}
use Rattle.meaning.proofs.Judge.Shown.{shows, text_shows}
use Rattle.meaning.proofs.Judge.Valid.{RowOk, done, absent, plain, word, name, without, along, no_line, line, lent_objects}

-- ## Pairs as they are read, against the pairs of the table

-- is a pair with this first cell the same in both?
unfoldable pub is_plain : Pair → ℤ → Bool
is_plain (OfAttribute o (Text longest)) a = eqb (nat_abs a) 0
is_plain (OfAttribute o (Reference t)) a = eqb (nat_abs a) 0
is_plain (OfAttribute o (Coordinate ks)) a = true
is_plain (OfAttribute o (Number x)) a = true
is_plain (OfAttribute o Date) a = true
is_plain (OfAttribute o (Enumeration leaves)) a = true
is_plain (OfAttribute o (Line forms ks)) a = true
is_plain (OfComponent x) a = true
is_plain (OfLine o forms ks) a = false

-- the pair a b of the table, and the pair x y that is read from the text `own`; `drawn` says whether the lines of the row are read
pub data PairLike (text : List ℕ) (c : Content) (own : List ℕ) : (drawn : Bool) → Pair → (a b x y : ℤ) → Type 0 where
  alike : {drawn : Bool} {p : Pair} {a b : ℤ} → is_plain p a ≡ true → PairLike text c own drawn p a b a b
  word_at : {drawn o : Bool} {longest start : ℕ} {b : ℤ} (size : ℕ) → shown_stretch own (pos start) 1 (pos (1 + size)) ≡ shown_stretch text b 1 (pos (1 + size))
      → PairLike text c own drawn (OfAttribute o (Text longest)) (pos (1 + size)) b (pos (1 + size)) (pos start)
  name_at : {drawn o : Bool} {target start n : ℕ} (size : ℕ) → find_object target 0 (stretch own start size) (lent_objects text c.cells c.rows) ≡ found n
      → PairLike text c own drawn (OfAttribute o (Reference target)) (pos 1) (pos n) (pos (1 + size)) (pos start)
  undrawn : {o : Bool} {forms : ℕ} {ks : List Component} {a b : ℤ} → PairLike text c own false (OfLine o forms ks) a b (pos 0) (pos 0)
  is_drawn : {o : Bool} {forms : ℕ} {ks : List Component} {a b : ℤ} → PairLike text c own true (OfLine o forms ks) a b a b

pub data Like (text : List ℕ) (c : Content) (own : List ℕ) (drawn : Bool) : List Pair → List ℤ → List ℤ → Type 0 where
  nil : {cs : List ℤ} → Like text c own drawn [] cs []
  also : {p : Pair} {ps : List Pair} {a b x y : ℤ} {cs xs : List ℤ} → PairLike text c own drawn p a b x y → Like text c own drawn ps cs xs
      → Like text c own drawn (p ∷ ps) (a ∷ b ∷ cs) (x ∷ y ∷ xs)

-- ## The fields of a row are fields

module _ (text : List ℕ) (c : Content) where
  pub word_bytes : (longest : ℕ) (b : ℤ) (f : List ℕ) → stretch_bytes text b (length f) ≡ f → type_bytes text c (Text longest) (pos (1 + length f)) b ≡ f
  unfolding type_bytes
  word_bytes longest b f e = ap (stretch_bytes text b) (omega arith) ∙ e

  pub name_bytes : (target n : ℕ) (f : List ℕ) → identification_bytes text c.cells (get_or c.rows n 0) ≡ f → type_bytes text c (Reference target) (pos 1) (pos n) ≡ f
  unfolding type_bytes
  name_bytes target n f e = e

pub row_solid : {u : ℕ} {text : List ℕ} {c : Content} {before : Bool} {k k' : ℕ} {ps : List Pair} {cs : List ℤ} → Solid (u ∷ []) → RowOk u text c before k ps cs k'
    → AllSolid (pair_fields u text c ps cs)
unfolding pair_fields field_bytes choose
row_solid h done = tt
row_solid h (absent r) = (h, row_solid h r)
row_solid h (plain t g d w v r) = rw d (w.solid, row_solid h r)
row_solid {text = text} {c = c} h (word {longest = longest} {b = b} f w e l s r) =
    rw (ne_eqb (1 + length f) 0 (omega arith), word_bytes text c longest b f s) (w.solid, row_solid h r)
row_solid {text = text} {c = c} h (name {target = target} {n = n} f w e s g r) = rw (name_bytes text c target n f s) (w.solid, row_solid h r)
row_solid h (without r) = (h, row_solid h r)
row_solid h (along w r) = (w.field.solid, row_solid h r)
row_solid h (no_line r) = row_solid h r
row_solid h (line n l q r) = row_solid h r

-- ## Reading them

plain_type : (o : Bool) (type : AttributeType) (a : ℤ) → is_text type ≡ false → target_of type ≡ missing → is_plain (OfAttribute o type) a ≡ true
unfolding is_plain is_text target_of
plain_type o (Reference t) a h g = absurd (no_found t (sym g))
plain_type o (Coordinate ks) a h g = refl
plain_type o (Number x) a h g = refl
plain_type o (Text longest) a h g = absurd (true≢false h)
plain_type o Date a h g = refl
plain_type o (Enumeration leaves) a h g = refl
plain_type o (Line forms ks) a h g = refl

module _ (u : ℕ) (text : List ℕ) (c : Content) (own : List ℕ) where
  pub record RowRead (ps : List Pair) (cs : List ℤ) (k : Cells) : Type 0 where
    pub xs : List ℤ
    pub is : k ≡ cells xs
    pub like : Like text c own false ps cs xs

  field_defined : (start : ℕ) (f : List ℕ) → Defined u f → right.Defined u (record { start = start; bytes = f })
  unfolding is_undefined is_undefined_twice
  field_defined start f w = record { one = w.one; two = w.two }

  -- a defined field
  defined_reads : {p : Pair} {type : AttributeType} → FieldType p type → (before : Bool) → MayBeDefined before p → (ps : List Pair) (start place : ℕ) (f : List ℕ) (x y : ℤ) (gs : List Field) (xs : List ℤ) → Defined u f
      → value_of type (record { start = start; bytes = f }) ≡ pair x y → pair_cells u true (place + 1) ps gs ≡ cells xs
      → pair_cells u before place (p ∷ ps) (record { start = start; bytes = f } ∷ gs) ≡ cells (x ∷ y ∷ xs)
  unfolding put_pair
  defined_reads of before may ps start place f x y gs xs w v e = field_is of (FieldRead.defined (field_defined start f w) may) ∙ rw (v, e)

  -- the first of the fields that are written
  first_field : (o : Bool) (type : AttributeType) (ps : List Pair) (a b : ℤ) (cs : List ℤ) (start : ℕ) (f : List ℕ) → eqb (nat_abs a) 0 ≡ false → type_bytes text c type a b ≡ f
      → placed start (pair_fields u text c (OfAttribute o type ∷ ps) (a ∷ b ∷ cs)) ≡ record { start = start; bytes = f } ∷ placed (start + length f + 1) (pair_fields u text c ps cs)
  unfolding placed pair_fields field_bytes choose
  first_field o type ps a b cs start f d e = rw (d, e)

  module _ (before o : Bool) (type : AttributeType) (ps : List Pair) (a b : ℤ) (cs : List ℤ) (start place : ℕ) (f : List ℕ) (x y : ℤ) where
    attribute_reads : eqb (nat_abs a) 0 ≡ false → type_bytes text c type a b ≡ f → Defined u f → value_of type (record { start = start; bytes = f }) ≡ pair x y
        → (stretch own start (length f) ≡ f → PairLike text c own false (OfAttribute o type) a b x y)
        → (AllStand own (placed (start + length f + 1) (pair_fields u text c ps cs)) → RowRead ps cs (pair_cells u true (place + 1) ps (placed (start + length f + 1) (pair_fields u text c ps cs))))
        → AllStand own (placed start (pair_fields u text c (OfAttribute o type ∷ ps) (a ∷ b ∷ cs)))
        → RowRead (OfAttribute o type ∷ ps) (a ∷ b ∷ cs) (pair_cells u before place (OfAttribute o type ∷ ps) (placed start (pair_fields u text c (OfAttribute o type ∷ ps) (a ∷ b ∷ cs))))
    attribute_reads d e w v like others =
        rw (first_field o type ps a b cs start f d e) (λ st.
        let q = others st.1 in
        record { xs = x ∷ y ∷ q.xs; is = defined_reads of_attribute before tt ps start place f x y _ q.xs w v q.is; like = also (like st.0) q.like })

  word_reads : (longest start : ℕ) (f : List ℕ) → every text_byte f ≡ true → ltb longest (length f) ≡ false → value_of (Text longest) (record { start = start; bytes = f }) ≡ pair (pos (1 + length f)) (pos start)
  unfolding value_of text_of stretch_of refuse
  word_reads longest start f e l = rw (e, l)

  name_reads : (target start : ℕ) (f : List ℕ) → is_identification f ≡ true → value_of (Reference target) (record { start = start; bytes = f }) ≡ pair (pos (1 + length f)) (pos start)
  unfolding value_of reference_of stretch_of refuse
  name_reads target start f e = rw e

  -- a text that stands in both
  words_shown : (f : List ℕ) (start : ℕ) (b : ℤ) → Solid f → stretch own start (length f) ≡ f → stretch_bytes text b (length f) ≡ f
      → shown_stretch own (pos start) 1 (pos (1 + length f)) ≡ shown_stretch text b 1 (pos (1 + length f))
  words_shown f start b h there s =
      shows own (pos start) 1 _ f (text_shows own (pos start) 1 _ f h refl (stretch_pos own start (length f) ∙ there)) ∙ sym (shows text b 1 _ f (text_shows text b 1 _ f h refl s))

  -- where the fields of these pairs stand when they are written from `start` on
  abbrev fields_at : ℕ → List Pair → List ℤ → List Field
  fields_at start ps cs = placed start (pair_fields u text c ps cs)

  none_reads : (before : Bool) (cs : List ℤ) (start place : ℕ) → RowRead [] cs (pair_cells u before place [] (fields_at start [] cs))
  unfolding pair_cells placed pair_fields
  none_reads before cs start place = record { xs = []; is = refl; like = nil }

  -- a pair whose field is undefined
  zero_plain : {p : Pair} {type : AttributeType} → FieldType p type → is_plain p (pos 0) ≡ true
  unfolding is_plain
  zero_plain (of_attribute {type = Reference t}) = refl
  zero_plain (of_attribute {type = Coordinate ks}) = refl
  zero_plain (of_attribute {type = Number x}) = refl
  zero_plain (of_attribute {type = Text longest}) = refl
  zero_plain (of_attribute {type = Date}) = refl
  zero_plain (of_attribute {type = Enumeration leaves}) = refl
  zero_plain (of_attribute {type = Line forms ks}) = refl
  zero_plain of_component = refl

  zero_field : {p : Pair} {type : AttributeType} → FieldType p type → (ps : List Pair) (cs : List ℤ) (start : ℕ)
      → fields_at start (p ∷ ps) (pos 0 ∷ pos 0 ∷ cs) ≡ record { start = start; bytes = u ∷ [] } ∷ fields_at (start + 1 + 1) ps cs
  unfolding placed pair_fields field_bytes choose
  zero_field of_attribute ps cs start = refl
  zero_field of_component ps cs start = refl

  absent_reads : {p : Pair} {type : AttributeType} → FieldType p type → (before : Bool) → MayBeUndefined before p → (ps : List Pair) (cs : List ℤ) (start place : ℕ)
      → (AllStand own (fields_at (start + 1 + 1) ps cs) → RowRead ps cs (pair_cells u false (place + 1) ps (fields_at (start + 1 + 1) ps cs)))
      → AllStand own (fields_at start (p ∷ ps) (pos 0 ∷ pos 0 ∷ cs)) → RowRead (p ∷ ps) (pos 0 ∷ pos 0 ∷ cs) (pair_cells u before place (p ∷ ps) (fields_at start (p ∷ ps) (pos 0 ∷ pos 0 ∷ cs)))
  unfolding put_pair
  absent_reads of before may ps cs start place others =
      rw (zero_field of ps cs start) (λ st.
      let q = others st.1 in
      record { xs = pos 0 ∷ pos 0 ∷ q.xs; is = field_is of (FieldRead.undefined (undefined_field_lem u start) may) ∙ rw q.is; like = also (alike (zero_plain of)) q.like })

  component_plain : (x : Component) (a : ℤ) → is_plain (OfComponent x) a ≡ true
  unfolding is_plain
  component_plain x a = refl

  along_reads : (x : Component) (ps : List Pair) (b : ℤ) (cs : List ℤ) (start place : ℕ) → NumberOk u x b
      → (AllStand own (fields_at (start + length (number_bytes x.decimals b) + 1) ps cs)
      → RowRead ps cs (pair_cells u true (place + 1) ps (fields_at (start + length (number_bytes x.decimals b) + 1) ps cs)))
      → AllStand own (fields_at start (OfComponent x ∷ ps) (pos 1 ∷ b ∷ cs))
      → RowRead (OfComponent x ∷ ps) (pos 1 ∷ b ∷ cs) (pair_cells u true place (OfComponent x ∷ ps) (fields_at start (OfComponent x ∷ ps) (pos 1 ∷ b ∷ cs)))
  unfolding placed pair_fields field_bytes choose value_of
  along_reads x ps b cs start place w others st =
      let q = others st.1 in
      record { xs = pos 1 ∷ b ∷ q.xs; is = defined_reads of_component true refl ps start place _ (pos 1) b _ q.xs w.field w.reads q.is; like = also (alike (component_plain x (pos 1))) q.like }

  line_reads : (before o : Bool) (forms : ℕ) (ks : List Component) (ps : List Pair) (a b : ℤ) (cs : List ℤ) (start place : ℕ)
      → RowRead ps cs (pair_cells u before place ps (fields_at start ps cs))
      → RowRead (OfLine o forms ks ∷ ps) (a ∷ b ∷ cs) (pair_cells u before place (OfLine o forms ks ∷ ps) (fields_at start (OfLine o forms ks ∷ ps) (a ∷ b ∷ cs)))
  unfolding pair_cells pair_fields put_pair
  line_reads before o forms ks ps a b cs start place q = record { xs = pos 0 ∷ pos 0 ∷ q.xs; is = rw q.is; like = also undrawn q.like }

  line_stands : (o : Bool) (forms : ℕ) (ks : List Component) (ps : List Pair) (a b : ℤ) (cs : List ℤ) (start : ℕ) → AllStand own (fields_at start (OfLine o forms ks ∷ ps) (a ∷ b ∷ cs))
      → AllStand own (fields_at start ps cs)
  unfolding pair_fields
  line_stands o forms ks ps a b cs start st = st

  -- the fields of a row, written from `start` on, read as its cells do
  pub row_reads : {before : Bool} {k k' : ℕ} {ps : List Pair} {cs : List ℤ} → RowOk u text c before k ps cs k' → (start place : ℕ)
      → AllStand own (placed start (pair_fields u text c ps cs)) → RowRead ps cs (pair_cells u before place ps (placed start (pair_fields u text c ps cs)))
  row_reads (done {before = before} {cs = cs}) start place st = none_reads before cs start place
  row_reads (absent {before = before} {ps = ps} {cs = cs} r) start place st =
      absent_reads of_attribute before refl ps cs start place (λ st. row_reads r (start + 1 + 1) (place + 1) st) st
  row_reads (plain {before = before} {o = o} {type = type} {ps = ps} {a = a} {b = b} {cs = cs} t g d w v r) start place st =
      attribute_reads before o type ps a b cs start place (type_bytes text c type a b) a b d refl w (v start) (λ _. alike (plain_type o type a t g))
      (λ st. row_reads r (start + length (type_bytes text c type a b) + 1) (place + 1) st) st
  row_reads (word {before = before} {o = o} {longest = longest} {ps = ps} {b = b} {cs = cs} f w e l s r) start place st =
      attribute_reads before o (Text longest) ps (pos (1 + length f)) b cs start place f (pos (1 + length f)) (pos start) (ne_eqb (1 + length f) 0 (omega arith)) (word_bytes text c longest b f s) w
      (word_reads longest start f e l) (λ there. word_at (length f) (words_shown f start b w.solid there s)) (λ st. row_reads r (start + length f + 1) (place + 1) st) st
  row_reads (name {before = before} {o = o} {target = target} {n = n} {ps = ps} {cs = cs} f w e s g r) start place st =
      attribute_reads before o (Reference target) ps (pos 1) (pos n) cs start place f (pos (1 + length f)) (pos start) refl (name_bytes text c target n f s) w
      (name_reads target start f e) (λ there. name_at (length f) (rw there g)) (λ st. row_reads r (start + length f + 1) (place + 1) st) st
  row_reads (without {ps = ps} {cs = cs} r) start place st = absent_reads of_component false refl ps cs start place (λ st. row_reads r (start + 1 + 1) (place + 1) st) st
  row_reads (along {x = x} {ps = ps} {b = b} {cs = cs} w r) start place st =
      along_reads x ps b cs start place w (λ st. row_reads r (start + length (number_bytes x.decimals b) + 1) (place + 1) st) st
  row_reads (no_line {before = before} {forms = forms} {ks = ks} {ps = ps} {cs = cs} r) start place st =
      line_reads before true forms ks ps (pos 0) (pos 0) cs start place (row_reads r start place (line_stands true forms ks ps (pos 0) (pos 0) cs start st))
  row_reads (line {before = before} {o = o} {k = k} {forms = forms} {ks = ks} {ps = ps} {cs = cs} n l p r) start place st =
      line_reads before o forms ks ps (pos (1 + suc n)) (pos k) cs start place (row_reads r start place (line_stands o forms ks ps (pos (1 + suc n)) (pos k) cs start st))
