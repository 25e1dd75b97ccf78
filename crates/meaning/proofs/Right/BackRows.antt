-- The fields of an OBJE line and the lines behind it that were read are right. Assumes nothing.
use Prim.Native.Nat.{ℕ, ◌+◌, ◌*◌}
use native.Mathlib.Omega.{arith}
use mathlib.Core.Path.{◌≡◌, refl, sym, ap, ap₂, subst, ◌∙◌}
use mathlib.Core.Bool.{Bool, true, false, not, true≢false, false≢true}
use mathlib.Core.List.{List, [], ◌∷◌, ◌++◌, append_assoc, append-nil}
use lib.Dec.{ltb}
use lib.IntN.{ℤ, pos}
use lib.ListN.{length, length-append}
use borrow.Author.Tests.{not-false, ltb-false}
use Rattle.meaning.specs.Bytes.{every, text_byte}
use Rattle.meaning.specs.Model.{Component, AttributeType, Reference, Coordinate, Number, Text, Date, Enumeration, Line, Model}
use Rattle.meaning.specs.Field.{Field}
use Rattle.meaning.specs.Value.{pair, is_digits, is_identification, date_of, enumeration_of, text_of, reference_of, stretch_of, value_of, is_undefined, is_undefined_twice}
use Rattle.meaning.specs.Row.{Pair, OfAttribute, OfComponent, OfLine, has_mandatory, Cells, cells, undefined_cells, undefined_rest, pair_cells}
use Rattle.meaning.specs.Reading.{LineAttribute, line_attributes, object_of, nothing, due_lines, Content, point_count, Rooms}
use Rattle.meaning.specs.Lines.{go}
use Rattle.meaning.specs.Right.{Point, Entry, Undefined, OfValue, OfText, OfReference, OfPoints, Defined, Means, number, date, enumeration, text, reference, Drawn, entry_points, cells_of_points}
use Rattle.meaning.specs.Right as right
use Rattle.meaning.specs.Reasons.{MayBeUndefined, MayBeDefined, FieldType, of_attribute, of_component}
use Rattle.meaning.proofs.Tests.Unequal.{no_pair, no_cells}
use Rattle.meaning.proofs.Tests.Refuse.{passed}
use Rattle.meaning.proofs.Reading.PairCells.{FieldRead, field_read}
use Rattle.meaning.proofs.Reading.FieldsRead.{put_inv, number_within}
use Rattle.meaning.proofs.Writing.Attributes.{moved, moved_length, with_cells}
use Rattle.meaning.proofs.Right.Steps.{steps}
use Rattle.meaning.proofs.Right.Content.{early_cells, late_cells, points_length, points_append}
use Rattle.meaning.proofs.Right.Points.{with_points}
use Rattle.meaning.proofs.Right.PairEntries.{Before, was_defined, was_undefined, covered, is_covered, PairEntries, done, defined, undefined, cover, under, also_defined, also_undefined, also_cover, also_under, undrawn, along}
use Rattle.meaning.proofs.Right.Rows.{flag_of, Kept, undefined_kept, value_kept, with_entries, kept_entries, line_cells_lem}
use Rattle.meaning.proofs.Right.BackPoints.{AttributeOf, undrawn_of, drawn_of, attribute_of_lem}

-- ## What a field means

record MeansOf (type : AttributeType) (f : Field) (a b : ℤ) : Type 0 where
  entry : Entry
  means : Means type f entry
  kept : Kept entry
  is_a : kept.a ≡ a
  is_b : kept.b ≡ b

date_one : (s : List ℕ) (a b : ℤ) → date_of s ≡ pair a b → a ≡ pos 1
unfolding date_of
date_one s a b e =
    let p = passed (not (is_digits 8 8 s)) _ _ _ (no_pair 13 a b) e in
    let q = passed _ _ _ _ (no_pair 14 a b) p.1 in
    cc q.1

enumeration_one : (leaves : ℕ) (s : List ℕ) (a b : ℤ) → enumeration_of leaves s ≡ pair a b → a ≡ pos 1
unfolding enumeration_of
enumeration_one leaves s a b e =
    let p = passed (not (is_digits 1 18 s)) _ _ _ (no_pair 13 a b) e in
    let q = passed _ _ _ _ (no_pair 14 a b) p.1 in
    cc q.1

means_of : (type : AttributeType) (f : Field) (a b : ℤ) → value_of type f ≡ pair a b → MeansOf type f a b
unfolding value_of text_of reference_of stretch_of value_kept early_cells late_cells entry_points
means_of (Reference t) f a b e =
    let p = passed (not (is_identification f.bytes)) _ _ _ (no_pair 13 a b) e in
    record {
      entry = OfReference t f;
      means = reference (not-false _ p.0);
      kept = record { a = pos (1 + length f.bytes); b = pos f.start; early = λ es. refl; late = λ k es. refl; points = λ es. refl };
      is_a = cc p.1;
      is_b = cc p.1;
    }
means_of (Coordinate cs) f a b e = absurd (no_pair 13 a b e)
means_of (Number c) f a b e =
    let w : a ≡ pos 1 = (number_within c f.bytes a b e).0 in
    record { entry = OfValue b; means = number (e ∙ ap (λ (x : ℤ). pair x b) w); kept = value_kept b; is_a = sym w; is_b = refl }
means_of (Text longest) f a b e =
    let p = passed (not (every text_byte f.bytes)) _ _ _ (no_pair 13 a b) e in
    let q = passed (ltb longest (length f.bytes)) _ _ _ (no_pair 14 a b) p.1 in
    record {
      entry = OfText f;
      means = text (not-false _ p.0) (ltb-false longest (length f.bytes) q.0);
      kept = record { a = pos (1 + length f.bytes); b = pos f.start; early = λ es. refl; late = λ k es. refl; points = λ es. refl };
      is_a = cc q.1;
      is_b = cc q.1;
    }
means_of Date f a b e =
    let w : a ≡ pos 1 = date_one f.bytes a b e in
    record { entry = OfValue b; means = date (e ∙ ap (λ (x : ℤ). pair x b) w); kept = value_kept b; is_a = sym w; is_b = refl }
means_of (Enumeration leaves) f a b e =
    let w : a ≡ pos 1 = enumeration_one leaves f.bytes a b e in
    record { entry = OfValue b; means = enumeration (e ∙ ap (λ (x : ℤ). pair x b) w); kept = value_kept b; is_a = sym w; is_b = refl }
means_of (Line forms cs) f a b e = absurd (no_pair 13 a b e)

-- ## The pairs of a row

module _ (m : Model) (rooms : Rooms) (own : List ℕ) (t : ℕ) (z : Content) where
  pub record RowOf (b : Before) (ps : List Pair) (fs : List Field) (xs : List ℤ) (k : ℕ) (front : List ℤ) (c : Content) (ls : List right.Line) : Type 0 where
    pub es : List Entry
    pub these : List right.Line
    pub others : List right.Line
    pub is : ls ≡ these ++ others
    pub early : xs ≡ early_cells es
    pub entries : PairEntries m.undefined b ps fs these es
    pub goes : steps m rooms own (object_of t) (with_entries c front k es) others ≡ go nothing z

  -- what is read of some pairs, wherever they stand
  unfoldable pub Reads : Before → List Pair → List Field → List ℤ → Type 0
  Reads b ps fs xs = (k : ℕ) (front : List ℤ) (c : Content) (ls : List right.Line) → c.cells ≡ front ++ xs → 4 * k ≡ length c.points
      → steps m rooms own (due_lines t k (line_attributes (length front) ps)) c ls ≡ go nothing z → RowOf b ps fs xs k front c ls

  -- a pair of no line
  entry_on : (b b' : Before) (p : Pair) (ps : List Pair) (fs fs' : List Field) (ys : List ℤ) (e : Entry) (q : Kept e) → ((cell : ℕ) → line_attributes cell (p ∷ ps) ≡ line_attributes (cell + 2) ps)
      → ((ls : List right.Line) (es : List Entry) → PairEntries m.undefined b' ps fs' ls es → PairEntries m.undefined b (p ∷ ps) fs ls (e ∷ es)) → Reads b' ps fs' ys
      → Reads b (p ∷ ps) fs (q.a ∷ q.b ∷ ys)
  unfolding Reads
  entry_on b b' p ps fs fs' ys e q step make ih k front c ls h count g =
      let r = ih k (front ++ (q.a ∷ q.b ∷ [])) c ls (h ∙ sym (moved front q.a q.b ys)) count (rw (moved_length front q.a q.b []) (rw (step (length front)) at g)) in
      record {
        es = e ∷ r.es;
        these = r.these;
        others = r.others;
        is = r.is;
        early = ap (λ (y : List ℤ). q.a ∷ q.b ∷ y) r.early ∙ sym (q.early r.es);
        entries = make r.these r.es r.entries;
        goes = subst (λ (y : Content). steps m rooms own (object_of t) y r.others ≡ go nothing z) (kept_entries c front k e r.es q) r.goes;
      }

  -- a line that is drawn, before what follows it
  drawn_before : (b : Before) (o : Bool) (forms : ℕ) (cs : List Component) (ps : List Pair) (fs : List Field) (ys : List ℤ) (k : ℕ) (front : List ℤ) (c : Content) (ls these others : List right.Line)
      (pts : List Point) → ls ≡ these ++ others → Drawn m.undefined forms cs these pts
      → RowOf b ps fs ys (k + length pts) (front ++ (pos (1 + length pts) ∷ pos k ∷ [])) (with_cells c (front ++ (pos (1 + length pts) ∷ pos k ∷ ys)) (c.points ++ cells_of_points pts)) others
      → RowOf b (OfLine o forms cs ∷ ps) fs (pos 0 ∷ pos 0 ∷ ys) k front c ls
  unfolding early_cells late_cells entry_points
  drawn_before b o forms cs ps fs ys k front c ls these others pts is shape r =
      let n : ℕ = length pts in
      let end : with_entries (with_cells c (front ++ (pos (1 + n) ∷ pos k ∷ ys)) (c.points ++ cells_of_points pts)) (front ++ (pos (1 + n) ∷ pos k ∷ [])) (k + n) r.es ≡ with_entries c front k (OfPoints pts ∷ r.es) =
      rw (moved front (pos (1 + n)) (pos k) (late_cells (k + n) r.es), points_append pts (entry_points r.es), append_assoc c.points (cells_of_points pts) (cells_of_points (entry_points r.es))) in
      record {
        es = OfPoints pts ∷ r.es;
        these = these ++ r.these;
        others = r.others;
        is = is ∙ (ap (λ (y : List right.Line). these ++ y) r.is ∙ sym (append_assoc these r.these r.others));
        early = ap (λ (y : List ℤ). pos 0 ∷ pos 0 ∷ y) r.early;
        entries = along shape r.entries;
        goes = subst (λ (y : Content). steps m rooms own (object_of t) y r.others ≡ go nothing z) end r.goes;
      }

  -- a line attribute
  line_on : (b : Before) (o : Bool) (forms : ℕ) (cs : List Component) (ps : List Pair) (fs : List Field) (ys : List ℤ) → Reads b ps fs ys → Reads b (OfLine o forms cs ∷ ps) fs (pos 0 ∷ pos 0 ∷ ys)
  unfolding Reads line_attributes due_lines early_cells late_cells entry_points undefined_kept
  line_on b o forms cs ps fs ys ih k front c ls h count g =
      by (attribute_of_lem m rooms own t k (record { cell = length front; optional = o; forms = forms; components = cs }) (line_attributes (length front + 2) ps) z ls c g)
    where
      by : AttributeOf m rooms own t k (record { cell = length front; optional = o; forms = forms; components = cs }) (line_attributes (length front + 2) ps) z c ls
          → RowOf b (OfLine o forms cs ∷ ps) fs (pos 0 ∷ pos 0 ∷ ys) k front c ls
      by (undrawn_of e others is alone optional goes) =
          let r = ih k (front ++ (pos 0 ∷ pos 0 ∷ [])) c others (h ∙ sym (moved front (pos 0) (pos 0) ys)) count (rw (moved_length front (pos 0) (pos 0) []) goes) in
          record {
            es = Undefined ∷ r.es;
            these = e ∷ r.these;
            others = r.others;
            is = is ∙ ap (λ (y : List right.Line). e ∷ y) r.is;
            early = ap (λ (y : List ℤ). pos 0 ∷ pos 0 ∷ y) r.early;
            entries = subst (λ (x : Bool). PairEntries m.undefined b (OfLine x forms cs ∷ ps) fs (e ∷ r.these) (Undefined ∷ r.es)) (sym optional) (undrawn alone r.entries);
            goes = subst (λ (y : Content). steps m rooms own (object_of t) y r.others ≡ go nothing z) (kept_entries c front k Undefined r.es undefined_kept) r.goes;
          }
      by (drawn_of these others pts is shape goes) =
          let at : LineAttribute = record { cell = length front; optional = o; forms = forms; components = cs } in
          let rest : List LineAttribute = line_attributes (length front + 2) ps in
          let n : ℕ = length pts in
          let line = line_cells_lem m rooms own t front (pos 0) (pos 0) ys n k c at rest pts h count refl refl in
          let front' : List ℤ = front ++ (pos (1 + n) ∷ pos k ∷ []) in
          let c' : Content = with_cells c (front ++ (pos (1 + n) ∷ pos k ∷ ys)) (c.points ++ cells_of_points pts) in
          let goes' : steps m rooms own (due_lines t (k + n) rest) c' others ≡ go nothing z =
          subst (λ (x : ℕ). steps m rooms own (due_lines t x rest) c' others ≡ go nothing z) line.0
          (subst (λ (y : Content). steps m rooms own (due_lines t (point_count (with_points pts c)) rest) y others ≡ go nothing z) line.1 goes) in
          let long : length (c.points ++ cells_of_points pts) ≡ 4 * (k + n) = (let x = length-append c.points (cells_of_points pts) in let y = points_length pts in omega arith) in
          drawn_before b o forms cs ps fs ys k front c ls these others pts is shape
          (ih (k + n) front' c' others (sym (moved front (pos (1 + n)) (pos k) ys)) (sym long) (rw (moved_length front (pos (1 + n)) (pos k) []) goes'))

  -- no pair is left
  none_left : (b : Before) → Reads b [] [] []
  unfolding Reads line_attributes due_lines early_cells late_cells entry_points cells_of_points
  none_left b k front c ls h count g = record {
    es = [];
    these = [];
    others = ls;
    is = refl;
    early = refl;
    entries = done;
    goes = subst (λ (y : Content). steps m rooms own (object_of t) y ls ≡ go nothing z) (ap₂ (λ (l : List ℤ) (p : List ℤ). with_cells c l p) h (sym (append-nil c.points))) g;
  }

  covered_reads : (ps : List Pair) → has_mandatory ps ≡ false → Reads covered ps [] (undefined_cells ps)
  unfolding has_mandatory undefined_cells line_attributes undefined_kept
  covered_reads [] h = none_left covered
  covered_reads (OfAttribute true type ∷ ps) h =
      entry_on covered covered (OfAttribute true type) ps [] [] (undefined_cells ps) Undefined undefined_kept (λ cell. refl) (λ ls es r. under r) (covered_reads ps h)
  covered_reads (OfAttribute false type ∷ ps) h = absurd (true≢false h)
  covered_reads (OfComponent x ∷ ps) h = entry_on covered covered (OfComponent x) ps [] [] (undefined_cells ps) Undefined undefined_kept (λ cell. refl) (λ ls es r. also_under r) (covered_reads ps h)
  covered_reads (OfLine o forms cs ∷ ps) h = line_on covered o forms cs ps [] (undefined_cells ps) (covered_reads ps h)

  rest_of : (place : ℕ) (ps : List Pair) (fs : List Field) (xs : List ℤ) → undefined_rest place ps fs ≡ cells xs → (fs ≡ []) × (xs ≡ undefined_cells ps)
  unfolding undefined_rest
  rest_of place ps [] xs e = (refl, cc)
  rest_of place ps (f ∷ fs) xs e = absurd (no_cells 11 (place + 1) xs e)

  -- what the field before was, where it did not cover this one
  was_defined_lem : (b : Before) → flag_of b ≡ true → b ≡ was_defined
  unfolding flag_of
  was_defined_lem was_defined h = refl
  was_defined_lem was_undefined h = absurd (false≢true h)
  was_defined_lem covered h = absurd (false≢true h)

  was_undefined_lem : (b : Before) → is_covered b ≡ false → flag_of b ≡ false → b ≡ was_undefined
  unfolding flag_of is_covered
  was_undefined_lem was_defined c h = absurd (true≢false h)
  was_undefined_lem was_undefined c h = refl
  was_undefined_lem covered c h = absurd (true≢false c)

  no_line : {p : Pair} {type : AttributeType} → FieldType p type → (ps : List Pair) (cell : ℕ) → line_attributes cell (p ∷ ps) ≡ line_attributes (cell + 2) ps
  unfolding line_attributes
  no_line of_attribute ps cell = refl
  no_line of_component ps cell = refl

  -- the entry of a field by what it says
  module _ {b : Before} {ps : List Pair} {f : Field} {ls : List right.Line} {es : List Entry} where
    value_entry : {p : Pair} {type : AttributeType} {fs : List Field} {e : Entry} → FieldType p type → MayBeDefined (flag_of b) p → Defined m.undefined f → Means type f e
        → PairEntries m.undefined was_defined ps fs ls es → PairEntries m.undefined b (p ∷ ps) (f ∷ fs) ls (e ∷ es)
    value_entry of_attribute may d n r = defined d n r
    value_entry of_component may d (number h) r = rw (was_defined_lem b may) (also_defined d h r)

    module _ (cov : is_covered b ≡ false) where
      none_entry : {p : Pair} {type : AttributeType} {fs : List Field} → FieldType p type → MayBeUndefined (flag_of b) p → is_undefined m.undefined f ≡ true
          → PairEntries m.undefined was_undefined ps fs ls es → PairEntries m.undefined b (p ∷ ps) (f ∷ fs) ls (Undefined ∷ es)
      none_entry of_attribute may h r = rw may (undefined h r)
      none_entry of_component may h r = rw (was_undefined_lem b cov may) (also_undefined h r)

      rest_entry : {p : Pair} {type : AttributeType} → FieldType p type → MayBeUndefined (flag_of b) p → is_undefined_twice m.undefined f ≡ true
          → PairEntries m.undefined covered ps [] ls es → PairEntries m.undefined b (p ∷ ps) (f ∷ []) ls (Undefined ∷ es)
      rest_entry of_attribute may h r = rw may (cover h r)
      rest_entry of_component may h r = rw (was_undefined_lem b cov may) (also_cover h r)

  field_reads : {p : Pair} {type : AttributeType} {ps : List Pair} {f : Field} {fs : List Field} (b : Before) (place : ℕ) (xs : List ℤ) → FieldType p type → is_covered b ≡ false
      → ((ys : List ℤ) → pair_cells m.undefined true (place + 1) ps fs ≡ cells ys → Reads was_defined ps fs ys)
      → ((ys : List ℤ) → pair_cells m.undefined false (place + 1) ps fs ≡ cells ys → Reads was_undefined ps fs ys)
      → (k : Cells) → FieldRead m.undefined (flag_of b) place p type ps f fs k → k ≡ cells xs → Reads b (p ∷ ps) (f ∷ fs) xs
  unfolding undefined_cells undefined_kept
  field_reads {p} {type} {ps} {f} {fs} b place xs of cov with-field with_none _ (FieldRead.defined d may) e =
      let q = put_inv place _ _ xs e in
      let n = means_of type f q.a q.b q.value in
      let z' : xs ≡ n.kept.a ∷ n.kept.b ∷ q.ys = cc (q.whole, n.is_a, n.is_b) in
      rw z' (entry_on b was_defined p ps (f ∷ fs) fs q.ys n.entry n.kept (no_line of ps) (λ ls es r. value_entry of may d n.means r) (with-field q.ys q.rest))
  field_reads {p} {type} {ps} {f} {fs} b place xs of cov with-field with_none _ (FieldRead.undefined h may) e =
      let q = put_inv place _ _ xs e in
      let z' : xs ≡ pos 0 ∷ pos 0 ∷ q.ys = cc (q.value, q.whole) in
      rw z' (entry_on b was_undefined p ps (f ∷ fs) fs q.ys Undefined undefined_kept (no_line of ps) (λ ls es r. none_entry cov of may h r) (with_none q.ys q.rest))
  field_reads {p} {type} {ps} {f} {fs} b place xs of cov with-field with_none _ (FieldRead.twice h may none) e =
      let q = rest_of place (p ∷ ps) fs xs e in
      rw (q.0, q.1) (entry_on b covered p ps (f ∷ []) [] (undefined_cells ps) Undefined undefined_kept (no_line of ps) (λ ls es r. rest_entry cov of may h r) (covered_reads ps none))
  field_reads b place xs of cov with-field with_none _ (FieldRead.mixed d never) e = absurd (no_cells 12 place xs e)
  field_reads b place xs of cov with-field with_none _ (FieldRead.mandatory h never) e = absurd (no_cells 12 place xs e)
  field_reads b place xs of cov with-field with_none _ (FieldRead.covers h some) e = absurd (no_cells 12 place xs e)

  pub row_reads : (ps : List Pair) (fs : List Field) (b : Before) → is_covered b ≡ false → (place : ℕ) (xs : List ℤ) → pair_cells m.undefined (flag_of b) place ps fs ≡ cells xs → Reads b ps fs xs
  unfolding pair_cells flag_of is_covered
  row_reads [] [] b cov place xs e = let z' : xs ≡ [] = cc in rw z' (none_left b)
  row_reads [] (f ∷ fs) b cov place xs e = absurd (no_cells 11 place xs e)
  row_reads (OfLine o forms cs ∷ ps) fs b cov place xs e =
      let p = put_inv place _ _ xs e in
      let z' : xs ≡ pos 0 ∷ pos 0 ∷ p.ys = cc (p.value, p.whole) in
      rw z' (line_on b o forms cs ps fs p.ys (row_reads ps fs b cov place p.ys p.rest))
  row_reads (OfAttribute o type ∷ ps) [] b cov place xs e = absurd (no_cells 11 place xs e)
  row_reads (OfAttribute o type ∷ ps) (f ∷ fs) b cov place xs e =
      field_reads b place xs of_attribute cov (λ ys. row_reads ps fs was_defined refl (place + 1) ys) (λ ys. row_reads ps fs was_undefined refl (place + 1) ys) _ (field_read of_attribute) e
  row_reads (OfComponent c ∷ ps) [] b cov place xs e = absurd (no_cells 11 place xs e)
  row_reads (OfComponent c ∷ ps) (f ∷ fs) b cov place xs e =
      field_reads b place xs of_component cov (λ ys. row_reads ps fs was_defined refl (place + 1) ys) (λ ys. row_reads ps fs was_undefined refl (place + 1) ys) _ (field_read of_component) e
