-- The pairs of an attribute and of a row: pair by pair, and the walk over the attribute records. Assumes nothing.
use borrow.Author.Tests.{leb-true, le-leb, lt-leb}
use Prim.Native.Nat.{ℕ, zero, suc, ◌+◌, ◌*◌, ◌-◌, ◌≤◌, ◌<◌}
use native.Mathlib.Omega.{arith}
use mathlib.Core.Path.{◌≡◌, refl, sym, ap, ◌∙◌}
use mathlib.Core.Bool.{Bool, true, false, not, ◌&&◌}
use mathlib.Core.List.{List, [], ◌∷◌, ◌++◌}
use lib.Dec.{leb}
use lib.IntN.{ℤ, pos, nat_abs}
use lib.Signed.{lt_z}
use lib.ListN.{length, take, drop, get_or, length-drop, length-append}
use lib.Seq.{get_or-drop, drop-drop, take_all}
use Rattle.meaning.specs.Bytes.{choose, all_of, byte_at}
use Rattle.meaning.specs.Model as model
use Rattle.meaning.specs.Model.{Found, found, missing, AttributeType, Reference, Coordinate, Number, Text, Date, Enumeration, Line}
use Rattle.meaning.specs.Row.{Pair, OfAttribute, OfComponent, OfLine, component_pairs, pairs_of_type, pairs_of}
use Rattle.meaning.specs.Reading.{unstarted, Content}
use Rattle.meaning.specs.Judge.{cell_is, judge_undefined, judge_points, judge_value, judge_component, judge_line, fine_if, judge_pair, defined_behind, after_found, judge_pairs}
use Rattle.meaning.proofs.Tests.Refuse.{holds}
use Rattle.model_records.specs.declared.attributes.Component.{Component}
use Rattle.model_records.specs.declared.attributes.Components.{Components}
use Rattle.model_records.specs.declared.attributes.Kind.{Kind}
use Rattle.model_records.specs.declared.attributes.Kind.TheVariants as kind
use Rattle.model_records.specs.declared.attributes.Attribute.{Attribute}
use Rattle.model_records.specs.declared.places.Records.{Records}
use Rattle.model_records.specs.Components.{component_of, components_of, list_of}
use Rattle.model_records.specs.Records.{model_at, kind_at, next_at, attributes_at, pairs_at}
use Rattle.model_records.specs.AtRecord.{AtRecord, AttributeNext}
use Rattle.model_records.specs.Attributes.{of_kind, type_of, RecordAttribute}
use Rattle.model_records.specs.Counts.{pair_count}
use Rattle.model_records.proofs.AtRecord.{attribute_here, no_attribute}
use Rattle.model_records.proofs.Counting.{own_count}
use Rattle.std.proofs.Common.{Option}
use Rattle.std.specs.Bool.{then_some}
use Rattle.write_judge.specs.Meant.{fine_of}
use Rattle.table.specs.declared.Table.{Table}
use Rattle.table.specs.Contents.{content}
use Rattle.write_judge.proofs.Signs.{alone}
use Rattle.meaning.proofs.Judge.Pairs.{fine_if_lem}
use Rattle.model_records.proofs.Types.{type_at}

-- ## Found or not

pub fine_told : (r : Option ℕ) (t : Bool) (k : ℕ) → r ≡ then_some t k → fine_of r ≡ fine_if t k
unfolding fine_if choose
fine_told r true k e = rw e
fine_told r false k e = rw e

after_fine : (t : Bool) (k : ℕ) (next : ℕ → Found) → after_found (fine_if t k) missing next ≡ choose t (next k) missing
unfolding fine_if choose
after_fine true k next = refl
after_fine false k next = refl

after_id : (f : Found) → after_found f missing (λ k. found k) ≡ f
after_id (found k) = refl
after_id missing = refl

after_same : (f : Found) (g h : ℕ → Found) → ((k : ℕ) → g k ≡ h k) → after_found f missing g ≡ after_found f missing h
after_same (found k) g h e = e k
after_same missing g h e = refl

-- a test, and what follows it
joined : (t rest : Bool) (k : ℕ) (f : Found) → fine_if rest k ≡ f → fine_if (t && rest) k ≡ choose t f missing
unfolding fine_if choose
joined true rest k f e = e
joined false rest k f e = refl

-- ## The components of a coordinate

first_split : (o : Bool) (d : Component) (items : List Component) (n : ℕ) → length items ≡ 3 → 1 ≤ n → pairs_of_type o (Coordinate (list_of (take n items))) ≡ OfAttribute o (Number (component_of (get_or items 0 d))) ∷ component_pairs (drop 1 (list_of (take n items)))
unfolding pairs_of_type component_pairs list_of
first_split o d [] n l e = absurd (omega arith)
first_split o d (x ∷ items) zero l e = absurd (omega arith)
first_split o d (x ∷ items) (suc n) l e = refl

second_split : (d : Component) (items : List Component) (n : ℕ) → length items ≡ 3 → 2 ≤ n → component_pairs (drop 1 (list_of (take n items))) ≡ OfComponent (component_of (get_or items 1 d)) ∷ component_pairs (drop 2 (list_of (take n items)))
unfolding component_pairs list_of
second_split d [] n l e = absurd (omega arith)
second_split d (x ∷ []) n l e = absurd (omega arith)
second_split d (x ∷ (y ∷ items)) zero l e = absurd (omega arith)
second_split d (x ∷ (y ∷ items)) (suc zero) l e = absurd (omega arith)
second_split d (x ∷ (y ∷ items)) (suc (suc n)) l e = refl

third_split : (d : Component) (items : List Component) (n : ℕ) → length items ≡ 3 → n ≡ 3 → component_pairs (drop 2 (list_of (take n items))) ≡ OfComponent (component_of (get_or items 2 d)) ∷ []
unfolding component_pairs list_of
third_split d [] n l e = absurd (omega arith)
third_split d (x ∷ []) n l e = absurd (omega arith)
third_split d (x ∷ (y ∷ [])) n l e = absurd (omega arith)
third_split d (x ∷ (y ∷ (z ∷ items))) n l e = rw e

two_split : (items : List Component) (n : ℕ) → length items ≡ 3 → n ≡ 2 → component_pairs (drop 2 (list_of (take n items))) ≡ []
unfolding component_pairs list_of
two_split [] n l e = absurd (omega arith)
two_split (x ∷ []) n l e = absurd (omega arith)
two_split (x ∷ (y ∷ items)) n l e = rw e

-- ## One pair

module _ (u : ℕ) (text : List ℕ) (c : Content) where
  pair_step : (before : Bool) (k : ℕ) (p : Pair) (ps : List Pair) (cell : ℕ) (cs : List ℤ) → judge_pairs u text c before k (p ∷ ps) (drop cell cs)
      ≡ after_found (judge_pair u text c before k p (get_or cs cell (pos 0)) (get_or cs (cell + 1) (pos 0))) missing (λ k'. judge_pairs u text c (defined_behind before p (get_or cs cell (pos 0))) k' ps (drop (cell + 2) cs))
  unfolding judge_pairs
  pair_step before k p ps cell cs = let g : cell + 0 ≡ cell = omega arith in simp (get_or-drop, drop-drop, g)

  pub pair_alone : (before : Bool) (k : ℕ) (p : Pair) (cell : ℕ) (cs : List ℤ) → judge_pair u text c before k p (get_or cs cell (pos 0)) (get_or cs (cell + 1) (pos 0)) ≡ judge_pairs u text c before k (p ∷ []) (drop cell cs)
  unfolding judge_pairs
  pair_alone before k p cell cs = sym (pair_step before k p [] cell cs ∙ after_id _)

  -- ## Coordinates

  module _ (k cell : ℕ) (cs : List ℤ) where
    further_step : (before : Bool) (x : model.Component) (ps : List Pair) (t rest : Bool) → t ≡ judge_component before x (get_or cs cell (pos 0)) (get_or cs (cell + 1) (pos 0))
        → fine_if rest k ≡ judge_pairs u text c before k ps (drop (cell + 2) cs) → fine_if (t && rest) k ≡ judge_pairs u text c before k (OfComponent x ∷ ps) (drop cell cs)
    unfolding judge_pair defined_behind
    further_step before x ps t rest e f =
        joined t rest k _ f ∙ ap (λ (y : Bool). choose y (judge_pairs u text c before k ps (drop (cell + 2) cs)) missing) e
        ∙ sym (pair_step before k (OfComponent x) ps cell cs ∙ after_fine (judge_component before x (get_or cs cell (pos 0)) (get_or cs (cell + 1) (pos 0))) k (λ k'. judge_pairs u text c before k' ps (drop (cell + 2) cs)))

    first_step : (o : Bool) (x : model.Component) (ps : List Pair) (t rest : Bool)
        → t ≡ choose (cell_is (get_or cs cell (pos 0)) 0) (judge_undefined o (get_or cs (cell + 1) (pos 0))) (judge_value u text c (Number x) (get_or cs cell (pos 0)) (get_or cs (cell + 1) (pos 0)))
        → fine_if rest k ≡ judge_pairs u text c (not (cell_is (get_or cs cell (pos 0)) 0)) k ps (drop (cell + 2) cs) → fine_if (t && rest) k ≡ judge_pairs u text c true k (OfAttribute o (Number x) ∷ ps) (drop cell cs)
    unfolding judge_pair defined_behind
    first_step o x ps t rest e f =
        joined t rest k _ f ∙ ap (λ (y : Bool). choose y (judge_pairs u text c (not (cell_is (get_or cs cell (pos 0)) 0)) k ps (drop (cell + 2) cs)) missing) e
        ∙ sym (pair_step true k (OfAttribute o (Number x)) ps cell cs ∙ after_fine _ k (λ k'. judge_pairs u text c (not (cell_is (get_or cs cell (pos 0)) 0)) k' ps (drop (cell + 2) cs)))

    pub third_none : (items : List Component) (n : ℕ) → length items ≡ 3 → (before : Bool) → n ≡ 2 → fine_if true k ≡ judge_pairs u text c before k (component_pairs (drop 2 (list_of (take n items)))) (drop cell cs)
    unfolding fine_if choose judge_pairs
    third_none items n l before e = rw (two_split items n l e)

    module _ (d : Component) (items : List Component) (n : ℕ) (l : length items ≡ 3) where
      pub third_is : (before : Bool) (t : Bool) → n ≡ 3 → t ≡ judge_component before (component_of (get_or items 2 d)) (get_or cs cell (pos 0)) (get_or cs (cell + 1) (pos 0))
          → fine_if t k ≡ judge_pairs u text c before k (component_pairs (drop 2 (list_of (take n items)))) (drop cell cs)
      unfolding judge_pair
      third_is before t e f = rw (f, third_split d items n l e) (pair_alone before k (OfComponent (component_of (get_or items 2 d))) cell cs)

      pub further_is : (before : Bool) (t rest : Bool) → 2 ≤ n → t ≡ judge_component before (component_of (get_or items 1 d)) (get_or cs cell (pos 0)) (get_or cs (cell + 1) (pos 0))
          → fine_if rest k ≡ judge_pairs u text c before k (component_pairs (drop 2 (list_of (take n items)))) (drop (cell + 2) cs)
          → fine_if (t && rest) k ≡ judge_pairs u text c before k (component_pairs (drop 1 (list_of (take n items)))) (drop cell cs)
      further_is before t rest e f g = rw (second_split d items n l e) (further_step before (component_of (get_or items 1 d)) (component_pairs (drop 2 (list_of (take n items)))) t rest f g)

      pub coordinate_is : (o : Bool) (t rest : Bool) → 1 ≤ n
          → t ≡ choose (cell_is (get_or cs cell (pos 0)) 0) (judge_undefined o (get_or cs (cell + 1) (pos 0))) (judge_value u text c (Number (component_of (get_or items 0 d))) (get_or cs cell (pos 0)) (get_or cs (cell + 1) (pos 0)))
          → fine_if rest k ≡ judge_pairs u text c (not (cell_is (get_or cs cell (pos 0)) 0)) k (component_pairs (drop 1 (list_of (take n items)))) (drop (cell + 2) cs)
          → fine_if (t && rest) k ≡ judge_pairs u text c true k (pairs_of_type o (Coordinate (list_of (take n items)))) (drop cell cs)
      coordinate_is o t rest e f g = rw (first_split o d items n l e) (first_step o (component_of (get_or items 0 d)) (component_pairs (drop 1 (list_of (take n items)))) t rest f g)

-- ## Lines

module _ (c : Content) (k forms : ℕ) (ks : List model.Component) (a b : ℤ) (m : ℕ) where
  pub line_none : lt_z a (pos 2) ≡ true → missing ≡ fine_if (judge_line c k forms ks a b) m
  unfolding judge_line all_of fine_if choose
  line_none h = rw h

  pub line_elsewhere : lt_z a (pos 2) ≡ false → cell_is b k ≡ false → missing ≡ fine_if (judge_line c k forms ks a b) m
  unfolding judge_line all_of fine_if choose
  line_elsewhere h g = rw (h, g)

  pub line_outside : lt_z a (pos 2) ≡ false → cell_is b k ≡ true → length c.points < 4 * (k + (nat_abs a - 1)) → missing ≡ fine_if (judge_line c k forms ks a b) m
  unfolding judge_line all_of fine_if choose
  line_outside h g l = rw (h, g, lt-leb (4 * (k + (nat_abs a - 1))) (length c.points) l)

  pub line_drawn : lt_z a (pos 2) ≡ false → cell_is b k ≡ true → (n : ℕ) → n ≡ nat_abs a - 1 → 4 * (k + n) ≤ length c.points → (part : List ℤ) → part ≡ drop (4 * k) c.points → (j : ℕ) → j ≡ m
      → fine_if (judge_points forms ks unstarted n part) j ≡ fine_if (judge_line c k forms ks a b) m
  unfolding judge_line all_of
  line_drawn h g n e l part p j q = rw (h, g, sym e, le-leb (4 * (k + n)) (length c.points) l, p, q) (ap (λ (x : Bool). fine_if x m) (alone (judge_points forms ks unstarted n (drop (4 * k) c.points))))

-- the points from point k on, as they are lent on
pub lent_points : (points : List ℤ) (n : ℕ) → take (length points - n) (drop n points) ≡ drop n points
lent_points points n = take_all (length points - n) (drop n points) (omega (arith, length-drop n points))

-- ## The pairs of an attribute

pub coordinate_size : (o : Bool) (cs : Components) → length cs.items ≡ 3 → length (pairs_of_type o (Coordinate (components_of cs))) ≡ cs.count
unfolding pairs_of_type component_pairs list_of
coordinate_size o cs l = counted_pairs cs.items cs.count l cs.counted
  where
    counted_pairs : (items : List Component) (n : ℕ) → length items ≡ 3 → n ≤ 3 → length (pairs_of_type o (Coordinate (list_of (take n items)))) ≡ n
    counted_pairs [] n l e = absurd (omega arith)
    counted_pairs (x ∷ []) n l e = absurd (omega arith)
    counted_pairs (x ∷ (y ∷ [])) n l e = absurd (omega arith)
    counted_pairs (x ∷ (y ∷ (z ∷ items))) zero l e = refl
    counted_pairs (x ∷ (y ∷ (z ∷ items))) (suc zero) l e = refl
    counted_pairs (x ∷ (y ∷ (z ∷ items))) (suc (suc zero)) l e = refl
    counted_pairs (x ∷ (y ∷ (z ∷ items))) (suc (suc (suc zero))) l e = refl
    counted_pairs (x ∷ (y ∷ (z ∷ items))) (suc (suc (suc (suc n)))) l e = absurd (omega arith)

-- a type that is neither a coordinate nor a line has one pair
pub own_pair : (o : Bool) (k : Kind) → ((cs : Components) → k ≡ kind.Coordinate cs → ⊥) → ((forms : ℕ) (cs : Components) → k ≡ kind.Line forms cs → ⊥)
    → pairs_of_type o (of_kind k) ≡ OfAttribute o (of_kind k) ∷ []
unfolding pairs_of_type
own_pair o (kind.Reference target) c l = refl
own_pair o (kind.Coordinate cs) c l = absurd (c cs refl)
own_pair o (kind.Number x) c l = refl
own_pair o (kind.Text longest) c l = refl
own_pair o kind.Date c l = refl
own_pair o (kind.Enumeration leaves) c l = refl
own_pair o (kind.Line forms cs) c l = absurd (l forms cs refl)

-- ## The pairs of a row

module _ (u : ℕ) (text : List ℕ) (c : Content) where
  -- is what is before the pairs behind these defined?
  behind_all : (before : Bool) → List Pair → List ℤ → Bool
  behind_all before [] cs = before
  behind_all before (p ∷ ps) cs = behind_all (defined_behind before p (get_or cs 0 (pos 0))) ps (drop 2 cs)

  pairs_append : (ps qs : List Pair) (before : Bool) (k : ℕ) (cs : List ℤ) → judge_pairs u text c before k (ps ++ qs) cs
      ≡ after_found (judge_pairs u text c before k ps cs) missing (λ k'. judge_pairs u text c (behind_all before ps cs) k' qs (drop (2 * length ps) cs))
  unfolding judge_pairs behind_all
  pairs_append [] qs before k cs = refl
  pairs_append (p ∷ ps) qs before k cs = go (judge_pair u text c before k p (get_or cs 0 (pos 0)) (get_or cs 1 (pos 0))) (λ b j. pairs_append ps qs b j (drop 2 cs))
    where
      go : (f : Found)
          → ((b : Bool) (j : ℕ) → judge_pairs u text c b j (ps ++ qs) (drop 2 cs) ≡ after_found (judge_pairs u text c b j ps (drop 2 cs)) missing (λ k'. judge_pairs u text c (behind_all b ps (drop 2 cs)) k' qs (drop (2 * length ps) (drop 2 cs))))
          → after_found f missing (λ j. judge_pairs u text c (defined_behind before p (get_or cs 0 (pos 0))) j (ps ++ qs) (drop 2 cs))
          ≡ after_found (after_found f missing (λ j. judge_pairs u text c (defined_behind before p (get_or cs 0 (pos 0))) j ps (drop 2 cs))) missing (λ k'. judge_pairs u text c (behind_all before (p ∷ ps) cs) k' qs (drop (2 * suc (length ps)) cs))
      go (found j) ih =
          let e : 2 * suc (length ps) ≡ 2 + 2 * length ps = omega arith in
          rw (e, ← drop-drop (2 * length ps) 2 cs) (ih _ j)
      go missing ih = refl

  -- the first pair of an attribute does not look at what is before it
  before_free : (ats : List model.Attribute) (before : Bool) (k : ℕ) (cs : List ℤ) → judge_pairs u text c before k (pairs_of ats) cs ≡ judge_pairs u text c true k (pairs_of ats) cs
  unfolding pairs_of pairs_of_type judge_pairs judge_pair defined_behind
  before_free [] before k cs = refl
  before_free (a ∷ ats) before k cs = go a.type (λ j ds. before_free ats before j ds)
    where
      go : (type : AttributeType) → ((j : ℕ) (ds : List ℤ) → judge_pairs u text c before j (pairs_of ats) ds ≡ judge_pairs u text c true j (pairs_of ats) ds)
          → judge_pairs u text c before k (pairs_of_type a.optional type ++ pairs_of ats) cs ≡ judge_pairs u text c true k (pairs_of_type a.optional type ++ pairs_of ats) cs
      go (Reference t) ih = refl
      go (Coordinate []) ih = ih k cs
      go (Coordinate (x ∷ ks)) ih = refl
      go (Number x) ih = refl
      go (Text longest) ih = refl
      go Date ih = refl
      go (Enumeration leaves) ih = refl
      go (Line forms ks) ih =
          after_same (judge_pair u text c true k (OfLine a.optional forms ks) (get_or cs 0 (pos 0)) (get_or cs 1 (pos 0))) (λ j. judge_pairs u text c before j (pairs_of ats) (drop 2 cs)) (λ j. judge_pairs u text c true j (pairs_of ats) (drop 2 cs))
          (λ j. ih j (drop 2 cs))

  attribute_turn : (ps : List Pair) (ats : List model.Attribute) (k cell : ℕ) (cs : List ℤ) → judge_pairs u text c true k (ps ++ pairs_of ats) (drop cell cs)
      ≡ after_found (judge_pairs u text c true k ps (drop cell cs)) missing (λ k'. judge_pairs u text c true k' (pairs_of ats) (drop (cell + 2 * length ps) cs))
  attribute_turn ps ats k cell cs =
      pairs_append ps (pairs_of ats) true k (drop cell cs)
      ∙ after_same (judge_pairs u text c true k ps (drop cell cs)) _ _ (λ k'. before_free ats (behind_all true ps (drop cell cs)) k' (drop (2 * length ps) (drop cell cs)) ∙ rw (drop-drop (2 * length ps) cell cs))

  -- ## The points of the lines lie within the table

  line_within : (k forms n : ℕ) (ks : List model.Component) (o : Bool) (a b : ℤ) → 4 * k ≤ length c.points → (x : Bool)
      → choose x (fine_if (judge_undefined o b) k) (fine_if (judge_line c k forms ks a b) (k + (nat_abs a - 1))) ≡ found n → 4 * n ≤ length c.points
  unfolding choose judge_line
  line_within k forms n ks o a b l true e = omega (arith, (fine_if_lem _ k n e).1)
  line_within k forms n ks o a b l false e =
      let f = fine_if_lem (judge_line c k forms ks a b) (k + (nat_abs a - 1)) n e in
      let r : leb (4 * (k + (nat_abs a - 1))) (length c.points) ≡ true = holds _ 2 f.0 in
      omega (arith, f.1, leb-true (4 * (k + (nat_abs a - 1))) (length c.points) r)

  pair_within : (before : Bool) (k n : ℕ) (p : Pair) (a b : ℤ) → 4 * k ≤ length c.points → judge_pair u text c before k p a b ≡ found n → 4 * n ≤ length c.points
  unfolding judge_pair
  pair_within before k n (OfAttribute o type) a b l e = omega (arith, (fine_if_lem _ k n e).1)
  pair_within before k n (OfComponent x) a b l e = omega (arith, (fine_if_lem _ k n e).1)
  pair_within before k n (OfLine o forms ks) a b l e = line_within k forms n ks o a b l (cell_is a 0) e

  pairs_within : (ps : List Pair) (before : Bool) (k n : ℕ) (cs : List ℤ) → 4 * k ≤ length c.points → judge_pairs u text c before k ps cs ≡ found n → 4 * n ≤ length c.points
  unfolding judge_pairs
  pairs_within [] before k n cs l e = let q : k ≡ n = cc in omega arith
  pairs_within (p ∷ ps) before k n cs l e = go (judge_pair u text c before k p (get_or cs 0 (pos 0)) (get_or cs 1 (pos 0))) refl e (λ b j. pairs_within ps b j n (drop 2 cs))
    where
      go : (f : Found) → judge_pair u text c before k p (get_or cs 0 (pos 0)) (get_or cs 1 (pos 0)) ≡ f
          → after_found f missing (λ k'. judge_pairs u text c (defined_behind before p (get_or cs 0 (pos 0))) k' ps (drop 2 cs)) ≡ found n
          → ((b : Bool) (j : ℕ) → 4 * j ≤ length c.points → judge_pairs u text c b j ps (drop 2 cs) ≡ found n → 4 * n ≤ length c.points)
          → 4 * n ≤ length c.points
      go (found j) q e ih = ih _ j (pair_within before k j p _ _ l q) e
      go missing q e ih = let z : ◌≡◌ {A = ℕ} 0 1 = cc in absurd (omega arith)

-- ## The attribute records

module _ (model : Records) (t : Table) (first cell k : ℕ) where
  abbrev bytes : List ℕ
  bytes = model.bytes.now

  abbrev Judged : (before : ℕ) → List Pair → (here : ℕ) → Found
  Judged before ps here = judge_pairs model.shape.undefined t.text.now (content t) true before ps (drop here t.cells.now)

  abbrev Whole : Found
  Whole = Judged k (pairs_at bytes first) cell

  -- judged up to the record at a byte: the rest means what the whole meant
  pub record PairsLeft (at here before : ℕ) : Type 0 where
    pub topics : ℕ
    pub tables : ℕ
    pub standing : AtRecord (model_at bytes) bytes at topics tables
    pub inside : here + 2 * length (pairs_at bytes at) ≤ length t.cells.now
    pub drawn : 4 * before ≤ length t.points.now
    pub same : Judged before (pairs_at bytes at) here ≡ Whole

  module _ (at here before : ℕ) (i : PairsLeft at here before) where
    pub pairs_end : (kind_at bytes at ≡ 5 → ⊥) → found before ≡ Whole
    unfolding pairs_of judge_pairs
    pairs_end n = rw (no_attribute (model_at bytes) bytes at i.topics i.tables i.standing n) at i.same

    module _ (e : kind_at bytes at ≡ 5) where
      next : AttributeNext (model_at bytes) bytes at i.topics i.tables
      next = attribute_here (model_at bytes) bytes at i.topics i.tables i.standing e

      module _ (a : Attribute) (d : RecordAttribute bytes at a) where
        abbrev own : List Pair
        own = pairs_of_type a.optional (type_of a)

        pairs_here_lem : pairs_at bytes at ≡ own ++ pairs_at bytes (next_at bytes at)
        unfolding pairs_of
        pairs_here_lem = rw (next.attributes, d.type, d.optional) refl

        pub own_inside : here + 2 * length own + 2 * length (pairs_at bytes (next_at bytes at)) ≤ length t.cells.now
        own_inside = omega (arith, i.inside, ap length pairs_here_lem ∙ length-append own (pairs_at bytes (next_at bytes at)))

        own_size : length own ≡ pair_count (byte_at bytes (at + 5))
        own_size = rw (type_at bytes at next.good) (own_count bytes at a next.good d)

        pub count_inside : (count : ℕ) → count ≡ pair_count (byte_at bytes (at + 5)) → here + 2 * count ≤ length t.cells.now
        count_inside count ec = omega (arith, own_inside, own_size)

        turned : Whole ≡ after_found (Judged before own here) missing (λ n. Judged n (pairs_at bytes (next_at bytes at)) (here + 2 * length own))
        turned =
            sym i.same ∙ ap (λ (ps : List Pair). Judged before ps here) pairs_here_lem
            ∙ attribute_turn model.shape.undefined t.text.now (content t) own (attributes_at bytes (next_at bytes at)) before here t.cells.now

        pub pairs_stop : missing ≡ Judged before own here → missing ≡ Whole
        pairs_stop h = rw (turned, sym h) refl

        pub pairs_on : (n : ℕ) → found n ≡ Judged before own here → (count at' : ℕ) → count ≡ pair_count (byte_at bytes (at + 5)) → at' ≡ next_at bytes at
            → PairsLeft at' (here + 2 * count) n
        pairs_on n h count at' ec en = rw (ec, ← own_size, en) (record {
          topics = i.topics;
          tables = i.tables;
          standing = next.next;
          inside = own_inside;
          drawn = pairs_within model.shape.undefined t.text.now (content t) own true before n (drop here t.cells.now) i.drawn (sym h);
          same = sym (turned ∙ rw (sym h) refl);
        })
