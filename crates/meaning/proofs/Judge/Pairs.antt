-- The pairs of a row that the judge finds fine are fine, and the other way round. Assumes nothing.
use Prim.Native.Nat.{ℕ, suc, ◌+◌, ◌*◌, ◌-◌, ◌/◌, ◌%◌, ◌^◌, ◌≤◌, ◌<◌}
use native.Mathlib.Omega.{arith}
use mathlib.Core.Path.{◌≡◌, refl, sym, ap, ◌∙◌}
use mathlib.Core.Bool.{Bool, true, false, not, ◌&&◌, false≢true, true≢false}
use mathlib.Core.List.{List, [], ◌∷◌}
use lib.Dec.{leb, ltb}
use lib.IntN.{ℤ, pos, nat_abs}
use lib.ListN.{length, take, drop, get_or, length-drop}
use borrow.Author.Tests.{ltb-true, ltb-false, le-ltb, lt-ltb, leb-true, le-leb, not-false}
use Rattle.meaning.specs.Bytes.{choose, all_of, digit, text_byte, every}
use Rattle.meaning.specs.Model.{Component, AttributeType, Reference, Coordinate, Number, Text, Date, Enumeration, Line, Found, found, missing, target_of}
use Rattle.meaning.specs.Check.{special, good_component, good_components, is_dimension}
use Rattle.meaning.specs.Value.{pair, digits_value, is_digits, is_day, date_of, is_identification, value_of}
use Rattle.meaning.specs.Row.{Pair, OfAttribute, OfComponent, OfLine}
use Rattle.meaning.specs.Reading.{unstarted, Content}
use Rattle.meaning.specs.Table.{find_object}
use Rattle.meaning.specs.Writing.{stretch_bytes, identification_bytes, type_bytes}
use Rattle.meaning.specs.Readback.{is_text}
use Rattle.meaning.specs.Judge.{cell_is, judge_undefined, judge_points, judge_date, judge_leaf, judge_reference, judge_value, judge_component, judge_line, fine_if, judge_pair, defined_behind, after_found, judge_pairs, lent_objects}
use Rattle.meaning.proofs.Tests.Unequal.{no_pair, no_found, same_found}
use Rattle.meaning.proofs.Tests.Refuse.{both, holds, passed}
use Rattle.meaning.proofs.Values.Numerals.{Defined, number_writes, number_defined, date_defined}
use Rattle.meaning.proofs.Values.Digits.{small_leaf_reads}
use Rattle.meaning.proofs.Values.Dates.{date_reads}
use Rattle.meaning.proofs.Values.Counts.{date_year, date_month, date_day, date_small}
use Rattle.meaning.proofs.Values.Values.{leaf_given}
use Rattle.meaning.proofs.Reading.FieldsRead.{number_within}
use Rattle.meaning.proofs.Judge.Valid.{RowOk, done, absent, plain, word, name, without, along, no_line, line}
use Rattle.meaning.proofs.Reading.RowsRead.{GoodValue, PairsGood}
use Rattle.meaning.proofs.Judge.Cells.{cell_is_lem, is_cell, cell_not, at_least, no_less, solid_size, StretchOk, stretch_judged, judged_stretch}
use Rattle.meaning.proofs.Judge.Points.{number_is_within, points_judged, judged_points}

-- ## Found or not

pub fine_if_lem : (t : Bool) (k k' : ℕ) → fine_if t k ≡ found k' → (t ≡ true) × (k ≡ k')
unfolding fine_if choose
fine_if_lem true k k' h = (refl, same_found k k' h)
fine_if_lem false k k' h = absurd (no_found k' h)

if_fine : (t : Bool) (k : ℕ) → t ≡ true → fine_if t k ≡ found k
unfolding fine_if choose
if_fine t k h = rw h

-- ## Dates

-- what a date that was not refused says of its cells
pub date_judged : (s : List ℕ) (a b : ℤ) → date_of s ≡ pair a b → (a ≡ pos 1) × (judge_date b ≡ true)
unfolding date_of is_digits judge_date all_of
date_judged s a b e =
    let p = passed _ _ _ _ (no_pair 13 a b) e in
    let q = passed _ _ _ _ (no_pair 14 a b) p.1 in
    let d = both (leb 8 (length s) && leb (length s) 8) (every digit s) (not-false _ p.0) in
    let l = both (leb 8 (length s)) (leb (length s) 8) d.0 in
    let eight : length s ≡ 8 = omega (arith, leb-true 8 (length s) l.0, leb-true (length s) 8 l.1) in
    let one : a ≡ pos 1 = cc q.1 in
    let two : b ≡ pos (digits_value s) = cc q.1 in
    let in_parts : is_day (digits_value (take 4 s)) (digits_value (take 2 (drop 4 s))) (digits_value (drop 6 s)) ≡ true = not-false _ q.0 in
    let day : is_day (digits_value s / 10000) (digits_value s / 100 % 100) (digits_value s % 100) ≡ true =
    rw (date_year s eight d.1, date_month s eight d.1, date_day s eight d.1) at in_parts in
    (one, rw (two, no_less (digits_value s) 0 (omega arith), lt-ltb (digits_value s) (10 ^ 8) (date_small s eight d.1), day))

-- ## References

-- what a reference to an object says
pub record ReferenceOk (u : ℕ) (text : List ℕ) (c : Content) (target n : ℕ) : Type 0 where
  pub field : Defined u (identification_bytes text c.cells (get_or c.rows n 0))
  pub shape : is_identification (identification_bytes text c.cells (get_or c.rows n 0)) ≡ true
  pub found' : find_object target 0 (identification_bytes text c.cells (get_or c.rows n 0)) (lent_objects text c.cells c.rows) ≡ found n

-- ## Judged pairs are fine

module _ (u : ℕ) (text : List ℕ) (c : Content) (su : special u ≡ true) (refer : (target n : ℕ) → judge_reference c target (pos n) ≡ true → ReferenceOk u text c target n) where
  value_ok : {before o : Bool} {k k' : ℕ} {ps : List Pair} {cs : List ℤ} (type : AttributeType) (a b : ℤ) → GoodValue type → judge_value u text c type a b ≡ true
      → RowOk u text c true k ps cs k' → RowOk u text c before k (OfAttribute o type ∷ ps) (a ∷ b ∷ cs) k'
  unfolding judge_value judge_reference judge_date judge_leaf is_text target_of type_bytes value_of
  value_ok (Reference target) a b g h r =
      let p = both (cell_is a 1) _ h in
      let n = at_least b 0 (holds _ 0 p.1) in
      let o = refer target (nat_abs b) (rw n.is at p.1) in
      rw (cell_is_lem a 1 p.0, n.is) (name {n = nat_abs b} _ o.field o.shape refl o.found' r)
  value_ok (Coordinate ks) a b g h r = absurd (false≢true h)
  value_ok (Number x) a b g h r =
      let p = both (cell_is a 1) _ h in
      let n = number_writes u x b su g p.1 in
      rw (cell_is_lem a 1 p.0) (plain refl refl refl n.field (λ start. n.reads) r)
  value_ok (Text longest) a b g h r =
      let n = at_least a 2 (holds _ 0 h) in
      let low = n.low in
      let o = stretch_judged u text b (nat_abs a - 1) (omega arith) (holds _ 2 h) in
      let size : length (stretch_bytes text b (nat_abs a - 1)) ≡ nat_abs a - 1 = o.whole in
      let z : nat_abs a ≡ 1 + length (stretch_bytes text b (nat_abs a - 1)) = omega arith in
      let first : a ≡ pos (1 + length (stretch_bytes text b (nat_abs a - 1))) = n.is ∙ ap pos z in
      text_ok longest a b (stretch_bytes text b (nat_abs a - 1)) first o.field o.bytes (le-ltb longest _ (omega (arith, leb-true (nat_abs a - 1) longest (holds _ 1 h)))) (ap (stretch_bytes text b) size) r
    where
      text_ok : {before o : Bool} {k k' : ℕ} {ps : List Pair} {cs : List ℤ} (longest : ℕ) (a b : ℤ) (f : List ℕ) → a ≡ pos (1 + length f) → Defined u f → every text_byte f ≡ true → ltb longest (length f) ≡ false
          → stretch_bytes text b (length f) ≡ f → RowOk u text c true k ps cs k' → RowOk u text c before k (OfAttribute o (Text longest) ∷ ps) (a ∷ b ∷ cs) k'
      text_ok longest a b f e d t l s r = rw e (word f d t l s r)
  value_ok Date a b g h r =
      let p = both (cell_is a 1) _ h in
      let n = at_least b 0 (holds _ 0 p.1) in
      let q = rw n.is at p.1 in
      let small : nat_abs b < 10 ^ 8 = ltb-true (nat_abs b) (10 ^ 8) (holds _ 1 q) in
      rw (cell_is_lem a 1 p.0, n.is) (plain refl refl refl (date_defined u (nat_abs b) su (omega arith)) (λ start. date_reads (nat_abs b) small (holds _ 2 q)) r)
  value_ok (Enumeration leaves) a b g h r =
      let p = both (cell_is a 1) _ h in
      let n = at_least b 0 (holds _ 0 p.1) in
      let q = rw n.is at p.1 in
      let small : nat_abs b < 10 ^ 18 = ltb-true (nat_abs b) (10 ^ 18) (holds _ 1 q) in
      let below : nat_abs b < leaves = ltb-true (nat_abs b) leaves (holds _ 2 q) in
      rw (cell_is_lem a 1 p.0, n.is) (plain refl refl refl (number_defined u 0 (pos (nat_abs b)) su (omega arith) small) (λ start. small_leaf_reads leaves (nat_abs b) small below) r)
  value_ok (Line forms ks) a b g h r = absurd (false≢true h)

  abbrev PairGood : Pair → Type 0
  PairGood (OfAttribute o type) = GoodValue type
  PairGood (OfComponent x) = good_component x ≡ true
  PairGood (OfLine o forms ks) = (is_dimension (length ks) ≡ true) × (good_components ks ≡ true)

  attribute_ok : {before : Bool} {k k' : ℕ} {ps : List Pair} {cs : List ℤ} (o : Bool) (type : AttributeType) (a b : ℤ) → GoodValue type → (x : Bool) → cell_is a 0 ≡ x
      → choose x (judge_undefined o b) (judge_value u text c type a b) ≡ true → RowOk u text c (not x) k ps cs k' → RowOk u text c before k (OfAttribute o type ∷ ps) (a ∷ b ∷ cs) k'
  unfolding choose judge_undefined
  attribute_ok true type a b g true e h r = rw (cell_is_lem a 0 e, cell_is_lem b 0 h) (absent r)
  attribute_ok false type a b g true e h r = absurd (false≢true h)
  attribute_ok o type a b g false e h r = value_ok type a b g h r

  component_ok : {k k' : ℕ} {ps : List Pair} {cs : List ℤ} (before : Bool) (x : Component) (a b : ℤ) → good_component x ≡ true → judge_component before x a b ≡ true
      → RowOk u text c before k ps cs k' → RowOk u text c before k (OfComponent x ∷ ps) (a ∷ b ∷ cs) k'
  unfolding judge_component
  component_ok true x a b g h r = let p = both (cell_is a 1) _ h in rw (cell_is_lem a 1 p.0) (along (number_writes u x b su g p.1) r)
  component_ok false x a b g h r = let p = both (cell_is a 0) _ h in rw (cell_is_lem a 0 p.0, cell_is_lem b 0 p.1) (without r)

  drawn_ok : {before o : Bool} {k' : ℕ} {ps : List Pair} {cs : List ℤ} (k forms : ℕ) (ks : List Component) (n : ℕ) → (is_dimension (length ks) ≡ true) × (good_components ks ≡ true)
      → 4 * (k + suc n) ≤ length c.points → judge_points forms ks unstarted (suc n) (drop (4 * k) c.points) ≡ true
      → RowOk u text c before (k + suc n) ps cs k' → RowOk u text c before k (OfLine o forms ks ∷ ps) (pos (1 + suc n) ∷ pos k ∷ cs) k'
  drawn_ok k forms ks n g room h r =
      let size = length-drop (4 * k) c.points in
      line n room (points_judged u forms ks su g.0 g.1 unstarted (suc n) (drop (4 * k) c.points) (omega arith) h) r

  line_ok : {before : Bool} {k₁ k' : ℕ} {ps : List Pair} {cs : List ℤ} (k : ℕ) (o : Bool) (forms : ℕ) (ks : List Component) (a b : ℤ) → (is_dimension (length ks) ≡ true) × (good_components ks ≡ true)
      → (x : Bool) → cell_is a 0 ≡ x → choose x (fine_if (judge_undefined o b) k) (fine_if (judge_line c k forms ks a b) (k + (nat_abs a - 1))) ≡ found k₁
      → RowOk u text c before k₁ ps cs k' → RowOk u text c before k (OfLine o forms ks ∷ ps) (a ∷ b ∷ cs) k'
  unfolding choose judge_undefined judge_line fine_if
  line_ok k true forms ks a b g true e h r = let p = fine_if_lem (cell_is b 0) k _ h in rw (cell_is_lem a 0 e, cell_is_lem b 0 p.0, p.1) (no_line r)
  line_ok k false forms ks a b g true e h r = absurd (no_found _ h)
  line_ok {before = before} {k' = k'} {ps = ps} {cs = cs} k o forms ks a b g false e h r =
      let p = fine_if_lem (judge_line c k forms ks a b) (k + (nat_abs a - 1)) _ h in
      let n = at_least a 2 (holds _ 0 p.0) in
      let low = n.low in
      let y : nat_abs a - 1 ≡ suc (nat_abs a - 2) = omega arith in
      let x : nat_abs a ≡ 1 + suc (nat_abs a - 2) = omega arith in
      let r' : RowOk u text c before (k + suc (nat_abs a - 2)) ps cs k' = rw (← y, p.1) r in
      let room : 4 * (k + suc (nat_abs a - 2)) ≤ length c.points = rw y at (leb-true (4 * (k + (nat_abs a - 1))) (length c.points) (holds _ 2 p.0)) in
      let fine₀ : judge_points forms ks unstarted (nat_abs a - 1) (drop (4 * k) c.points) ≡ true = holds _ 3 p.0 in
      let fine : judge_points forms ks unstarted (suc (nat_abs a - 2)) (drop (4 * k) c.points) ≡ true = rw y at fine₀ in
      rw (n.is ∙ ap pos x, cell_is_lem b k (holds _ 1 p.0)) (drawn_ok k forms ks (nat_abs a - 2) g room fine r')

  pair_ok : {k₁ k' : ℕ} {ps : List Pair} {cs : List ℤ} (before : Bool) (k : ℕ) (p : Pair) (a b : ℤ) → PairGood p → judge_pair u text c before k p a b ≡ found k₁
      → RowOk u text c (defined_behind before p a) k₁ ps cs k' → RowOk u text c before k (p ∷ ps) (a ∷ b ∷ cs) k'
  unfolding judge_pair defined_behind
  pair_ok {k' = k'} {ps = ps} {cs = cs} before k (OfAttribute o type) a b g h r =
      let p = fine_if_lem _ k _ h in
      let r' : RowOk u text c (not (cell_is a 0)) k ps cs k' = rw p.1 r in
      attribute_ok o type a b g (cell_is a 0) refl p.0 r'
  pair_ok {k' = k'} {ps = ps} {cs = cs} before k (OfComponent x) a b g h r =
      let p = fine_if_lem _ k _ h in
      let r' : RowOk u text c before k ps cs k' = rw p.1 r in
      component_ok before x a b g p.0 r'
  pair_ok before k (OfLine o forms ks) a b g h r = line_ok k o forms ks a b g (cell_is a 0) refl h r

  pair_good : (p : Pair) (ps : List Pair) → PairsGood (p ∷ ps) → PairGood p × PairsGood ps
  pair_good (OfAttribute o type) ps g = g
  pair_good (OfComponent x) ps g = g
  pair_good (OfLine o forms ks) ps g = g

  pub pairs_judged : (before : Bool) (k k' : ℕ) (ps : List Pair) (cs : List ℤ) → PairsGood ps → 2 * length ps ≤ length cs → judge_pairs u text c before k ps cs ≡ found k'
      → RowOk u text c before k ps cs k'
  unfolding judge_pairs
  pairs_judged before k k' [] cs g l h = rw (same_found k k' h) done
  pairs_judged before k k' (p ∷ ps) [] g l h = absurd (omega arith)
  pairs_judged before k k' (p ∷ ps) (a ∷ []) g l h = absurd (omega arith)
  pairs_judged before k k' (p ∷ ps) (a ∷ b ∷ cs) g l h =
      by (judge_pair u text c before k p a b) refl h (λ k₁. pairs_judged (defined_behind before p a) k₁ k' ps cs (pair_good p ps g).1 (omega arith))
    where
      by : (x : Found) → judge_pair u text c before k p a b ≡ x → after_found x missing (λ k₁. judge_pairs u text c (defined_behind before p a) k₁ ps cs) ≡ found k'
          → ((k₁ : ℕ) → judge_pairs u text c (defined_behind before p a) k₁ ps cs ≡ found k' → RowOk u text c (defined_behind before p a) k₁ ps cs k')
          → RowOk u text c before k (p ∷ ps) (a ∷ b ∷ cs) k'
      by missing e h ih = absurd (no_found k' h)
      by (found k₁) e h ih = pair_ok before k p a b (pair_good p ps g).0 e (ih k₁ h)

-- ## Fine pairs are judged fine

module _ (u : ℕ) (text : List ℕ) (c : Content)
    (refer : (target n : ℕ) (f : List ℕ) → find_object target 0 f (lent_objects text c.cells c.rows) ≡ found n → judge_reference c target (pos n) ≡ true) where
  plain_judged : (type : AttributeType) (a b : ℤ) → is_text type ≡ false → target_of type ≡ missing
      → value_of type (record { start = 0; bytes = type_bytes text c type a b }) ≡ pair a b → (a ≡ pos 1) × (judge_value u text c type a b ≡ true)
  unfolding value_of is_text target_of judge_value judge_leaf all_of
  plain_judged (Reference t) a b p q e = absurd (no_found t (sym q))
  plain_judged (Coordinate ks) a b p q e = absurd (no_pair 13 a b e)
  plain_judged (Number x) a b p q e = let w = number_within x _ a b e in (w.0, rw (w.0, is_cell 1, w.1))
  plain_judged (Text longest) a b p q e = absurd (true≢false p)
  plain_judged Date a b p q e = let w = date_judged _ a b e in (w.0, rw (w.0, is_cell 1, w.1))
  plain_judged (Enumeration leaves) a b p q e =
      let w = leaf_given leaves _ a b e in
      let n = w.value in
      (w.first, rw (w.first, w.second, is_cell 1, no_less n 0 (omega arith), lt-ltb n (10 ^ 18) w.small, lt-ltb n leaves w.below))
  plain_judged (Line forms ks) a b p q e = absurd (no_pair 13 a b e)

  text_judged : (longest : ℕ) (b : ℤ) (f : List ℕ) → Defined u f → every text_byte f ≡ true → ltb longest (length f) ≡ false → stretch_bytes text b (length f) ≡ f
      → judge_value u text c (Text longest) (pos (1 + length f)) b ≡ true
  unfolding judge_value all_of
  text_judged longest b f d t l e =
      let some = solid_size f d.solid in
      let z : 1 + length f - 1 ≡ length f = omega arith in
      let o : StretchOk u text b (length f) = record { whole = ap length e; field = rw e d; bytes = rw e t } in
      rw (no_less (1 + length f) 2 (omega arith), z, le-leb (length f) longest (ltb-false longest (length f) l), judged_stretch u text b (length f) o)

  line_judged : (k forms n : ℕ) (ks : List Component) → 4 * (k + suc n) ≤ length c.points → judge_points forms ks unstarted (suc n) (drop (4 * k) c.points) ≡ true
      → judge_line c k forms ks (pos (1 + suc n)) (pos k) ≡ true
  unfolding judge_line all_of
  line_judged k forms n ks l h = let z : 1 + suc n - 1 ≡ suc n = omega arith in rw (no_less (1 + suc n) 2 (omega arith), z, is_cell k, le-leb (4 * (k + suc n)) (length c.points) l, h)

  pub judged_pairs : {before : Bool} {k k' : ℕ} {ps : List Pair} {cs : List ℤ} → RowOk u text c before k ps cs k' → judge_pairs u text c before k ps cs ≡ found k'
  unfolding judge_pairs judge_pair defined_behind choose judge_undefined fine_if judge_component judge_value cell_is
  judged_pairs done = refl
  judged_pairs (absent r) = judged_pairs r
  judged_pairs (plain {type = type} {a = a} {b = b} t g z d v r) =
      let w = plain_judged type a b t g (v 0) in
      rw (w.0, rw w.0 at w.1) (judged_pairs r)
  judged_pairs (word {longest = longest} {b = b} f d t l s r) = rw (cell_not (1 + length f) 0 (λ e. omega arith), text_judged longest b f d t l s) (judged_pairs r)
  judged_pairs (name {target = target} {n = n} f d i e g r) = rw (refer target n f g) (judged_pairs r)
  judged_pairs (without r) = judged_pairs r
  judged_pairs (along n r) = rw (number_is_within n) (judged_pairs r)
  judged_pairs (no_line r) = judged_pairs r
  judged_pairs (line {k = k} {forms = forms} {ks = ks} n l p r) =
      let z : 1 + suc n - 1 ≡ suc n = omega arith in
      rw (cell_not (1 + suc n) 0 (λ e. omega arith), z, line_judged k forms n ks l (judged_points u forms ks p)) (judged_pairs r)
