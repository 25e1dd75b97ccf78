-- What the lines of topics, tables and objects did, where they were not refused. Assumes nothing.
use Prim.Native.Nat.{ℕ, suc, ◌+◌, ◌-◌, ◌≤◌, ◌<◌}
use native.Mathlib.Omega.{arith}
use mathlib.Core.Path.{◌≡◌, refl, sym, ap, ◌∙◌}
use mathlib.Core.Bool.{Bool, true, false, not, ◌&&◌, true≢false}
use mathlib.Core.List.{List, [], ◌∷◌}
use lib.Dec.{eqb, leb}
use lib.IntN.{ℤ, pos}
use lib.ListN.{length, take, drop, get_or}
use borrow.Author.Tests.{not-false, leb-true, eqb-true}
use Rattle.meaning.specs.Bytes.{choose, refuse, same}
use Rattle.meaning.specs.Model.{Found, found, missing, Table, Model, table_at, no_table}
use Rattle.meaning.specs.Field.{Field, field_at, more_than, has_code, TOPI, TABL, OBJE, ETOP, EMOD}
use Rattle.meaning.specs.Value.{is_identification, is_undefined, is_undefined_twice}
use Rattle.meaning.specs.Row.{pairs_of, Cells, cells, refused, pair_cells}
use Rattle.meaning.specs.Reading.{line_attributes, Due, topic_from, table_from, object_of, closing, nothing, due_lines, Content, with_mark, with_row, point_count, Rooms, same_name, find_topic, find_table, mandatory_between, objects_of, is_used}
use Rattle.meaning.specs.Lines.{go, no, after_found, bare, topic_line, topic_end, table_line, store_row, object_fields, behind_objects, object_line, closing_line}
use Rattle.meaning.proofs.Tests.Unequal.{no_go, no_found, same_found}
use Rattle.meaning.proofs.Tests.Refuse.{passed, neither, both}
use Rattle.meaning.proofs.Tests.Same.{same_refl, same_is}
use Rattle.meaning.proofs.Reading.PointsRead.{told_of}

pub data TopicStep (m : Model) (from : ℕ) (c : Content) : Due → Content → Type 0 where
  emod : TopicStep m from c closing c
  topi : (p : ℕ) (name : List ℕ) → find_topic from 0 name m.topics ≡ found p → TopicStep m from c (table_from p 0) (with_mark p c)

pub data TableStep (m : Model) (p from : ℕ) (c : Content) : Due → Content → Type 0 where
  etop : mandatory_between p from (length m.tables) 0 m.tables ≡ false → TableStep m p from c (topic_from (p + 1)) c
  tabl : (t : ℕ) (name : List ℕ) → find_table p from 0 name m.tables ≡ found t → mandatory_between p from t 0 m.tables ≡ false
      → TableStep m p from c (object_of t) (with_mark (length m.topics + t) c)

pub record ObjectGiven (m : Model) (text : List ℕ) (t : ℕ) (fs : List Field) (c : Content) (xs : List ℤ) : Type 0 where
  pub more : more_than 1 fs ≡ true
  pub one : is_undefined m.undefined (field_at 2 fs) ≡ false
  pub two : is_undefined_twice m.undefined (field_at 2 fs) ≡ false
  pub shape : is_identification (field_at 2 fs).bytes ≡ true
  pub fresh : is_used (field_at 2 fs).bytes (objects_of text c.cells c.rows) ≡ false
  pub pairs : pair_cells m.undefined true 3 (pairs_of (table_at m.tables t).attributes) (drop 2 fs) ≡ cells xs

pub data ObjectStep (m : Model) (text : List ℕ) (t : ℕ) (fs : List Field) (c : Content) : Due → Content → Type 0 where
  etab : ObjectStep m text t fs c (table_from (table_at m.tables t).topic (t + 1)) c
  obje : (xs : List ℤ) → ObjectGiven m text t fs c xs
      → ObjectStep m text t fs c (due_lines t (point_count c) (line_attributes (length c.cells + 3) (pairs_of (table_at m.tables t).attributes)))
      (with_row (pos t ∷ pos (field_at 2 fs).start ∷ pos (length (field_at 2 fs).bytes) ∷ xs) c)

module _ (m : Model) (rooms : Rooms) (text : List ℕ) where
  pub topic_step : (from : ℕ) (fs : List Field) (c : Content) (due : Due) (c' : Content) → topic_line m rooms text from fs c ≡ go due c' → TopicStep m from c due c'
  unfolding topic_line bare choose
  topic_step from fs c due c' e = by (has_code EMOD fs) e
    where
      found_one : (f : Found) → find_topic from 0 (field_at 2 fs).bytes m.topics ≡ f
          → after_found f (no 9 2) (λ p. refuse (more_than 2 fs) (no 11 3) (go (table_from p 0) (with_mark p c))) ≡ go due c' → TopicStep m from c due c'
      found_one (found p) g e = told_of (TopicStep m from c) _ due _ c' (passed _ _ _ _ (no_go 11 3 due c') e).1 (topi p _ g)
      found_one missing g e = absurd (no_go 9 2 due c' e)

      by : (x : Bool) → choose x (refuse (more_than 1 fs) (no 11 2) (go closing c))
          (refuse (not (has_code TOPI fs)) (no 7 1) (refuse (not (more_than 1 fs)) (no 11 2)
          (after_found (find_topic from 0 (field_at 2 fs).bytes m.topics) (no 9 2) (λ p. refuse (more_than 2 fs) (no 11 3) (go (table_from p 0) (with_mark p c)))))) ≡ go due c' → TopicStep m from c due c'
      by true e = told_of (TopicStep m from c) _ due _ c' (passed _ _ _ _ (no_go 11 2 due c') e).1 emod
      by false e = found_one _ refl (passed _ _ _ _ (no_go 11 2 due c') (passed _ _ _ _ (no_go 7 1 due c') e).1).1

  pub table_step : (p from : ℕ) (fs : List Field) (c : Content) (due : Due) (c' : Content) → table_line m rooms text p from fs c ≡ go due c' → TableStep m p from c due c'
  unfolding table_line topic_end bare choose
  table_step p from fs c due c' e = by (has_code ETOP fs) e
    where
      found_one : (f : Found) → find_table p from 0 (field_at 2 fs).bytes m.tables ≡ f
          → after_found f (no 9 2) (λ t. refuse (mandatory_between p from t 0 m.tables) (no 10 2) (refuse (more_than 2 fs) (no 11 3) (go (object_of t) (with_mark (length m.topics + t) c)))) ≡ go due c'
          → TableStep m p from c due c'
      found_one (found t) g e =
          let q = passed _ _ _ _ (no_go 10 2 due c') e in
          told_of (TableStep m p from c) _ due _ c' (passed _ _ _ _ (no_go 11 3 due c') q.1).1 (tabl t _ g q.0)
      found_one missing g e = absurd (no_go 9 2 due c' e)

      by : (x : Bool) → choose x (refuse (mandatory_between p from (length m.tables) 0 m.tables) (no 10 1) (refuse (more_than 1 fs) (no 11 2) (go (topic_from (p + 1)) c)))
          (refuse (not (has_code TABL fs)) (no 7 1) (refuse (not (more_than 1 fs)) (no 11 2)
          (after_found (find_table p from 0 (field_at 2 fs).bytes m.tables) (no 9 2)
          (λ t. refuse (mandatory_between p from t 0 m.tables) (no 10 2) (refuse (more_than 2 fs) (no 11 3) (go (object_of t) (with_mark (length m.topics + t) c))))))) ≡ go due c'
          → TableStep m p from c due c'
      by true e = let q = passed _ _ _ _ (no_go 10 1 due c') e in told_of (TableStep m p from c) _ due _ c' (passed _ _ _ _ (no_go 11 2 due c') q.1).1 (etop q.0)
      by false e = found_one _ refl (passed _ _ _ _ (no_go 11 2 due c') (passed _ _ _ _ (no_go 7 1 due c') e).1).1

  pub object_step : (t : ℕ) (fs : List Field) (c : Content) (due : Due) (c' : Content) → object_line m rooms text t fs c ≡ go due c' → ObjectStep m text t fs c due c'
  unfolding object_line object_fields behind_objects bare choose store_row
  object_step t fs c due c' e = by (has_code OBJE fs) e
    where
      stored : (k : Cells) → pair_cells m.undefined true 3 (pairs_of (table_at m.tables t).attributes) (drop 2 fs) ≡ k
          → store_row m rooms text t (field_at 2 fs) c k ≡ go due c'
          → ((xs : List ℤ) → pair_cells m.undefined true 3 (pairs_of (table_at m.tables t).attributes) (drop 2 fs) ≡ cells xs → ObjectGiven m text t fs c xs)
          → ObjectStep m text t fs c due c'
      stored (refused n f) g e given = absurd (no_go n f due c' e)
      stored (cells xs) g e given = told_of (ObjectStep m text t fs c) _ due _ c' (passed _ _ _ _ (no_go 16 0 due c') e).1 (obje xs (given xs g))

      by : (x : Bool) → choose x (object_fields m rooms text t fs c) (behind_objects m rooms text t fs c) ≡ go due c' → ObjectStep m text t fs c due c'
      by true e =
          let a = passed _ _ _ _ (no_go 11 2 due c') e in
          let b = passed _ _ _ _ (no_go 12 2 due c') a.1 in
          let d = passed _ _ _ _ (no_go 13 2 due c') b.1 in
          let f = passed _ _ _ _ (no_go 15 2 due c') d.1 in
          let n = neither (is_undefined m.undefined (field_at 2 fs)) _ b.0 in
          stored _ refl f.1 (λ xs g. record { more = not-false _ a.0; one = n.0; two = n.1; shape = not-false _ d.0; fresh = f.0; pairs = g })
      by false e = told_of (ObjectStep m text t fs c) _ due _ c' (passed _ _ _ _ (no_go 11 2 due c') (passed _ _ _ _ (no_go 7 1 due c') e).1).1 etab

  pub closing_step : (fs : List Field) (c : Content) (due : Due) (c' : Content) → closing_line m rooms text fs c ≡ go due c' → go nothing c ≡ go due c'
  unfolding closing_line bare
  closing_step fs c due c' e = (passed _ _ _ _ (no_go 11 2 due c') (passed _ _ _ _ (no_go 7 1 due c') e).1).1

-- ## Names that were found

pub record TopicFound (from n : ℕ) (name : List ℕ) (names : List (List ℕ)) (p : ℕ) : Type 0 where
  pub low : n ≤ p
  pub after : from ≤ p
  pub size : p - n < length names
  pub alike : same_name (get_or names (p - n) []) name ≡ true
  pub own : find_topic from n (get_or names (p - n) []) names ≡ found p

-- names that compare equal to one compare equal
name_alike : (a b d : List ℕ) → same_name b d ≡ true → same_name a d ≡ false → same_name a b ≡ false
unfolding same_name
name_alike a b d p q = by (same (take 24 a) (take 24 b)) refl
  where
    by : (x : Bool) → same (take 24 a) (take 24 b) ≡ x → same (take 24 a) (take 24 b) ≡ false
    by false e = e
    by true e = absurd (true≢false (sym p ∙ (ap (λ (l : List ℕ). same l (take 24 d)) (sym (same_is (take 24 a) (take 24 b) e)) ∙ q)))

pub name_same : (a : List ℕ) → same_name a a ≡ true
unfolding same_name
name_same a = same_refl (take 24 a)

and_false : (a b b' : Bool) → (a && b) ≡ false → (b ≡ false → b' ≡ false) → (a && b') ≡ false
and_false true b b' h k = k h
and_false false b b' h k = refl

pub topic_found : (from n : ℕ) (name : List ℕ) (names : List (List ℕ)) (p : ℕ) → find_topic from n name names ≡ found p → TopicFound from n name names p
unfolding find_topic choose
topic_found from n name [] p e = absurd (no_found p e)
topic_found from n name (t ∷ ts) p e = by (leb from n && same_name t name) refl e (topic_found from (n + 1) name ts p)
  where
    by : (x : Bool) → (leb from n && same_name t name) ≡ x → choose x (found n) (find_topic from (n + 1) name ts) ≡ found p
        → (find_topic from (n + 1) name ts ≡ found p → TopicFound from (n + 1) name ts p) → TopicFound from n name (t ∷ ts) p
    by true h e ih =
        let q : n ≡ p = same_found n p e in
        let b = both (leb from n) _ h in
        let le = leb-true from n b.0 in
        let z : p - n ≡ 0 = omega arith in
        record { low = omega arith; after = omega arith; size = omega arith; alike = rw z b.1; own = rw (z, b.0, name_same t, q) }
    by false h e ih =
        let r = ih e in
        let low = r.low in
        let size = r.size in
        let z : p - n ≡ suc (p - (n + 1)) = omega arith in
        let other : (leb from n && same_name t (get_or ts (p - (n + 1)) [])) ≡ false = and_false (leb from n) (same_name t name) _ h (λ k. name_alike t (get_or ts (p - (n + 1)) []) name r.alike k) in
        record { low = omega arith; after = r.after; size = omega arith; alike = rw z r.alike; own = rw (z, other) r.own }

pub record TableFound (topic from n : ℕ) (name : List ℕ) (ts : List Table) (p : ℕ) : Type 0 where
  pub low : n ≤ p
  pub after : from ≤ p
  pub size : p - n < length ts
  pub in_topic : (get_or ts (p - n) no_table).topic ≡ topic
  pub alike : same_name (get_or ts (p - n) no_table).name name ≡ true
  pub own : find_table topic from n (get_or ts (p - n) no_table).name ts ≡ found p

pub table_found : (topic from n : ℕ) (name : List ℕ) (ts : List Table) (p : ℕ) → find_table topic from n name ts ≡ found p → TableFound topic from n name ts p
unfolding find_table choose
table_found topic from n name [] p e = absurd (no_found p e)
table_found topic from n name (t ∷ ts) p e = by (leb from n && eqb t.topic topic && same_name t.name name) refl e (table_found topic from (n + 1) name ts p)
  where
    by : (x : Bool) → (leb from n && eqb t.topic topic && same_name t.name name) ≡ x → choose x (found n) (find_table topic from (n + 1) name ts) ≡ found p
        → (find_table topic from (n + 1) name ts ≡ found p → TableFound topic from (n + 1) name ts p) → TableFound topic from n name (t ∷ ts) p
    by true h e ih =
        let q : n ≡ p = same_found n p e in
        let b = both (leb from n && eqb t.topic topic) (same_name t.name name) h in
        let d = both (leb from n) (eqb t.topic topic) b.0 in
        let le = leb-true from n d.0 in
        let z : p - n ≡ 0 = omega arith in
        record { low = omega arith; after = omega arith; size = omega arith; in_topic = rw z (eqb-true t.topic topic d.1); alike = rw z b.1; own = rw (z, d.0, d.1, name_same t.name, q) }
    by false h e ih =
        let r = ih e in
        let low = r.low in
        let size = r.size in
        let z : p - n ≡ suc (p - (n + 1)) = omega arith in
        let other : (leb from n && eqb t.topic topic && same_name t.name (get_or ts (p - (n + 1)) no_table).name) ≡ false =
        and_false (leb from n && eqb t.topic topic) (same_name t.name name) _ h (λ k. name_alike t.name (get_or ts (p - (n + 1)) no_table).name name r.alike k) in
        record { low = omega arith; after = r.after; size = omega arith; in_topic = rw z r.in_topic; alike = rw z r.alike; own = rw (z, other) r.own }
