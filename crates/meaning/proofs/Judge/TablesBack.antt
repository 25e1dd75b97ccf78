-- The marks and rows of a table that is fine are fine. Assumes nothing.
use Prim.Native.Nat.{ℕ, zero, suc, ◌+◌, ◌≤◌, ◌<◌}
use native.Mathlib.Omega.{arith}
use mathlib.Core.Path.{◌≡◌, refl, sym, ap, ◌∙◌}
use mathlib.Core.Bool.{Bool, true, false, not, false≢true, true≢false}
use mathlib.Core.List.{List, [], ◌∷◌}
use lib.Dec.{ltb, eqb}
use lib.ListN.{length, get_or, set, replicate}
use lib.Seq.{get_or-set_other}
use borrow.Author.Tests.{ltb-true, ltb-false, eqb-true, eqb-false}
use Rattle.meaning.specs.Bytes.{every}
use Rattle.meaning.specs.Model.{Table, Model, table_at}
use Rattle.meaning.specs.Check.{GoodModel}
use Rattle.meaning.specs.Reading.{Content}
use Rattle.meaning.specs.Writing.{is_delivered}
use Rattle.meaning.specs.Judge.{is_mark}
use Rattle.meaning.proofs.Tests.Refuse.{both}
use Rattle.meaning.proofs.Judge.Valid.{Place, topics_from, tables_from, objects, Rest, finished, topic_out, topic_in, topic_end, table_out, table_in, object, table_end, Valid}
use Rattle.meaning.proofs.Reading.TablesRead.{Ahead, topic_after, table_after, topic_of}
use Rattle.meaning.proofs.Reading.StepsRead.{table_found}
use Rattle.meaning.proofs.Model.Names.{mandatory_none, in_order, topic_below}
use Rattle.meaning.proofs.Judge.Rows.{RowsOk, stop, next}
use Rattle.meaning.proofs.Judge.Marks.{TableMarked}
use Rattle.meaning.proofs.Judge.Tables.{ahead_from, ahead_low}
use Rattle.meaning.proofs.Lists.{all_zero}

-- ## Marks that are 0 or 1

set_marks : (marks : List ℕ) (i : ℕ) → every is_mark marks ≡ true → every is_mark (set marks i 1) ≡ true
unfolding every is_mark
set_marks [] i h = refl
set_marks (b ∷ marks) zero h = (both (is_mark b) _ h).1
set_marks (b ∷ marks) (suc i) h = let r = both (is_mark b) _ h in rw r.0 (set_marks marks i r.1)

no_marks_lem : (n : ℕ) → every is_mark (replicate n 0) ≡ true
unfolding every is_mark
no_marks_lem zero = refl
no_marks_lem (suc n) = no_marks_lem n

-- ## What the rest of a table says

ahead_one : (p n q t : ℕ) → Ahead p (n + 1) q t → Ahead p n q t
ahead_one p n q t (topic_after h) = topic_after h
ahead_one p n q t (table_after e h) = table_after e (omega arith)

ahead_topic : (p n q t : ℕ) → Ahead (p + 1) 0 q t → Ahead p n q t
ahead_topic p n q t a = let l = ahead_low (p + 1) 0 q t a in topic_after (omega arith)

module _ (m : Model) (text : List ℕ) (c : Content) (good : GoodModel m) where
  -- where a place stands
  abbrev Stands : Place → Type 0
  Stands (topics_from from p names) = p + length names ≡ length m.topics
  Stands (tables_from p from n ts names) = (p + 1 + length names ≡ length m.topics) × (is_delivered c p ≡ true)
  Stands (objects p t ts names) = (p + 1 + length names ≡ length m.topics) × (is_delivered c p ≡ true) × (t < length m.tables) × (is_delivered c (length m.topics + t) ≡ true)

  -- a table that may come from a place on, and one whose rows may
  abbrev TableAhead : Place → ℕ → Type 0
  TableAhead (topics_from from p names) t = Ahead p 0 (topic_of m t) t
  TableAhead (tables_from p from n ts names) t = Ahead p from (topic_of m t) t
  TableAhead (objects p t₀ ts names) t = Ahead p (t₀ + 1) (topic_of m t) t

  abbrev RowAhead : Place → ℕ → Type 0
  RowAhead (topics_from from p names) t = Ahead p 0 (topic_of m t) t
  RowAhead (tables_from p from n ts names) t = Ahead p n (topic_of m t) t
  RowAhead (objects p t₀ ts names) t = Ahead p t₀ (topic_of m t) t

  -- a table that is marked is in a delivered topic
  abbrev InTopics : List ℕ → Type 0
  InTopics marks = (t : ℕ) → t < length m.tables → not (eqb (get_or marks (length m.topics + t) 0) 0) ≡ true → is_delivered c (topic_of m t) ≡ true

  record Told (place : Place) (marks before : List ℕ) (at k : ℕ) (rows : List ℕ) : Type 0 where
    are_marks : every is_mark marks ≡ true → every is_mark c.marks ≡ true
    in_topics : InTopics marks → InTopics c.marks
    optional : (t : ℕ) → t < length m.tables → TableAhead place t → is_delivered c (topic_of m t) ≡ true → is_delivered c (length m.topics + t) ≡ false → (table_at m.tables t).optional ≡ true
    fine : (least : ℕ) → ((t : ℕ) → t < length m.tables → RowAhead place t → least ≤ t) → RowsOk m text c least before at k rows

  -- marks with one more
  topic_marked : (marks : List ℕ) (p : ℕ) → p < length m.topics → InTopics marks → InTopics (set marks p 1)
  topic_marked marks p l h t lt d = h t lt (rw (get_or-set_other marks p (length m.topics + t) 1 0 (λ e. omega arith)) at d)

  table_marked : (marks : List ℕ) (n p : ℕ) → topic_of m n ≡ p → is_delivered c p ≡ true → InTopics marks → InTopics (set marks (length m.topics + n) 1)
  table_marked marks n p e dp h t lt d = by (eqb t n) refl
    where
      by : (x : Bool) → eqb t n ≡ x → is_delivered c (topic_of m t) ≡ true
      by true q = rw (ap (topic_of m) (eqb-true t n q) ∙ e) dp
      by false q = h t lt (rw (get_or-set_other marks (length m.topics + n) (length m.topics + t) 1 0 (λ z. eqb-false t n q (omega arith))) at d)

  -- no table is ahead of the last topic
  none_ahead : (p t : ℕ) → length m.topics ≤ p → t < length m.tables → Ahead p 0 (topic_of m t) t → ⊥
  none_ahead p t l h a =
      let low = ahead_low p 0 (topic_of m t) t a in
      omega (arith, topic_below (length m.topics) m.tables m.tables t good.tables h)

  -- a topic that is left out is not delivered
  topic_out_lem : (p t : ℕ) → is_delivered c p ≡ false → is_delivered c (topic_of m t) ≡ true → Ahead p 0 (topic_of m t) t → Ahead (p + 1) 0 (topic_of m t) t
  topic_out_lem p t q d a = ahead_from (p + 1) (topic_of m t) t (by (eqb (topic_of m t) p) refl (ahead_low p 0 (topic_of m t) t a))
    where
      by : (x : Bool) → eqb (topic_of m t) p ≡ x → p ≤ topic_of m t → p + 1 ≤ topic_of m t
      by true z l = absurd (true≢false (sym d ∙ (ap (λ (x : ℕ). is_delivered c x) (eqb-true (topic_of m t) p z) ∙ q)))
      by false z l = omega (arith, eqb-false (topic_of m t) p z)

  -- a table that is left out of the rest of a topic
  table_left : (p from n t : ℕ) → is_delivered c (length m.topics + n) ≡ true → is_delivered c (length m.topics + t) ≡ false → Ahead p from (topic_of m t) t
      → (topic_of m t ≡ p → from ≤ t → t < n → (table_at m.tables t).optional ≡ true) → (Ahead p (n + 1) (topic_of m t) t → (table_at m.tables t).optional ≡ true) → (table_at m.tables t).optional ≡ true
  table_left p from n t dn dt (topic_after h) here there = there (topic_after h)
  table_left p from n t dn dt (table_after e h) here there = by (ltb t n) (eqb t n) refl refl
    where
      by : (x y : Bool) → ltb t n ≡ x → eqb t n ≡ y → (table_at m.tables t).optional ≡ true
      by true y q z = here e h (ltb-true t n q)
      by false true q z = absurd (true≢false (sym dn ∙ (ap (λ (x : ℕ). is_delivered c (length m.topics + x)) (sym (eqb-true t n z)) ∙ dt)))
      by false false q z = there (table_after e (omega (arith, ltb-false t n q, eqb-false t n z)))

  -- rows ahead of a table's rows are of it or of a later one
  row_after : (p t j : ℕ) → t < length m.tables → topic_of m t ≡ p → Ahead p t (topic_of m j) j → t ≤ j
  row_after p t j l e (table_after z h) = h
  row_after p t j l e (topic_after h) = by (ltb j t) refl
    where
      by : (x : Bool) → ltb j t ≡ x → t ≤ j
      by true q = let b = ltb-true j t q in absurd (omega (arith, in_order 0 m.tables j t good.table_order (omega arith) l))
      by false q = ltb-false j t q

  told : {place : Place} {marks before : List ℕ} {at k : ℕ} {rows : List ℕ} → Stands place → Rest m text c place marks before at k rows → Told place marks before at k rows
  told s (finished {p = p} a b d e) =
      record {
        are_marks = λ h. rw a at h;
        in_topics = λ h. rw a at h;
        optional = λ t l w f g. absurd (none_ahead p t (omega arith) l w);
        fine = λ least f. stop d e;
      }
  told s (topic_out {p = p} q r) =
      let i = told (omega arith) r in
      record {
        are_marks = i.are_marks;
        in_topics = i.in_topics;
        optional = λ t l w d e. i.optional t l (topic_out_lem p t q d w) d e;
        fine = λ least f. i.fine least (λ t l w. f t l (ahead_topic p 0 (topic_of m t) t w));
      }
  told s (topic_in {p = p} {marks = marks} q solid f r) =
      let i = told (omega arith, q) r in
      record {
        are_marks = λ h. i.are_marks (set_marks marks p h);
        in_topics = λ h. i.in_topics (topic_marked marks p (omega arith) h);
        optional = i.optional;
        fine = i.fine;
      }
  told s (topic_end {p = p} {from = from} {n = n} q b r) =
      let i = told s.0 r in
      record {
        are_marks = i.are_marks;
        in_topics = i.in_topics;
        optional = λ t l w d e. by t l w d e (i.optional t l);
        fine = λ least f. i.fine least (λ t l w. f t l (ahead_topic p n (topic_of m t) t w));
      }
    where
      by : (t : ℕ) → t < length m.tables → Ahead p from (topic_of m t) t → is_delivered c (topic_of m t) ≡ true → is_delivered c (length m.topics + t) ≡ false
          → (Ahead (p + 1) 0 (topic_of m t) t → is_delivered c (topic_of m t) ≡ true → is_delivered c (length m.topics + t) ≡ false → (table_at m.tables t).optional ≡ true)
          → (table_at m.tables t).optional ≡ true
      by t l (topic_after h) d e i = i (ahead_from (p + 1) (topic_of m t) t (omega arith)) d e
      by t l (table_after z h) d e i = mandatory_none p from (length m.tables) 0 m.tables q t l (omega arith) (omega arith) z
  told s (table_out {p = p} {n = n} q r) =
      let i = told s r in
      record { are_marks = i.are_marks; in_topics = i.in_topics; optional = i.optional; fine = λ least f. i.fine least (λ t l w. f t l (ahead_one p n (topic_of m t) t w)) }
  told s (table_in {p = p} {from = from} {n = n} {table = table} {marks = marks} q is solid f g r) =
      let b = both (eqb table.topic p) _ q in
      let size = (table_found p from 0 table.name m.tables n f).size in
      let topic : topic_of m n ≡ p = ap (λ (x : Table). x.topic) is ∙ eqb-true table.topic p b.0 in
      let i = told (s.0, s.1, omega arith, b.1) r in
      record {
        are_marks = λ h. i.are_marks (set_marks marks (length m.topics + n) h);
        in_topics = λ h. i.in_topics (table_marked marks n p topic s.1 h);
        optional = λ t l w d e. table_left p from n t b.1 e w (λ z a h. mandatory_none p from n 0 m.tables g t l (omega arith) (omega arith) z) (λ v. i.optional t l v d e);
        fine = i.fine;
      }
  told s (object {p = p} {t = t} o e r) =
      let i = told s r in
      record {
        are_marks = i.are_marks;
        in_topics = i.in_topics;
        optional = i.optional;
        fine = λ least f. next (f t s.2 (table_after e (omega arith))) s.2 s.3 o (i.fine t (λ j l w. row_after p t j s.2 e w));
      }
  told s (table_end {p = p} {t = t} e a b r) =
      let i = told (s.0, s.1) r in
      record { are_marks = i.are_marks; in_topics = i.in_topics; optional = i.optional; fine = λ least f. i.fine least (λ j l w. f j l (ahead_one p t (topic_of m j) j w)) }

  -- ## A table that is fine

  pub record ValidTold : Type 0 where
    pub are_marks : every is_mark c.marks ≡ true
    pub tables : (t : ℕ) → t < length m.tables → TableMarked c (length m.topics) t (table_at m.tables t)
    pub rows : RowsOk m text c 0 [] 0 0 c.rows

  pub valid_told : Valid m text c → ValidTold
  valid_told v =
      let i = told (omega arith) v in
      record {
        are_marks = i.are_marks (no_marks_lem (length m.topics + length m.tables));
        tables = λ t l. record {
          in_topic = i.in_topics (λ j h d. absurd (false≢true (rw (all_zero (length m.topics + length m.tables) (length m.topics + j)) at d))) t l;
          optional = λ e d. i.optional t l (ahead_from 0 (topic_of m t) t (omega arith)) d e;
        };
        rows = i.fine 0 (λ t l w. omega arith);
      }
