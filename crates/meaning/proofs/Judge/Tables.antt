-- A table whose marks and rows are fine is fine. Assumes nothing.
use Prim.Native.Nat.{ℕ, zero, suc, ◌+◌, ◌*◌, ◌-◌, ◌≤◌, ◌<◌}
use native.Mathlib.Omega.{arith}
use mathlib.Core.Path.{◌≡◌, refl, sym, ap, subst, ◌∙◌}
use mathlib.Core.Bool.{Bool, true, false, ◌&&◌, true≢false}
use mathlib.Core.List.{List, [], ◌∷◌, ◌++◌, append_assoc, append-nil}
use lib.Dec.{ltb, eqb}
use lib.IntN.{nat_abs}
use lib.ListN.{length, drop, get_or, set, replicate, length-set, drop_of_length-le, length-replicate}
use lib.Seq.{get_or-set_same, get_or-set_other, ext_get_or}
use borrow.Author.Tests.{ltb-true, ltb-false, eqb-true, eqb-false, eq-eqb, ne_eqb}
use Rattle.meaning.specs.Bytes.{choose, every}
use Rattle.meaning.specs.Model.{found, Table, Model, table_at, no_table}
use Rattle.meaning.specs.Check.{GoodModel}
use Rattle.meaning.specs.Row.{pairs_of}
use Rattle.meaning.specs.Reading.{Content, mandatory_between, cell_at}
use Rattle.meaning.specs.Writing.{rows_of_table, rows_behind_table, rows_behind_topic, is_delivered}
use Rattle.meaning.specs.Judge.{is_mark}
use Rattle.meaning.proofs.Tests.Refuse.{both}
use Rattle.meaning.proofs.Judge.Valid.{ObjectOk, topics_from, tables_from, objects, Rest, finished, topic_out, topic_in, topic_end, table_out, table_in, object, table_end, Valid}
use Rattle.meaning.proofs.Model.GoodPairs.{topic_solid, table_solid}
use Rattle.meaning.proofs.Reading.TablesRead.{Passed, topic_before, table_before, Ahead, topic_after, table_after, topic_of}
use Rattle.meaning.proofs.Model.Names.{topic_is, table_is, none_mandatory, in_order, topic_below}
use Rattle.meaning.proofs.Judge.Rows.{RowsOk, stop, next}
use Rattle.meaning.proofs.Judge.Marks.{delivered_one, undelivered_zero, TableMarked}
use Rattle.meaning.proofs.Lists.{all_zero, drop_next}

-- a later topic is ahead
pub ahead_from : (p q t : ℕ) → p ≤ q → Ahead p 0 q t
ahead_from p q t l = by (ltb p q) refl
  where
    by : (x : Bool) → ltb p q ≡ x → Ahead p 0 q t
    by true e = topic_after (ltb-true p q e)
    by false e = let h = ltb-false p q e in table_after (omega arith) (omega arith)

-- not behind where it has to be ahead
pub ahead_low : (p n q t : ℕ) → Ahead p n q t → p ≤ q
ahead_low p n q t (topic_after h) = omega arith
ahead_low p n q t (table_after e h) = omega arith

-- a test that holds only elsewhere
and_right : (a p : ℕ) (b : Bool) → (eqb a p && b) ≡ false → a ≡ p → b ≡ false
and_right a p b h e = rw (eq-eqb a p e) at h

module _ (m : Model) (text : List ℕ) (c : Content) where
  -- the first of these rows is of table n of topic p, or ahead of it
  abbrev pub First : (p n : ℕ) → List ℕ → Type 0
  First p n [] = Unit {0}
  First p n (row ∷ rows) = Ahead p n (topic_of m (cell_at c.cells row)) (cell_at c.cells row)

  -- the rows that are left
  record Left (p n : ℕ) (before : List ℕ) (at k : ℕ) (rows : List ℕ) : Type 0 where
    least : ℕ
    fine : RowsOk m text c least before at k rows
    all : before ++ rows ≡ c.rows
    first : First p n rows

  -- the delivered topics below q and the delivered tables before table n of topic p are marked, and nothing else but delivered ones
  record Marked (q p n : ℕ) (marks : List ℕ) : Type 0 where
    size : length marks ≡ length m.topics + length m.tables
    unset : (j : ℕ) → is_delivered c j ≡ false → get_or marks j 0 ≡ 0
    topics : (j : ℕ) → j < q → is_delivered c j ≡ true → get_or marks j 0 ≡ 1
    tables : (t : ℕ) → t < length m.tables → Passed p n (topic_of m t) t → is_delivered c (length m.topics + t) ≡ true → get_or marks (length m.topics + t) 0 ≡ 1

  -- a mark more
  set_unset : (marks : List ℕ) (i : ℕ) → is_delivered c i ≡ true → ((j : ℕ) → is_delivered c j ≡ false → get_or marks j 0 ≡ 0) → (j : ℕ) → is_delivered c j ≡ false → get_or (set marks i 1) j 0 ≡ 0
  set_unset marks i d h j e = get_or-set_other marks i j 1 0 (λ z. true≢false (sym d ∙ (ap (λ (x : ℕ). is_delivered c x) (sym z) ∙ e))) ∙ h j e

  set_keeps : (marks : List ℕ) (i j : ℕ) → i < length marks → get_or marks j 0 ≡ 1 → get_or (set marks i 1) j 0 ≡ 1
  set_keeps marks i j l h = by (eqb j i) refl
    where
      by : (x : Bool) → eqb j i ≡ x → get_or (set marks i 1) j 0 ≡ 1
      by true e = rw (eqb-true j i e) (get_or-set_same marks i 1 0 l)
      by false e = get_or-set_other marks i j 1 0 (eqb-false j i e) ∙ h

  -- the first of the rows that are left, where those of table L and later ones are ahead
  first_of : {least at k : ℕ} {before rows : List ℕ} (p n : ℕ) → RowsOk m text c least before at k rows → ((t : ℕ) → least ≤ t → t < length m.tables → Ahead p n (topic_of m t) t) → First p n rows
  first_of p n (stop a b) h = tt
  first_of p n (next {t = t} low high d o r) h = subst (λ (x : ℕ). Ahead p n (topic_of m x) x) (sym (ap nat_abs o.table)) (h t low high)

  module _ (good : GoodModel m) (size : length c.marks ≡ length m.topics + length m.tables) (all_marks : every is_mark c.marks ≡ true)
      (table-marks : (t : ℕ) → t < length m.tables → TableMarked c (length m.topics) t (table_at m.tables t)) where
    -- ## Objects

    -- a table's rows are followed by those of tables ahead
    rows_ahead : (p t : ℕ) → topic_of m t ≡ p → (j : ℕ) → t ≤ j → j < length m.tables → Ahead p t (topic_of m j) j
    rows_ahead p t e j l h = by (ltb p (topic_of m j)) refl
      where
        by : (x : Bool) → ltb p (topic_of m j) ≡ x → Ahead p t (topic_of m j) j
        by true q = topic_after (ltb-true p (topic_of m j) q)
        by false q = let a = ltb-false p (topic_of m j) q in let b = in_order 0 m.tables t j good.table_order l h in table_after (omega arith) l

    -- a row ahead that is not of this table is ahead of the next one
    ahead_next : (p t q j : ℕ) → (j ≡ t → ⊥) → Ahead p t q j → Ahead p (t + 1) q j
    ahead_next p t q j h (topic_after l) = topic_after l
    ahead_next p t q j h (table_after e l) = table_after e (omega arith)

    -- the first row is not of this table
    table_ends : (t row : ℕ) (rows : List ℕ) → eqb (cell_at c.cells row) t ≡ false → (rows_of_table t c.cells (row ∷ rows) ≡ []) × (rows_behind_table t c.cells (row ∷ rows) ≡ row ∷ rows)
    unfolding rows_of_table rows_behind_table choose
    table_ends t row rows e = (rw e, rw e)

    table_ends_last : (t : ℕ) → (rows_of_table t c.cells [] ≡ []) × (rows_behind_table t c.cells [] ≡ [])
    unfolding rows_of_table rows_behind_table
    table_ends_last t = (refl, refl)

    objects_fine : {least at k : ℕ} {before rows : List ℕ} (p t : ℕ) (ts : List Table) (names : List (List ℕ)) (marks : List ℕ) → topic_of m t ≡ p
        → ((before : List ℕ) (at k : ℕ) (rows : List ℕ) → Left p (t + 1) before at k rows → Rest m text c (tables_from p (t + 1) (t + 1) ts names) marks before at k rows)
        → RowsOk m text c least before at k rows → before ++ rows ≡ c.rows → First p t rows → Rest m text c (objects p t ts names) marks before at k rows
    objects_fine p t ts names marks e more (stop a b) all f =
        let q = table_ends_last t in
        table_end e q.0 q.1 (more _ _ _ [] (record { least = 0; fine = stop a b; all = all; first = tt }))
    objects_fine p t ts names marks e more (next {least = least} {at = at} {k = k} {k' = k'} {t = t'} {before = before} {rows = rows} low high d o r) all f =
        by (eqb t' t) refl (objects_fine p t ts names marks e more r (append_assoc before (at ∷ []) rows ∙ all))
      where
        by : (x : Bool) → eqb t' t ≡ x
            → (First p t rows → Rest m text c (objects p t ts names) marks (before ++ (at ∷ [])) (at + (3 + 2 * length (pairs_of (table_at m.tables t').attributes))) k' rows)
            → Rest m text c (objects p t ts names) marks before at k (at ∷ rows)
        by true q ih =
            let same : t' ≡ t = eqb-true t' t q in
            object (subst (λ (x : ℕ). ObjectOk m text c x before at k k') same o) e
            (subst (λ (x : ℕ). Rest m text c (objects p t ts names) marks (before ++ (at ∷ [])) (at + (3 + 2 * length (pairs_of (table_at m.tables x).attributes))) k' rows) same
            (ih (first_of p t r (λ j l h. rows_ahead p t e j (omega arith) h))))
        by false q ih =
            let is : cell_at c.cells at ≡ t' = ap nat_abs o.table in
            let w = table_ends t at rows (rw is q) in
            table_end e w.0 w.1
            (more before at k (at ∷ rows) (record { least = least; fine = next low high d o r; all = all; first = ahead_next p t _ _ (λ z. eqb-false t' t q (sym is ∙ z)) f }))

    -- ## Tables

    -- the tables of topic p from table `from` on and before table n are left out
    abbrev Skipped : (p from n : ℕ) → Type 0
    Skipped p from n = (t : ℕ) → from ≤ t → t < n → topic_of m t ≡ p → is_delivered c (length m.topics + t) ≡ false

    no_mandatory : (p from n : ℕ) → is_delivered c p ≡ true → Skipped p from n → mandatory_between p from n 0 m.tables ≡ false
    no_mandatory p from n d s =
        none_mandatory p from n 0 m.tables
        (λ j h a b e. (table-marks j h).optional (s j (omega arith) (omega arith) e) (subst (λ (x : ℕ). is_delivered c x ≡ true) (sym e) d))

    -- behind the last table of a topic the first row is of a later topic
    topic_ends : {least at k : ℕ} {before rows : List ℕ} (p n : ℕ) → length m.tables ≤ n → RowsOk m text c least before at k rows → First p n rows
        → (rows_behind_topic m.tables p c.cells rows ≡ rows) × First (p + 1) 0 rows
    unfolding rows_behind_topic choose
    topic_ends p n l (stop a b) f = (refl, tt)
    topic_ends p n l (next {at = at} {t = t} {rows = rows} low high d o r) f = by f
      where
        by : Ahead p n (topic_of m (cell_at c.cells at)) (cell_at c.cells at)
            → (choose (eqb (topic_of m (cell_at c.cells at)) p) (rows_behind_topic m.tables p c.cells rows) (at ∷ rows) ≡ at ∷ rows) × Ahead (p + 1) 0 (topic_of m (cell_at c.cells at)) (cell_at c.cells at)
        by (topic_after h) = (rw (ne_eqb (topic_of m (cell_at c.cells at)) p (λ e. omega arith)), ahead_from (p + 1) _ _ (omega arith))
        by (table_after e h) = let is : cell_at c.cells at ≡ t = ap nat_abs o.table in absurd (omega arith)

    -- a table that is left out has no rows
    table_skips : {least at k : ℕ} {before rows : List ℕ} (p n : ℕ) → (topic_of m n ≡ p → is_delivered c (length m.topics + n) ≡ false) → RowsOk m text c least before at k rows → First p n rows → First p (n + 1) rows
    table_skips p n s (stop a b) f = tt
    table_skips p n s (next {at = at} {t = t} low high d o r) f = by f
      where
        is : cell_at c.cells at ≡ t
        is = ap nat_abs o.table

        by : Ahead p n (topic_of m (cell_at c.cells at)) (cell_at c.cells at) → Ahead p (n + 1) (topic_of m (cell_at c.cells at)) (cell_at c.cells at)
        by (topic_after h) = topic_after h
        by (table_after e h) = table_after e (this (eqb t n) refl e h)
          where
            this : (x : Bool) → eqb t n ≡ x → topic_of m (cell_at c.cells at) ≡ p → n ≤ cell_at c.cells at → n + 1 ≤ cell_at c.cells at
            this false q e h = omega (arith, is, eqb-false t n q)
            this true q e h =
                let same : t ≡ n = eqb-true t n q in
                absurd (true≢false (sym d ∙ (ap (λ (x : ℕ). is_delivered c (length m.topics + x)) same ∙ s (ap (topic_of m) (sym same) ∙ (ap (topic_of m) (sym is) ∙ e)))))

    passed_end : (p n t : ℕ) → t < n → Passed (p + 1) 0 (topic_of m t) t → Passed p n (topic_of m t) t
    passed_end p n t l (topic_before h) = by (ltb (topic_of m t) p) refl
      where
        by : (x : Bool) → ltb (topic_of m t) p ≡ x → Passed p n (topic_of m t) t
        by true e = topic_before (ltb-true (topic_of m t) p e)
        by false e = let g = ltb-false (topic_of m t) p e in table_before (omega arith) l
    passed_end p n t l (table_before e h) = absurd (omega arith)

    passed_one : (p n t : ℕ) → (t ≡ n → ⊥) → Passed p (n + 1) (topic_of m t) t → Passed p n (topic_of m t) t
    passed_one p n t h (topic_before l) = topic_before l
    passed_one p n t h (table_before e l) = table_before e (omega arith)

    -- behind a table that is delivered
    marked_in : (p n : ℕ) (marks : List ℕ) → n < length m.tables → is_delivered c (length m.topics + n) ≡ true → Marked (p + 1) p n marks → Marked (p + 1) p (n + 1) (set marks (length m.topics + n) 1)
    marked_in p n marks l d k =
        record {
          size = length-set marks (length m.topics + n) 1 ∙ k.size;
          unset = set_unset marks (length m.topics + n) d k.unset;
          topics = λ j h e. set_keeps marks (length m.topics + n) j there (k.topics j h e);
          tables = λ t h q e. by t (eqb t n) refl h q e;
        }
      where
        there : length m.topics + n < length marks
        there = omega (arith, k.size)

        by : (t : ℕ) (x : Bool) → eqb t n ≡ x → t < length m.tables → Passed p (n + 1) (topic_of m t) t → is_delivered c (length m.topics + t) ≡ true
            → get_or (set marks (length m.topics + n) 1) (length m.topics + t) 0 ≡ 1
        by t true q h w e = rw (eqb-true t n q) (get_or-set_same marks (length m.topics + n) 1 0 there)
        by t false q h w e = set_keeps marks (length m.topics + n) (length m.topics + t) there (k.tables t h (passed_one p n t (eqb-false t n q) w) e)

    -- behind a table that is left out
    marked_out : (p n : ℕ) (marks : List ℕ) → (topic_of m n ≡ p → is_delivered c (length m.topics + n) ≡ false) → Marked (p + 1) p n marks → Marked (p + 1) p (n + 1) marks
    marked_out p n marks s k = record { size = k.size; unset = k.unset; topics = k.topics; tables = λ t h q e. k.tables t h (by t e q) e }
      where
        by : (t : ℕ) → is_delivered c (length m.topics + t) ≡ true → Passed p (n + 1) (topic_of m t) t → Passed p n (topic_of m t) t
        by t e (topic_before l) = topic_before l
        by t e (table_before q l) = table_before q (this (eqb t n) refl)
          where
            this : (x : Bool) → eqb t n ≡ x → t < n
            this true z = let same : t ≡ n = eqb-true t n z in absurd (true≢false (sym e ∙ (ap (λ (x : ℕ). is_delivered c (length m.topics + x)) same ∙ s (ap (topic_of m) (sym same) ∙ q))))
            this false z = omega (arith, eqb-false t n z)

    tables_fine : (d p from n : ℕ) (names : List (List ℕ)) → n + d ≡ length m.tables → from ≤ n → is_delivered c p ≡ true
        → ((marks before : List ℕ) (at k : ℕ) (rows : List ℕ) → Marked (p + 1) (p + 1) 0 marks → Left (p + 1) 0 before at k rows → Rest m text c (topics_from (p + 1) (p + 1) names) marks before at k rows)
        → Skipped p from n → (marks before : List ℕ) (at k : ℕ) (rows : List ℕ) → Marked (p + 1) p n marks → Left p n before at k rows
        → Rest m text c (tables_from p from n (drop n m.tables) names) marks before at k rows
    tables_fine zero p from n names e f dp more s marks before at k rows mk left =
        let w = topic_ends p n (omega arith) left.fine left.first in
        let z : n ≡ length m.tables = omega arith in
        rw (drop_of_length-le m.tables {i = n} (omega arith))
        (topic_end (subst (λ (x : ℕ). mandatory_between p from x 0 m.tables ≡ false) z (no_mandatory p from n dp s)) w.0
        (more marks before at k rows
        (record { size = mk.size; unset = mk.unset; topics = mk.topics; tables = λ t h q g. mk.tables t h (passed_end p n t (omega arith) q) g })
        (record { least = left.least; fine = left.fine; all = left.all; first = w.1 })))
    tables_fine (suc d) p from n names e f dp more s marks before at k rows mk left =
        rw (drop_next m.tables n no_table (omega arith))
        (by (eqb (topic_of m n) p && is_delivered c (length m.topics + n)) refl (λ from'. tables_fine d p from' (n + 1) names (omega arith)))
      where
        there : n < length m.tables
        there = omega arith

        skipped : (topic_of m n ≡ p → is_delivered c (length m.topics + n) ≡ false) → Skipped p from (n + 1)
        skipped h t a b g = this (eqb t n) refl
          where
            this : (x : Bool) → eqb t n ≡ x → is_delivered c (length m.topics + t) ≡ false
            this true z = let same : t ≡ n = eqb-true t n z in ap (λ (x : ℕ). is_delivered c (length m.topics + x)) same ∙ h (ap (topic_of m) (sym same) ∙ g)
            this false z = s t a (omega (arith, eqb-false t n z)) g

        by : (x : Bool) → (eqb (topic_of m n) p && is_delivered c (length m.topics + n)) ≡ x
            → ((from' : ℕ) → from' ≤ n + 1 → is_delivered c p ≡ true
            → ((marks before : List ℕ) (at k : ℕ) (rows : List ℕ) → Marked (p + 1) (p + 1) 0 marks → Left (p + 1) 0 before at k rows → Rest m text c (topics_from (p + 1) (p + 1) names) marks before at k rows)
            → Skipped p from' (n + 1) → (marks before : List ℕ) (at k : ℕ) (rows : List ℕ) → Marked (p + 1) p (n + 1) marks → Left p (n + 1) before at k rows
            → Rest m text c (tables_from p from' (n + 1) (drop (n + 1) m.tables) names) marks before at k rows)
            → Rest m text c (tables_from p from n (table_at m.tables n ∷ drop (n + 1) m.tables) names) marks before at k rows
        by true q ih =
            let r = both (eqb (topic_of m n) p) _ q in
            let topic : topic_of m n ≡ p = eqb-true (topic_of m n) p r.0 in
            let z : 0 + n ≡ n = omega arith in
            table_in q refl (table_solid m good n there) (table_is m.tables p from 0 n (good.names_in_topic p) there topic (omega arith) ∙ ap found z) (no_mandatory p from n dp s)
            (objects_fine p n (drop (n + 1) m.tables) names (set marks (length m.topics + n) 1) topic
            (λ before at k rows left. ih (n + 1) (omega arith) dp more (λ t a b g. absurd (omega arith)) (set marks (length m.topics + n) 1) before at k rows (marked_in p n marks there r.1 mk) left)
            left.fine left.all left.first)
        by false q ih =
            let out : topic_of m n ≡ p → is_delivered c (length m.topics + n) ≡ false = and_right (topic_of m n) p _ q in
            table_out q (ih from (omega arith) dp more (skipped out) marks before at k rows (marked_out p n marks out mk)
            (record { least = left.least; fine = left.fine; all = left.all; first = table_skips p n out left.fine left.first }))

    -- ## Topics

    -- at the end every mark is the lent one
    marks_are_lem : (p : ℕ) (marks : List ℕ) → length m.topics ≤ p → Marked p p 0 marks → marks ≡ c.marks
    marks_are_lem p marks l k = ext_get_or 0 marks c.marks (k.size ∙ sym size) (λ i h. by i (is_delivered c i) refl (rw k.size at h))
      where
        in_table : (i t : ℕ) → i ≡ length m.topics + t → i < length m.topics + length m.tables → is_delivered c i ≡ true → get_or marks i 0 ≡ 1
        in_table i t e h q =
            rw e (k.tables t (omega arith) (topic_before (omega (arith, topic_below (length m.topics) m.tables m.tables t good.tables (omega arith)))) (rw e at q))

        one : (i : ℕ) (x : Bool) → ltb i (length m.topics) ≡ x → i < length m.topics + length m.tables → is_delivered c i ≡ true → get_or marks i 0 ≡ 1
        one i true e h q = k.topics i (omega (arith, ltb-true i (length m.topics) e)) q
        one i false e h q = in_table i (i - length m.topics) (omega (arith, ltb-false i (length m.topics) e)) h q

        by : (i : ℕ) (x : Bool) → is_delivered c i ≡ x → i < length m.topics + length m.tables → get_or marks i 0 ≡ get_or c.marks i 0
        by i true q h = one i (ltb i (length m.topics)) refl h q ∙ sym (delivered_one c i all_marks q)
        by i false q h = k.unset i q ∙ sym (undelivered_zero c i q)

    end_fine : {least at k : ℕ} {before rows : List ℕ} (from p : ℕ) (marks : List ℕ) → length m.topics ≤ p → Marked p p 0 marks → RowsOk m text c least before at k rows → before ++ rows ≡ c.rows → First p 0 rows
        → Rest m text c (topics_from from p []) marks before at k rows
    end_fine {before = before} from p marks l mk (stop a b) all f = finished (marks_are_lem p marks l mk) (sym (append-nil before) ∙ all) a b
    end_fine from p marks l mk (next {at = at} {t = t} low high d o r) all f =
        let is : cell_at c.cells at ≡ t = ap nat_abs o.table in
        let low' = ahead_low p 0 _ _ f in
        absurd (omega (arith, topic_below (length m.topics) m.tables m.tables t good.tables high, ap (topic_of m) is))

    -- a topic that is left out has no tables
    topic_skips : {least at k : ℕ} {before rows : List ℕ} (p : ℕ) → is_delivered c p ≡ false → RowsOk m text c least before at k rows → First p 0 rows → First (p + 1) 0 rows
    topic_skips p q (stop a b) f = tt
    topic_skips p q (next {at = at} {t = t} low high d o r) f =
        let is : cell_at c.cells at ≡ t = ap nat_abs o.table in
        let low' = ahead_low p 0 _ _ f in
        ahead_from (p + 1) _ _ (by (eqb (topic_of m t) p) refl (ap (topic_of m) is) low')
      where
        by : (x : Bool) → eqb (topic_of m t) p ≡ x → topic_of m (cell_at c.cells at) ≡ topic_of m t → p ≤ topic_of m (cell_at c.cells at) → p + 1 ≤ topic_of m (cell_at c.cells at)
        by true z is l = absurd (true≢false (sym ((table-marks t high).in_topic d) ∙ (ap (λ (x : ℕ). is_delivered c x) (eqb-true (topic_of m t) p z) ∙ q)))
        by false z is l = omega (arith, eqb-false (topic_of m t) p z)

    marked_topic_out : (p : ℕ) (marks : List ℕ) → is_delivered c p ≡ false → Marked p p 0 marks → Marked (p + 1) (p + 1) 0 marks
    marked_topic_out p marks q k = record { size = k.size; unset = k.unset; topics = λ j h e. k.topics j (below j h e (eqb j p) refl) e; tables = λ t h w e. k.tables t h (passed t h e w) e }
      where
        below : (j : ℕ) → j < p + 1 → is_delivered c j ≡ true → (x : Bool) → eqb j p ≡ x → j < p
        below j h e true z = absurd (true≢false (sym e ∙ (ap (λ (x : ℕ). is_delivered c x) (eqb-true j p z) ∙ q)))
        below j h e false z = omega (arith, eqb-false j p z)

        passed : (t : ℕ) → t < length m.tables → is_delivered c (length m.topics + t) ≡ true → Passed (p + 1) 0 (topic_of m t) t → Passed p 0 (topic_of m t) t
        passed t h e (topic_before l) = topic_before (below (topic_of m t) l ((table-marks t h).in_topic e) (eqb (topic_of m t) p) refl)
        passed t h e (table_before z l) = absurd (omega arith)

    marked_topic_in : (p : ℕ) (marks : List ℕ) → p < length m.topics → is_delivered c p ≡ true → Marked p p 0 marks → Marked (p + 1) p 0 (set marks p 1)
    marked_topic_in p marks l d k =
        record {
          size = length-set marks p 1 ∙ k.size;
          unset = set_unset marks p d k.unset;
          topics = λ j h e. by j (eqb j p) refl h e;
          tables = λ t h w e. set_keeps marks p (length m.topics + t) there (k.tables t h w e);
        }
      where
        there : p < length marks
        there = omega (arith, k.size)

        by : (j : ℕ) (x : Bool) → eqb j p ≡ x → j < p + 1 → is_delivered c j ≡ true → get_or (set marks p 1) j 0 ≡ 1
        by j true z h e = rw (eqb-true j p z) (get_or-set_same marks p 1 0 there)
        by j false z h e = set_keeps marks p j there (k.topics j (omega (arith, eqb-false j p z)) e)

    topics_fine : (d p from : ℕ) → p + d ≡ length m.topics → from ≤ p → (marks before : List ℕ) (at k : ℕ) (rows : List ℕ) → Marked p p 0 marks → Left p 0 before at k rows
        → Rest m text c (topics_from from p (drop p m.topics)) marks before at k rows
    topics_fine zero p from e f marks before at k rows mk left =
        rw (drop_of_length-le m.topics {i = p} (omega arith)) (end_fine from p marks (omega arith) mk left.fine left.all left.first)
    topics_fine (suc d) p from e f marks before at k rows mk left =
        rw (drop_next m.topics p [] (omega arith)) (by (is_delivered c p) refl (λ from'. topics_fine d (p + 1) from' (omega arith)))
      where
        there : p < length m.topics
        there = omega arith

        by : (x : Bool) → is_delivered c p ≡ x
            → ((from' : ℕ) → from' ≤ p + 1 → (marks before : List ℕ) (at k : ℕ) (rows : List ℕ) → Marked (p + 1) (p + 1) 0 marks → Left (p + 1) 0 before at k rows
            → Rest m text c (topics_from from' (p + 1) (drop (p + 1) m.topics)) marks before at k rows)
            → Rest m text c (topics_from from p (get_or m.topics p [] ∷ drop (p + 1) m.topics)) marks before at k rows
        by true q ih =
            let z : 0 + p ≡ p = omega arith in
            topic_in q (topic_solid m good p there) (topic_is m.topics from 0 p good.topics there (omega arith) ∙ ap found z)
            (tables_fine (length m.tables) p 0 0 (drop (p + 1) m.topics) (omega arith) (omega arith) q (ih (p + 1) (omega arith)) (λ t a b g. absurd (omega arith))
            (set marks p 1) before at k rows (marked_topic_in p marks there q mk) left)
        by false q ih =
            topic_out q (ih from (omega arith) marks before at k rows (marked_topic_out p marks q mk)
            (record { least = left.least; fine = left.fine; all = left.all; first = topic_skips p q left.fine left.first }))

    pub rows_valid : RowsOk m text c 0 [] 0 0 c.rows → Valid m text c
    rows_valid o =
        topics_fine (length m.topics) 0 0 (omega arith) (omega arith) (replicate (length m.topics + length m.tables) 0) [] 0 0 c.rows
        (record {
          size = length-replicate (length m.topics + length m.tables) 0;
          unset = λ j e. all_zero (length m.topics + length m.tables) j;
          topics = λ j h e. absurd (omega arith);
          tables = λ t h q e. none t q;
        })
        (record { least = 0; fine = o; all = refl; first = first_of 0 0 o (λ t l h. ahead_from 0 (topic_of m t) t (omega arith)) })
      where
        none : (t : ℕ) → Passed 0 0 (topic_of m t) t → ◌≡◌ {A = ℕ} (get_or (replicate (length m.topics + length m.tables) 0) (length m.topics + t) 0) 1
        none t (topic_before h) = absurd (omega arith)
        none t (table_before e h) = absurd (omega arith)
