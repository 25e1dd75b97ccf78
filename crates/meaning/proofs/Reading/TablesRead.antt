-- What was read is fine: from the lines that were not refused, back to the table. Assumes nothing.
use Prim.Native.Nat.{ℕ, zero, suc, ◌+◌, ◌*◌, ◌-◌, ◌/◌, ◌≤◌, ◌<◌}
use native.Mathlib.Omega.{arith}
use mathlib.Core.Path.{◌≡◌, refl, sym, ap, ap₂, subst, ◌∙◌}
use mathlib.Core.Bool.{Bool, true, false, not, ◌&&◌}
use mathlib.Core.List.{List, [], ◌∷◌, ◌++◌, append_assoc, append-nil}
use lib.Dec.{eqb, ltb}
use lib.IntN.{ℤ, pos}
use lib.ListN.{length, drop, get_or, set, replicate, length-append, length-set, drop_of_length-le, length-replicate, get_or-replicate}
use lib.Seq.{get_or-set_same, get_or-set_other, drop-append-add, drop-append_seam}
use borrow.Author.Tests.{eq-eqb, ne_eqb, eqb-true, ltb-true, ltb-false}
use Rattle.meaning.specs.Bytes.{choose, refuse, prefix}
use Rattle.meaning.specs.Unfold.{unfolded_text}
use Rattle.meaning.specs.Model.{found, Table, Model, table_at, no_table}
use Rattle.meaning.specs.Check.{GoodModel}
use Rattle.meaning.specs.Field.{Field, fields_of, field_at, more_than, has_code, slashes}
use Rattle.meaning.specs.Value.{is_undefined, is_undefined_twice}
use Rattle.meaning.specs.Row.{Pair, pairs_of}
use Rattle.meaning.specs.Reading.{Due, opening, description, transfer, model_name, topic_from, table_from, object_of, closing, nothing, Content, State, with_row, Rooms, find_topic, find_table, mandatory_between, Object, stretch, objects_of, is_used}
use Rattle.meaning.specs.Lines.{go, no, bare, named, opening_line, description_line, transfer_line, model_line, line_due, ran, run}
use Rattle.meaning.specs.Writing.{identification_bytes, rows_of_table, rows_behind_table, rows_behind_topic, is_delivered}
use Rattle.meaning.proofs.Tests.Unequal.{no_go}
use Rattle.meaning.proofs.Tests.Refuse.{passed}
use Rattle.meaning.proofs.Reading.Fields.{Solid}
use Rattle.meaning.proofs.Reading.Stretches.{AllStand, text_behind, line_stands}
use Rattle.meaning.proofs.Judge.Valid.{lent_objects, IdentificationOk, ObjectOk, Place, topics_from, tables_from, objects, Rest, finished, topic_out, topic_in, topic_end, table_out, table_in, object, table_end}
use Rattle.meaning.proofs.Reading.FieldsRead as given
use Rattle.meaning.proofs.Reading.PointsRead as lines
use Rattle.meaning.proofs.Reading.FieldsRead.{Given, AllAre, fields_are_lem, pairs_given}
use Rattle.meaning.proofs.Reading.PointsRead.{Drawing, told_of, FirstStep, first_step, AttributesEnd, object_ends}
use Rattle.meaning.proofs.Reading.References.{Row, row_cells, flat_rows, row_starts, objects_of_rows, flat_append, starts_append, table_at_lem, size_at, row_identification, objects_flat, lent_flat, ResolvedTo, resolved_length, AllLong, ResolvedRows, nomore, more}
use Rattle.meaning.proofs.Reading.RowsRead.{lines_good, row_ok}
use Rattle.meaning.proofs.Reading.StepsRead.{TopicStep, emod, topi, TableStep, etop, tabl, ObjectGiven, ObjectStep, etab, obje, topic_step, table_step, object_step, closing_step, TopicFound, topic_found, TableFound, table_found}
use Rattle.meaning.proofs.Model.GoodPairs.{pairs_good, topic_solid, table_solid}
use Rattle.meaning.proofs.Lists.{drop_next}

-- table t of topic q stands before table n of topic p, or not
pub data Passed (p n q t : ℕ) : Type 0 where
  topic_before : q < p → Passed p n q t
  table_before : q ≡ p → t < n → Passed p n q t

pub data Ahead (p n q t : ℕ) : Type 0 where
  topic_after : p < q → Ahead p n q t
  table_after : q ≡ p → n ≤ t → Ahead p n q t

-- what may follow: topic `from` or a later one, table `from` of topic p or a later one, an object of table t
pub data Next : Type 0 where
  topic_next : (from : ℕ) → Next
  table_next : (p from : ℕ) → Next
  object_next : (t : ℕ) → Next

module _ (m : Model) where
  abbrev pub topic_of : ℕ → ℕ
  topic_of t = (table_at m.tables t).topic

  abbrev pub topic_count : ℕ
  topic_count = length m.topics

  unfoldable pub due_of : Next → Due
  due_of (topic_next from) = topic_from from
  due_of (table_next p from) = table_from p from
  due_of (object_next t) = object_of t

  unfoldable pub place_of : Next → Place
  place_of (topic_next from) = topics_from from from (drop from m.topics)
  place_of (table_next p from) = tables_from p from from (drop from m.tables) (drop (p + 1) m.topics)
  place_of (object_next t) = objects (topic_of t) t (drop (t + 1) m.tables) (drop (topic_of t + 1) m.topics)

  -- the topics below this one are passed; the tables before this one of this topic are passed; the next row is of this table or of a later one
  unfoldable pub topic_bound : Next → ℕ
  topic_bound (topic_next from) = from
  topic_bound (table_next p from) = p + 1
  topic_bound (object_next t) = topic_of t + 1

  unfoldable pub in_topic : Next → ℕ
  in_topic (topic_next from) = from
  in_topic (table_next p from) = p
  in_topic (object_next t) = topic_of t

  unfoldable pub table_bound : Next → ℕ
  table_bound (topic_next from) = 0
  table_bound (table_next p from) = from
  table_bound (object_next t) = t + 1

  unfoldable pub row_bound : Next → ℕ
  row_bound (topic_next from) = 0
  row_bound (table_next p from) = from
  row_bound (object_next t) = t

  -- what is not passed has no mark yet
  record Unmarked (a : Next) (marks : List ℕ) : Type 0 where
    size : length marks ≡ topic_count + length m.tables
    within : table_bound a ≤ length m.tables
    among : topic_bound a ≤ topic_count
    topics : (j : ℕ) → topic_bound a ≤ j → j < topic_count → get_or marks j 0 ≡ 0
    tables : (t : ℕ) → t < length m.tables → Ahead (in_topic a) (table_bound a) (topic_of t) t → get_or marks (topic_count + t) 0 ≡ 0

  -- the first of these rows is ahead
  abbrev pub FirstAhead : (p n : ℕ) → List Row → Type 0
  FirstAhead p n [] = Unit {0}
  FirstAhead p n (r ∷ rs) = Ahead p n (topic_of r.table) r.table

-- what is known of the marks of a table that is read to its end
delivered_not : (marks : List ℕ) (j : ℕ) → get_or marks j 0 ≡ 0 → not (eqb (get_or marks j 0) 0) ≡ false
delivered_not marks j e = rw e

delivered_is : (marks : List ℕ) (j : ℕ) → get_or marks j 0 ≡ 1 → not (eqb (get_or marks j 0) 0) ≡ true
delivered_is marks j e = rw e

module _ (m : Model) (text : List ℕ) (c : Content) {marks before : List ℕ} {at k : ℕ} {rows : List ℕ} where
  -- topics that are left out
  topics_out : (from i p d : ℕ) → i + d ≡ p → p ≤ length m.topics → ((j : ℕ) → i ≤ j → j < p → is_delivered c j ≡ false)
      → Rest m text c (topics_from from p (drop p m.topics)) marks before at k rows → Rest m text c (topics_from from i (drop i m.topics)) marks before at k rows
  topics_out from i p zero e l out r = let z : i ≡ p = omega arith in rw z r
  topics_out from i p (suc d) e l out r =
      rw (drop_next m.topics i [] (omega arith))
      (topic_out (out i (omega arith) (omega arith)) (topics_out from (i + 1) p d (omega arith) l (λ j a b. out j (omega arith) b) r))

  -- tables that are left out
  tables_out : (p from i n d : ℕ) (names : List (List ℕ)) → i + d ≡ n → n ≤ length m.tables
      → ((j : ℕ) → i ≤ j → j < n → (eqb (table_at m.tables j).topic p && is_delivered c (length m.topics + j)) ≡ false)
      → Rest m text c (tables_from p from n (drop n m.tables) names) marks before at k rows → Rest m text c (tables_from p from i (drop i m.tables) names) marks before at k rows
  tables_out p from i n zero names e l out r = let z : i ≡ n = omega arith in rw z r
  tables_out p from i n (suc d) names e l out r =
      rw (drop_next m.tables i no_table (omega arith))
      (table_out (out i (omega arith) (omega arith)) (tables_out p from (i + 1) n d names (omega arith) l (λ j a b. out j (omega arith) b) r))

and_out : (a p : ℕ) (b : Bool) → (a ≡ p → b ≡ false) → (eqb a p && b) ≡ false
and_out a p b h = by (eqb a p) refl
  where
    by : (x : Bool) → eqb a p ≡ x → (x && b) ≡ false
    by true e = h (eqb-true a p e)
    by false e = refl

-- a later topic is ahead of an earlier one
ahead_earlier : (from p n q t : ℕ) → from ≤ p → Ahead p n q t → Ahead from 0 q t
ahead_earlier from p n q t l (topic_after h) = topic_after (omega arith)
ahead_earlier from p n q t l (table_after e h) = by (ltb from p) refl
  where
    by : (x : Bool) → ltb from p ≡ x → Ahead from 0 q t
    by true y = topic_after (omega (arith, ltb-true from p y))
    by false y = table_after (omega (arith, ltb-false from p y)) (omega arith)

-- the objects and places of rows do not change when references are resolved
module _ (text : List ℕ) (os : List Object) (ts : List Table) where
  pub resolved_flat : {rs qs : List Row} → ResolvedRows text os ts rs qs → length (flat_rows qs) ≡ length (flat_rows rs)
  unfolding flat_rows
  resolved_flat nomore = refl
  resolved_flat (more {xs = xs} {ys = ys} {rs = rs} {qs = qs} r rest) =
      let a = resolved_length text os r in
      let ih = resolved_flat rest in
      let p = length-append ys (flat_rows qs) in
      let q = length-append xs (flat_rows rs) in
      omega arith

  pub resolved_starts : {rs qs : List Row} (base : ℕ) → ResolvedRows text os ts rs qs → row_starts base qs ≡ row_starts base rs
  unfolding row_starts
  resolved_starts base nomore = refl
  resolved_starts base (more {t = t} {start = start} {size = size} {xs = xs} {ys = ys} {rs = rs} {qs = qs} r rest) =
      let z : length (row_cells (record { table = t; start = start; size = size; pairs = ys })) ≡ length (row_cells (record { table = t; start = start; size = size; pairs = xs })) =
      (let a = resolved_length text os r in omega arith) in
      rw z (ap (λ (l : List ℕ). base ∷ l) (resolved_starts _ rest))

  pub resolved_objects : {rs qs : List Row} → ResolvedRows text os ts rs qs → objects_of_rows text qs ≡ objects_of_rows text rs
  unfolding objects_of_rows
  resolved_objects nomore = refl
  resolved_objects (more r rest) = rw (resolved_objects rest)

  resolved_append : {rs qs rs' qs' : List Row} → ResolvedRows text os ts rs qs → ResolvedRows text os ts rs' qs' → ResolvedRows text os ts (rs ++ rs') (qs ++ qs')
  resolved_append nomore s = s
  resolved_append (more r rest) s = more r (resolved_append rest s)

  -- the table of the row that follows
  first_table : {rs₀ qs₀ rs qs : List Row} (r : Row) (cs : List ℤ) → ResolvedRows text os ts rs₀ qs₀ → ResolvedRows text os ts (r ∷ rs) qs → cs ≡ flat_rows qs₀ ++ flat_rows qs
      → get_or cs (length (flat_rows rs₀)) (pos 0) ≡ pos r.table
  unfolding flat_rows
  first_table {qs₀ = qs₀} r cs before (more {t = t} {start = start} {size = size} {ys = ys} {qs = qs} s rest) e =
      rw (e, ← resolved_flat before) (table_at_lem (flat_rows qs₀) (record { table = t; start = start; size = size; pairs = ys }) (flat_rows qs))

module _ (m : Model) (good : GoodModel m) (rooms : Rooms) (text : List ℕ) (final : State) (complete : final.due ≡ nothing) (cs : List ℤ) where
  abbrev pub os : List Object
  os = objects_of text final.content.cells final.content.rows

  -- the table that is read, its references resolved
  abbrev pub table : Content
  table = record { marks = final.content.marks; rows = final.content.rows; cells = cs; points = final.content.points }

  pub record Fine (a : Next) (marks : List ℕ) (rs₀ : List Row) (points : List ℤ) (k : ℕ) : Type 0 where
    pub rs : List Row
    pub rows : final.content.rows ≡ row_starts 0 (rs₀ ++ rs)
    pub cells : final.content.cells ≡ flat_rows (rs₀ ++ rs)
    pub long : AllLong text os m.tables rs
    pub others : List ℤ
    pub points' : final.content.points ≡ points ++ others
    pub kept_topics : (j : ℕ) → j < topic_bound m a → j < topic_count m → get_or final.content.marks j 0 ≡ get_or marks j 0
    pub kept_tables : (t : ℕ) → t < length m.tables → Passed (in_topic m a) (table_bound m a) (topic_of m t) t
        → get_or final.content.marks (topic_count m + t) 0 ≡ get_or marks (topic_count m + t) 0
    pub first : FirstAhead m (in_topic m a) (row_bound m a) rs
    pub rest : (qs₀ qs : List Row) → ResolvedRows text os m.tables rs₀ qs₀ → ResolvedRows text os m.tables rs qs → cs ≡ flat_rows qs₀ ++ flat_rows qs
        → lent_objects text cs final.content.rows ≡ os
        → Rest m text table (place_of m a) marks (row_starts 0 rs₀) (length (flat_rows rs₀)) k (row_starts (length (flat_rows rs₀)) rs)

  not_complete : (s : State) → (s.due ≡ nothing → ⊥) → ran s ≡ ran final → ⊥
  not_complete s h e = let q : s ≡ final = cc in h (rw q complete)

  -- behind EMOD: ENDE, and nothing
  nothing_end : (ls : List (List ℕ)) (line start : ℕ) (c : Content) → run m rooms text (record { line = line; start = start; due = nothing; content = c }) ls ≡ ran final → final.content ≡ c
  unfolding run line_due
  nothing_end [] line start c e = let q : record { line = line; start = start; due = nothing; content = c } ≡ final = cc in rw (← q)
  nothing_end (l ∷ ls) line start c e =
      let f = first_step m rooms text l ls (record { line = line; start = start; due = nothing; content = c }) final e in
      absurd (no_go 7 1 f.due f.content f.goes)

  closing_nothing : closing ≡ nothing → ⊥
  closing_nothing h = let z : ◌≡◌ {A = ℕ} 0 1 = cc in omega arith

  closing_end : (ls : List (List ℕ)) (line start : ℕ) (c : Content) → run m rooms text (record { line = line; start = start; due = closing; content = c }) ls ≡ ran final → final.content ≡ c
  unfolding run line_due
  closing_end [] line start c e = absurd (not_complete (record { line = line; start = start; due = closing; content = c }) closing_nothing e)
  closing_end (l ∷ ls) line start c e =
      let f = first_step m rooms text l ls (record { line = line; start = start; due = closing; content = c }) final e in
      let g = closing_step m rooms text (fields_of start l) c f.due f.content f.goes in
      let d : f.due ≡ nothing = cc in
      let x : f.content ≡ c = cc in
      nothing_end ls (line + 1) (start + length l + 1) c (subst (λ (y : Content). run m rooms text (record { line = line + 1; start = start + length l + 1; due = nothing; content = y }) ls ≡ ran final) x
      (subst (λ (y : Due). run m rooms text (record { line = line + 1; start = start + length l + 1; due = y; content = f.content }) ls ≡ ran final) d f.runs))

  abbrev pub so_far : List ℕ → List Row → List ℤ → Content
  so_far marks rs₀ points = record { marks = marks; rows = row_starts 0 rs₀; cells = flat_rows rs₀; points = points }

  -- ## EMOD

  fine_end : (from : ℕ) (marks : List ℕ) (rs₀ : List Row) (points : List ℤ) (k : ℕ) → final.content ≡ so_far marks rs₀ points → Unmarked m (topic_next from) marks → 4 * k ≡ length points
      → Fine (topic_next from) marks rs₀ points k
  unfolding topic_bound in_topic table_bound row_bound place_of row_starts flat_rows
  fine_end from marks rs₀ points k e un count =
      let marks-e : final.content.marks ≡ marks = ap (λ (c : Content). c.marks) e in
      let rows-e : final.content.rows ≡ row_starts 0 rs₀ = ap (λ (c : Content). c.rows) e in
      let points-e : final.content.points ≡ points = ap (λ (c : Content). c.points) e in
      let among : from ≤ topic_count m = un.among in
      record {
        rs = [];
        rows = rw (append-nil rs₀) rows-e;
        cells = rw (append-nil rs₀) (ap (λ (c : Content). c.cells) e);
        long = tt;
        others = [];
        points' = points-e ∙ sym (append-nil points);
        kept_topics = λ j l n. ap (λ (x : List ℕ). get_or x j 0) marks-e;
        kept_tables = λ t l p. ap (λ (x : List ℕ). get_or x (topic_count m + t) 0) marks-e;
        first = tt;
        rest = λ qs₀ qs r s c same.
            topics_out m text table from from (topic_count m) (topic_count m - from) (omega arith) (omega arith)
            (λ j a b. delivered_not final.content.marks j (ap (λ (x : List ℕ). get_or x j 0) marks-e ∙ un.topics j a b))
            (rw (drop_of_length-le m.topics {i = topic_count m} (omega arith))
            (finished (sym marks-e) (sym rows-e) (last_cell qs₀ qs r s c) (count ∙ ap length (sym points-e))));
      }
    where
      last_cell : {rs₀ : List Row} (qs₀ qs : List Row) → ResolvedRows text os m.tables rs₀ qs₀ → ResolvedRows text os m.tables [] qs → cs ≡ flat_rows qs₀ ++ flat_rows qs → length (flat_rows rs₀) ≡ length cs
      last_cell qs₀ _ r nomore c = rw (c, append-nil (flat_rows qs₀)) (sym (resolved_flat text os m.tables r))

  -- ## TOPI

  fine_topic : (from p : ℕ) (name : List ℕ) (marks : List ℕ) (rs₀ : List Row) (points : List ℤ) (k : ℕ) → TopicFound from 0 name m.topics p → Unmarked m (topic_next from) marks
      → Fine (table_next p 0) (set marks p 1) rs₀ points k → Fine (topic_next from) marks rs₀ points k
  unfolding topic_bound in_topic table_bound row_bound place_of
  fine_topic from p name marks rs₀ points k f un q =
      let after : from ≤ p = f.after in
      let size = f.size in
      let size-m = un.size in
      let below : p < topic_count m = omega arith in
      let same-p : p - 0 ≡ p = omega arith in
      let own : find_topic from 0 (get_or m.topics p []) m.topics ≡ found p = rw same-p at f.own in
      let kept : (j : ℕ) → j < from → j < topic_count m → get_or final.content.marks j 0 ≡ get_or marks j 0 =
      λ j a b. q.kept_topics j (omega arith) b ∙ get_or-set_other marks p j 1 0 (λ z. omega arith) in
      let none : (j : ℕ) → from ≤ j → j < p → get_or final.content.marks j 0 ≡ 0 =
      λ j a b. q.kept_topics j (omega arith) (omega arith) ∙ (get_or-set_other marks p j 1 0 (λ z. omega arith) ∙ un.topics j a (omega arith)) in
      let this : get_or final.content.marks p 0 ≡ 1 = q.kept_topics p (omega arith) below ∙ get_or-set_same marks p 1 0 (omega arith) in
      record {
        rs = q.rs;
        rows = q.rows;
        cells = q.cells;
        long = q.long;
        others = q.others;
        points' = q.points';
        kept_topics = kept;
        kept_tables = λ t l a. q.kept_tables t l (passed_later t a) ∙ get_or-set_other marks p (topic_count m + t) 1 0 (λ z. omega arith);
        first = first_later q.rs q.first;
        rest = λ qs₀ qs r s c same.
            topics_out m text table from from p (p - from) (omega arith) (omega arith) (λ j a b. delivered_not final.content.marks j (none j a b))
            (rw (drop_next m.topics p [] below) (topic_in (delivered_is final.content.marks p this) (topic_solid m good p below) own (q.rest qs₀ qs r s c same)));
      }
    where
      passed_later : (t : ℕ) → Passed from 0 (topic_of m t) t → Passed p 0 (topic_of m t) t
      passed_later t (topic_before h) = topic_before (omega (arith, f.after))
      passed_later t (table_before e h) = absurd (omega arith)

      first_later : (rs : List Row) → FirstAhead m p 0 rs → FirstAhead m from 0 rs
      first_later [] h = tt
      first_later (r ∷ rs) h = ahead_earlier from p 0 _ _ f.after h

  -- ## ETOP

  -- the rows that follow are of later topics, or of later tables
  behind_topic_lem : (p : ℕ) (rs₀ qs₀ rs qs : List Row) → ResolvedRows text os m.tables rs₀ qs₀ → ResolvedRows text os m.tables rs qs → cs ≡ flat_rows qs₀ ++ flat_rows qs → FirstAhead m (p + 1) 0 rs
      → rows_behind_topic m.tables p cs (row_starts (length (flat_rows rs₀)) rs) ≡ row_starts (length (flat_rows rs₀)) rs
  unfolding row_starts rows_behind_topic choose
  behind_topic_lem p rs₀ qs₀ [] qs r s c h = refl
  behind_topic_lem p rs₀ qs₀ (x ∷ rs) qs r s c h =
      rw (first_table text os m.tables x cs r s c, ne_eqb (topic_of m x.table) p (λ e. later e h))
    where
      later : topic_of m x.table ≡ p → Ahead (p + 1) 0 (topic_of m x.table) x.table → ⊥
      later e (topic_after l) = omega arith
      later e (table_after z l) = omega arith

  fine_topic_end : (p from : ℕ) (marks : List ℕ) (rs₀ : List Row) (points : List ℤ) (k : ℕ) → mandatory_between p from (length m.tables) 0 m.tables ≡ false → Unmarked m (table_next p from) marks
      → Fine (topic_next (p + 1)) marks rs₀ points k → Fine (table_next p from) marks rs₀ points k
  unfolding topic_bound in_topic table_bound row_bound place_of
  fine_topic_end p from marks rs₀ points k g un q =
      let within : from ≤ length m.tables = un.within in
      record {
        rs = q.rs;
        rows = q.rows;
        cells = q.cells;
        long = q.long;
        others = q.others;
        points' = q.points';
        kept_topics = q.kept_topics;
        kept_tables = λ t l a. q.kept_tables t l (passed_later t a);
        first = first_later q.rs q.first;
        rest = λ qs₀ qs r s c same.
            tables_out m text table p from from (length m.tables) (length m.tables - from) (drop (p + 1) m.topics) (omega arith) (omega arith)
            (λ j a b. and_out (topic_of m j) p _ (λ e. delivered_not final.content.marks (topic_count m + j)
            (q.kept_tables j b (topic_before (omega arith)) ∙ un.tables j b (table_after e a))))
            (rw (drop_of_length-le m.tables {i = length m.tables} (omega arith))
            (topic_end g (behind_topic_lem p rs₀ qs₀ q.rs qs r s c q.first) (q.rest qs₀ qs r s c same)));
      }
    where
      passed_later : (t : ℕ) → Passed p from (topic_of m t) t → Passed (p + 1) 0 (topic_of m t) t
      passed_later t (topic_before h) = topic_before (omega arith)
      passed_later t (table_before e h) = topic_before (omega arith)

      first_later : (rs : List Row) → FirstAhead m (p + 1) 0 rs → FirstAhead m p from rs
      first_later [] h = tt
      first_later (r ∷ rs) (topic_after h) = topic_after (omega arith)
      first_later (r ∷ rs) (table_after e h) = topic_after (omega arith)

  -- ## TABL

  fine_table : (p from t : ℕ) (name : List ℕ) (marks : List ℕ) (rs₀ : List Row) (points : List ℤ) (k : ℕ) → TableFound p from 0 name m.tables t → mandatory_between p from t 0 m.tables ≡ false
      → Unmarked m (table_next p from) marks → Fine (object_next t) (set marks (topic_count m + t) 1) rs₀ points k → Fine (table_next p from) marks rs₀ points k
  unfolding topic_bound in_topic table_bound row_bound place_of
  fine_table p from t name marks rs₀ points k f g un q =
      let after : from ≤ t = f.after in
      let size = f.size in
      let size-m = un.size in
      let below : t < length m.tables = omega arith in
      let same-t : t - 0 ≡ t = omega arith in
      let topic : topic_of m t ≡ p = rw same-t at f.in_topic in
      let own : find_table p from 0 (table_at m.tables t).name m.tables ≡ found t = rw same-t at f.own in
      let i : ℕ = topic_count m + t in
      let this : get_or final.content.marks i 0 ≡ 1 = q.kept_tables t below (table_before refl (omega arith)) ∙ get_or-set_same marks i 1 0 (omega arith) in
      record {
        rs = q.rs;
        rows = q.rows;
        cells = q.cells;
        long = q.long;
        others = q.others;
        points' = q.points';
        kept_topics = λ j l n. q.kept_topics j (omega arith) n ∙ get_or-set_other marks i j 1 0 (λ z. omega arith);
        kept_tables = λ j l a. q.kept_tables j l (passed_later topic j a) ∙ get_or-set_other marks i (topic_count m + j) 1 0 (λ z. not_this topic j a (omega arith));
        first = first_later topic q.rs q.first;
        rest = λ qs₀ qs r s c same.
            tables_out m text table p from from t (t - from) (drop (p + 1) m.topics) (omega arith) (omega arith)
            (λ j a b. and_out (topic_of m j) p _ (λ e. delivered_not final.content.marks (topic_count m + j)
            (q.kept_tables j (omega arith) (table_before (e ∙ sym topic) (omega arith))
            ∙ (get_or-set_other marks i (topic_count m + j) 1 0 (λ z. omega arith) ∙ un.tables j (omega arith) (table_after e a)))))
            (rw (drop_next m.tables t no_table below)
            (table_in {p = p} {n = t} {table = table_at m.tables t} (rw (eq-eqb (topic_of m t) p topic, delivered_is final.content.marks i this)) refl (table_solid m good t below) own g
            (subst (λ (x : ℕ). Rest m text table (objects x t (drop (t + 1) m.tables) (drop (x + 1) m.topics)) (set marks i 1) (row_starts 0 rs₀) (length (flat_rows rs₀)) k
            (row_starts (length (flat_rows rs₀)) q.rs)) topic (q.rest qs₀ qs r s c same))));
      }
    where
      passed_later : topic_of m t ≡ p → (j : ℕ) → Passed p from (topic_of m j) j → Passed (topic_of m t) (t + 1) (topic_of m j) j
      passed_later e j (topic_before h) = topic_before (omega arith)
      passed_later e j (table_before z h) = table_before (z ∙ sym e) (omega (arith, f.after))

      not_this : topic_of m t ≡ p → (j : ℕ) → Passed p from (topic_of m j) j → j ≡ t → ⊥
      not_this e j (topic_before h) z = let same-topic : topic_of m j ≡ p = rw z e in omega arith
      not_this e j (table_before y h) z = omega (arith, f.after)

      first_later : topic_of m t ≡ p → (rs : List Row) → FirstAhead m (topic_of m t) t rs → FirstAhead m p from rs
      first_later e [] h = tt
      first_later e (r ∷ rs) (topic_after h) = topic_after (omega arith)
      first_later e (r ∷ rs) (table_after z h) = table_after (z ∙ e) (omega (arith, f.after))

  -- ## ETAB

  no_more_rows : (t : ℕ) (rs₀ qs₀ rs qs : List Row) → ResolvedRows text os m.tables rs₀ qs₀ → ResolvedRows text os m.tables rs qs → cs ≡ flat_rows qs₀ ++ flat_rows qs
      → FirstAhead m (topic_of m t) (t + 1) rs
      → (rows_of_table t cs (row_starts (length (flat_rows rs₀)) rs) ≡ []) × (rows_behind_table t cs (row_starts (length (flat_rows rs₀)) rs) ≡ row_starts (length (flat_rows rs₀)) rs)
  unfolding row_starts rows_of_table rows_behind_table choose
  no_more_rows t rs₀ qs₀ [] qs r s c h = (refl, refl)
  no_more_rows t rs₀ qs₀ (x ∷ rs) qs r s c h =
      let e = first_table text os m.tables x cs r s c in
      let other = ne_eqb x.table t (λ z. later z h) in
      (rw (e, other), rw (e, other))
    where
      later : x.table ≡ t → Ahead (topic_of m t) (t + 1) (topic_of m x.table) x.table → ⊥
      later e (topic_after l) = let same-topic : topic_of m x.table ≡ topic_of m t = rw e in omega arith
      later e (table_after z l) = omega arith

  fine_table_end : (t : ℕ) (marks : List ℕ) (rs₀ : List Row) (points : List ℤ) (k : ℕ) → Fine (table_next (topic_of m t) (t + 1)) marks rs₀ points k → Fine (object_next t) marks rs₀ points k
  unfolding topic_bound in_topic table_bound row_bound place_of
  fine_table_end t marks rs₀ points k q =
      record {
        rs = q.rs;
        rows = q.rows;
        cells = q.cells;
        long = q.long;
        others = q.others;
        points' = q.points';
        kept_topics = q.kept_topics;
        kept_tables = q.kept_tables;
        first = first_later q.rs q.first;
        rest = λ qs₀ qs r s c same.
            let none = no_more_rows t rs₀ qs₀ q.rs qs r s c q.first in
            table_end refl none.0 none.1 (q.rest qs₀ qs r s c same);
      }
    where
      first_later : (rs : List Row) → FirstAhead m (topic_of m t) (t + 1) rs → FirstAhead m (topic_of m t) t rs
      first_later [] h = tt
      first_later (r ∷ rs) (topic_after h) = topic_after h
      first_later (r ∷ rs) (table_after e h) = table_after e (omega arith)

  -- ## OBJE

  given_length : {u : ℕ} {before : Bool} {ps : List Pair} {xs : List ℤ} → Given u text before ps xs → length xs ≡ 2 * length ps
  given_length given.done = refl
  given_length (given.absent g) = let ih = given_length g in omega arith
  given_length (given.present f a b s st v g) = let ih = given_length g in omega arith
  given_length (given.without g) = let ih = given_length g in omega arith
  given_length (given.along w g) = let ih = given_length g in omega arith
  given_length (given.line g) = let ih = given_length g in omega arith

  drawing_length : {u k k' : ℕ} {ps : List Pair} {xs ys points : List ℤ} → Drawing u k ps xs ys points k' → length ys ≡ length xs
  drawing_length lines.stop = refl
  drawing_length (lines.attribute d) = let ih = drawing_length d in omega arith
  drawing_length (lines.component d) = let ih = drawing_length d in omega arith
  drawing_length (lines.undrawn d) = let ih = drawing_length d in omega arith
  drawing_length (lines.drawn n these p l d) = let ih = drawing_length d in omega arith

  drawing_count : {u k k' : ℕ} {ps : List Pair} {xs ys points : List ℤ} → Drawing u k ps xs ys points k' → 4 * k' ≡ 4 * k + length points
  drawing_count lines.stop = omega arith
  drawing_count (lines.attribute d) = drawing_count d
  drawing_count (lines.component d) = drawing_count d
  drawing_count (lines.undrawn d) = drawing_count d
  drawing_count (lines.drawn {points = points} n these p l d) = let ih = drawing_count d in let z = length-append these points in omega arith

  -- the second field, and those behind it
  record SecondField (fs : List Field) : Type 0 where
    stands : stretch text (field_at 2 fs).start (length (field_at 2 fs).bytes) ≡ (field_at 2 fs).bytes
    is : Solid (field_at 2 fs).bytes
    others_stand : AllStand text (drop 2 fs)
    others_are : AllAre (drop 2 fs)

  second_field : (fs : List Field) → more_than 1 fs ≡ true → AllStand text fs → AllAre fs → SecondField fs
  second_field [] e st are = absurd (omega (arith, ltb-true 1 0 e))
  second_field (f ∷ []) e st are = absurd (omega (arith, ltb-true 1 1 e))
  second_field (f ∷ (g ∷ fs)) e st are = record { stands = st.1.0; is = are.1.0; others_stand = st.1.1; others_are = are.1.1 }

  -- what is known of an object that is read
  record ObjectRead (t k k' : ℕ) (rs₀ : List Row) (i : Field) (ys points_before these : List ℤ) : Type 0 where
    stands : stretch text i.start (length i.bytes) ≡ i.bytes
    identification : IdentificationOk m.undefined i.bytes
    fresh : is_used i.bytes (objects_of text (flat_rows rs₀) (row_starts 0 rs₀)) ≡ false
    xs : List ℤ
    given' : Given m.undefined text true (pairs_of (table_at m.tables t).attributes) xs
    drawing : Drawing m.undefined k (pairs_of (table_at m.tables t).attributes) xs ys these k'
    count : 4 * k ≡ length points_before

  abbrev row_of : ℕ → Field → List ℤ → Row
  row_of t i ys = record { table = t; start = i.start; size = length i.bytes; pairs = ys }

  module _ (t k k' : ℕ) (rs₀ : List Row) (i : Field) (ys points these : List ℤ) (o : ObjectRead t k k' rs₀ i ys points these) (more_points : List ℤ)
      (all-points : final.content.points ≡ points ++ (these ++ more_points)) (qs₀ : List Row) (before : ResolvedRows text os m.tables rs₀ qs₀) (zs : List ℤ) (qs : List Row)
      (to : ResolvedTo text os (pairs_of (table_at m.tables t).attributes) ys zs) (e : cs ≡ flat_rows qs₀ ++ (row_cells (row_of t i zs) ++ flat_rows qs))
      (same : lent_objects text cs final.content.rows ≡ os) where
    at_e : length (flat_rows qs₀) ≡ length (flat_rows rs₀)
    at_e = resolved_flat text os m.tables before

    there : identification_bytes text cs (length (flat_rows rs₀)) ≡ i.bytes
    there = rw (e, ← at_e) (row_identification text (flat_rows qs₀) (row_of t i zs) (flat_rows qs) ∙ o.stands)

    fresh_there : is_used i.bytes (lent_objects text cs (row_starts 0 rs₀)) ≡ false
    fresh_there =
        let lent : lent_objects text cs (row_starts 0 rs₀) ≡ objects_of_rows text rs₀ =
        rw (e, ← resolved_starts text os m.tables 0 before) (lent_flat text qs₀ [] (row_cells (row_of t i zs) ++ flat_rows qs) ∙ resolved_objects text os m.tables before) in
        let read : objects_of text (flat_rows rs₀) (row_starts 0 rs₀) ≡ objects_of_rows text rs₀ = rw (append-nil (flat_rows rs₀)) at (objects_flat text rs₀ [] []) in
        rw lent (rw read at o.fresh)

    pairs_there : drop (length (flat_rows rs₀) + 3) cs ≡ zs ++ flat_rows qs
    pairs_there = rw (e, ← at_e) (drop-append-add (flat_rows qs₀) (row_cells (row_of t i zs) ++ flat_rows qs) 3)

    points_there : drop (4 * k) final.content.points ≡ these ++ more_points
    points_there = rw (all-points, o.count) (drop-append_seam points (these ++ more_points))

    room_there : length (flat_rows rs₀) + (3 + 2 * length (pairs_of (table_at m.tables t).attributes)) ≤ length cs
    room_there =
        let a = at_e in
        let b : length zs ≡ 2 * length (pairs_of (table_at m.tables t).attributes) = resolved_length text os to ∙ (drawing_length o.drawing ∙ given_length o.given') in
        let d = ap length e ∙ length-append (flat_rows qs₀) (row_cells (row_of t i zs) ++ flat_rows qs) in
        let f = length-append zs (flat_rows qs) in
        omega arith

    object_fine : ObjectOk m text table t (row_starts 0 rs₀) (length (flat_rows rs₀)) k k'
    object_fine = record {
      table = rw (e, ← at_e) (table_at_lem (flat_rows qs₀) (row_of t i zs) (flat_rows qs));
      size = rw there (rw (e, ← at_e) (size_at (flat_rows qs₀) (row_of t i zs) (flat_rows qs)));
      identification = rw there o.identification;
      fresh = rw there fresh_there;
      row = rw pairs_there (row_ok m.undefined text table good.undefined os same (flat_rows qs) (pairs_good m good t) o.given' o.drawing to more_points points_there);
      room = room_there;
    }

  object_rest : (t k k' : ℕ) (marks : List ℕ) (rs₀ rs : List Row) (i : Field) (ys points these more_points : List ℤ) → ObjectRead t k k' rs₀ i ys points these
      → final.content.points ≡ points ++ (these ++ more_points) →
      ((qs₀ qs : List Row) → ResolvedRows text os m.tables (rs₀ ++ (row_of t i ys ∷ [])) qs₀ → ResolvedRows text os m.tables rs qs → cs ≡ flat_rows qs₀ ++ flat_rows qs
      → lent_objects text cs final.content.rows ≡ os
      → Rest m text table (objects (topic_of m t) t (drop (t + 1) m.tables) (drop (topic_of m t + 1) m.topics)) marks (row_starts 0 (rs₀ ++ (row_of t i ys ∷ [])))
      (length (flat_rows (rs₀ ++ (row_of t i ys ∷ [])))) k' (row_starts (length (flat_rows (rs₀ ++ (row_of t i ys ∷ [])))) rs))
      → (qs₀ qs : List Row) → ResolvedRows text os m.tables rs₀ qs₀ → ResolvedRows text os m.tables (row_of t i ys ∷ rs) qs → cs ≡ flat_rows qs₀ ++ flat_rows qs
      → lent_objects text cs final.content.rows ≡ os
      → Rest m text table (objects (topic_of m t) t (drop (t + 1) m.tables) (drop (topic_of m t + 1) m.topics)) marks (row_starts 0 rs₀) (length (flat_rows rs₀)) k
      (row_starts (length (flat_rows rs₀)) (row_of t i ys ∷ rs))
  unfolding row_starts flat_rows
  object_rest t k k' marks rs₀ rs i ys points these more_points o all-points ih qs₀ _ before (more {ys = zs} {qs = qs} to others) e same =
      let r : Row = row_of t i ys in
      let q : Row = row_of t i zs in
      let at : ℕ = length (flat_rows rs₀) in
      let cells-e : cs ≡ flat_rows (qs₀ ++ (q ∷ [])) ++ flat_rows qs =
      e ∙ (sym (append_assoc (flat_rows qs₀) (row_cells q) (flat_rows qs)) ∙ ap (λ (l : List ℤ). l ++ flat_rows qs) (sym (flat_append qs₀ (q ∷ []) ∙ ap (λ (l : List ℤ). flat_rows qs₀ ++ l) (append-nil (row_cells q))))) in
      let next = ih (qs₀ ++ (q ∷ [])) qs (resolved_append text os m.tables before (more to nomore)) others cells-e same in
      let rows-e : row_starts 0 (rs₀ ++ (r ∷ [])) ≡ row_starts 0 rs₀ ++ (at ∷ []) = let z : 0 + at ≡ at = omega arith in rw z at (starts_append 0 rs₀ (r ∷ [])) in
      let long : length ys ≡ 2 * length (pairs_of (table_at m.tables t).attributes) = drawing_length o.drawing ∙ given_length o.given' in
      let size : length (flat_rows (rs₀ ++ (r ∷ []))) ≡ at + length (row_cells r) =
      ap length (flat_append rs₀ (r ∷ []) ∙ ap (λ (l : List ℤ). flat_rows rs₀ ++ l) (append-nil (row_cells r))) ∙ length-append (flat_rows rs₀) (row_cells r) in
      let size' : at + length (row_cells r) ≡ at + (3 + 2 * length (pairs_of (table_at m.tables t).attributes)) = omega arith in
      let next' : Rest m text table (objects (topic_of m t) t (drop (t + 1) m.tables) (drop (topic_of m t + 1) m.topics)) marks (row_starts 0 rs₀ ++ (at ∷ [])) (at + length (row_cells r)) k'
      (row_starts (at + length (row_cells r)) rs) = rw (rows-e, size) at next in
      object (object_fine t k k' rs₀ i ys points these o more_points all-points qs₀ before zs qs to e same) refl
      (subst (λ (n : ℕ). Rest m text table (objects (topic_of m t) t (drop (t + 1) m.tables) (drop (topic_of m t + 1) m.topics)) marks (row_starts 0 rs₀ ++ (at ∷ [])) n k'
      (row_starts (at + length (row_cells r)) rs)) size' next')

  fine_object : (t k k' : ℕ) (marks : List ℕ) (rs₀ : List Row) (i : Field) (ys points these : List ℤ) → ObjectRead t k k' rs₀ i ys points these
      → Fine (object_next t) marks (rs₀ ++ (row_of t i ys ∷ [])) (points ++ these) k' → Fine (object_next t) marks rs₀ points k
  unfolding topic_bound in_topic table_bound row_bound place_of
  fine_object t k k' marks rs₀ i ys points these o q =
      let all-points : final.content.points ≡ points ++ (these ++ q.others) = q.points' ∙ append_assoc points these q.others in
      let long : length ys ≡ 2 * length (pairs_of (table_at m.tables t).attributes) = drawing_length o.drawing ∙ given_length o.given' in
      record {
        rs = row_of t i ys ∷ q.rs;
        rows = q.rows ∙ ap (row_starts 0) (append_assoc rs₀ (row_of t i ys ∷ []) q.rs);
        cells = q.cells ∙ ap flat_rows (append_assoc rs₀ (row_of t i ys ∷ []) q.rs);
        long = (long, q.long);
        others = these ++ q.others;
        points' = all-points;
        kept_topics = q.kept_topics;
        kept_tables = q.kept_tables;
        first = table_after refl (omega arith);
        rest = object_rest t k k' marks rs₀ q.rs i ys points these q.others o all-points q.rest;
      }

  -- ## All lines

  unfoldable FineAt : ℕ → Type 0
  FineAt n = (a : Next) (ls : List (List ℕ)) (line start : ℕ) (marks : List ℕ) (rs₀ : List Row) (points : List ℤ) (k : ℕ) → length ls ≤ n → drop start text ≡ unfolded_text ls → 4 * k ≡ length points
      → Unmarked m a marks → run m rooms text (record { line = line; start = start; due = due_of m a; content = so_far marks rs₀ points }) ls ≡ ran final → Fine a marks rs₀ points k

  due_not : (a : Next) → due_of m a ≡ nothing → ⊥
  unfolding due_of
  due_not (topic_next from) h = let z : ◌≡◌ {A = ℕ} 0 1 = cc in omega arith
  due_not (table_next p from) h = let z : ◌≡◌ {A = ℕ} 0 1 = cc in omega arith
  due_not (object_next t) h = let z : ◌≡◌ {A = ℕ} 0 1 = cc in omega arith

  topic_by : (n : ℕ) → FineAt n → (from : ℕ) (ls : List (List ℕ)) (line start : ℕ) (marks : List ℕ) (rs₀ : List Row) (points : List ℤ) (k : ℕ) → length ls ≤ n → drop start text ≡ unfolded_text ls
      → 4 * k ≡ length points → Unmarked m (topic_next from) marks → (due : Due) (c : Content) → TopicStep m from (so_far marks rs₀ points) due c
      → run m rooms text (record { line = line; start = start; due = due; content = c }) ls ≡ ran final → Fine (topic_next from) marks rs₀ points k
  unfolding FineAt due_of topic_bound in_topic table_bound
  topic_by n ih from ls line start marks rs₀ points k short stands count un _ _ emod r = fine_end from marks rs₀ points k (closing_end ls line start (so_far marks rs₀ points) r) un count
  topic_by n ih from ls line start marks rs₀ points k short stands count un _ _ (topi p name f) r =
      let t = topic_found from 0 name m.topics p f in
      let after = t.after in
      let size = t.size in
      fine_topic from p name marks rs₀ points k t un
      (ih (table_next p 0) ls line start (set marks p 1) rs₀ points k short stands count
      (record {
        size = length-set marks p 1 ∙ un.size;
        within = omega arith;
        among = omega arith;
        topics = λ j a b. get_or-set_other marks p j 1 0 (λ z. omega arith) ∙ un.topics j (omega arith) b;
        tables = λ j a b. get_or-set_other marks p (topic_count m + j) 1 0 (λ z. omega arith) ∙ un.tables j a (ahead_earlier from p 0 _ _ t.after b);
      }) r)

  table_by : (n : ℕ) → FineAt n → (p from : ℕ) (ls : List (List ℕ)) (line start : ℕ) (marks : List ℕ) (rs₀ : List Row) (points : List ℤ) (k : ℕ) → length ls ≤ n → drop start text ≡ unfolded_text ls
      → 4 * k ≡ length points → Unmarked m (table_next p from) marks → (due : Due) (c : Content) → TableStep m p from (so_far marks rs₀ points) due c
      → run m rooms text (record { line = line; start = start; due = due; content = c }) ls ≡ ran final → Fine (table_next p from) marks rs₀ points k
  unfolding FineAt due_of topic_bound in_topic table_bound
  table_by n ih p from ls line start marks rs₀ points k short stands count un _ _ (etop g) r =
      fine_topic_end p from marks rs₀ points k g un
      (ih (topic_next (p + 1)) ls line start marks rs₀ points k short stands count
      (record { size = un.size; within = omega arith; among = un.among; topics = un.topics; tables = λ j a b. un.tables j a (earlier j b) }) r)
    where
      earlier : (j : ℕ) → Ahead (p + 1) 0 (topic_of m j) j → Ahead p from (topic_of m j) j
      earlier j (topic_after h) = topic_after (omega arith)
      earlier j (table_after e h) = topic_after (omega arith)
  table_by n ih p from ls line start marks rs₀ points k short stands count un _ _ (tabl t name f g) r =
      let q = table_found p from 0 name m.tables t f in
      let after = q.after in
      let size = q.size in
      let same-t : t - 0 ≡ t = omega arith in
      let topic : topic_of m t ≡ p = rw same-t at q.in_topic in
      let among : p + 1 ≤ topic_count m = un.among in
      fine_table p from t name marks rs₀ points k q g un
      (ih (object_next t) ls line start (set marks (topic_count m + t) 1) rs₀ points k short stands count
      (record {
        size = length-set marks (topic_count m + t) 1 ∙ un.size;
        within = omega arith;
        among = omega arith;
        topics = λ j a b. get_or-set_other marks (topic_count m + t) j 1 0 (λ z. omega arith) ∙ un.topics j (omega arith) b;
        tables = λ j a b. get_or-set_other marks (topic_count m + t) (topic_count m + j) 1 0 (λ z. not_this topic j b (omega arith)) ∙ un.tables j a (earlier topic q.after j b);
      }) r)
    where
      earlier : topic_of m t ≡ p → from ≤ t → (j : ℕ) → Ahead (topic_of m t) (t + 1) (topic_of m j) j → Ahead p from (topic_of m j) j
      earlier e l j (topic_after h) = topic_after (omega arith)
      earlier e l j (table_after z h) = table_after (z ∙ e) (omega arith)

      not_this : topic_of m t ≡ p → (j : ℕ) → Ahead (topic_of m t) (t + 1) (topic_of m j) j → j ≡ t → ⊥
      not_this e j (topic_after h) z = let same-topic : topic_of m j ≡ topic_of m t = rw z in omega arith
      not_this e j (table_after y h) z = omega arith

  identification_ok : (t : ℕ) (fs : List Field) (c : Content) (xs : List ℤ) → ObjectGiven m text t fs c xs → SecondField fs → IdentificationOk m.undefined (field_at 2 fs).bytes
  unfolding is_undefined is_undefined_twice
  identification_ok t fs c xs g s = record { field = record { solid = s.is; one = g.one; two = g.two }; shape = g.shape }

  -- the state behind an object
  behind_object : (t : ℕ) (marks : List ℕ) (rs₀ : List Row) (i : Field) (ys points : List ℤ)
      → record { marks = marks; rows = row_starts 0 rs₀ ++ (length (flat_rows rs₀) ∷ []); cells = (flat_rows rs₀ ++ (pos t ∷ pos i.start ∷ pos (length i.bytes) ∷ [])) ++ ys; points = points }
      ≡ so_far marks (rs₀ ++ (row_of t i ys ∷ [])) points
  unfolding row_starts flat_rows
  behind_object t marks rs₀ i ys points =
      let r : Row = row_of t i ys in
      let rows-e : row_starts 0 (rs₀ ++ (r ∷ [])) ≡ row_starts 0 rs₀ ++ (length (flat_rows rs₀) ∷ []) =
      let z : 0 + length (flat_rows rs₀) ≡ length (flat_rows rs₀) = omega arith in rw z at (starts_append 0 rs₀ (r ∷ [])) in
      let cells-e : (flat_rows rs₀ ++ (pos t ∷ pos i.start ∷ pos (length i.bytes) ∷ [])) ++ ys ≡ flat_rows (rs₀ ++ (r ∷ [])) =
      append_assoc (flat_rows rs₀) (pos t ∷ pos i.start ∷ pos (length i.bytes) ∷ []) ys
      ∙ sym (flat_append rs₀ (r ∷ []) ∙ ap (λ (l : List ℤ). flat_rows rs₀ ++ l) (append-nil (row_cells r))) in
      ap₂ (λ (x : List ℕ) (y : List ℤ). record { marks = marks; rows = x; cells = y; points = points }) (sym rows-e) cells-e

  -- an object and what follows it
  object_then : (n : ℕ) → FineAt n → (t : ℕ) (fs : List Field) (ls : List (List ℕ)) (marks : List ℕ) (rs₀ : List Row) (points : List ℤ) (k : ℕ) (xs : List ℤ) → length ls ≤ n → 4 * k ≡ length points
      → Unmarked m (object_next t) marks → ObjectGiven m text t fs (so_far marks rs₀ points) xs → SecondField fs → Given m.undefined text true (pairs_of (table_at m.tables t).attributes) xs
      → AttributesEnd m rooms text good.undefined final complete t k (pairs_of (table_at m.tables t).attributes)
      (with_row (pos t ∷ pos (field_at 2 fs).start ∷ pos (length (field_at 2 fs).bytes) ∷ xs) (so_far marks rs₀ points))
      (flat_rows rs₀ ++ (pos t ∷ pos (field_at 2 fs).start ∷ pos (length (field_at 2 fs).bytes) ∷ [])) xs (length ls)
      → Fine (object_next t) marks rs₀ points k
  unfolding FineAt due_of
  object_then n ih t fs ls marks rs₀ points k xs short count un g s given' e =
      fine_object t k e.k' marks rs₀ (field_at 2 fs) e.ys points e.points
      (record { stands = s.stands; identification = identification_ok t fs (so_far marks rs₀ points) xs g s; fresh = g.fresh; xs = xs; given' = given'; drawing = e.drawing; count = count })
      (ih (object_next t) e.at.others e.at.line e.at.start marks (rs₀ ++ (row_of t (field_at 2 fs) e.ys ∷ [])) (points ++ e.points) e.k'
      (let shorter = e.at.shorter in omega arith) e.at.stands (drawing_count e.drawing ∙ (rw (length-append points e.points) (omega arith))) un runs')
    where
      runs' : run m rooms text (record { line = e.at.line; start = e.at.start; due = object_of t; content = so_far marks (rs₀ ++ (row_of t (field_at 2 fs) e.ys ∷ [])) (points ++ e.points) }) e.at.others
          ≡ ran final
      runs' = subst (λ (c : Content). run m rooms text (record { line = e.at.line; start = e.at.start; due = object_of t; content = c }) e.at.others ≡ ran final)
          (behind_object t marks rs₀ (field_at 2 fs) e.ys (points ++ e.points)) e.at.runs

  object_by : (n : ℕ) → FineAt n → (t : ℕ) (fs : List Field) → AllStand text fs → AllAre fs → (ls : List (List ℕ)) (line start : ℕ) (marks : List ℕ) (rs₀ : List Row) (points : List ℤ) (k : ℕ) → length ls ≤ n
      → drop start text ≡ unfolded_text ls → 4 * k ≡ length points → Unmarked m (object_next t) marks → (due : Due) (c : Content) → ObjectStep m text t fs (so_far marks rs₀ points) due c
      → run m rooms text (record { line = line; start = start; due = due; content = c }) ls ≡ ran final → Fine (object_next t) marks rs₀ points k
  unfolding FineAt due_of topic_bound in_topic table_bound
  object_by n ih t fs st are ls line start marks rs₀ points k short stands count un _ _ etab r =
      fine_table_end t marks rs₀ points k
      (ih (table_next (topic_of m t) (t + 1)) ls line start marks rs₀ points k short stands count
      (record { size = un.size; within = un.within; among = un.among; topics = un.topics; tables = un.tables }) r)
  object_by n ih t fs st are ls line start marks rs₀ points k short stands count un _ _ (obje xs g) r =
      object_then n ih t fs ls marks rs₀ points k xs short count un g s given'
      (object_ends m rooms text good.undefined final complete ls (pairs_of (table_at m.tables t).attributes) t k line start
      (with_row (pos t ∷ pos (field_at 2 fs).start ∷ pos (length (field_at 2 fs).bytes) ∷ xs) (so_far marks rs₀ points)) (flat_rows rs₀ ++ head) xs
      (lines_good (pairs_of (table_at m.tables t).attributes) (pairs_good m good t)) (given_length given') (sym (append_assoc (flat_rows rs₀) head xs)) count stands (rw at (rw points_k at r)))
    where
      head : List ℤ
      head = pos t ∷ pos (field_at 2 fs).start ∷ pos (length (field_at 2 fs).bytes) ∷ []

      s : SecondField fs
      s = second_field fs g.more st are

      given' : Given m.undefined text true (pairs_of (table_at m.tables t).attributes) xs
      given' = pairs_given m.undefined text true 3 (pairs_of (table_at m.tables t).attributes) (drop 2 fs) xs s.others_are s.others_stand g.pairs

      at : length (flat_rows rs₀ ++ head) ≡ length (flat_rows rs₀) + 3
      at = length-append (flat_rows rs₀) head

      points_k : length points / 4 ≡ k
      points_k = omega arith

  fine : (n : ℕ) → FineAt n
  unfolding FineAt run due_of line_due
  fine zero a [] line start marks rs₀ points k short stands count un r =
      absurd (not_complete (record { line = line; start = start; due = due_of m a; content = so_far marks rs₀ points }) (due_not a) r)
  fine zero a (l ∷ ls) line start marks rs₀ points k short stands count un r = absurd (omega arith)
  fine (suc n) a [] line start marks rs₀ points k short stands count un r =
      absurd (not_complete (record { line = line; start = start; due = due_of m a; content = so_far marks rs₀ points }) (due_not a) r)
  fine (suc n) a (l ∷ ls) line start marks rs₀ points k short stands count un r =
      by a un (first_step m rooms text l ls (record { line = line; start = start; due = due_of m a; content = so_far marks rs₀ points }) final r) (fine n)
    where
      by : (a : Next) → Unmarked m a marks → FirstStep m rooms text l ls (record { line = line; start = start; due = due_of m a; content = so_far marks rs₀ points }) final → FineAt n
          → Fine a marks rs₀ points k
      by (topic_next from) un f ih =
          topic_by n ih from ls (line + 1) (start + length l + 1) marks rs₀ points k (omega arith) (text_behind text start l ls stands) count un f.due f.content
          (topic_step m rooms text from (fields_of start l) (so_far marks rs₀ points) f.due f.content f.goes) f.runs
      by (table_next p from) un f ih =
          table_by n ih p from ls (line + 1) (start + length l + 1) marks rs₀ points k (omega arith) (text_behind text start l ls stands) count un f.due f.content
          (table_step m rooms text p from (fields_of start l) (so_far marks rs₀ points) f.due f.content f.goes) f.runs
      by (object_next t) un f ih =
          object_by n ih t (fields_of start l) (line_stands text start l ls stands) (fields_are_lem start l) ls (line + 1) (start + length l + 1) marks rs₀ points k (omega arith)
          (text_behind text start l ls stands) count un f.due f.content (object_step m rooms text t (fields_of start l) (so_far marks rs₀ points) f.due f.content f.goes) f.runs

  -- ## The first lines

  abbrev pub no_marks : List ℕ
  no_marks = replicate (topic_count m + length m.tables) 0

  none_marked : Unmarked m (topic_next 0) no_marks
  unfolding table_bound topic_bound
  none_marked = record {
    size = length-replicate (topic_count m + length m.tables) 0;
    within = omega arith;
    among = omega arith;
    topics = λ j a b. get_or-replicate (topic_count m + length m.tables) j 0 0 (omega arith);
    tables = λ t a b. get_or-replicate (topic_count m + length m.tables) (topic_count m + t) 0 0 (omega arith);
  }

  abbrev pub Begun : Type 0
  Begun = Fine (topic_next 0) no_marks [] [] 0

  -- a state with nothing read
  abbrev pub at_first : ℕ → ℕ → Due → State
  at_first line start due = record { line = line; start = start; due = due; content = so_far no_marks [] [] }

  -- a line that only changes what is due
  on : (due due' : Due) (c c' : Content) (line start : ℕ) (ls : List (List ℕ)) → go due c ≡ go due' c' → run m rooms text (record { line = line; start = start; due = due'; content = c' }) ls ≡ ran final
      → run m rooms text (record { line = line; start = start; due = due; content = c }) ls ≡ ran final
  on due due' c c' line start ls e r = told_of (λ d x. run m rooms text (record { line = line; start = start; due = d; content = x }) ls ≡ ran final) due' due c' c (sym e) r

  model_begun : (ls : List (List ℕ)) (line start : ℕ) → drop start text ≡ unfolded_text ls → run m rooms text (at_first line start model_name) ls ≡ ran final → Begun
  unfolding run line_due model_line named row_starts flat_rows FineAt due_of
  model_begun [] line start stands e = absurd (not_complete (at_first line start model_name) (λ h. let z : ◌≡◌ {A = ℕ} 0 1 = cc in omega arith) e)
  model_begun (l ∷ ls) line start stands e =
      let f = first_step m rooms text l ls (at_first line start model_name) final e in
      let d = f.due in
      let c = f.content in
      let g = (passed _ _ _ _ (no_go 11 3 d c) (passed _ _ _ _ (no_go 9 2 d c) (passed _ _ _ _ (no_go 11 2 d c) (passed _ _ _ _ (no_go 7 1 d c) f.goes).1).1).1).1 in
      fine (length ls) (topic_next 0) ls (line + 1) (start + length l + 1) no_marks [] [] 0 (omega arith) (text_behind text start l ls stands) refl none_marked
      (first_due (line + 1) (start + length l + 1) ls (on (topic_from 0) d _ c (line + 1) (start + length l + 1) ls g f.runs))
    where
      first_due : (line start : ℕ) (ls : List (List ℕ)) → run m rooms text (at_first line start (topic_from 0)) ls ≡ ran final → run m rooms text (at_first line start (due_of m (topic_next 0))) ls ≡ ran final
      first_due line start ls h = h

  transfer_begun : (ls : List (List ℕ)) (line start : ℕ) → drop start text ≡ unfolded_text ls → run m rooms text (at_first line start transfer) ls ≡ ran final → Begun
  unfolding run line_due transfer_line named row_starts flat_rows
  transfer_begun [] line start stands e = absurd (not_complete (at_first line start transfer) (λ h. let z : ◌≡◌ {A = ℕ} 0 1 = cc in omega arith) e)
  transfer_begun (l ∷ ls) line start stands e =
      let f = first_step m rooms text l ls (at_first line start transfer) final e in
      let d = f.due in
      let c = f.content in
      let g = (passed _ _ _ _ (no_go 11 3 d c) (passed _ _ _ _ (no_go 9 2 d c) (passed _ _ _ _ (no_go 11 2 d c) (passed _ _ _ _ (no_go 7 1 d c) (passed _ _ _ _ (no_go 8 1 d c) f.goes).1).1).1).1).1 in
      model_begun ls (line + 1) (start + length l + 1) (text_behind text start l ls stands) (on model_name d _ c (line + 1) (start + length l + 1) ls g f.runs)

  description_begun : (ls : List (List ℕ)) (line start : ℕ) → drop start text ≡ unfolded_text ls → run m rooms text (at_first line start description) ls ≡ ran final → Begun
  unfolding run line_due description_line bare choose row_starts flat_rows
  description_begun [] line start stands e = absurd (not_complete (at_first line start description) (λ h. let z : ◌≡◌ {A = ℕ} 0 1 = cc in omega arith) e)
  description_begun (l ∷ ls) line start stands e =
      by (not (prefix slashes l)) (first_step m rooms text l ls (at_first line start description) final e).due (first_step m rooms text l ls (at_first line start description) final e).content
      (first_step m rooms text l ls (at_first line start description) final e).goes (first_step m rooms text l ls (at_first line start description) final e).runs
      (description_begun ls (line + 1) (start + length l + 1) (text_behind text start l ls stands))
    where
      by : (x : Bool) (d : Due) (c : Content)
          → choose x (go description (so_far no_marks [] [])) (refuse (not (has_code slashes (fields_of start l))) (no 7 1) (refuse (more_than 1 (fields_of start l)) (no 11 2) (go transfer (so_far no_marks [] [])))) ≡ go d c
          → run m rooms text (record { line = line + 1; start = start + length l + 1; due = d; content = c }) ls ≡ ran final
          → (run m rooms text (at_first (line + 1) (start + length l + 1) description) ls ≡ ran final → Begun) → Begun
      by true d c g r ih = ih (on description d _ c (line + 1) (start + length l + 1) ls g r)
      by false d c g r ih =
          transfer_begun ls (line + 1) (start + length l + 1) (text_behind text start l ls stands)
          (on transfer d _ c (line + 1) (start + length l + 1) ls (passed _ _ _ _ (no_go 11 2 d c) (passed _ _ _ _ (no_go 7 1 d c) g).1).1 r)

  pub all_begun : (ls : List (List ℕ)) → text ≡ unfolded_text ls → run m rooms text (at_first 1 0 opening) ls ≡ ran final → Begun
  unfolding run line_due opening_line bare row_starts flat_rows
  all_begun [] stands e = absurd (not_complete (at_first 1 0 opening) (λ h. let z : ◌≡◌ {A = ℕ} 0 1 = cc in omega arith) e)
  all_begun (l ∷ ls) stands e =
      let f = first_step m rooms text l ls (at_first 1 0 opening) final e in
      let d = f.due in
      let c = f.content in
      let g = (passed _ _ _ _ (no_go 11 2 d c) (passed _ _ _ _ (no_go 7 1 d c) f.goes).1).1 in
      description_begun ls (1 + 1) (0 + length l + 1) (text_behind text 0 l ls stands) (on description d _ c (1 + 1) (0 + length l + 1) ls g f.runs)
