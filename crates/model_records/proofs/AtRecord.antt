-- AtRecord at a record of a good model: where it begins, what stands there, and where it goes on.
-- Assumes nothing.
use Prim.Native.Nat.{ℕ, zero, suc, ◌+◌, ◌-◌, ◌≤◌, ◌<◌}
use native.Mathlib.Omega.{arith}
use native.Mathlib.Numerals.{add-one}
use mathlib.Core.Path.{◌≡◌, refl, sym, ap, ◌∙◌}
use mathlib.Core.Bool.{Bool, true, false}
use mathlib.Core.List.{List, [], ◌∷◌}
use lib.Dec.{eqb, leb}
use lib.ListN.{length, drop, get_or, length-drop, get_or-eq_default}
use lib.Seq.{get_or-take, get_or-drop, drop-cons}
use borrow.Author.Tests.{leb-true, leb-false, ne_eqb}
use Rattle.meaning.specs.Bytes.{choose, byte_at, u16_at}
use Rattle.meaning.specs.Model.{Records, finish, overrun, entry, Table, Model, no_table, table_at, flag_of, attribute_of, attributes_of, tables_of, topics_of, name_of, model_of}
use Rattle.meaning.specs.Check.{good, special, is_flag, keeps_transfer, keeps_topic, keeps_table, keeps_attribute, keeps, see, nothing_seen, check_records, check_model}
use Rattle.meaning.proofs.Unfolding.Cuts.{both}
use Rattle.model_records.specs.Records.{records_at, kind_at, payload_at, next_at, attributes_at}
use Rattle.model_records.specs.AtRecord.{AtRecord, RecordFits, TopicHere, TableHere, AttributeNext, EndHere, Beginning}
use Rattle.model_records.proofs.Types.{payload_room}
use Rattle.meaning.proofs.Tests.Refuse.{holds}
use Rattle.model_records.proofs.Checked.{begun, Turn, turn, behind_nothing, behind_transfer, in_order, at_end_lem}

-- ## A list of which so many are passed

module _ {A : Type 0} (l : List A) (n : ℕ) (d x : A) (xs : List A) (e : (x ∷ xs) ≡ drop n l) where
  pub next_in : n < length l
  next_in = let s = length-drop n l in let r : suc (length xs) ≡ length (drop n l) = ap length e in omega arith

  pub next_is : get_or l n d ≡ x
  next_is = let f : drop n l ≡ get_or l n d ∷ drop (suc n) l = drop-cons l n d next_in in cc

  pub next_rest : xs ≡ drop (n + 1) l
  next_rest = let f : drop n l ≡ get_or l n d ∷ drop (suc n) l = drop-cons l n d next_in in rw add-one (cc)

pub none_left : {A : Type 0} (l : List A) (n : ℕ) → [] ≡ drop n l → n ≤ length l → n ≡ length l
none_left l n e h = let s = length-drop n l in let r : 0 ≡ length (drop n l) = ap length e in omega arith

-- ## The topics of the tables

-- the tables behind a record, by whether it begins a topic and whether it begins a table
above_entry : (k : ℕ) (x y : Bool) (this : Table) (others : Records) → this.topic ≡ k - 1
    → ((j n : ℕ) → n < length (tables_of j others) → j ≤ (get_or (tables_of j others) n no_table).topic + 1)
    → (n : ℕ) → n < length (choose y (this ∷ tables_of (choose x (k + 1) k) others) (tables_of (choose x (k + 1) k) others))
    → k ≤ (get_or (choose y (this ∷ tables_of (choose x (k + 1) k) others) (tables_of (choose x (k + 1) k) others)) n no_table).topic + 1
unfolding choose
above_entry k x true this others e ih zero l = omega arith
above_entry k true true this others e ih (suc n) l = omega (arith, ih (k + 1) n (omega arith))
above_entry k false true this others e ih (suc n) l = ih k n (omega arith)
above_entry k true false this others e ih n l = omega (arith, ih (k + 1) n l)
above_entry k false false this others e ih n l = ih k n l

-- behind k topics each table is of the last of them or of a later one
above : (rs : Records) (k n : ℕ) → n < length (tables_of k rs) → k ≤ (get_or (tables_of k rs) n no_table).topic + 1
unfolding tables_of
above (finish at) k n l = absurd (omega arith)
above (overrun at) k n l = absurd (omega arith)
above (entry at kind p others) k n l =
    above_entry k (eqb kind 3) (eqb kind 4) (record { topic = k - 1; optional = flag_of p; name = drop 1 p; attributes = attributes_of others }) others refl (λ j i h. above others j i h) n l

-- ## One record of the topics

module _ (m : Model) (b : List ℕ) (at k t : ℕ) (s : AtRecord m b at k t) where
  one : Turn m b at s.before s.seen s.rest
  one = turn m b at s.before s.seen s.rest s.before_end s.checked

  ordered : (3 ≤ kind_at b at) × (kind_at b at ≤ 6) × (s.before ≡ 2 → kind_at b at ≡ 3)
  ordered = in_order s.before (kind_at b at) s.behind_second s.before_end one.follows

  pub here : RecordFits b at
  here = record { room = omega (arith, one.fits); fits = one.fits; least = ordered.0; most = ordered.1 }

  -- the topics and tables from this record on
  topics_here : topics_of (entry at (kind_at b at) (payload_at b at) (records_at b (next_at b at))) ≡ drop k m.topics
  topics_here = rw one.entry at s.topics

  tables_here : tables_of k (entry at (kind_at b at) (payload_at b at) (records_at b (next_at b at))) ≡ drop t m.tables
  tables_here = rw one.entry at s.tables

  -- a record that is no topic stands in a topic
  in_topic_lem : (kind_at b at ≡ 3 → ⊥) → 1 ≤ k
  in_topic_lem n = go (leb s.before 2) refl
    where
      go : (x : Bool) → leb s.before 2 ≡ x → 1 ≤ k
      go true h = let q = leb-true s.before 2 h in absurd (n (ordered.2 (omega (arith, s.behind_second))))
      go false h = s.in_topic (leb-false s.before 2 h)

  -- the tables up to this one are of the topics passed
  earlier_too : 1 ≤ k → (table_at m.tables t).topic ≡ k - 1 → (n : ℕ) → n < t + 1 → (x : Bool) → leb t n ≡ x → (table_at m.tables n).topic < k
  earlier_too g i n l true h = let q = leb-true t n h in let e : n ≡ t = omega arith in rw e (omega arith)
  earlier_too g i n l false h = s.earlier n (leb-false t n h)

  -- table t and the later ones, as those of the records from here on
  later_in : (n : ℕ) → t ≤ n → n < length m.tables → n - t < length (tables_of k (records_at b at))
  later_in n g l = rw (s.tables, length-drop t m.tables) (omega arith)

  later_is : (n : ℕ) → t ≤ n → get_or (tables_of k (records_at b at)) (n - t) no_table ≡ table_at m.tables n
  later_is n g = let e : t + (n - t) ≡ n = omega arith in rw (s.tables, get_or-drop t m.tables (n - t) no_table, e)

  -- table t and the later ones are of the topic before topic k or of a later one
  pub later : (n : ℕ) → t ≤ n → n < length m.tables → k ≤ (table_at m.tables n).topic + 1
  later n g l = rw (later_is n g) at (above (records_at b at) k (n - t) (later_in n g l))

  pub topic_here : kind_at b at ≡ 3 → TopicHere m b at k t
  unfolding topics_of tables_of keeps keeps_topic choose
  topic_here e =
      let n : (payload_at b at ∷ topics_of (records_at b (next_at b at))) ≡ drop k m.topics = rw e at topics_here in
      let l : k < length m.topics = next_in m.topics k [] _ _ n in
      let r : keeps_topic (payload_at b at) s.seen ≡ true = rw e at one.keeps in
      record {
        inside = l;
        topic = next_is m.topics k [] _ _ n;
        name = holds _ 0 r;
        next = record {
          topics = next_rest m.topics k [] _ _ n;
          tables = rw e at tables_here;
          before = kind_at b at;
          seen = see (kind_at b at) (payload_at b at) s.seen;
          rest = s.rest;
          checked = one.checked;
          behind_second = omega arith;
          before_end = omega arith;
          in_topic = λ q. omega arith;
          topic_count = omega arith;
          table_count = s.table_count;
          earlier = λ n q. omega (arith, s.earlier n q);
          counted = omega (arith, s.counted);
        };
      }

  pub table_here : kind_at b at ≡ 4 → TableHere m b at k t
  unfolding topics_of tables_of keeps keeps_table is_flag choose
  table_here e =
      let p : List ℕ = payload_at b at in
      let this : Table = record { topic = k - 1; optional = flag_of p; name = drop 1 p; attributes = attributes_at b (next_at b at) } in
      let n : (this ∷ tables_of k (records_at b (next_at b at))) ≡ drop t m.tables = rw e at tables_here in
      let l : t < length m.tables = next_in m.tables t no_table _ _ n in
      let i : table_at m.tables t ≡ this = next_is m.tables t no_table _ _ n in
      let r : keeps_table p s.seen ≡ true = rw e at one.keeps in
      let f = both (leb 1 (length p)) _ (holds _ 0 r) in
      let g : 1 ≤ k = in_topic_lem (λ q. omega arith) in
      record {
        inside = l;
        begun = g;
        table = i;
        flag = omega (arith, payload_room b at 1 (leb-true 1 (length p) f.0));
        name = holds _ 1 r;
        next = record {
          topics = rw e at topics_here;
          tables = next_rest m.tables t no_table _ _ n;
          before = kind_at b at;
          seen = see (kind_at b at) (payload_at b at) s.seen;
          rest = s.rest;
          checked = one.checked;
          behind_second = omega arith;
          before_end = omega arith;
          in_topic = λ q. g;
          topic_count = s.topic_count;
          table_count = omega arith;
          earlier = λ n q. earlier_too g (ap (λ (x : Table). x.topic) i) n q (leb t n) refl;
          counted = omega (arith, s.counted);
        };
      }

  pub attribute_here : kind_at b at ≡ 5 → AttributeNext m b at k t
  unfolding topics_of tables_of attributes_of keeps keeps_attribute attribute_of choose
  attribute_here e =
      let p : List ℕ = payload_at b at in
      let r : keeps_attribute p s.seen ≡ true = rw e at one.keeps in
      record {
        attributes = rw (one.entry, e) refl;
        good = record { fits = one.fits; type = holds _ 1 r; name = holds _ 2 r };
        next = record {
          topics = rw e at topics_here;
          tables = rw e at tables_here;
          before = kind_at b at;
          seen = see (kind_at b at) (payload_at b at) s.seen;
          rest = s.rest;
          checked = one.checked;
          behind_second = omega arith;
          before_end = omega arith;
          in_topic = λ q. in_topic_lem (λ r. omega arith);
          topic_count = s.topic_count;
          table_count = s.table_count;
          earlier = s.earlier;
          counted = omega (arith, s.counted);
        };
      }

  -- no attribute record: no attribute
  pub no_attribute : (kind_at b at ≡ 5 → ⊥) → attributes_at b at ≡ []
  unfolding attributes_of choose
  no_attribute n = rw (one.entry, ne_eqb (kind_at b at) 5 n)

  pub end_here : kind_at b at ≡ 6 → EndHere m k t
  unfolding topics_of tables_of choose
  end_here e =
      let q : check_records 6 (see 6 (payload_at b at) s.seen) (records_at b (next_at b at)) s.rest ≡ good m = rw e at one.checked in
      let r = at_end_lem _ _ _ m q in
      let x : topics_of (records_at b (next_at b at)) ≡ drop k m.topics = rw e at topics_here in
      let y : tables_of k (records_at b (next_at b at)) ≡ drop t m.tables = rw e at tables_here in
      record {
        topics = none_left m.topics k (sym r.0 ∙ x) s.topic_count;
        tables = none_left m.tables t (sym (r.1 k) ∙ y) s.table_count;
      }

-- ## A good model's first two records

-- a byte of a payload that is not zero is there
byte_there : (p : List ℕ) (n : ℕ) → 1 ≤ byte_at p n → n < length p
byte_there p n h = go (leb (length p) n) refl
  where
    go : (x : Bool) → leb (length p) n ≡ x → n < length p
    go true e = absurd (omega (arith, get_or-eq_default p 0 (leb-true (length p) n e)))
    go false e = leb-false (length p) n e

special_some : (x : ℕ) → special x ≡ true → 1 ≤ x
unfolding special
special_some x h = omega (arith, leb-true 0x21 x (holds _ 0 h))

module _ (m : Model) (b : List ℕ) (ok : check_model b ≡ good m) where
  first : Turn m b 0 0 nothing_seen (begun m b ok).rest
  first = turn m b 0 0 nothing_seen (begun m b ok).rest (omega arith) (begun m b ok).checked

  one_first : kind_at b 0 ≡ 1
  one_first = behind_nothing (kind_at b 0) first.follows

  second : Turn m b (next_at b 0) (kind_at b 0) (see (kind_at b 0) (payload_at b 0) nothing_seen) (begun m b ok).rest
  second = turn m b (next_at b 0) (kind_at b 0) (see (kind_at b 0) (payload_at b 0) nothing_seen) (begun m b ok).rest (omega (arith, one_first)) first.checked

  two_second : kind_at b (next_at b 0) ≡ 2
  two_second = behind_transfer (kind_at b (next_at b 0)) (rw one_first at second.follows)

  model_is : model_of (entry 0 (kind_at b 0) (payload_at b 0) (entry (next_at b 0) (kind_at b (next_at b 0)) (payload_at b (next_at b 0)) (records_at b (next_at b (next_at b 0))))) ≡ m
  model_is = rw (first.entry, second.entry) at (begun m b ok).model

  three_bytes_lem : 3 ≤ length (payload_at b 0)
  unfolding keeps keeps_transfer choose
  three_bytes_lem =
      let r : keeps_transfer (payload_at b 0) ≡ true = rw one_first at first.keeps in
      byte_there (payload_at b 0) 2 (special_some _ (holds _ 2 r))

  payload_byte : (n : ℕ) → n < 3 → byte_at (payload_at b 0) n ≡ byte_at b (4 + n)
  payload_byte n h =
      let l = payload_room b 0 3 three_bytes_lem in
      get_or-take (u16_at b 0) (drop 4 b) n 0 (omega arith) ∙ get_or-drop 4 b n 0

  pub beginning : Beginning m b
  unfolding model_of name_of topics_of tables_of choose
  beginning =
      record {
        first_fits = first.fits;
        second_fits = second.fits;
        three_bytes = omega (arith, payload_room b 0 3 three_bytes_lem);
        undefined = sym (payload_byte 1 (omega arith)) ∙ ap (λ (x : Model). x.undefined) model_is;
        mark = sym (payload_byte 2 (omega arith)) ∙ ap (λ (x : Model). x.mark) model_is;
        transfer = ap (λ (x : Model). x.transfer) model_is;
        name = ap (λ (x : Model). x.name) model_is;
        topics = record {
          topics = rw two_second at (ap (λ (x : Model). x.topics) model_is);
          tables = rw two_second at (ap (λ (x : Model). x.tables) model_is);
          before = kind_at b (next_at b 0);
          seen = see (kind_at b (next_at b 0)) (payload_at b (next_at b 0)) (see (kind_at b 0) (payload_at b 0) nothing_seen);
          rest = (begun m b ok).rest;
          checked = second.checked;
          behind_second = omega (arith, two_second);
          before_end = omega (arith, two_second);
          in_topic = λ q. absurd (omega (arith, two_second));
          topic_count = omega arith;
          table_count = omega arith;
          earlier = λ n q. absurd (omega arith);
          counted = omega arith;
        };
      }

  pub start : AtRecord m b (next_at b (next_at b 0)) 0 0
  start = beginning.topics
