-- A good model, record by record: what is known at the byte of a record behind so many topics and tables, and how to go on from there.
-- Assumes nothing.
use Prim.Native.Nat.{ℕ, suc, ◌+◌, ◌-◌, ◌≤◌, ◌<◌}
use native.Mathlib.Omega.{arith}
use native.Mathlib.Numerals.{add-one}
use mathlib.Core.Path.{◌≡◌, refl, sym, ap, ◌∙◌, subst}
use mathlib.Core.Bool.{Bool, true, false, not, true≢false, false≢true}
use mathlib.Core.List.{List, [], ◌∷◌}
use lib.Dec.{leb, ltb, eqb}
use lib.ListN.{length, drop, get_or, length-take, length-drop, drop_of_length-le}
use lib.Seq.{drop-cons}
use borrow.Author.Tests.{leb-true, leb-false, ltb-true, ltb-false, eqb-true, ne_eqb, not-false}
use Rattle.meaning.specs.Bytes.{choose, refuse, letter, byte_at, u16_at}
use Rattle.meaning.specs.Model.{Records, finish, overrun, entry, Attribute, Model, no_table, table_at, flag_of, attributes_of, tables_of, topics_of, name_of, model_of}
use Rattle.meaning.specs.Check.{Checked, good, Seen, nothing_seen, is_name, follows, follows_transfer, keeps, keeps_transfer, see, check_records, check_model}
use Rattle.meaning.proofs.Model.Marks.{bad_good, passed, references_good, holds, rest_good, is_transfer}
use Rattle.meaning.proofs.Unfolding.Cuts.{both}
use Rattle.meaning.proofs.Model.Models.{model_lists}
use Rattle.meaning.proofs.Model.Records.{records_at, payload_at, next_at, entry_at, overrun_at, finish_at}

-- ## The records from a byte on

-- they pass, behind a record of some kind but the end and what is seen by then; they hold the topics from k on and the tables from t on
pub record Standing (b : List ℕ) (m : Model) (at k t : ℕ) : Type 0 where
  pub before : ℕ
  pub seen : Seen
  pub is_open : before ≡ 6 → ⊥
  pub checked : check_records before seen (records_at b at) (good m) ≡ good m
  pub topics : topics_of (records_at b at) ≡ drop k m.topics
  pub tables : tables_of k (records_at b at) ≡ drop t m.tables

-- a record that passes
pub entry_passes : (before at kind : ℕ) (seen : Seen) (p : List ℕ) (others : Records) (u : Checked) (m : Model) → check_records before seen (entry at kind p others) u ≡ good m
    → (follows before kind ≡ true) × (keeps kind p seen ≡ true) × (check_records kind (see kind p seen) others u ≡ good m)
unfolding check_records
entry_passes before at kind seen p others u m h =
    let r = passed _ at _ m h in
    let q = passed _ at _ m r.1 in
    (not-false _ r.0, not-false _ q.0, q.1)

-- the first of the rest of a list
first_of : {A : Type 0} (l : List A) (k : ℕ) (d x : A) (xs : List A) → x ∷ xs ≡ drop k l → (get_or l k d ≡ x) × (xs ≡ drop (k + 1) l) × (k < length l)
first_of l k d x xs e = go (ltb k (length l)) refl
  where
    go : (t : Bool) → ltb k (length l) ≡ t → (get_or l k d ≡ x) × (xs ≡ drop (k + 1) l) × (k < length l)
    go true h =
        let g = ltb-true k (length l) h in
        let c : x ∷ xs ≡ get_or l k d ∷ drop (suc k) l = e ∙ drop-cons l k d g in
        let q : x ≡ get_or l k d = cc in
        let r : xs ≡ drop (suc k) l = cc in
        (sym q, rw (add-one k) r, g)
    go false h =
        let g = ltb-false k (length l) h in
        let z : suc (length xs) ≡ length l - k = ap length e ∙ length-drop k l in
        absurd (omega arith)

-- behind the end record there is nothing
pub nothing_more : (rs : Records) (seen : Seen) (u : Checked) (m : Model) → check_records 6 seen rs u ≡ good m → (n : ℕ) × (rs ≡ finish n)
unfolding check_records follows
nothing_more (finish at) seen u m h = (at, refl)
nothing_more (overrun at) seen u m h = absurd (bad_good at m h)
nothing_more (entry at kind p others) seen u m h = absurd (true≢false (passed _ at _ m h).0)

nothing_behind : (k : ℕ) (rs : Records) (seen : Seen) (m : Model) → check_records 6 seen rs (good m) ≡ good m → (topics_of rs ≡ []) × (tables_of k rs ≡ [])
unfolding topics_of tables_of
nothing_behind k rs seen m h = let n = nothing_more rs seen (good m) m h in (rw n.1, rw n.1)

none_left : {A : Type 0} (l : List A) (k : ℕ) → [] ≡ drop k l → length l ≤ k
none_left l k e = let z : 0 ≡ length l - k = ap length e ∙ length-drop k l in omega arith

-- ## Which record may follow

-- behind the transfer record stands the model's, behind the model's a topic's, behind a topic's a table's, behind a table's an attribute's
pub kind_two : (kind : ℕ) → follows 1 kind ≡ true → kind ≡ 2
unfolding follows follows_transfer
kind_two kind h = go (eqb kind 2) refl
  where
    go : (x : Bool) → eqb kind 2 ≡ x → kind ≡ 2
    go true e = eqb-true kind 2 e
    go false e = absurd (false≢true (rw e at h))

pub kind_three : (kind : ℕ) → follows 2 kind ≡ true → kind ≡ 3
unfolding follows
kind_three kind h = go (eqb kind 3) refl
  where
    go : (x : Bool) → eqb kind 3 ≡ x → kind ≡ 3
    go true e = eqb-true kind 3 e
    go false e = absurd (false≢true (rw e at h))

pub kind_four : (kind : ℕ) → follows 3 kind ≡ true → kind ≡ 4
unfolding follows
kind_four kind h = go (eqb kind 4) refl
  where
    go : (x : Bool) → eqb kind 4 ≡ x → kind ≡ 4
    go true e = eqb-true kind 4 e
    go false e = absurd (false≢true (rw e at h))

pub kind_five : (kind : ℕ) → follows 4 kind ≡ true → kind ≡ 5
unfolding follows
kind_five kind h = go (eqb kind 5) refl
  where
    go : (x : Bool) → eqb kind 5 ≡ x → kind ≡ 5
    go true e = eqb-true kind 5 e
    go false e = absurd (false≢true (rw e at h))

-- behind an attribute's one of the kinds 3 to 6
pub kind_any : (kind : ℕ) → follows 5 kind ≡ true → (3 ≤ kind) × (kind ≤ 6)
unfolding follows
kind_any kind h = let q = both (leb 3 kind) (leb kind 6) h in (leb-true 3 kind q.0, leb-true kind 6 q.1)

-- ## At a record

module _ (b : List ℕ) (m : Model) (at k t : ℕ) (s : Standing b m at k t) where
  -- there is a record here
  pub stands_fits : next_at b at ≤ length b
  unfolding check_records
  stands_fits = go (leb (next_at b at) (length b)) refl
    where
      gone : (rs : Records) → check_records s.before s.seen rs (good m) ≡ good m → (x : Bool) → ltb at (length b) ≡ x → records_at b at ≡ rs → length b < next_at b at → ⊥
      gone rs h true e q l = bad_good at m (sym (ap (λ (r : Records). check_records s.before s.seen r (good m)) (sym q ∙ overrun_at b at (ltb-true at (length b) e) l)) ∙ h)
      gone rs h false e q l =
          let f : check_records s.before s.seen (finish at) (good m) ≡ good m = sym (ap (λ (r : Records). check_records s.before s.seen r (good m)) (sym q ∙ finish_at b at (ltb-false at (length b) e))) ∙ h in
          s.is_open (eqb-true s.before 6 (not-false _ (passed _ at _ m f).0))

      go : (x : Bool) → leb (next_at b at) (length b) ≡ x → next_at b at ≤ length b
      go true e = leb-true _ _ e
      go false e = absurd (gone (records_at b at) s.checked (ltb at (length b)) refl refl (leb-false _ _ e))

  is_entry : records_at b at ≡ entry at (u16_at b (at + 2)) (payload_at b at) (records_at b (next_at b at))
  is_entry = entry_at b at stands_fits

  passes : (follows s.before (u16_at b (at + 2)) ≡ true) × (keeps (u16_at b (at + 2)) (payload_at b at) s.seen ≡ true) × (check_records (u16_at b (at + 2)) (see (u16_at b (at + 2)) (payload_at b at) s.seen) (records_at b (next_at b at)) (good m) ≡ good m)
  passes = entry_passes s.before at _ s.seen _ _ (good m) m (rw is_entry at s.checked)

  pub stands_follows : follows s.before (u16_at b (at + 2)) ≡ true
  stands_follows = passes.0

  pub stands_keeps : keeps (u16_at b (at + 2)) (payload_at b at) s.seen ≡ true
  stands_keeps = passes.1

  -- ## A topic's record

  topics_here : u16_at b (at + 2) ≡ 3 → payload_at b at ∷ topics_of (records_at b (next_at b at)) ≡ drop k m.topics
  unfolding topics_of choose
  topics_here e = rw (is_entry, e) at s.topics

  pub topic_name : u16_at b (at + 2) ≡ 3 → (payload_at b at ≡ get_or m.topics k []) × (k < length m.topics)
  topic_name e = let f = first_of m.topics k [] _ _ (topics_here e) in (sym f.0, f.2)

  pub behind_topic_lem : u16_at b (at + 2) ≡ 3 → Standing b m (next_at b at) (k + 1) t
  unfolding tables_of choose
  behind_topic_lem e = record {
    before = u16_at b (at + 2);
    seen = see (u16_at b (at + 2)) (payload_at b at) s.seen;
    is_open = λ q. omega (arith, e, q);
    checked = passes.2;
    topics = (first_of m.topics k [] _ _ (topics_here e)).1;
    tables = rw (is_entry, e) at s.tables;
  }

  -- ## A table's record

  tables_here : u16_at b (at + 2) ≡ 4 → record { topic = k - 1; optional = flag_of (payload_at b at); name = drop 1 (payload_at b at); attributes = attributes_of (records_at b (next_at b at)) } ∷ tables_of k (records_at b (next_at b at)) ≡ drop t m.tables
  unfolding tables_of choose
  tables_here e = rw (is_entry, e) at s.tables

  pub table_is : u16_at b (at + 2) ≡ 4 → (table_at m.tables t ≡ record { topic = k - 1; optional = flag_of (payload_at b at); name = drop 1 (payload_at b at); attributes = attributes_of (records_at b (next_at b at)) }) × (t < length m.tables)
  table_is e = let f = first_of m.tables t no_table _ _ (tables_here e) in (f.0, f.2)

  pub behind_table : u16_at b (at + 2) ≡ 4 → Standing b m (next_at b at) k (t + 1)
  unfolding topics_of choose
  behind_table e = record {
    before = u16_at b (at + 2);
    seen = see (u16_at b (at + 2)) (payload_at b at) s.seen;
    is_open = λ q. omega (arith, e, q);
    checked = passes.2;
    topics = rw (is_entry, e) at s.topics;
    tables = (first_of m.tables t no_table _ _ (tables_here e)).1;
  }

  -- ## An attribute's record

  pub behind_attribute : u16_at b (at + 2) ≡ 5 → Standing b m (next_at b at) k t
  unfolding topics_of tables_of choose
  behind_attribute e = record {
    before = u16_at b (at + 2);
    seen = see (u16_at b (at + 2)) (payload_at b at) s.seen;
    is_open = λ q. omega (arith, e, q);
    checked = passes.2;
    topics = rw (is_entry, e) at s.topics;
    tables = rw (is_entry, e) at s.tables;
  }

  -- the attributes from here on are those from j on of some attributes
  module _ (attributes : List Attribute) (j : ℕ) (a : attributes_of (records_at b at) ≡ drop j attributes) where
    -- another record: there are no more
    pub attributes_end : (u16_at b (at + 2) ≡ 5 → ⊥) → length attributes ≤ j
    unfolding attributes_of choose
    attributes_end n =
        let e : [] ≡ drop j attributes = rw (is_entry, ne_eqb (u16_at b (at + 2)) 5 n) at a in
        let z : 0 ≡ length attributes - j = ap length e ∙ length-drop j attributes in
        omega arith

  -- ## The end record

  pub end_is : u16_at b (at + 2) ≡ 6 → (length m.topics ≤ k) × (length m.tables ≤ t)
  unfolding topics_of tables_of choose
  end_is e =
      let n = nothing_behind k (records_at b (next_at b at)) _ m (subst (λ (x : ℕ). check_records x (see (u16_at b (at + 2)) (payload_at b at) s.seen) (records_at b (next_at b at)) (good m) ≡ good m) e passes.2) in
      let p : topics_of (records_at b (next_at b at)) ≡ drop k m.topics = rw (is_entry, e) at s.topics in
      let q : tables_of k (records_at b (next_at b at)) ≡ drop t m.tables = rw (is_entry, e) at s.tables in
      (none_left m.topics k (sym n.0 ∙ p), none_left m.tables t (sym n.1 ∙ q))

module _ (b : List ℕ) (m : Model) (at k t : ℕ) (s : Standing b m at k t) where
  pub table_next_lem : u16_at b (at + 2) ≡ 3 → u16_at b (next_at b at + 2) ≡ 4
  unfolding behind_topic_lem
  table_next_lem e = kind_four _ (subst (λ (x : ℕ). follows x (u16_at b (next_at b at + 2)) ≡ true) e (stands_follows b m (next_at b at) (k + 1) t (behind_topic_lem b m at k t s e)))

-- ## An attribute's payload

pub no_letter : (longest n : ℕ) (p : List ℕ) → is_name longest (drop n p) ≡ true → n < length p
unfolding is_name letter
no_letter longest n p h = go (ltb n (length p)) refl
  where
    go : (x : Bool) → ltb n (length p) ≡ x → n < length p
    go true e = ltb-true n (length p) e
    go false e = absurd (false≢true (rw (drop_of_length-le p (ltb-false n (length p) e)) at h))

-- ## The first records

-- what passes with some rest passes with any
pub rest_any : (before : ℕ) (seen : Seen) (rs : Records) (u : Checked) (m : Model) → check_records before seen rs u ≡ good m → (v : Checked) → check_records before seen rs v ≡ v
unfolding check_records refuse
rest_any before seen (finish at) u m h v = let e : not (eqb before 6) ≡ false = (passed _ at _ m h).0 in rw e
rest_any before seen (overrun at) u m h v = absurd (bad_good at m h)
rest_any before seen (entry at kind p others) u m h v =
    let r = passed _ at _ m h in
    let q = passed _ at _ m r.1 in
    let e : not (follows before kind) ≡ false = r.0 in
    let f : not (keeps kind p seen) ≡ false = q.0 in
    rw (e, f) (rest_any kind (see kind p seen) others u m q.1 v)

module _ (b : List ℕ) (m : Model) (h : check_model b ≡ good m) where
  pub opened : (length b ≤ 65536) × (model_of (records_at b 0) ≡ m) × ((v : Checked) → check_records 0 nothing_seen (records_at b 0) v ≡ v)
  unfolding check_model
  opened =
      let r = passed _ 0 _ m h in
      let same : good (model_of (records_at b 0)) ≡ good m = references_good _ _ _ m (rest_good 0 nothing_seen (records_at b 0) _ m r.1) in
      let equal : model_of (records_at b 0) ≡ m = cc in
      (ltb-false 65536 (length b) r.0, equal, rest_any 0 nothing_seen (records_at b 0) _ m r.1)

  -- at the first record
  pub stands_first : Standing b m 0 0 0
  stands_first =
      let l = model_lists (records_at b 0) (good m) m (opened.2 (good m)) in
      record {
        before = 0;
        seen = nothing_seen;
        is_open = λ q. omega arith;
        checked = opened.2 (good m);
        topics = sym l.0 ∙ ap (λ (x : Model). x.topics) opened.1;
        tables = sym l.1 ∙ ap (λ (x : Model). x.tables) opened.1;
      }

  pub first_fits : next_at b 0 ≤ length b
  first_fits = stands_fits b m 0 0 0 stands_first

  first_entry : records_at b 0 ≡ entry 0 (u16_at b (0 + 2)) (payload_at b 0) (records_at b (next_at b 0))
  first_entry = entry_at b 0 first_fits

  pub first_kind : u16_at b (0 + 2) ≡ 1
  unfolding stands_first
  first_kind = is_transfer _ (stands_follows b m 0 0 0 stands_first)

  -- behind the transfer record
  pub stands_second : Standing b m (next_at b 0) 0 0
  unfolding topics_of tables_of choose
  stands_second =
      let p = entry_passes 0 0 _ nothing_seen _ _ (good m) m (rw first_entry at (opened.2 (good m))) in
      record {
        before = u16_at b (0 + 2);
        seen = see (u16_at b (0 + 2)) (payload_at b 0) nothing_seen;
        is_open = λ q. omega (arith, first_kind, q);
        checked = p.2;
        topics = rw (first_entry, first_kind) at stands_first.topics;
        tables = rw (first_entry, first_kind) at stands_first.tables;
      }

  pub second_kind : u16_at b (next_at b 0 + 2) ≡ 2
  unfolding stands_second
  second_kind = kind_two _ (subst (λ (x : ℕ). follows x (u16_at b (next_at b 0 + 2)) ≡ true) first_kind (stands_follows b m (next_at b 0) 0 0 stands_second))

  second_entry : records_at b (next_at b 0) ≡ entry (next_at b 0) (u16_at b (next_at b 0 + 2)) (payload_at b (next_at b 0)) (records_at b (next_at b (next_at b 0)))
  second_entry = entry_at b (next_at b 0) (stands_fits b m (next_at b 0) 0 0 stands_second)

  -- at the first topic, behind the model record
  pub stands_topic : Standing b m (next_at b (next_at b 0)) 0 0
  unfolding topics_of tables_of choose
  stands_topic =
      let at = next_at b 0 in
      let p = entry_passes stands_second.before at _ stands_second.seen _ _ (good m) m (rw second_entry at stands_second.checked) in
      record {
        before = u16_at b (next_at b 0 + 2);
        seen = see (u16_at b (next_at b 0 + 2)) (payload_at b (next_at b 0)) stands_second.seen;
        is_open = λ q. omega (arith, second_kind, q);
        checked = p.2;
        topics = rw (second_entry, second_kind) at stands_second.topics;
        tables = rw (second_entry, second_kind) at stands_second.tables;
      }

  pub topic_kind : u16_at b (next_at b (next_at b 0) + 2) ≡ 3
  unfolding stands_topic
  topic_kind = kind_three _ (subst (λ (x : ℕ). follows x (u16_at b (next_at b (next_at b 0) + 2)) ≡ true) second_kind (stands_follows b m (next_at b (next_at b 0)) 0 0 stands_topic))

  -- ## The transfer and the model record

  model_of_lem : model_of (entry 0 (u16_at b (0 + 2)) (payload_at b 0) (records_at b (next_at b 0))) ≡ m
  model_of_lem = sym (ap model_of first_entry) ∙ opened.1

  pub transfer_keeps : keeps_transfer (payload_at b 0) ≡ true
  unfolding keeps choose stands_first
  transfer_keeps = rw first_kind at (stands_keeps b m 0 0 0 stands_first)

  pub transfer_length : 3 < u16_at b 0
  unfolding keeps_transfer
  transfer_length = let l = no_letter 63 3 (payload_at b 0) (holds _ 6 transfer_keeps) in omega (arith, l, length-take (u16_at b 0) (drop (0 + 4) b))

  pub good_transfer : m.transfer ≡ drop 3 (payload_at b 0)
  unfolding model_of
  good_transfer = sym (ap (λ (x : Model). x.transfer) model_of_lem)

  pub good_name : m.name ≡ payload_at b (next_at b 0)
  unfolding model_of name_of
  good_name = sym (ap (λ (x : Model). x.name) model_of_lem) ∙ rw second_entry

  -- the three bytes, in the transfer record's payload
  pub payload_blank : m.blank ≡ byte_at (payload_at b 0) 0
  unfolding model_of
  payload_blank = sym (ap (λ (x : Model). x.blank) model_of_lem)

  pub payload_undefined : m.undefined ≡ byte_at (payload_at b 0) 1
  unfolding model_of
  payload_undefined = sym (ap (λ (x : Model). x.undefined) model_of_lem)

  pub payload_mark : m.mark ≡ byte_at (payload_at b 0) 2
  unfolding model_of
  payload_mark = sym (ap (λ (x : Model). x.mark) model_of_lem)

  pub name_keeps : is_name 63 (payload_at b (next_at b 0)) ≡ true
  unfolding keeps choose
  name_keeps = rw second_kind at (stands_keeps b m (next_at b 0) 0 0 stands_second)
