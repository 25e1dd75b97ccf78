-- Bytes whose records keep the rules are the records of the model that they say, places and all. Assumes nothing.
use Prim.Native.Nat.{ℕ, zero, suc, ◌+◌, ◌≤◌, ◌<◌}
use native.Mathlib.Omega.{arith}
use mathlib.Core.Path.{◌≡◌, refl, sym, ap, ◌∙◌, subst}
use mathlib.Core.Bool.{Bool, true, false, true≢false}
use mathlib.Core.List.{List, [], ◌∷◌, ◌++◌, append_assoc, append-nil}
use lib.Dec.{eqb}
use lib.ListN.{length, drop, length-append}
use borrow.Author.Tests.{eqb-true, eqb-false, eq-eqb, ne_eqb, not-false}
use Rattle.meaning.specs.Bytes.{choose, refuse, byte_at}
use Rattle.meaning.specs.Model.{Records, finish, overrun, entry, records_from, Attribute, Table, Model, flag_of, attribute_of, attributes_of, tables_of, topics_of, name_of, model_of}
use Rattle.meaning.specs.Check.{Checked, good, Seen, nothing_seen, follows, keeps, see, check_records, check_model, table_names}
use Rattle.meaning.specs.ModelBytes.{is_u16, are_u16, all_u16, record_bytes, attribute_record, attribute_records, table_record, table_records, tables_in, topic_records, transfer_record, records_of, place_attributes, place_tables, place_topics, placed}
use Rattle.meaning.specs.ModelClaims.{AreBytes, GoodRecords, Whole, RecordsSay, IsModel}
use Rattle.meaning.proofs.Model.Marks.{bad_good, passed, is_transfer}
use Rattle.meaning.proofs.Model.GoodModels.{checked_good, names_later}
use Rattle.meaning.proofs.Model.Standing.{entry_passes, nothing_more, kind_two, kind_three, kind_four, kind_five, kind_any, opened}
use Rattle.meaning.proofs.Model.RecordBytes.{record_length}
use Rattle.meaning.proofs.Model.WholeRecords.{First, first, whole_read, payload_bytes, others_bytes}
use Rattle.meaning.proofs.Model.FirstBad.{kept_read}
use Rattle.meaning.proofs.Model.Payloads.{transfer_written, table_written, attribute_written, attribute_sized}

-- ## The bytes of records

unfoldable written_of : Records → List ℕ
written_of (finish at) = []
written_of (overrun at) = []
written_of (entry at kind p others) = record_bytes kind p ++ written_of others

-- each record stands behind the one before, the first at this byte, and its payload is bytes; none overruns
abbrev Sound : ℕ → Records → Type 0
Sound at (finish n) = Unit {0}
Sound at (overrun n) = ⊥
Sound at (entry n kind p others) = (n ≡ at) × AreBytes p × Sound (at + 4 + length p) others

-- records that are not the same, and that are
finish_overrun : (at n : ℕ) → finish at ≡ overrun n → ⊥
finish_overrun at n h = let z : ◌≡◌ {A = ℕ} 0 1 = cc in omega arith

finish_entry : (at n kind : ℕ) (p : List ℕ) (others : Records) → finish at ≡ entry n kind p others → ⊥
finish_entry at n kind p others h = let z : ◌≡◌ {A = ℕ} 0 1 = cc in omega arith

overrun_entry : (at n kind : ℕ) (p : List ℕ) (others : Records) → overrun at ≡ entry n kind p others → ⊥
overrun_entry at n kind p others h = let z : ◌≡◌ {A = ℕ} 0 1 = cc in omega arith

same_entry : (n n' kind kind' : ℕ) (p p' : List ℕ) (others others' : Records) → entry n kind p others ≡ entry n' kind' p' others' → (n ≡ n') × (kind ≡ kind') × (p ≡ p') × (others ≡ others')
same_entry n n' kind kind' p p' others others' h = (cc, cc, cc, cc)

abbrev Written : (at : ℕ) → List ℕ → Records → Type 0
Written at r rs = (r ≡ written_of rs) × Sound at rs

-- a whole record, and the records behind it
entry_written : (at n kind : ℕ) (p r : List ℕ) (others : Records) (w : Whole r) → AreBytes r → records_from 0 at r ≡ entry n kind p others
    → (records_from 0 (at + 4 + length w.payload) w.others ≡ others → Written (at + 4 + length w.payload) w.others others) → Written at r (entry n kind p others)
unfolding written_of
entry_written at n kind p r others w h e i =
    let q = same_entry n at kind w.kind p w.payload others (records_from 0 (at + 4 + length w.payload) w.others) (sym e ∙ whole_read at r w) in
    let o = i (sym q.3) in
    (rw (q.1, q.2) (w.is ∙ ap (λ (l : List ℕ). record_bytes w.kind w.payload ++ l) o.0), (q.0, rw q.2 (payload_bytes r w h), rw q.2 o.1))

-- records read from bytes that pass are those bytes
read_written : (rs : Records) (last at : ℕ) (seen : Seen) (u : Checked) (m : Model) (r : List ℕ) → AreBytes r → records_from 0 at r ≡ rs → check_records last seen rs u ≡ good m → Written at r rs
unfolding records_from written_of check_records
read_written (finish n) last at seen u m [] h e k = (refl, tt)
read_written (finish n) last at seen u m (x ∷ s) h e k = go (first at (x ∷ s) h (omega arith))
  where
    go : First at (x ∷ s) → Written at (x ∷ s) (finish n)
    go (First.over q z) = absurd (finish_overrun n at (sym e ∙ q))
    go (First.whole w) = absurd (finish_entry n at _ _ _ (sym e ∙ whole_read at (x ∷ s) w))
read_written (overrun n) last at seen u m r h e k = absurd (bad_good n m k)
read_written (entry n kind p others) last at seen u m [] h e k = absurd (finish_entry at n kind p others e)
read_written (entry n kind p others) last at seen u m (x ∷ s) h e k =
    go (first at (x ∷ s) h (omega arith)) (λ at' r' h' e'. read_written others kind at' (see kind p seen) u m r' h' e' (entry_passes last n kind seen p others u m k).2)
  where
    go : First at (x ∷ s) → ((at' : ℕ) (r' : List ℕ) → AreBytes r' → records_from 0 at' r' ≡ others → Written at' r' others) → Written at (x ∷ s) (entry n kind p others)
    go (First.over q z) i = absurd (overrun_entry at n kind p others (sym q ∙ e))
    go (First.whole w) i = entry_written at n kind p (x ∷ s) others w h e (i _ w.others (others_bytes (x ∷ s) w h))

-- ## Tables of other topics

in_here : (k : ℕ) (t : Table) (ts : List Table) → t.topic ≡ k → tables_in k (t ∷ ts) ≡ t ∷ tables_in k ts
unfolding tables_in choose
in_here k t ts e = rw (eq-eqb t.topic k e)

-- a table of an earlier topic is none of the later topics
in_later : (k : ℕ) (t : Table) (ts : List Table) → t.topic < k → tables_in k (t ∷ ts) ≡ tables_in k ts
unfolding tables_in choose
in_later k t ts l = rw (ne_eqb t.topic k (omega arith))

records_later : (k : ℕ) (ns : List (List ℕ)) (t : Table) (ts : List Table) → t.topic < k → topic_records k ns (t ∷ ts) ≡ topic_records k ns ts
unfolding topic_records
records_later k [] t ts l = refl
records_later k (n ∷ ns) t ts l = rw (in_later k t ts l, records_later (k + 1) ns t ts (omega arith))

places_later : (at k : ℕ) (ns : List (List ℕ)) (t : Table) (ts : List Table) → t.topic < k → place_topics at k ns (t ∷ ts) ≡ place_topics at k ns ts
unfolding place_topics
places_later at k [] t ts l = refl
places_later at k (n ∷ ns) t ts l =
    rw (in_later k t ts l, places_later (at + length (record_bytes 3 n) + length (table_records (tables_in k ts))) (k + 1) ns t ts (omega arith))

none_in : (topic : ℕ) (ts : List Table) → table_names topic ts ≡ [] → tables_in topic ts ≡ []
unfolding table_names tables_in choose
none_in topic [] h = refl
none_in topic (t ∷ ts) h = go (eqb t.topic topic) refl (none_in topic ts)
  where
    go : (x : Bool) → eqb t.topic topic ≡ x → (table_names topic ts ≡ [] → tables_in topic ts ≡ []) → tables_in topic (t ∷ ts) ≡ []
    go true e i = let z : t.name ∷ table_names topic ts ≡ [] = rw e at h in cc
    go false e i = rw e (i (rw e at h))

-- ## What the records behind a topic's say

-- bytes behind a record of the topic c, which begin at a byte of the model: the rest of a table's attributes, the topic's other tables, the other topics and the end
record Says (c at : ℕ) (b : List ℕ) (as' : List Attribute) (ns : List (List ℕ)) (ts : List Table) : Type 0 where
  bytes : b ≡ attribute_records as' ++ (table_records (tables_in c ts) ++ (topic_records (c + 1) ns ts ++ record_bytes 6 []))
  attributes : place_attributes at as' ≡ as'
  tables : place_tables (at + length (attribute_records as')) (tables_in c ts) ++ place_topics (at + length (attribute_records as') + length (table_records (tables_in c ts))) (c + 1) ns ts ≡ ts
  attribute_sizes : are_u16 as' ≡ true
  table_sizes : all_u16 ts ≡ true

module _ (c at : ℕ) (b : List ℕ) (ns : List (List ℕ)) (ts : List Table) (p : List ℕ) where
  -- in front of them an attribute's record
  says_attribute : (a : Attribute) (as' : List Attribute) → a.at ≡ at → attribute_record a ≡ record_bytes 5 p → is_u16 a.type ≡ true → Says c (at + 4 + length p) b as' ns ts → Says c at (record_bytes 5 p ++ b) (a ∷ as') ns ts
  unfolding attribute_records place_attributes are_u16
  says_attribute a as' e is u s = record {
    bytes = rw (is, s.bytes) (sym (append_assoc (record_bytes 5 p) (attribute_records as') _));
    attributes = rw (next, s.attributes, ← e);
    tables = rw over s.tables;
    attribute_sizes = rw u s.attribute_sizes;
    table_sizes = s.table_sizes;
  }
    where
      next : at + length (attribute_record a) ≡ at + 4 + length p
      next = rw is (omega (arith, record_length 5 p))

      over : at + length (attribute_record a ++ attribute_records as') ≡ at + 4 + length p + length (attribute_records as')
      over = omega (arith, next, length-append (attribute_record a) (attribute_records as'))

  -- a table's record
  says_table : (t : Table) → t.topic ≡ c → table_record t ≡ record_bytes 4 p → Says c (at + 4 + length p) b t.attributes ns ts → Says c at (record_bytes 4 p ++ b) [] ns (t ∷ ts)
  unfolding attribute_records table_records place_attributes place_tables are_u16 all_u16
  says_table t e is s = record {
    bytes = rw (here, records_later (c + 1) ns t ts (omega arith), is, s.bytes) (simp append_assoc);
    attributes = refl;
    tables = rw (here, places_later _ (c + 1) ns t ts (omega arith), first_at, s.attributes, behind_at) (ap (λ (l : List Table). t ∷ l) s.tables);
    attribute_sizes = refl;
    table_sizes = rw s.attribute_sizes s.table_sizes;
  }
    where
      here : tables_in c (t ∷ ts) ≡ t ∷ tables_in c ts
      here = in_here c t ts e

      first_at : at + 0 + length (table_record t) ≡ at + 4 + length p
      first_at = rw is (omega (arith, record_length 4 p))

      behind_at : at + 0 + length (table_record t ++ (attribute_records t.attributes ++ table_records (tables_in c ts))) ≡ at + 4 + length p + length (attribute_records t.attributes) + length (table_records (tables_in c ts))
      behind_at = omega (arith, first_at, length-append (table_record t) (attribute_records t.attributes ++ table_records (tables_in c ts)), length-append (attribute_records t.attributes) (table_records (tables_in c ts)))

  -- the next topic's record
  says_topic : tables_in c ts ≡ [] → Says (c + 1) (at + 4 + length p) b [] ns ts → Says c at (record_bytes 3 p ++ b) [] (p ∷ ns) ts
  unfolding attribute_records table_records topic_records place_attributes place_tables place_topics are_u16
  says_topic e s = record {
    bytes = rw (e, s.bytes) (simp append_assoc);
    attributes = refl;
    tables = rw (e, next) s.tables;
    attribute_sizes = refl;
    table_sizes = s.table_sizes;
  }
    where
      next : at + 0 + 0 + length (record_bytes 3 p) ≡ at + 4 + length p + 0
      next = omega (arith, record_length 3 p)

-- the end record alone
says_end : (c at : ℕ) → Says c at (record_bytes 6 [] ++ []) [] [] []
unfolding attribute_records table_records topic_records place_attributes place_tables place_topics are_u16 all_u16 tables_in
says_end c at = record { bytes = append-nil (record_bytes 6 []); attributes = refl; tables = refl; attribute_sizes = refl; table_sizes = refl }

-- ## Payloads in records

attribute_is : (at : ℕ) (p : List ℕ) (seen : Seen) → AreBytes p → keeps 5 p seen ≡ true → attribute_record (attribute_of at p) ≡ record_bytes 5 p
unfolding keeps choose attribute_record
attribute_is at p seen h k = ap (record_bytes 5) (sym (attribute_written at p h seen k))

table_is : (topic : ℕ) (p : List ℕ) (as' : List Attribute) (seen : Seen) → keeps 4 p seen ≡ true → table_record (record { topic = topic; optional = flag_of p; name = drop 1 p; attributes = as' }) ≡ record_bytes 4 p
unfolding keeps choose table_record
table_is topic p as' seen k = ap (record_bytes 4) (sym (table_written p seen k))

end_is : (p : List ℕ) (seen : Seen) → keeps 6 p seen ≡ true → p ≡ []
unfolding keeps choose
end_is [] seen k = refl
end_is (x ∷ p) seen k = let z = eqb-true (length (x ∷ p)) 0 k in absurd (omega arith)

-- ## Records behind a topic's

abbrev SaysAll : (c at : ℕ) → Records → Type 0
SaysAll c at rs = Says c at (written_of rs) (attributes_of rs) (topics_of rs) (tables_of (c + 1) rs)

-- the kinds behind a topic's, a table's or an attribute's record
kind_behind : (last kind : ℕ) → 3 ≤ last → last ≤ 5 → follows last kind ≡ true → (3 ≤ kind) × (kind ≤ 6)
kind_behind zero kind l k h = absurd (omega arith)
kind_behind (suc zero) kind l k h = absurd (omega arith)
kind_behind (suc (suc zero)) kind l k h = absurd (omega arith)
kind_behind (suc (suc (suc zero))) kind l k h = let e = kind_four kind h in (omega arith, omega arith)
kind_behind (suc (suc (suc (suc zero)))) kind l k h = let e = kind_five kind h in (omega arith, omega arith)
kind_behind (suc (suc (suc (suc (suc zero))))) kind l k h = kind_any kind h
kind_behind (suc (suc (suc (suc (suc (suc n)))))) kind l k h = absurd (omega arith)

-- behind a topic's record there is no attribute
no_attribute : (rs : Records) (seen : Seen) (u : Checked) (m : Model) → check_records 3 seen rs u ≡ good m → attributes_of rs ≡ []
unfolding attributes_of choose
no_attribute (finish n) seen u m h = refl
no_attribute (overrun n) seen u m h = refl
no_attribute (entry n kind p others) seen u m h = rw (kind_four kind (entry_passes 3 n kind seen p others u m h).0)

module _ (at c : ℕ) (seen : Seen) (p : List ℕ) (others : Records) (u : Checked) (m : Model) where
  entry_topic : check_records 3 (see 3 p seen) others u ≡ good m → SaysAll (c + 1) (at + 4 + length p) others → SaysAll c at (entry at 3 p others)
  unfolding written_of attributes_of topics_of tables_of choose
  entry_topic h i =
      says_topic c at (written_of others) (topics_of others) (tables_of (c + 1 + 1) others) p (none_in c _ (names_later others (c + 1 + 1) c (omega arith)))
      (subst (λ (as' : List Attribute). Says (c + 1) (at + 4 + length p) (written_of others) as' (topics_of others) (tables_of (c + 1 + 1) others)) (no_attribute others (see 3 p seen) u m h) i)

  entry_table : keeps 4 p seen ≡ true → SaysAll c (at + 4 + length p) others → SaysAll c at (entry at 4 p others)
  unfolding written_of attributes_of topics_of tables_of choose
  entry_table k i = says_table c at (written_of others) (topics_of others) (tables_of (c + 1) others) p _ (omega arith) (table_is _ p (attributes_of others) seen k) i

  entry_attribute : AreBytes p → keeps 5 p seen ≡ true → SaysAll c (at + 4 + length p) others → SaysAll c at (entry at 5 p others)
  unfolding written_of attributes_of topics_of tables_of choose attribute_of
  entry_attribute b k i = says_attribute c at (written_of others) (topics_of others) (tables_of (c + 1) others) p (attribute_of at p) (attributes_of others) refl (attribute_is at p seen b k) (attribute_sized at p b) i

  entry_end : keeps 6 p seen ≡ true → check_records 6 (see 6 p seen) others u ≡ good m → SaysAll c at (entry at 6 p others)
  unfolding written_of attributes_of topics_of tables_of choose
  entry_end k h = let n = nothing_more others (see 6 p seen) u m h in rw (end_is p seen k, n.1) (says_end c at)

says : (rs : Records) (last at c : ℕ) (seen : Seen) (u : Checked) (m : Model) → 3 ≤ last → last ≤ 5 → Sound at rs → check_records last seen rs u ≡ good m → SaysAll c at rs
unfolding check_records
says (finish n) last at c seen u m l k s h = let six = eqb-true last 6 (not-false _ (passed _ n _ m h).0) in absurd (omega arith)
says (overrun n) last at c seen u m l k s h = absurd s
says (entry n kind p others) last at c seen u m l k s h =
    rw s.0 (go (eqb kind 3) (eqb kind 4) (eqb kind 5) refl refl refl (λ c' l' k'. says others kind (at + 4 + length p) c' (see kind p seen) u m l' k' s.2 (entry_passes last n kind seen p others u m h).2))
  where
    e : (follows last kind ≡ true) × (keeps kind p seen ≡ true) × (check_records kind (see kind p seen) others u ≡ good m)
    e = entry_passes last n kind seen p others u m h

    few : (3 ≤ kind) × (kind ≤ 6)
    few = kind_behind last kind l k e.0

    go : (x y z : Bool) → eqb kind 3 ≡ x → eqb kind 4 ≡ y → eqb kind 5 ≡ z → ((c' : ℕ) → 3 ≤ kind → kind ≤ 5 → SaysAll c' (at + 4 + length p) others) → SaysAll c at (entry at kind p others)
    go true y z q r w i = let three = eqb-true kind 3 q in rw three (entry_topic at c seen p others u m (rw three at e.2) (i (c + 1) (omega arith) (omega arith)))
    go false true z q r w i = let four = eqb-true kind 4 r in rw four (entry_table at c seen p others u m (rw four at e.1) (i c (omega arith) (omega arith)))
    go false false true q r w i = let five = eqb-true kind 5 w in rw five (entry_attribute at c seen p others u m s.1 (rw five at e.1) (i c (omega arith) (omega arith)))
    go false false false q r w i =
        let six : kind ≡ 6 = omega (arith, few, eqb-false kind 3 q, eqb-false kind 4 r, eqb-false kind 5 w) in
        rw six (entry_end at c seen p others u m (rw six at e.1) (rw six at e.2))

-- ## The first records

-- records that begin at this byte, behind the model record: the topics and the end
abbrev TopicsAt : ℕ → Records → Type 0
TopicsAt at rs = (written_of rs ≡ topic_records 0 (topics_of rs) (tables_of 0 rs) ++ record_bytes 6 []) × (place_topics at 0 (topics_of rs) (tables_of 0 rs) ≡ tables_of 0 rs) × (all_u16 (tables_of 0 rs) ≡ true)

first_topic : (at : ℕ) (p : List ℕ) (others : Records) → Says 0 (at + 4 + length p) (written_of others) [] (topics_of others) (tables_of 1 others) → TopicsAt at (entry at 3 p others)
unfolding written_of topics_of tables_of choose topic_records place_topics attribute_records
first_topic at p others s =
    let next : at + length (record_bytes 3 p) ≡ at + 4 + length p + 0 = omega (arith, record_length 3 p) in
    (rw s.bytes (simp append_assoc), rw next s.tables, s.table_sizes)

topics_at : (rs : Records) (at : ℕ) (seen : Seen) (u : Checked) (m : Model) → Sound at rs → check_records 2 seen rs u ≡ good m → TopicsAt at rs
unfolding check_records
topics_at (finish n) at seen u m s h = absurd (true≢false (passed _ n _ m h).0)
topics_at (overrun n) at seen u m s h = absurd s
topics_at (entry n kind p others) at seen u m s h =
    let e = entry_passes 2 n kind seen p others u m h in
    let three = kind_three kind e.0 in
    let c : check_records 3 (see 3 p seen) others u ≡ good m = rw three at e.2 in
    let i : SaysAll 0 (at + 4 + length p) others = says others 3 (at + 4 + length p) 0 (see 3 p seen) u m (omega arith) (omega arith) s.2 c in
    rw (s.0, three) (first_topic at p others (rw (no_attribute others (see 3 p seen) u m c) at i))

-- behind the transfer record
abbrev ModelAt : ℕ → Records → Type 0
ModelAt at rs = (written_of rs ≡ record_bytes 2 (name_of rs) ++ (topic_records 0 (topics_of rs) (tables_of 0 rs) ++ record_bytes 6 [])) × (place_topics (at + length (record_bytes 2 (name_of rs))) 0 (topics_of rs) (tables_of 0 rs) ≡ tables_of 0 rs) × (all_u16 (tables_of 0 rs) ≡ true)

model_record : (at : ℕ) (p : List ℕ) (others : Records) → TopicsAt (at + 4 + length p) others → ModelAt at (entry at 2 p others)
unfolding written_of name_of topics_of tables_of choose
model_record at p others t =
    let next : at + length (record_bytes 2 p) ≡ at + 4 + length p = omega (arith, record_length 2 p) in
    (rw t.0, rw next t.1, t.2)

model_at : (rs : Records) (at : ℕ) (seen : Seen) (u : Checked) (m : Model) → Sound at rs → check_records 1 seen rs u ≡ good m → ModelAt at rs
unfolding check_records
model_at (finish n) at seen u m s h = absurd (true≢false (passed _ n _ m h).0)
model_at (overrun n) at seen u m s h = absurd s
model_at (entry n kind p others) at seen u m s h =
    let e = entry_passes 1 n kind seen p others u m h in
    let two = kind_two kind e.0 in
    rw (s.0, two) (model_record at p others (topics_at others (at + 4 + length p) (see 2 p seen) u m s.2 (rw two at e.2)))

-- all records
abbrev Decoded : Records → Type 0
Decoded rs = (written_of rs ≡ records_of (model_of rs)) × (placed (model_of rs) ≡ model_of rs) × (all_u16 (model_of rs).tables ≡ true)

transfer_record_lem : (p : List ℕ) (others : Records) → keeps 1 p nothing_seen ≡ true → ModelAt (4 + length p) others → Decoded (entry 0 1 p others)
unfolding written_of model_of records_of placed transfer_record keeps choose
transfer_record_lem p others k o =
    let is : byte_at p 0 ∷ byte_at p 1 ∷ byte_at p 2 ∷ drop 3 p ≡ p = sym (transfer_written p k) in
    (rw (is, o.0), rw (is, record_length 1 p, o.1), o.2)

decoded : (rs : Records) (u : Checked) (m : Model) → Sound 0 rs → check_records 0 nothing_seen rs u ≡ good m → Decoded rs
unfolding check_records
decoded (finish n) u m s h = absurd (true≢false (passed _ n _ m h).0)
decoded (overrun n) u m s h = absurd s
decoded (entry n kind p others) u m s h =
    let e = entry_passes 0 n kind nothing_seen p others u m h in
    let one = is_transfer kind e.0 in
    rw (s.0, one) (transfer_record_lem p others (rw one at e.1) (model_at others (4 + length p) (see 1 p nothing_seen) u m s.2 (rw one at e.2)))

-- ## Bytes

pub bytes_decoded : (b : List ℕ) (u : Checked) (m : Model) → AreBytes b → check_records 0 nothing_seen (records_from 0 0 b) u ≡ good m
    → (b ≡ records_of (model_of (records_from 0 0 b))) × (placed (model_of (records_from 0 0 b)) ≡ model_of (records_from 0 0 b)) × (all_u16 (model_of (records_from 0 0 b)).tables ≡ true)
bytes_decoded b u m h k =
    let w = read_written (records_from 0 0 b) 0 0 nothing_seen u m b h refl k in
    let d = decoded (records_from 0 0 b) u m w.1 k in
    (w.0 ∙ d.0, d.1, d.2)

-- records that keep the rules up to the end record pass
kept_passes : {b : List ℕ} {seen : Seen} (m : Model) → GoodRecords b 6 seen → check_records 0 nothing_seen (records_from 0 0 b) (good m) ≡ good m
unfolding records_from check_records refuse
kept_passes {b} m k = subst (λ (l : List ℕ). check_records 0 nothing_seen (records_from 0 0 l) (good m) ≡ good m) (append-nil b) (kept_read k [] (good m))

pub records_say : RecordsSay
records_say b seen m h k e = let d = bytes_decoded b (good m) m h (kept_passes m k) in (d.0 ∙ ap records_of e, rw e at d.1)

-- what the check calls good are the records of a good model
pub checked_model : (b : List ℕ) (m : Model) → AreBytes b → check_model b ≡ good m → IsModel b m
checked_model b m h k =
    let o = opened b m k in
    let d = bytes_decoded b (good m) m h (o.2 (good m)) in
    record {
      short = o.0;
      records = d.0 ∙ ap records_of o.1;
      rules = checked_good b m k;
      places = rw o.1 at d.1;
      sizes = rw o.1 at d.2;
    }
