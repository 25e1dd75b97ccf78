-- A model's records, read: which they are, and which topics and tables they say. Assumes nothing.
use Prim.Native.Nat.{ℕ, ◌+◌, ◌-◌, ◌≤◌, ◌<◌}
use native.Mathlib.Omega.{arith}
use mathlib.Core.Path.{◌≡◌, refl, ap, ◌∙◌}
use mathlib.Core.Bool.{true}
use mathlib.Core.List.{List, [], ◌∷◌, ◌++◌, append_assoc}
use lib.Dec.{eqb}
use lib.ListN.{length, length-append}
use borrow.Author.Tests.{ltb-true, leb-true, eqb-true}
use Rattle.meaning.specs.Bytes.{choose}
use Rattle.meaning.specs.Model.{Records, finish, entry, records_from, Attribute, Table, Model, attributes_of, tables_of, topics_of, name_of, model_of}
use Rattle.meaning.specs.Check.{good_names, attribute_names, good_types, good_tables}
use Rattle.meaning.specs.ModelBytes.{u16_bytes, record_bytes, flag_byte, attribute_record, attribute_records, table_record, table_records, tables_in, topic_records, transfer_record, records_of, place_attributes, place_tables, place_topics, placed}
use Rattle.meaning.proofs.Tests.Refuse.{choose_keeps, holds}
use Rattle.meaning.proofs.Model.RecordBytes.{record_length, record_first}
use Rattle.meaning.proofs.Model.AttributeBytes.{attribute_payload, flag_read, attribute_read}

-- ## The records

abbrev pub table_payload : Table → List ℕ
table_payload t = flag_byte t.optional ∷ t.name

-- the records of these attributes, the first at this byte, in front of others
unfoldable pub attribute_entries : (at : ℕ) → List Attribute → Records → Records
attribute_entries at [] rs = rs
attribute_entries at (a ∷ others) rs = entry at 5 (attribute_payload a) (attribute_entries (at + length (attribute_record a)) others rs)

-- those of these tables, and of these topics
unfoldable pub table_entries : (at : ℕ) → List Table → Records → Records
table_entries at [] rs = rs
table_entries at (t ∷ others) rs =
    let first : ℕ = at + length (table_record t) in
    entry at 4 (table_payload t) (attribute_entries first t.attributes (table_entries (first + length (attribute_records t.attributes)) others rs))

unfoldable pub topic_entries : (at topic : ℕ) → List (List ℕ) → List Table → Records → Records
topic_entries at topic [] ts rs = rs
topic_entries at topic (name ∷ names) ts rs =
    let first : ℕ = at + length (record_bytes 3 name) in
    entry at 3 name (table_entries first (tables_in topic ts) (topic_entries (first + length (table_records (tables_in topic ts))) (topic + 1) names ts rs))

-- all of a model: the topics begin at the byte `first`
abbrev pub model_entries : Model → Records
model_entries m =
    let second : ℕ = length (transfer_record m) in
    let first : ℕ = second + length (record_bytes 2 m.name) in
    let end : ℕ = first + length (topic_records 0 m.topics m.tables) in
    entry 0 1 (m.blank ∷ m.undefined ∷ m.mark ∷ m.transfer) (entry second 2 m.name (topic_entries first 0 m.topics m.tables (entry end 6 [] (finish (end + 4)))))

-- ## They are read

one_read : (at kind : ℕ) (p rest : List ℕ) → records_from 0 at (record_bytes kind p ++ rest) ≡ entry at kind p (records_from 0 (at + length (record_bytes kind p)) rest)
one_read at kind p rest =
    let e : at + 4 + length p ≡ at + length (record_bytes kind p) = omega (arith, record_length kind p) in
    record_first at kind p rest ∙ rw e

-- the byte behind two parts
behind_both : (at : ℕ) (s t : List ℕ) → at + length (s ++ t) ≡ at + length s + length t
behind_both at s t = omega (arith, length-append s t)

behind_three : (at : ℕ) (r s t : List ℕ) → at + length (r ++ (s ++ t)) ≡ at + length r + length s + length t
behind_three at r s t = omega (arith, length-append r (s ++ t), length-append s t)

three : (r s t rest : List ℕ) → r ++ (s ++ t) ++ rest ≡ r ++ (s ++ (t ++ rest))
three r s t rest = simp append_assoc

nothing_more : (at : ℕ) → at + 0 ≡ at
nothing_more at = omega arith

attributes_read : (at : ℕ) (as' : List Attribute) (rest : List ℕ) → records_from 0 at (attribute_records as' ++ rest) ≡ attribute_entries at as' (records_from 0 (at + length (attribute_records as')) rest)
unfolding attribute_entries attribute_records attribute_record
attributes_read at [] rest = rw (nothing_more at)
attributes_read at (a ∷ others) rest =
    rw (append_assoc (attribute_record a) (attribute_records others) rest, behind_both at (attribute_record a) (attribute_records others))
    (one_read at 5 (attribute_payload a) (attribute_records others ++ rest) ∙ ap (entry at 5 (attribute_payload a)) (attributes_read (at + length (attribute_record a)) others rest))

tables_read : (at : ℕ) (ts : List Table) (rest : List ℕ) → records_from 0 at (table_records ts ++ rest) ≡ table_entries at ts (records_from 0 (at + length (table_records ts)) rest)
unfolding table_entries table_records table_record
tables_read at [] rest = rw (nothing_more at)
tables_read at (t ∷ others) rest =
    let first : ℕ = at + length (table_record t) in
    rw (three (table_record t) (attribute_records t.attributes) (table_records others) rest, behind_three at (table_record t) (attribute_records t.attributes) (table_records others))
    (one_read at 4 (table_payload t) (attribute_records t.attributes ++ (table_records others ++ rest)) ∙ ap (entry at 4 (table_payload t))
    (attributes_read first t.attributes (table_records others ++ rest) ∙ ap (attribute_entries first t.attributes) (tables_read (first + length (attribute_records t.attributes)) others rest)))

topics_read : (at topic : ℕ) (names : List (List ℕ)) (ts : List Table) (rest : List ℕ)
    → records_from 0 at (topic_records topic names ts ++ rest) ≡ topic_entries at topic names ts (records_from 0 (at + length (topic_records topic names ts)) rest)
unfolding topic_entries topic_records
topics_read at topic [] ts rest = rw (nothing_more at)
topics_read at topic (name ∷ names) ts rest =
    let first : ℕ = at + length (record_bytes 3 name) in
    let own : List Table = tables_in topic ts in
    rw (three (record_bytes 3 name) (table_records own) (topic_records (topic + 1) names ts) rest, behind_three at (record_bytes 3 name) (table_records own) (topic_records (topic + 1) names ts))
    (one_read at 3 name (table_records own ++ (topic_records (topic + 1) names ts ++ rest)) ∙ ap (entry at 3 name)
    (tables_read first own (topic_records (topic + 1) names ts ++ rest) ∙ ap (table_entries first own) (topics_read (first + length (table_records own)) (topic + 1) names ts rest)))

end_read : (at : ℕ) → records_from 0 at (record_bytes 6 []) ≡ entry at 6 [] (finish (at + 4))
unfolding record_bytes u16_bytes records_from
end_read at = record_first at 6 [] [] ∙ rw (nothing_more (at + 4))

pub model_read : (m : Model) → records_from 0 0 (records_of m) ≡ model_entries m
unfolding records_of transfer_record
model_read m =
    let second : ℕ = length (transfer_record m) in
    let first : ℕ = second + length (record_bytes 2 m.name) in
    let e : 0 + length (transfer_record m) ≡ second = omega arith in
    let p : List ℕ = m.blank ∷ m.undefined ∷ m.mark ∷ m.transfer in
    one_read 0 1 p _ ∙ rw e (ap (entry 0 1 p)
    (one_read second 2 m.name _ ∙ ap (entry second 2 m.name)
    (topics_read first 0 m.topics m.tables (record_bytes 6 []) ∙ ap (topic_entries first 0 m.topics m.tables) (end_read _))))

-- ## Good tables

-- each of these tables has a property
abbrev pub Each : (Table → Type 0) → List Table → Type 0
Each P [] = Unit {0}
Each P (t ∷ others) = P t × Each P others

-- a table among all tables ts is good
pub record GoodTable (ts : List Table) (t : Table) : Type 0 where
  pub some : 1 ≤ length t.attributes
  pub few : length t.attributes ≤ 64
  pub names : good_names (attribute_names t.attributes) ≡ true
  pub types : good_types ts t.topic t.attributes ≡ true

pub each_good : (n : ℕ) (ts others : List Table) → good_tables n ts others ≡ true → Each (GoodTable ts) others
unfolding good_tables
each_good n ts [] g = tt
each_good n ts (t ∷ others) g =
    (record { some = leb-true 1 (length t.attributes) (holds _ 1 g); few = leb-true (length t.attributes) 64 (holds _ 2 g); names = holds _ 3 g; types = holds _ 4 g }, each_good n ts others (holds _ 5 g))

-- and of one of the topics
pub each_below : (n : ℕ) (ts others : List Table) → good_tables n ts others ≡ true → Each (λ t. t.topic < n) others
unfolding good_tables
each_below n ts [] g = tt
each_below n ts (t ∷ others) g = (ltb-true t.topic n (holds _ 0 g), each_below n ts others (holds _ 5 g))

-- a topic's tables have what all have
pub each_in : (P : Table → Type 0) (topic : ℕ) (ts : List Table) → Each P ts → Each P (tables_in topic ts)
unfolding tables_in
each_in P topic [] h = tt
each_in P topic (t ∷ others) h = choose_keeps (Each P) (eqb t.topic topic) _ _ (λ e. (h.0, each_in P topic others h.1)) (λ e. each_in P topic others h.1)

of_topic : (topic : ℕ) (ts : List Table) → Each (λ t. t.topic ≡ topic) (tables_in topic ts)
unfolding tables_in
of_topic topic [] = tt
of_topic topic (t ∷ others) = choose_keeps (Each (λ t. t.topic ≡ topic)) (eqb t.topic topic) _ _ (λ e. (eqb-true t.topic topic e, of_topic topic others)) (λ e. of_topic topic others)

-- ## What they say

attributes_said : (ts : List Table) (topic at : ℕ) (as' : List Attribute) (rs : Records) → good_types ts topic as' ≡ true → attributes_of rs ≡ [] → attributes_of (attribute_entries at as' rs) ≡ place_attributes at as'
unfolding attribute_entries attributes_of place_attributes good_types choose
attributes_said ts topic at [] rs g h = h
attributes_said ts topic at (a ∷ others) rs g h = rw (attribute_read a (holds _ 0 g) at, attributes_said ts topic (at + length (attribute_record a)) others rs (holds _ 2 g) h)

-- no table and no topic among attributes
attributes_no_table : (k at : ℕ) (as' : List Attribute) (rs : Records) → tables_of k (attribute_entries at as' rs) ≡ tables_of k rs
unfolding attribute_entries tables_of choose
attributes_no_table k at [] rs = refl
attributes_no_table k at (a ∷ others) rs = attributes_no_table k (at + length (attribute_record a)) others rs

attributes_no_topic : (at : ℕ) (as' : List Attribute) (rs : Records) → topics_of (attribute_entries at as' rs) ≡ topics_of rs
unfolding attribute_entries topics_of choose
attributes_no_topic at [] rs = refl
attributes_no_topic at (a ∷ others) rs = attributes_no_topic (at + length (attribute_record a)) others rs

tables_no_topic : (at : ℕ) (ts : List Table) (rs : Records) → topics_of (table_entries at ts rs) ≡ topics_of rs
unfolding table_entries topics_of choose
tables_no_topic at [] rs = refl
tables_no_topic at (t ∷ others) rs =
    let first : ℕ = at + length (table_record t) in
    attributes_no_topic first t.attributes _ ∙ tables_no_topic (first + length (attribute_records t.attributes)) others rs

-- tables, and topics, do not begin with an attribute
tables_first : (at : ℕ) (ts : List Table) (rs : Records) → attributes_of rs ≡ [] → attributes_of (table_entries at ts rs) ≡ []
unfolding table_entries attributes_of choose
tables_first at [] rs h = h
tables_first at (t ∷ others) rs h = refl

topics_first : (at topic : ℕ) (names : List (List ℕ)) (ts : List Table) (rs : Records) → attributes_of rs ≡ [] → attributes_of (topic_entries at topic names ts rs) ≡ []
unfolding topic_entries attributes_of choose
topics_first at topic [] ts rs h = h
topics_first at topic (name ∷ names) ts rs h = refl

tables_said : (all : List Table) (topic at : ℕ) (ts : List Table) (rs : Records) → Each (λ t. t.topic ≡ topic) ts → Each (GoodTable all) ts → attributes_of rs ≡ []
    → tables_of (topic + 1) (table_entries at ts rs) ≡ place_tables at ts ++ tables_of (topic + 1) rs
unfolding table_entries tables_of place_tables choose
tables_said all topic at [] rs i g h = refl
tables_said all topic at (t ∷ others) rs i g h =
    let first : ℕ = at + length (table_record t) in
    let behind : ℕ = first + length (attribute_records t.attributes) in
    let e : topic + 1 - 1 ≡ t.topic = omega (arith, i.0) in
    rw (e, flag_read t.optional t.name, attributes_said all t.topic first t.attributes (table_entries behind others rs) g.0.types (tables_first behind others rs h), attributes_no_table (topic + 1) first t.attributes (table_entries behind others rs), tables_said all topic behind others rs i.1 g.1 h)

topics_said : (all : List Table) (topic at : ℕ) (names : List (List ℕ)) (ts : List Table) (rs : Records) → Each (GoodTable all) ts → attributes_of rs ≡ [] → ((k : ℕ) → tables_of k rs ≡ [])
    → tables_of topic (topic_entries at topic names ts rs) ≡ place_topics at topic names ts
unfolding topic_entries tables_of place_topics choose
topics_said all topic at [] ts rs g h l = l topic
topics_said all topic at (name ∷ names) ts rs g h l =
    let first : ℕ = at + length (record_bytes 3 name) in
    let behind : ℕ = first + length (table_records (tables_in topic ts)) in
    tables_said all topic first (tables_in topic ts) (topic_entries behind (topic + 1) names ts rs) (of_topic topic ts) (each_in (GoodTable all) topic ts g) (topics_first behind (topic + 1) names ts rs h)
    ∙ ap (λ (l : List Table). place_tables first (tables_in topic ts) ++ l) (topics_said all (topic + 1) behind names ts rs g h l)

names_said : (topic at : ℕ) (names : List (List ℕ)) (ts : List Table) (rs : Records) → topics_of rs ≡ [] → topics_of (topic_entries at topic names ts rs) ≡ names
unfolding topic_entries topics_of choose
names_said topic at [] ts rs h = h
names_said topic at (name ∷ names) ts rs h =
    let first : ℕ = at + length (record_bytes 3 name) in
    let behind : ℕ = first + length (table_records (tables_in topic ts)) in
    ap (λ (l : List (List ℕ)). name ∷ l) (tables_no_topic first (tables_in topic ts) _ ∙ names_said (topic + 1) behind names ts rs h)

pub model_said : (m : Model) (all : List Table) → Each (GoodTable all) m.tables → model_of (model_entries m) ≡ placed m
unfolding model_of name_of placed topics_of tables_of attributes_of choose
model_said m all g =
    let first : ℕ = length (transfer_record m) + length (record_bytes 2 m.name) in
    rw (names_said 0 first m.topics m.tables _ refl, topics_said all 0 first m.topics m.tables _ g refl (λ k. refl))
