-- The records of a good model pass the check, and give it with the byte of each attribute's record. Assumes nothing.
use Prim.Native.Nat.{ℕ, ◌+◌, ◌≤◌, ◌<◌}
use native.Mathlib.Omega.{arith}
use mathlib.Core.Path.{◌≡◌, refl, sym, ap, ◌∙◌}
use mathlib.Core.Bool.{Bool, true, false}
use mathlib.Core.List.{List, [], ◌∷◌, ◌++◌, map, map-append}
use lib.Dec.{leb, eqb}
use lib.ListN.{length, get_or, length-append, length-map, get_or-map}
use lib.Seq.{append_snoc}
use borrow.Author.Tests.{leb-true, lt-ltb, le-ltb, eqb-true, eqb-false, ne_eqb, not-true}
use Rattle.meaning.specs.Bytes.{choose, refuse, all_of, same}
use Rattle.meaning.specs.Model.{Records, Found, found, missing, Attribute, Table, Model, no_table, table_at, target_of}
use Rattle.meaning.specs.Check.{Checked, good, Seen, nothing_seen, good_type, is_name, is_among, follows, follows_transfer, keeps, keeps_transfer, keeps_topic, keeps_table, see, is_outside, judge_attributes, judge_references, check_records, check_model, good_names, attribute_names, table_names, good_types, in_topic_order, GoodModel}
use Rattle.meaning.specs.ModelBytes.{record_bytes, attribute_record, attribute_records, table_record, table_records, tables_in, transfer_record, records_of, place_attributes, place_tables, place_topics, placed}
use Rattle.meaning.specs.ModelClaims.{IsModel}
use Rattle.meaning.proofs.Tests.Refuse.{both, neither, holds}
use Rattle.meaning.proofs.Model.Models.{entry_kept}
use Rattle.meaning.proofs.Model.GoodModels.{same_swap, order_later}
use Rattle.meaning.proofs.Model.AttributeBytes.{attribute_payload, is_flag_lem, name_read, attribute_keeps}
use Rattle.meaning.proofs.Model.Entries.{table_payload, attribute_entries, table_entries, topic_entries, model_entries, model_read, Each, GoodTable, each_good, each_below, each_in, model_said}

-- ## Names

among_later : (n o : List ℕ) (os ns : List (List ℕ)) → is_among o (os ++ (n ∷ ns)) ≡ false → same n o ≡ false
unfolding is_among
among_later n o [] ns h = (neither (same n o) _ h).0
among_later n o (x ∷ os) ns h = among_later n o os ns (neither (same x o) _ h).1

-- of good names, each is a name and not among those before it
name_at_lem : (seen : List (List ℕ)) (n : List ℕ) (ns : List (List ℕ)) → good_names (seen ++ (n ∷ ns)) ≡ true → (is_name 24 n ≡ true) × (is_among n seen ≡ false)
unfolding good_names is_among
name_at_lem [] n ns g = (holds _ 0 g, refl)
name_at_lem (o ∷ seen) n ns g =
    let r = name_at_lem seen n ns (holds _ 2 g) in
    (r.0, rw (same_swap n o (among_later n o seen ns (not-true _ (holds _ 1 g)))) r.1)

-- ## Attributes

-- what is seen behind an attribute that is written
see_attribute : (a : Attribute) (seen : Seen) → good_type a.type ≡ true
    → see 5 (attribute_payload a) seen ≡ record { topics = seen.topics; tables = seen.tables; attributes = seen.attributes ++ (a.name ∷ []); table_count = seen.table_count }
unfolding see choose
see_attribute a seen g = rw (name_read a g 0)

-- attributes pass where the records behind them pass; behind what kind they stand is free, but where there is none it is an attribute's
attributes_pass : (ts : List Table) (topic before at : ℕ) (seen : Seen) (as' : List Attribute) (rs : Records) (rest : Checked) → follows before 5 ≡ true → (length as' ≡ 0 → before ≡ 5)
    → good_names (seen.attributes ++ attribute_names as') ≡ true → length seen.attributes + length as' ≤ 64 → good_types ts topic as' ≡ true
    → ((s : Seen) → s.topics ≡ seen.topics → s.tables ≡ seen.tables → s.table_count ≡ seen.table_count → check_records 5 s rs rest ≡ rest)
    → check_records before seen (attribute_entries at as' rs) rest ≡ rest
unfolding attribute_entries attribute_names good_types keeps choose follows
attributes_pass ts topic before at seen [] rs rest f o n l g k = rw (o refl) (k seen refl refl refl)
attributes_pass ts topic before at seen (a ∷ others) rs rest f o n l g k =
    let q = name_at_lem seen.attributes a.name (attribute_names others) n in
    let keep = attribute_keeps a (holds _ 0 g) seen q.0 (omega arith) q.1 in
    entry_kept before at 5 seen (attribute_payload a) _ rest f keep ∙ rw (see_attribute a seen (holds _ 0 g))
    (attributes_pass ts topic 5 (at + length (attribute_record a)) _ others rs rest refl (λ e. refl) (rw (append_snoc seen.attributes a.name (attribute_names others)) n) (omega (arith, length-append seen.attributes (a.name ∷ []))) (holds _ 2 g) k)

-- ## Tables

abbrev pub names_of : List Table → List (List ℕ)
names_of ts = map (λ (t : Table). t.name) ts

-- tables, with their attributes
tables_pass : (all : List Table) (before at : ℕ) (seen : Seen) (ts : List Table) (rs : Records) (rest : Checked) → follows before 4 ≡ true → (length ts ≡ 0 → before ≡ 5)
    → good_names (seen.tables ++ names_of ts) ≡ true → seen.table_count + length ts ≤ 512 → Each (GoodTable all) ts
    → ((s : Seen) → s.topics ≡ seen.topics → s.table_count ≡ seen.table_count + length ts → check_records 5 s rs rest ≡ rest)
    → check_records before seen (table_entries at ts rs) rest ≡ rest
unfolding table_entries keeps keeps_table see choose all_of follows
tables_pass all before at seen [] rs rest f o n l g k = rw (o refl) (k seen refl (omega arith))
tables_pass all before at seen (t ∷ others) rs rest f o n l g k =
    let q = name_at_lem seen.tables t.name (names_of others) n in
    let keep : keeps 4 (table_payload t) seen ≡ true = rw (is_flag_lem t.optional t.name, q.0, lt-ltb seen.table_count 512 (omega arith), q.1) in
    let first : ℕ = at + length (table_record t) in
    let some = g.0.some in
    let few = g.0.few in
    entry_kept before at 4 seen (table_payload t) _ rest f keep ∙ attributes_pass all t.topic 4 first _ t.attributes _ rest refl (λ e. absurd (omega arith)) g.0.names (omega arith) g.0.types
    (λ s p r c. tables_pass all 5 (first + length (attribute_records t.attributes)) s others rs rest refl (λ e. refl) (rw (r, append_snoc seen.tables t.name (names_of others)) n) (omega arith) g.1
    (λ s' p' c'. k s' (p' ∙ p) (omega arith)))

-- ## Topics

pub names_in : (topic : ℕ) (ts : List Table) → names_of (tables_in topic ts) ≡ table_names topic ts
unfolding tables_in table_names choose
names_in topic [] = refl
names_in topic (t ∷ others) = go (eqb t.topic topic) refl (names_in topic others)
  where
    go : (x : Bool) → eqb t.topic topic ≡ x → names_of (tables_in topic others) ≡ table_names topic others → names_of (tables_in topic (t ∷ others)) ≡ table_names topic (t ∷ others)
    go true e i = rw e (ap (λ (l : List (List ℕ)). t.name ∷ l) i)
    go false e i = rw e i

-- the tables of so many topics, from this one on
unfoldable tables_from : (topic : ℕ) → List (List ℕ) → List Table → List Table
tables_from topic [] ts = []
tables_from topic (name ∷ names) ts = tables_in topic ts ++ tables_from (topic + 1) names ts

-- topics, with their tables
topics_pass : (all : List Table) (before at topic : ℕ) (seen : Seen) (names : List (List ℕ)) (ts : List Table) (rs : Records) (rest : Checked) → follows before 3 ≡ true → (length names ≡ 0 → before ≡ 5)
    → good_names (seen.topics ++ names) ≡ true → length seen.topics + length names ≤ 64 → seen.table_count + length (tables_from topic names ts) ≤ 512 → Each (GoodTable all) ts
    → ((j : ℕ) → good_names (table_names j ts) ≡ true) → ((j : ℕ) → j < topic + length names → 1 ≤ length (table_names j ts)) → ((s : Seen) → check_records 5 s rs rest ≡ rest)
    → check_records before seen (topic_entries at topic names ts rs) rest ≡ rest
unfolding topic_entries tables_from keeps keeps_topic see choose all_of follows
topics_pass all before at topic seen [] ts rs rest f o n l c g u v k = rw (o refl) (k seen)
topics_pass all before at topic seen (name ∷ names) ts rs rest f o n l c g u v k =
    let q = name_at_lem seen.topics name names n in
    let keep : keeps 3 name seen ≡ true = rw (q.0, lt-ltb (length seen.topics) 64 (omega arith), q.1) in
    let first : ℕ = at + length (record_bytes 3 name) in
    let own : List Table = tables_in topic ts in
    let size : length own ≡ length (table_names topic ts) = sym (length-map own (λ (t : Table). t.name)) ∙ ap length (names_in topic ts) in
    let some = v topic (omega arith) in
    let count = length-append (tables_in topic ts) (tables_from (topic + 1) names ts) in
    entry_kept before at 3 seen name _ rest f keep ∙ tables_pass all 3 first _ own _ rest refl (λ e. absurd (omega arith)) (rw (names_in topic ts) (u topic)) (omega arith) (each_in (GoodTable all) topic ts g)
    (λ s p d. topics_pass all 5 (first + length (table_records own)) (topic + 1) s names ts rs rest refl (λ e. refl) (rw (p, append_snoc seen.topics name names) n) (omega (arith, ap length p, length-append seen.topics (name ∷ []))) (omega arith) g u (λ j h. v j (omega arith)) k)

-- ## The tables, topic by topic, are all tables

none_before : (least topic : ℕ) (ts : List Table) → topic < least → in_topic_order least ts ≡ true → tables_in topic ts ≡ []
unfolding in_topic_order tables_in choose
none_before least topic [] l h = refl
none_before least topic (t ∷ others) l h =
    let r = both (leb least t.topic) _ h in
    let a = leb-true least t.topic r.0 in
    rw (ne_eqb t.topic topic (omega arith)) (none_before t.topic topic others (omega arith) r.1)

-- a table of an earlier topic does not count
from_later : (topic : ℕ) (names : List (List ℕ)) (t : Table) (ts : List Table) → t.topic < topic → tables_from topic names (t ∷ ts) ≡ tables_from topic names ts
unfolding tables_from tables_in choose
from_later topic [] t ts l = refl
from_later topic (name ∷ names) t ts l = rw (ne_eqb t.topic topic (omega arith), from_later (topic + 1) names t ts (omega arith))

-- the first table stands first
from_first : (topic : ℕ) (names : List (List ℕ)) (t : Table) (ts : List Table) → topic ≤ t.topic → t.topic < topic + length names → in_topic_order t.topic ts ≡ true
    → tables_from topic names (t ∷ ts) ≡ t ∷ tables_from topic names ts
unfolding tables_from tables_in choose
from_first topic [] t ts l h o = absurd (omega arith)
from_first topic (name ∷ names) t ts l h o = go (eqb t.topic topic) refl (λ l' h'. from_first (topic + 1) names t ts l' h' o)
  where
    go : (x : Bool) → eqb t.topic topic ≡ x → (topic + 1 ≤ t.topic → t.topic < topic + 1 + length names → tables_from (topic + 1) names (t ∷ ts) ≡ t ∷ tables_from (topic + 1) names ts)
        → tables_from topic (name ∷ names) (t ∷ ts) ≡ t ∷ tables_from topic (name ∷ names) ts
    go true e i = let a = eqb-true t.topic topic e in rw (e, from_later (topic + 1) names t ts (omega arith))
    go false e i = let a = eqb-false t.topic topic e in rw (e, none_before t.topic topic ts (omega arith) o) (i (omega arith) (omega arith))

from_none : (topic : ℕ) (names : List (List ℕ)) → tables_from topic names [] ≡ []
unfolding tables_from tables_in
from_none topic [] = refl
from_none topic (name ∷ names) = from_none (topic + 1) names

from_all : (topic : ℕ) (names : List (List ℕ)) (ts : List Table) → in_topic_order topic ts ≡ true → Each (λ t. t.topic < topic + length names) ts → tables_from topic names ts ≡ ts
unfolding in_topic_order
from_all topic names [] o h = from_none topic names
from_all topic names (t ∷ ts) o h =
    let r = both (leb topic t.topic) _ o in
    let l = leb-true topic t.topic r.0 in
    from_first topic names t ts l h.0 r.1 ∙ ap (λ (l : List Table). t ∷ l) (from_all topic names ts (order_later t.topic topic ts l r.1) h.1)

-- ## References

-- the topic of each table
abbrev topic_numbers : List Table → List ℕ
topic_numbers ts = map (λ (t : Table). t.topic) ts

placed_tables : (at : ℕ) (ts : List Table) → topic_numbers (place_tables at ts) ≡ topic_numbers ts
unfolding place_tables
placed_tables at [] = refl
placed_tables at (t ∷ others) = ap (λ (l : List ℕ). t.topic ∷ l) (placed_tables (at + length (table_record t) + length (attribute_records t.attributes)) others)

placed_topics : (at topic : ℕ) (names : List (List ℕ)) (ts : List Table) → topic_numbers (place_topics at topic names ts) ≡ topic_numbers (tables_from topic names ts)
unfolding place_topics tables_from
placed_topics at topic [] ts = refl
placed_topics at topic (name ∷ names) ts =
    let first : ℕ = at + length (record_bytes 3 name) in
    let behind : ℕ = first + length (table_records (tables_in topic ts)) in
    rw (map-append (λ (t : Table). t.topic) (place_tables first (tables_in topic ts)) (place_topics behind (topic + 1) names ts), map-append (λ (t : Table). t.topic) (tables_in topic ts) (tables_from (topic + 1) names ts), placed_tables first (tables_in topic ts), placed_topics behind (topic + 1) names ts)

-- which references lie outside is said by the topics of the tables
outside_same : (qs ts : List Table) → topic_numbers qs ≡ topic_numbers ts → (topic : ℕ) (f : Found) → is_outside qs topic f ≡ is_outside ts topic f
unfolding is_outside
outside_same qs ts e topic missing = refl
outside_same qs ts e topic (found t) =
    let number : Table → ℕ = λ (t : Table). t.topic in
    let size : length qs ≡ length ts = sym (length-map qs number) ∙ ap length e ∙ length-map ts number in
    let own : (table_at qs t).topic ≡ (table_at ts t).topic = sym (get_or-map number qs t no_table) ∙ ap (λ (l : List ℕ). get_or l t 0) e ∙ get_or-map number ts t no_table in
    rw (size, own)

judge_attributes_lem : (qs ts : List Table) (topic at : ℕ) (as' : List Attribute) (rest : Checked) → topic_numbers qs ≡ topic_numbers ts → good_types ts topic as' ≡ true → judge_attributes qs topic (place_attributes at as') rest ≡ rest
unfolding judge_attributes place_attributes good_types refuse
judge_attributes_lem qs ts topic at [] rest e g = refl
judge_attributes_lem qs ts topic at (a ∷ others) rest e g =
    let inside : is_outside qs topic (target_of a.type) ≡ false = outside_same qs ts e topic (target_of a.type) ∙ not-true _ (holds _ 1 g) in
    rw inside (judge_attributes_lem qs ts topic (at + length (attribute_record a)) others rest e (holds _ 2 g))

judge_tables_lem : (qs ts : List Table) (at : ℕ) (others : List Table) (rest : Checked) → topic_numbers qs ≡ topic_numbers ts → Each (GoodTable ts) others → judge_references qs (place_tables at others) rest ≡ rest
unfolding judge_references place_tables
judge_tables_lem qs ts at [] rest e g = refl
judge_tables_lem qs ts at (t ∷ others) rest e g =
    let first : ℕ = at + length (table_record t) in
    judge_attributes_lem qs ts t.topic first t.attributes _ e g.0.types ∙ judge_tables_lem qs ts (first + length (attribute_records t.attributes)) others rest e g.1

judge_append : (qs xs ys : List Table) (rest : Checked) → judge_references qs (xs ++ ys) rest ≡ judge_references qs xs (judge_references qs ys rest)
unfolding judge_references
judge_append qs [] ys rest = refl
judge_append qs (t ∷ xs) ys rest = ap (judge_attributes qs t.topic t.attributes) (judge_append qs xs ys rest)

judge_topics : (qs ts : List Table) (at topic : ℕ) (names : List (List ℕ)) (rest : Checked) → topic_numbers qs ≡ topic_numbers ts → Each (GoodTable ts) ts → judge_references qs (place_topics at topic names ts) rest ≡ rest
unfolding judge_references place_topics
judge_topics qs ts at topic [] rest e g = refl
judge_topics qs ts at topic (name ∷ names) rest e g =
    let first : ℕ = at + length (record_bytes 3 name) in
    let behind : ℕ = first + length (table_records (tables_in topic ts)) in
    judge_append qs (place_tables first (tables_in topic ts)) (place_topics behind (topic + 1) names ts) rest
    ∙ judge_tables_lem qs ts first (tables_in topic ts) _ e (each_in (GoodTable ts) topic ts g)
    ∙ judge_topics qs ts behind (topic + 1) names rest e g

-- ## All records

module _ (m : Model) (g : GoodModel m) where
  each : Each (GoodTable m.tables) m.tables
  each = each_good (length m.topics) m.tables m.tables g.tables

  all_tables : tables_from 0 m.topics m.tables ≡ m.tables
  all_tables =
      let e : 0 + length m.topics ≡ length m.topics = omega arith in
      from_all 0 m.topics m.tables g.table_order (each_below (0 + length m.topics) m.tables m.tables (rw e g.tables))

  transfer_keeps : keeps_transfer (m.blank ∷ m.undefined ∷ m.mark ∷ m.transfer) ≡ true
  unfolding keeps_transfer all_of
  transfer_keeps = rw (g.blank, g.undefined, g.mark, g.blank_is_not_undefined, g.blank_is_not_mark, g.undefined_is_not_mark, g.transfer)

  records_pass : (rest : Checked) → check_records 0 nothing_seen (model_entries m) rest ≡ rest
  unfolding follows follows_transfer keeps see choose check_records refuse
  records_pass rest =
      let some = g.some_topic in
      let few = g.topic_limit in
      let count : length (tables_from 0 m.topics m.tables) ≤ 512 = rw all_tables g.table_limit in
      rw (transfer_keeps, g.name)
      (topics_pass m.tables 2 (length (transfer_record m) + length (record_bytes 2 m.name)) 0 nothing_seen m.topics m.tables _ rest refl (λ e. absurd (omega arith)) g.topics (omega arith) (omega arith) each g.names_in_topic (λ j h. g.some_table j (omega arith)) (λ s. refl))

  references_pass : judge_references (placed m).tables (placed m).tables (good (placed m)) ≡ good (placed m)
  unfolding placed
  references_pass =
      let first : ℕ = length (transfer_record m) + length (record_bytes 2 m.name) in
      judge_topics (placed m).tables m.tables first 0 m.topics _ (placed_topics first 0 m.topics m.tables ∙ ap topic_numbers all_tables) each

  pub good_passes : length (records_of m) ≤ 65536 → check_model (records_of m) ≡ good (placed m)
  unfolding check_model refuse
  good_passes l = rw (le-ltb 65536 (length (records_of m)) l, model_read m, model_said m m.tables each) (records_pass _ ∙ references_pass)

-- ## What is a model is called good

pub model_checked : (b : List ℕ) (m : Model) → IsModel b m → check_model b ≡ good m
model_checked b m i =
    let short : length (records_of m) ≤ 65536 = rw i.records at i.short in
    ap check_model i.records ∙ good_passes m i.rules short ∙ ap good i.places
