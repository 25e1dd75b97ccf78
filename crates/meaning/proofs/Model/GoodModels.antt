-- What is known of every model that the check calls good. Assumes nothing.
use Prim.Native.Nat.{ℕ, zero, suc, ◌+◌, ◌-◌, ◌≤◌, ◌<◌}
use native.Mathlib.Omega.{arith}
use mathlib.Core.Path.{◌≡◌, refl, sym, ap, ◌∙◌, subst}
use mathlib.Core.Bool.{Bool, true, false, ◌&&◌, true≢false, false≢true}
use mathlib.Core.List.{List, [], ◌∷◌, ◌++◌}
use lib.Dec.{leb, eqb}
use lib.ListN.{length, drop, length-append}
use borrow.Author.Tests.{ltb-true, lt-ltb, leb-true, le-leb, eqb-true, eqb-false, eq-eqb, ne_eqb, not-false, not-true}
use Rattle.meaning.specs.Bytes.{choose, all_of, same, byte_at}
use Rattle.meaning.specs.Model.{Records, finish, overrun, entry, Attribute, Table, Model, flag_of, type_of, target_of, attribute_of, attributes_of, tables_of, topics_of, model_of}
use Rattle.meaning.specs.Check.{Checked, good, Seen, nothing_seen, is_name, is_type, good_type, is_among, follows, follows_transfer, keeps, keeps_transfer, keeps_topic, keeps_table, keeps_attribute, see, is_outside, judge_attributes, judge_references, check_records, check_model, good_names, attribute_names, table_names, good_types, good_tables, in_topic_order, GoodModel}
use Rattle.meaning.proofs.Unfolding.Cuts.{both}
use Rattle.meaning.proofs.Model.Marks.{bad_good, passed, references_good, attributes_good, holds, rest_good}
use Rattle.meaning.proofs.Tests.Same.{same_refl, same_not}
use Rattle.meaning.proofs.Model.Models.{model_lists}
use Rattle.meaning.proofs.Model.Records.{records_at, payload_at, next_at}
use Rattle.meaning.proofs.Model.Standing.{kind_four, kind_five, entry_passes, transfer_keeps, payload_blank, payload_undefined, payload_mark, good_transfer, good_name, name_keeps, topic_name, stands_topic, topic_kind}
use Rattle.meaning.proofs.Tests.Refuse.{neither}

-- ## Names that are not among those seen

abbrev Fresh : List (List ℕ) → List (List ℕ) → Type 0
Fresh seen [] = Unit {0}
Fresh seen (n ∷ ns) = (is_among n seen ≡ false) × Fresh seen ns

pub same_swap : (s t : List ℕ) → same s t ≡ false → same t s ≡ false
same_swap s t h = same_not t s (λ e. true≢false (sym (same_refl s) ∙ ap (same s) (sym e) ∙ h))

-- not among these and one more
among_snoc : (n o : List ℕ) (seen : List (List ℕ)) → is_among n (seen ++ (o ∷ [])) ≡ false → (is_among n seen ≡ false) × (same o n ≡ false)
unfolding is_among
among_snoc n o [] h = (refl, (neither (same o n) false h).0)
among_snoc n o (x ∷ seen) h =
    let q = neither (same x n) _ h in
    let r = among_snoc n o seen q.1 in
    (rw q.0 r.0, r.1)

-- names that are fresh behind one more are fresh, and that one is not among them
fresh_more : (o : List ℕ) (seen ns : List (List ℕ)) → Fresh (seen ++ (o ∷ [])) ns → Fresh seen ns × (is_among o ns ≡ false)
unfolding is_among
fresh_more o seen [] f = (tt, refl)
fresh_more o seen (n ∷ ns) f =
    let q = among_snoc n o seen f.0 in
    let r = fresh_more o seen ns f.1 in
    ((q.0, r.0), rw (same_swap o n q.1) r.1)

-- a fresh name in front of good ones
names_cons : (n : List ℕ) (ns : List (List ℕ)) → is_name 24 n ≡ true → is_among n ns ≡ false → good_names ns ≡ true → good_names (n ∷ ns) ≡ true
unfolding good_names all_of
names_cons n ns a b c = rw (a, b, c)

-- ## Topics

abbrev Topics : Seen → Records → Type 0
Topics seen rs = (good_names (topics_of rs) ≡ true) × Fresh seen.topics (topics_of rs) × (length seen.topics ≤ 64 → length seen.topics + length (topics_of rs) ≤ 64)

topic_more : (p : List ℕ) (seen : Seen) (others : Records) → keeps 3 p seen ≡ true → Topics (see 3 p seen) others
    → (good_names (p ∷ topics_of others) ≡ true) × Fresh seen.topics (p ∷ topics_of others) × (length seen.topics ≤ 64 → length seen.topics + length (p ∷ topics_of others) ≤ 64)
unfolding keeps keeps_topic see choose
topic_more p seen others k i =
    let f = fresh_more p seen.topics (topics_of others) i.1 in
    let a : is_among p seen.topics ≡ false = not-true _ (holds _ 2 k) in
    let few = ltb-true (length seen.topics) 64 (holds _ 1 k) in
    let n = length-append seen.topics (p ∷ []) in
    (names_cons p (topics_of others) (holds _ 0 k) f.1 i.0, (a, f.0), λ l. let z = i.2 (omega arith) in omega arith)

topics_kept : (kind : ℕ) (p : List ℕ) (seen : Seen) → eqb kind 3 ≡ false → (see kind p seen).topics ≡ seen.topics
unfolding see choose
topics_kept kind p seen q = go (eqb kind 4) (eqb kind 5) refl refl
  where
    go : (x y : Bool) → eqb kind 4 ≡ x → eqb kind 5 ≡ y → (see kind p seen).topics ≡ seen.topics
    go true y e f = rw (q, e)
    go false true e f = rw (q, e, f)
    go false false e f = rw (q, e, f)

topics_good : (rs : Records) (before : ℕ) (seen : Seen) (u : Checked) (m : Model) → check_records before seen rs u ≡ good m → Topics seen rs
unfolding topics_of good_names choose
topics_good (finish at) before seen u m h = (refl, tt, λ l. omega arith)
topics_good (overrun at) before seen u m h = (refl, tt, λ l. omega arith)
topics_good (entry at kind p others) before seen u m h = go (eqb kind 3) refl (topics_good others kind (see kind p seen) u m (entry_passes before at kind seen p others u m h).2)
  where
    e : (follows before kind ≡ true) × (keeps kind p seen ≡ true) × (check_records kind (see kind p seen) others u ≡ good m)
    e = entry_passes before at kind seen p others u m h

    go : (x : Bool) → eqb kind 3 ≡ x → Topics (see kind p seen) others → Topics seen (entry at kind p others)
    go true q i = rw (eqb-true kind 3 q) (topic_more p seen others (rw (eqb-true kind 3 q) at e.1) (rw (eqb-true kind 3 q) at i))
    go false q i = rw q (subst (λ (ts : List (List ℕ)). (good_names (topics_of others) ≡ true) × Fresh ts (topics_of others) × (length ts ≤ 64 → length ts + length (topics_of others) ≤ 64)) (topics_kept kind p seen q) i)

-- ## Attributes

unfoldable good_typed : List Attribute → Bool
good_typed [] = true
good_typed (a ∷ others) = good_type a.type && good_typed others

abbrev Attributes : List (List ℕ) → List Attribute → Type 0
Attributes seen as' = (good_names (attribute_names as') ≡ true) × Fresh seen (attribute_names as') × (length seen ≤ 64 → length seen + length as' ≤ 64) × (good_typed as' ≡ true)

attribute_more : (at : ℕ) (p : List ℕ) (seen : Seen) (others : List Attribute) → keeps 5 p seen ≡ true → Attributes (see 5 p seen).attributes others → Attributes seen.attributes (attribute_of at p ∷ others)
unfolding keeps keeps_attribute is_type see choose attribute_of attribute_names good_typed
attribute_more at p seen others k i =
    let f = fresh_more _ seen.attributes (attribute_names others) i.1 in
    let a = not-true _ (holds _ 4 k) in
    let few = ltb-true (length seen.attributes) 64 (holds _ 3 k) in
    let n = length-append seen.attributes ((attribute_of 0 p).name ∷ []) in
    let g : good_type (type_of (byte_at p 1) (drop 2 p)) ≡ true = holds _ 3 (holds _ 1 k) in
    (names_cons _ (attribute_names others) (holds _ 2 k) f.1 i.0, (a, f.0), λ l. (let z = i.2 (omega arith) in omega arith), rw g i.3)

attributes_ok : (rs : Records) (before : ℕ) (seen : Seen) (u : Checked) (m : Model) → check_records before seen rs u ≡ good m → Attributes seen.attributes (attributes_of rs)
unfolding attributes_of attribute_names good_names good_typed choose
attributes_ok (finish at) before seen u m h = (refl, tt, λ l. omega arith, refl)
attributes_ok (overrun at) before seen u m h = (refl, tt, λ l. omega arith, refl)
attributes_ok (entry at kind p others) before seen u m h = go (eqb kind 5) refl (attributes_ok others kind (see kind p seen) u m (entry_passes before at kind seen p others u m h).2)
  where
    e : (follows before kind ≡ true) × (keeps kind p seen ≡ true) × (check_records kind (see kind p seen) others u ≡ good m)
    e = entry_passes before at kind seen p others u m h

    go : (x : Bool) → eqb kind 5 ≡ x → Attributes (see kind p seen).attributes (attributes_of others) → Attributes seen.attributes (attributes_of (entry at kind p others))
    go true q i = rw (eqb-true kind 5 q) (attribute_more at p seen (attributes_of others) (rw (eqb-true kind 5 q) at e.1) (rw (eqb-true kind 5 q) at i))
    go false q i = rw q (refl, tt, λ l. omega arith, refl)

-- behind a table's record there is an attribute
some_attribute : (rs : Records) (seen : Seen) (u : Checked) (m : Model) → check_records 4 seen rs u ≡ good m → 1 ≤ length (attributes_of rs)
unfolding check_records attributes_of choose
some_attribute (finish at) seen u m h = absurd (true≢false (passed _ at _ m h).0)
some_attribute (overrun at) seen u m h = absurd (bad_good at m h)
some_attribute (entry at kind p others) seen u m h =
    let five : kind ≡ 5 = kind_five kind (not-false _ (passed _ at _ m h).0) in
    rw five (omega arith)

-- ## Tables

-- behind which kinds a table, an attribute or the end may stand
behind_three : (before kind : ℕ) → follows before kind ≡ true → 4 ≤ kind → 3 ≤ before
unfolding follows follows_transfer
behind_three zero kind h l = absurd (false≢true (rw (ne_eqb kind 1 (omega arith)) at h))
behind_three (suc zero) kind h l = absurd (false≢true (rw (ne_eqb kind 2 (omega arith)) at h))
behind_three (suc (suc zero)) kind h l = absurd (false≢true (rw (ne_eqb kind 3 (omega arith)) at h))
behind_three (suc (suc (suc before))) kind h l = omega arith

fewer : (p : List ℕ) (seen : Seen) (as' : List Attribute) → Attributes (see 4 p seen).attributes as' → length as' ≤ 64
unfolding see choose
fewer p seen as' a = let z = a.2 (omega arith) in omega arith

abbrev TableOk : ℕ → Table → Type 0
TableOk n t = (t.topic < n) × (1 ≤ length t.attributes) × (length t.attributes ≤ 64) × (good_names (attribute_names t.attributes) ≡ true) × (good_typed t.attributes ≡ true)

abbrev AllOk : ℕ → List Table → Type 0
AllOk n [] = Unit {0}
AllOk n (t ∷ ts) = TableOk n t × AllOk n ts

tables_ok : (rs : Records) (before k n : ℕ) (seen : Seen) (u : Checked) (m : Model) → (3 ≤ before → 1 ≤ k) → k + length (topics_of rs) ≡ n → check_records before seen rs u ≡ good m → AllOk n (tables_of k rs)
unfolding tables_of topics_of choose
tables_ok (finish at) before k n seen u m b c h = tt
tables_ok (overrun at) before k n seen u m b c h = tt
tables_ok (entry at kind p others) before k n seen u m b c h = go (eqb kind 3) (eqb kind 4) refl refl (λ k' b' c'. tables_ok others kind k' n (see kind p seen) u m b' c' (entry_passes before at kind seen p others u m h).2)
  where
    e : (follows before kind ≡ true) × (keeps kind p seen ≡ true) × (check_records kind (see kind p seen) others u ≡ good m)
    e = entry_passes before at kind seen p others u m h

    go : (x y : Bool) → eqb kind 3 ≡ x → eqb kind 4 ≡ y → ((k' : ℕ) → (3 ≤ kind → 1 ≤ k') → k' + length (topics_of others) ≡ n → AllOk n (tables_of k' others)) → AllOk n (tables_of k (entry at kind p others))
    go true y q r i =
        let three = eqb-true kind 3 q in
        let d : k + length (p ∷ topics_of others) ≡ n = rw three at c in
        rw three (i (k + 1) (λ l. omega arith) (omega arith))
    go false true q r i =
        let four = eqb-true kind 4 r in
        let some : 1 ≤ k = b (behind_three before kind e.0 (omega arith)) in
        let d : k + length (topics_of others) ≡ n = rw four at c in
        let f = rw four at e.2 in
        let a = attributes_ok others 4 _ u m f in
        rw four ((omega arith, some_attribute others _ u m f, fewer p seen (attributes_of others) a, a.0, a.3), i k (λ l. some) d)
    go false false q r i =
        let d : k + length (topics_of others) ≡ n = rw q at c in
        rw (q, r) (i k (λ l. b (behind_three before kind e.0 (omega (arith, eqb-false kind 3 q)))) d)

-- a table more
one_more : (p : List ℕ) (seen : Seen) (n : ℕ) → keeps 4 p seen ≡ true → ((see 4 p seen).table_count ≤ 512 → (see 4 p seen).table_count + n ≤ 512) → seen.table_count + suc n ≤ 512
unfolding keeps keeps_table see choose
one_more p seen n k i = let few = ltb-true seen.table_count 512 (holds _ 2 k) in let z = i (omega arith) in omega arith

count_kept : (kind : ℕ) (p : List ℕ) (seen : Seen) → eqb kind 4 ≡ false → (see kind p seen).table_count ≡ seen.table_count
unfolding see choose
count_kept kind p seen r = go (eqb kind 3) (eqb kind 5) refl refl
  where
    go : (x y : Bool) → eqb kind 3 ≡ x → eqb kind 5 ≡ y → (see kind p seen).table_count ≡ seen.table_count
    go true y e f = rw e
    go false true e f = rw (e, r, f)
    go false false e f = rw (e, r, f)

-- at most 512 tables
tables_few : (rs : Records) (before k : ℕ) (seen : Seen) (u : Checked) (m : Model) → seen.table_count ≤ 512 → check_records before seen rs u ≡ good m → seen.table_count + length (tables_of k rs) ≤ 512
unfolding tables_of choose
tables_few (finish at) before k seen u m l h = omega arith
tables_few (overrun at) before k seen u m l h = omega arith
tables_few (entry at kind p others) before k seen u m l h =
    go (eqb kind 4) refl (λ k' l'. tables_few others kind k' (see kind p seen) u m l' (entry_passes before at kind seen p others u m h).2)
  where
    e : (follows before kind ≡ true) × (keeps kind p seen ≡ true) × (check_records kind (see kind p seen) others u ≡ good m)
    e = entry_passes before at kind seen p others u m h

    go : (x : Bool) → eqb kind 4 ≡ x → ((k' : ℕ) → (see kind p seen).table_count ≤ 512 → (see kind p seen).table_count + length (tables_of k' others) ≤ 512) → seen.table_count + length (tables_of k (entry at kind p others)) ≤ 512
    go true r i =
        let four = eqb-true kind 4 r in
        rw four (one_more p seen (length (tables_of k others)) (rw four at e.1) (rw four at (i k)))
    go false r i = rw r (subst (λ (c : ℕ). c ≤ 512 → c + length (tables_of (choose (eqb kind 3) (k + 1) k) others) ≤ 512) (count_kept kind p seen r) (i (choose (eqb kind 3) (k + 1) k)) l)

-- ## Names of the tables of a topic

-- the tables behind k topics are of later topics than these
pub names_later : (rs : Records) (k topic : ℕ) → topic + 1 < k → table_names topic (tables_of k rs) ≡ []
unfolding tables_of table_names choose
names_later (finish at) k topic l = refl
names_later (overrun at) k topic l = refl
names_later (entry at kind p others) k topic l = go (eqb kind 3) (eqb kind 4) refl refl (λ k' l'. names_later others k' topic l')
  where
    go : (x y : Bool) → eqb kind 3 ≡ x → eqb kind 4 ≡ y → ((k' : ℕ) → topic + 1 < k' → table_names topic (tables_of k' others) ≡ []) → table_names topic (tables_of k (entry at kind p others)) ≡ []
    go true y q r i = rw (eqb-true kind 3 q) (i (k + 1) (omega arith))
    go false true q r i = rw (eqb-true kind 4 r, ne_eqb (k - 1) topic (omega arith)) (i k l)
    go false false q r i = rw (q, r) (i k l)

abbrev Names : (k : ℕ) → List (List ℕ) → Records → Type 0
Names k seen rs = ((topic : ℕ) → good_names (table_names topic (tables_of k rs)) ≡ true) × (1 ≤ k → Fresh seen (table_names (k - 1) (tables_of k rs)))

table_more : (p : List ℕ) (k : ℕ) (o : Bool) (as' : List Attribute) (seen : Seen) (rest : List Table) → 1 ≤ k → keeps 4 p seen ≡ true
    → ((topic : ℕ) → good_names (table_names topic rest) ≡ true) × (1 ≤ k → Fresh (see 4 p seen).tables (table_names (k - 1) rest))
    → ((topic : ℕ) → good_names (table_names topic (record { topic = k - 1; optional = o; name = drop 1 p; attributes = as' } ∷ rest)) ≡ true) × (1 ≤ k → Fresh seen.tables (table_names (k - 1) (record { topic = k - 1; optional = o; name = drop 1 p; attributes = as' } ∷ rest)))
unfolding keeps keeps_table see choose table_names
table_more p k o as' seen rest some h i = (λ topic. go topic (eqb (k - 1) topic) refl, λ l. rw (eq-eqb (k - 1) (k - 1) refl) (not-true _ (holds _ 3 h), f.0))
  where
    f : Fresh seen.tables (table_names (k - 1) rest) × (is_among (drop 1 p) (table_names (k - 1) rest) ≡ false)
    f = fresh_more (drop 1 p) seen.tables (table_names (k - 1) rest) (i.1 some)

    go : (topic : ℕ) (x : Bool) → eqb (k - 1) topic ≡ x → good_names (table_names topic (record { topic = k - 1; optional = o; name = drop 1 p; attributes = as' } ∷ rest)) ≡ true
    go topic true e = rw e (names_cons (drop 1 p) (table_names topic rest) (holds _ 1 h) (subst (λ (x : ℕ). is_among (drop 1 p) (table_names x rest) ≡ false) (eqb-true (k - 1) topic e) f.1) (i.0 topic))
    go topic false e = rw e (i.0 topic)

tables_kept : (kind : ℕ) (p : List ℕ) (seen : Seen) → eqb kind 3 ≡ false → eqb kind 4 ≡ false → (see kind p seen).tables ≡ seen.tables
unfolding see choose
tables_kept kind p seen q r = go (eqb kind 5) refl
  where
    go : (x : Bool) → eqb kind 5 ≡ x → (see kind p seen).tables ≡ seen.tables
    go true e = rw (q, r, e)
    go false e = rw (q, r, e)

names_good : (rs : Records) (before k : ℕ) (seen : Seen) (u : Checked) (m : Model) → (3 ≤ before → 1 ≤ k) → check_records before seen rs u ≡ good m → Names k seen.tables rs
unfolding tables_of table_names good_names choose
names_good (finish at) before k seen u m b h = (λ topic. refl, λ l. tt)
names_good (overrun at) before k seen u m b h = (λ topic. refl, λ l. tt)
names_good (entry at kind p others) before k seen u m b h =
    go (eqb kind 3) (eqb kind 4) refl refl (λ k' b'. names_good others kind k' (see kind p seen) u m b' (entry_passes before at kind seen p others u m h).2)
  where
    e : (follows before kind ≡ true) × (keeps kind p seen ≡ true) × (check_records kind (see kind p seen) others u ≡ good m)
    e = entry_passes before at kind seen p others u m h

    go : (x y : Bool) → eqb kind 3 ≡ x → eqb kind 4 ≡ y → ((k' : ℕ) → (3 ≤ kind → 1 ≤ k') → Names k' (see kind p seen).tables others) → Names k seen.tables (entry at kind p others)
    go true y q r i =
        let three = eqb-true kind 3 q in
        rw three ((i (k + 1) (λ l. omega arith)).0, λ l. rw (names_later others (k + 1) (k - 1) (omega arith)) tt)
    go false true q r i =
        let four = eqb-true kind 4 r in
        let some : 1 ≤ k = b (behind_three before kind e.0 (omega arith)) in
        rw four (table_more p k (flag_of p) (attributes_of others) seen (tables_of k others) some (rw four at e.1) (rw four at (i k (λ l. some))))
    go false false q r i =
        rw (q, r) (subst (λ (ts : List (List ℕ)). Names k ts others) (tables_kept kind p seen q r) (i k (λ l. b (behind_three before kind e.0 (omega (arith, eqb-false kind 3 q))))))

-- ## Each topic has a table

-- a table more leaves a topic its tables
some_more : (topic : ℕ) (t : Table) (ts : List Table) → 1 ≤ length (table_names topic ts) → 1 ≤ length (table_names topic (t ∷ ts))
unfolding table_names choose
some_more topic t ts h = go (eqb t.topic topic) refl
  where
    go : (x : Bool) → eqb t.topic topic ≡ x → 1 ≤ length (table_names topic (t ∷ ts))
    go true e = rw e (omega arith)
    go false e = rw e h

-- behind a topic's record there is a table
first_table : (rs : Records) (k : ℕ) (seen : Seen) (u : Checked) (m : Model) → check_records 3 seen rs u ≡ good m → 1 ≤ length (table_names k (tables_of (k + 1) rs))
unfolding check_records tables_of table_names choose
first_table (finish at) k seen u m h = absurd (true≢false (passed _ at _ m h).0)
first_table (overrun at) k seen u m h = absurd (bad_good at m h)
first_table (entry at kind p others) k seen u m h =
    let four : kind ≡ 4 = kind_four kind (not-false _ (passed _ at _ m h).0) in
    rw (four, eq-eqb (k + 1 - 1) k (omega arith)) (omega arith)

some_table_lem : (rs : Records) (before k : ℕ) (seen : Seen) (u : Checked) (m : Model) → check_records before seen rs u ≡ good m
    → (topic : ℕ) → k ≤ topic → topic < k + length (topics_of rs) → 1 ≤ length (table_names topic (tables_of k rs))
unfolding tables_of topics_of choose
some_table_lem (finish at) before k seen u m h topic l g = absurd (omega arith)
some_table_lem (overrun at) before k seen u m h topic l g = absurd (omega arith)
some_table_lem (entry at kind p others) before k seen u m h topic l g =
    go (eqb kind 3) (eqb kind 4) refl refl (λ k' l' g'. some_table_lem others kind k' (see kind p seen) u m behind topic l' g')
  where
    behind : check_records kind (see kind p seen) others u ≡ good m
    behind = (entry_passes before at kind seen p others u m h).2

    go : (x y : Bool) → eqb kind 3 ≡ x → eqb kind 4 ≡ y → ((k' : ℕ) → k' ≤ topic → topic < k' + length (topics_of others) → 1 ≤ length (table_names topic (tables_of k' others))) → 1 ≤ length (table_names topic (tables_of k (entry at kind p others)))
    go true y q r i = rw (eqb-true kind 3 q) (at_topic (eqb topic k) refl)
      where
        three : kind ≡ 3
        three = eqb-true kind 3 q

        at_topic : (x : Bool) → eqb topic k ≡ x → 1 ≤ length (table_names topic (tables_of (k + 1) others))
        at_topic true e = rw (eqb-true topic k e) (first_table others k (see 3 p seen) u m (rw three at behind))
        at_topic false e = let c : topic < k + length (p ∷ topics_of others) = rw three at g in let n = eqb-false topic k e in i (k + 1) (omega arith) (omega arith)
    go false true q r i =
        let four = eqb-true kind 4 r in
        let c : topic < k + length (topics_of others) = rw four at g in
        rw four (some_more topic _ (tables_of k others) (i k l c))
    go false false q r i = let c : topic < k + length (topics_of others) = rw q at g in rw (q, r) (i k l c)

-- ## References

types_good : (ts : List Table) (topic : ℕ) (as' : List Attribute) (u : Checked) (m : Model) → good_typed as' ≡ true → judge_attributes ts topic as' u ≡ good m → good_types ts topic as' ≡ true
unfolding good_typed judge_attributes good_types all_of
types_good ts topic [] u m g h = refl
types_good ts topic (a ∷ others) u m g h =
    let r = passed _ a.at _ m h in
    let q = both (good_type a.type) _ g in
    let o : is_outside ts topic (target_of a.type) ≡ false = r.0 in
    rw (q.0, o, types_good ts topic others u m q.1 r.1)

all_good : (n : ℕ) (ts others : List Table) (u : Checked) (m : Model) → AllOk n others → judge_references ts others u ≡ good m → good_tables n ts others ≡ true
unfolding judge_references good_tables all_of
all_good n ts [] u m a h = refl
all_good n ts (t ∷ others) u m a h =
    let o = a.0 in
    let r = all_good n ts others u m a.1 (attributes_good ts t.topic t.attributes _ m h) in
    let y = types_good ts t.topic t.attributes _ m o.4 h in
    rw (lt-ltb t.topic n o.0, le-leb 1 (length t.attributes) o.1, le-leb (length t.attributes) 64 o.2, o.3, y, r)

-- ## The order of tables

pub order_later : (a b : ℕ) (ts : List Table) → b ≤ a → in_topic_order a ts ≡ true → in_topic_order b ts ≡ true
unfolding in_topic_order
order_later a b [] l h = refl
order_later a b (t ∷ ts) l h = let r = both (leb a t.topic) _ h in rw (le-leb b t.topic (omega (arith, leb-true a t.topic r.0))) r.1

in_order : (rs : Records) (k : ℕ) → in_topic_order (k - 1) (tables_of k rs) ≡ true
unfolding tables_of choose in_topic_order
in_order (finish at) k = refl
in_order (overrun at) k = refl
in_order (entry at kind p others) k = go (eqb kind 3) (eqb kind 4) refl refl (λ k'. in_order others k')
  where
    go : (x y : Bool) → eqb kind 3 ≡ x → eqb kind 4 ≡ y → ((k' : ℕ) → in_topic_order (k' - 1) (tables_of k' others) ≡ true) → in_topic_order (k - 1) (tables_of k (entry at kind p others)) ≡ true
    go true y q r i = rw (eqb-true kind 3 q) (order_later (k + 1 - 1) (k - 1) (tables_of (k + 1) others) (omega arith) (i (k + 1)))
    go false true q r i = rw (eqb-true kind 4 r, le-leb (k - 1) (k - 1) (omega arith)) (i k)
    go false false q r i = rw (q, r) (i k)

-- ## The model

module _ (b : List ℕ) (m : Model) (h : check_model b ≡ good m) where
  abbrev rs : Records
  rs = records_at b 0

  abbrev last : Checked
  last = judge_references (model_of (records_at b 0)).tables (model_of (records_at b 0)).tables (good (model_of (records_at b 0)))

  passes : check_records 0 nothing_seen rs last ≡ good m
  unfolding check_model
  passes = (passed _ 0 _ m h).1

  judged : last ≡ good m
  judged = rest_good 0 nothing_seen rs last m passes

  is_model : model_of rs ≡ m
  is_model = let same : good (model_of rs) ≡ good m = references_good _ _ _ m judged in cc

  topics_are : topics_of rs ≡ m.topics
  topics_are = sym (model_lists rs last m passes).0 ∙ ap (λ (x : Model). x.topics) is_model

  tables_are : tables_of 0 rs ≡ m.tables
  tables_are = sym (model_lists rs last m passes).1 ∙ ap (λ (x : Model). x.tables) is_model

  tests : keeps_transfer (payload_at b 0) ≡ true
  tests = transfer_keeps b m h

  topics_limit : length (topics_of rs) ≤ 64
  topics_limit = let z = (topics_good rs 0 nothing_seen last m passes).2 (omega arith) in omega arith

  tables_limit : length (tables_of 0 rs) ≤ 512
  tables_limit = let z = tables_few rs 0 0 nothing_seen last m (omega arith) passes in omega arith

  all_ok : AllOk (length m.topics) m.tables
  all_ok = subst (λ (ts : List Table). AllOk (length m.topics) ts) tables_are (tables_ok rs 0 0 (length m.topics) nothing_seen last m (λ q. omega arith) (omega (arith, ap length topics_are)) passes)

  references : judge_references m.tables m.tables (good m) ≡ good m
  references = ap (λ (x : Model). judge_references x.tables x.tables (good x)) (sym is_model) ∙ judged

  pub checked_good : GoodModel m
  unfolding keeps_transfer
  checked_good = record {
    blank = rw (payload_blank b m h) (holds _ 0 tests);
    undefined = rw (payload_undefined b m h) (holds _ 1 tests);
    mark = rw (payload_mark b m h) (holds _ 2 tests);
    blank_is_not_undefined = rw (payload_blank b m h, payload_undefined b m h) (not-true _ (holds _ 3 tests));
    blank_is_not_mark = rw (payload_blank b m h, payload_mark b m h) (not-true _ (holds _ 4 tests));
    undefined_is_not_mark = rw (payload_undefined b m h, payload_mark b m h) (not-true _ (holds _ 5 tests));
    transfer = rw (good_transfer b m h) (holds _ 6 tests);
    name = rw (good_name b m h) (name_keeps b m h);
    some_topic = omega (arith, (topic_name b m (next_at b (next_at b 0)) 0 0 (stands_topic b m h) (topic_kind b m h)).1);
    topic_limit = omega (arith, topics_limit, ap length topics_are);
    topics = subst (λ (ns : List (List ℕ)). good_names ns ≡ true) topics_are (topics_good rs 0 nothing_seen last m passes).0;
    table_limit = omega (arith, tables_limit, ap length tables_are);
    tables = all_good (length m.topics) m.tables m.tables (good m) m all_ok references;
    names_in_topic = λ topic. subst (λ (ts : List Table). good_names (table_names topic ts) ≡ true) tables_are ((names_good rs 0 0 nothing_seen last m (λ q. omega arith) passes).0 topic);
    table_order = subst (λ (ts : List Table). in_topic_order 0 ts ≡ true) tables_are (in_order rs 0);
    some_table = λ topic l. subst (λ (ts : List Table). 1 ≤ length (table_names topic ts)) tables_are (some_table_lem rs 0 0 nothing_seen last m passes topic (omega arith) (omega (arith, l, ap length topics_are)));
  }
