-- What a good model gives to those who look for a topic or a table: its name finds it; tables stand in the order of their topics. Assumes nothing.
use Prim.Native.Nat.{ℕ, zero, suc, ◌+◌, ◌≤◌, ◌<◌}
use native.Mathlib.Omega.{arith}
use mathlib.Core.Path.{◌≡◌, refl, ap, ◌∙◌}
use mathlib.Core.Bool.{Bool, true, false, not, ◌&&◌, and-false}
use mathlib.Core.List.{List, [], ◌∷◌}
use lib.Dec.{leb, ltb, eqb}
use lib.ListN.{length, take, get_or}
use lib.Seq.{take_all}
use borrow.Author.Tests.{leb-true, le-leb, ltb-true, lt-ltb, eqb-true, eq-eqb, not-true, not-false}
use Rattle.meaning.specs.Bytes.{choose, letter, every, same, byte_at}
use Rattle.meaning.specs.Model.{found, Table, table_at}
use Rattle.meaning.specs.Check.{name_byte, is_name, is_among, good_names, table_names, good_tables, in_topic_order}
use Rattle.meaning.specs.Reading.{same_name, find_topic, find_table, mandatory_between}
use Rattle.meaning.proofs.Tests.Refuse.{both, neither, holds}
use Rattle.meaning.proofs.Model.GoodModels.{same_swap}
use Rattle.meaning.proofs.Reading.StepsRead.{name_same}
use Rattle.meaning.proofs.Model.GoodPairs.{names_good, table_name}

-- ## Names

pub name_length : (longest : ℕ) (n : List ℕ) → is_name longest n ≡ true → length n ≤ longest
unfolding is_name
name_length longest n h = leb-true (length n) longest (both (letter (byte_at n 0) && every name_byte n) (leb (length n) longest) h).1

-- a name of at most 24 bytes is its own first 24 bytes
pub short_name : (n : List ℕ) → is_name 24 n ≡ true → take 24 n ≡ n
short_name n h = take_all 24 n (name_length 24 n h)

names_differ : (a b : List ℕ) → is_name 24 a ≡ true → is_name 24 b ≡ true → same b a ≡ false → same_name a b ≡ false
unfolding same_name
names_differ a b p q h = rw (short_name a p, short_name b q) (same_swap b a h)

among_at : (n : List ℕ) (ns : List (List ℕ)) (j : ℕ) → is_among n ns ≡ false → j < length ns → same (get_or ns j []) n ≡ false
unfolding is_among
among_at n [] j h l = absurd (omega arith)
among_at n (o ∷ os) zero h l = (neither (same o n) _ h).0
among_at n (o ∷ os) (suc j) h l = among_at n os j (neither (same o n) _ h).1 (omega arith)

-- ## Topics

pub topic_is : (names : List (List ℕ)) (from n j : ℕ) → good_names names ≡ true → j < length names → from ≤ n + j → find_topic from n (get_or names j []) names ≡ found (n + j)
unfolding find_topic choose good_names
topic_is [] from n j g l f = absurd (omega arith)
topic_is (t ∷ ts) from n zero g l f = let z : n ≡ n + 0 = omega arith in rw (le-leb from n (omega arith), name_same t) (ap found z)
topic_is (t ∷ ts) from n (suc j) g l f =
    let other : same_name t (get_or ts j []) ≡ false = names_differ t (get_or ts j []) (holds _ 0 g) (names_good ts j (holds _ 2 g) (omega arith)) (among_at t ts j (not-true _ (holds _ 1 g)) (omega arith)) in
    let z : n + 1 + j ≡ n + suc j = omega arith in
    rw (other, and-false (leb from n)) (topic_is ts from (n + 1) j (holds _ 2 g) (omega arith) (omega arith) ∙ ap found z)

-- ## Tables

-- the names of a topic's tables, where the first table is of this topic or not
names_in : (p : ℕ) (t : Table) (ts : List Table) → eqb t.topic p ≡ true → good_names (table_names p (t ∷ ts)) ≡ true → good_names (t.name ∷ table_names p ts) ≡ true
unfolding table_names choose
names_in p t ts e h = rw e at h

pub names_behind : (p : ℕ) (t : Table) (ts : List Table) → good_names (table_names p (t ∷ ts)) ≡ true → good_names (table_names p ts) ≡ true
unfolding table_names choose good_names
names_behind p t ts h = go (eqb t.topic p) h
  where
    go : (x : Bool) → good_names (choose x (t.name ∷ table_names p ts) (table_names p ts)) ≡ true → good_names (table_names p ts) ≡ true
    go true h = holds _ 2 h
    go false h = h

table_among : (n : List ℕ) (p : ℕ) (ts : List Table) (j : ℕ) → is_among n (table_names p ts) ≡ false → j < length ts → (table_at ts j).topic ≡ p → same (table_at ts j).name n ≡ false
unfolding table_names choose is_among
table_among n p [] j h l e = absurd (omega arith)
table_among n p (t ∷ ts) zero h l e = (neither (same t.name n) _ (rw (eq-eqb t.topic p e) at h)).0
table_among n p (t ∷ ts) (suc j) h l e = go (eqb t.topic p) h (λ q. table_among n p ts j q (omega arith) e)
  where
    go : (x : Bool) → is_among n (choose x (t.name ∷ table_names p ts) (table_names p ts)) ≡ false → (is_among n (table_names p ts) ≡ false → same (table_at ts j).name n ≡ false) → same (table_at ts j).name n ≡ false
    go true h k = k (neither (same t.name n) _ h).1
    go false h k = k h

pub table_is : (ts : List Table) (p from n j : ℕ) → good_names (table_names p ts) ≡ true → j < length ts → (table_at ts j).topic ≡ p → from ≤ n + j → find_table p from n (table_at ts j).name ts ≡ found (n + j)
unfolding find_table choose good_names
table_is [] p from n j g l e f = absurd (omega arith)
table_is (t ∷ ts) p from n zero g l e f = let z : n ≡ n + 0 = omega arith in rw (le-leb from n (omega arith), eq-eqb t.topic p e, name_same t.name) (ap found z)
table_is (t ∷ ts) p from n (suc j) g l e f = go (eqb t.topic p) refl (table_is ts p from (n + 1) j (names_behind p t ts g) (omega arith) e (omega arith))
  where
    z : n + 1 + j ≡ n + suc j
    z = omega arith

    go : (x : Bool) → eqb t.topic p ≡ x → find_table p from (n + 1) (table_at ts j).name ts ≡ found (n + 1 + j) → find_table p from n (table_at ts j).name (t ∷ ts) ≡ found (n + suc j)
    go false q i = rw (q, and-false (leb from n)) (i ∙ ap found z)
    go true q i =
        let h = names_in p t ts q g in
        let own : is_name 24 (table_at ts j).name ≡ true = table_name ts j (omega arith) (rw e (holds _ 2 h)) in
        let other : same_name t.name (table_at ts j).name ≡ false = names_differ t.name (table_at ts j).name (holds _ 0 h) own (table_among t.name p ts j (not-true _ (holds _ 1 h)) (omega arith) e) in
        rw (other, and-false (leb from n && eqb t.topic p)) (i ∙ ap found z)

-- ## Mandatory tables

first_not : (a b d o : Bool) → (a ≡ true → b ≡ true → d ≡ true → o ≡ true) → (a && b && d && not o) ≡ false
first_not true true true o h = rw (h refl refl refl)
first_not true true false o h = refl
first_not true false d o h = refl
first_not false b d o h = refl

pub none_mandatory : (p from to n : ℕ) (ts : List Table) → ((j : ℕ) → j < length ts → from ≤ n + j → n + j < to → (table_at ts j).topic ≡ p → (table_at ts j).optional ≡ true)
    → mandatory_between p from to n ts ≡ false
unfolding mandatory_between
none_mandatory p from to n [] h = refl
none_mandatory p from to n (t ∷ ts) h =
    let first : (leb from n && ltb n to && eqb t.topic p && not t.optional) ≡ false =
    first_not (leb from n) (ltb n to) (eqb t.topic p) t.optional (λ a b d. h 0 (omega arith) (omega (arith, leb-true from n a)) (omega (arith, ltb-true n to b)) (eqb-true t.topic p d)) in
    rw first (none_mandatory p from to (n + 1) ts (λ j l a b e. h (suc j) (omega arith) (omega arith) (omega arith) e))

pub mandatory_none : (p from to n : ℕ) (ts : List Table) → mandatory_between p from to n ts ≡ false
    → (j : ℕ) → j < length ts → from ≤ n + j → n + j < to → (table_at ts j).topic ≡ p → (table_at ts j).optional ≡ true
unfolding mandatory_between
mandatory_none p from to n [] h j l a b e = absurd (omega arith)
mandatory_none p from to n (t ∷ ts) h zero l a b e =
    let q = (neither (leb from n && ltb n to && eqb t.topic p && not t.optional) _ h).0 in
    not-false t.optional (rw (le-leb from n (omega arith), lt-ltb n to (omega arith), eq-eqb t.topic p e) at q)
mandatory_none p from to n (t ∷ ts) h (suc j) l a b e =
    mandatory_none p from to (n + 1) ts (neither (leb from n && ltb n to && eqb t.topic p && not t.optional) _ h).1 j (omega arith) (omega arith) (omega arith) e

-- ## Order

order_at : (least : ℕ) (ts : List Table) (j : ℕ) → in_topic_order least ts ≡ true → j < length ts → least ≤ (table_at ts j).topic
unfolding in_topic_order
order_at least [] j h l = absurd (omega arith)
order_at least (t ∷ ts) zero h l = leb-true least t.topic (both (leb least t.topic) _ h).0
order_at least (t ∷ ts) (suc j) h l =
    let r = both (leb least t.topic) _ h in
    let a = leb-true least t.topic r.0 in
    let b = order_at t.topic ts j r.1 (omega arith) in
    omega arith

pub in_order : (least : ℕ) (ts : List Table) (i j : ℕ) → in_topic_order least ts ≡ true → i ≤ j → j < length ts → (table_at ts i).topic ≤ (table_at ts j).topic
unfolding in_topic_order
in_order least [] i j h l b = absurd (omega arith)
in_order least (t ∷ ts) zero zero h l b = omega arith
in_order least (t ∷ ts) zero (suc j) h l b = order_at t.topic ts j (both (leb least t.topic) _ h).1 (omega arith)
in_order least (t ∷ ts) (suc i) zero h l b = absurd (omega arith)
in_order least (t ∷ ts) (suc i) (suc j) h l b = in_order t.topic ts i j (both (leb least t.topic) _ h).1 (omega arith) (omega arith)

pub topic_below : (topics : ℕ) (ts others : List Table) (j : ℕ) → good_tables topics ts others ≡ true → j < length others → (table_at others j).topic < topics
unfolding good_tables
topic_below topics ts [] j h l = absurd (omega arith)
topic_below topics ts (t ∷ others) zero h l = ltb-true t.topic topics (holds _ 0 h)
topic_below topics ts (t ∷ others) (suc j) h l = topic_below topics ts others j (holds _ 5 h) (omega arith)
