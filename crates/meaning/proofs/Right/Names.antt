-- In a good model a name in order is found, and no other; and no mandatory table is left out exactly where all are optional. Assumes nothing.
use Prim.Native.Nat.{ℕ, zero, suc, ◌+◌, ◌≤◌, ◌<◌}
use native.Mathlib.Omega.{arith}
use mathlib.Core.Path.{◌≡◌, refl, sym, ap, ◌∙◌}
use mathlib.Core.Bool.{Bool, true, false, not, ◌&&◌, true≢false}
use mathlib.Core.List.{List, [], ◌∷◌}
use lib.Dec.{eqb, leb, ltb}
use lib.ListN.{length, take, get_or}
use borrow.Author.Tests.{leb-true, le-leb, lt-ltb, ltb-true, eq-eqb, eqb-true, not-true, not-false}
use Rattle.meaning.specs.Bytes.{choose, same}
use Rattle.meaning.specs.Model.{found, Table, Model, no_table}
use Rattle.meaning.specs.Check.{is_name, is_among, good_names, table_names}
use Rattle.meaning.specs.Reading.{same_name, find_topic, find_table, mandatory_between}
use Rattle.meaning.specs.Right.{AllOptional}
use Rattle.meaning.proofs.Tests.Refuse.{neither, holds, or_right}
use Rattle.meaning.proofs.Tests.Same.{same_refl, same_is}
use Rattle.meaning.proofs.Model.Names.{short_name, names_behind}
use Rattle.meaning.proofs.Model.GoodPairs.{names_good}

-- ## Names

-- two names that compare equal to a third are equal
alike : (a b d : List ℕ) → is_name 24 a ≡ true → is_name 24 b ≡ true → same_name a d ≡ true → same_name b d ≡ true → a ≡ b
unfolding same_name
alike a b d ha hb p q = sym (short_name a ha) ∙ (same_is (take 24 a) (take 24 d) p ∙ (sym (same_is (take 24 b) (take 24 d) q) ∙ short_name b hb))

among_at : (names : List (List ℕ)) (j : ℕ) → j < length names → is_among (get_or names j []) names ≡ true
unfolding is_among
among_at [] j l = absurd (omega arith)
among_at (n ∷ names) zero l = rw (same_refl n)
among_at (n ∷ names) (suc j) l = or_right (same n (get_or names j [])) _ (among_at names j (omega arith))

good_first : (n : List ℕ) (names : List (List ℕ)) → good_names (n ∷ names) ≡ true → (is_name 24 n ≡ true) × (is_among n names ≡ false) × (good_names names ≡ true)
unfolding good_names
good_first n names h = (holds _ 0 h, not-true _ (holds _ 1 h), holds _ 2 h)

-- a name and a later one do not both compare equal to a third
apart : (n d : List ℕ) (names : List (List ℕ)) (other : List ℕ) → is_name 24 n ≡ true → is_name 24 other ≡ true → is_among n names ≡ false → is_among other names ≡ true → same_name other d ≡ true → same_name n d ≡ false
apart n d names other hn ho out in' q = by (same_name n d) refl
  where
    by : (x : Bool) → same_name n d ≡ x → same_name n d ≡ false
    by false e = e
    by true e = let z : n ≡ other = alike n other d hn ho e q in absurd (true≢false (sym in' ∙ (ap (λ (a : List ℕ). is_among a names) (sym z) ∙ out)))

and_no : (a b : Bool) → b ≡ false → (a && b) ≡ false
and_no true b h = h
and_no false b h = refl

pub find_topic_lem : (from n p j : ℕ) (name : List ℕ) (names : List (List ℕ)) → good_names names ≡ true → j < length names → n + j ≡ p → from ≤ p → same_name (get_or names j []) name ≡ true
    → find_topic from n name names ≡ found p
unfolding find_topic choose
find_topic_lem from n p j name [] g l e f s = absurd (omega arith)
find_topic_lem from n p zero name (t ∷ ts) g l e f s = let z : n ≡ p = omega arith in rw (le-leb from n (omega arith), s, z)
find_topic_lem from n p (suc j) name (t ∷ ts) g l e f s =
    let q = good_first t ts g in
    rw (and_no (leb from n) (same_name t name) (apart t name ts (get_or ts j []) q.0 (names_good ts j q.2 (omega arith)) q.1 (among_at ts j (omega arith)) s))
    (find_topic_lem from (n + 1) p j name ts q.2 (omega arith) (omega arith) f s)

-- a table's name is among those of its topic
table_among : (topic : ℕ) (ts : List Table) (j : ℕ) → good_names (table_names topic ts) ≡ true → j < length ts → (get_or ts j no_table).topic ≡ topic
    → (is_among (get_or ts j no_table).name (table_names topic ts) ≡ true) × (is_name 24 (get_or ts j no_table).name ≡ true)
unfolding table_names choose is_among
table_among topic [] j g l e = absurd (omega arith)
table_among topic (t ∷ ts) zero g l e =
    let z : eqb t.topic topic ≡ true = eq-eqb t.topic topic e in
    (rw (z, same_refl t.name), (good_first t.name (table_names topic ts) (rw z at g)).0)
table_among topic (t ∷ ts) (suc j) g l e = by (eqb t.topic topic) refl (λ h. table_among topic ts j h (omega arith) e)
  where
    by : (x : Bool) → eqb t.topic topic ≡ x → (good_names (table_names topic ts) ≡ true → (is_among (get_or ts j no_table).name (table_names topic ts) ≡ true) × (is_name 24 (get_or ts j no_table).name ≡ true))
        → (is_among (get_or ts j no_table).name (table_names topic (t ∷ ts)) ≡ true) × (is_name 24 (get_or ts j no_table).name ≡ true)
    by true z ih =
        let r = ih (good_first t.name (table_names topic ts) (rw z at g)).2 in
        (rw z (or_right (same t.name (get_or ts j no_table).name) _ r.0), r.1)
    by false z ih = let r = ih (rw z at g) in (rw z r.0, r.1)

pub find_table_lem : (topic from n p j : ℕ) (name : List ℕ) (ts : List Table) → good_names (table_names topic ts) ≡ true → j < length ts → n + j ≡ p → from ≤ p → (get_or ts j no_table).topic ≡ topic
    → same_name (get_or ts j no_table).name name ≡ true → find_table topic from n name ts ≡ found p
unfolding find_table table_names choose
find_table_lem topic from n p j name [] g l e f o s = absurd (omega arith)
find_table_lem topic from n p zero name (t ∷ ts) g l e f o s = let z : n ≡ p = omega arith in rw (le-leb from n (omega arith), eq-eqb t.topic topic o, s, z)
find_table_lem topic from n p (suc j) name (t ∷ ts) g l e f o s =
    rw (other (eqb t.topic topic) refl) (find_table_lem topic from (n + 1) p j name ts (names_behind topic t ts g) (omega arith) (omega arith) f o s)
  where
    first : eqb t.topic topic ≡ true → good_names (t.name ∷ table_names topic ts) ≡ true
    first z = rw z at g

    other : (x : Bool) → eqb t.topic topic ≡ x → (leb from n && eqb t.topic topic && same_name t.name name) ≡ false
    other true z =
        let q = good_first t.name (table_names topic ts) (first z) in
        let r = table_among topic ts j q.2 (omega arith) o in
        and_no (leb from n && eqb t.topic topic) (same_name t.name name) (apart t.name name (table_names topic ts) (get_or ts j no_table).name q.0 r.1 q.1 r.0 s)
    other false z = rw (and_no (leb from n) (eqb t.topic topic) z)

-- ## Mandatory tables

all_optional : (p from to n : ℕ) (ts : List Table) → ((j : ℕ) → from ≤ n + j → n + j < to → (get_or ts j no_table).topic ≡ p → (get_or ts j no_table).optional ≡ true) → mandatory_between p from to n ts ≡ false
unfolding mandatory_between
all_optional p from to n [] h = refl
all_optional p from to n (t ∷ ts) h = rw (first (leb from n) refl (ltb n to) refl (eqb t.topic p) refl) (all_optional p from to (n + 1) ts (λ j a b. h (suc j) (omega arith) (omega arith)))
  where
    first : (x : Bool) → leb from n ≡ x → (y : Bool) → ltb n to ≡ y → (z : Bool) → eqb t.topic p ≡ z → (leb from n && ltb n to && eqb t.topic p && not t.optional) ≡ false
    first false d y e z f = rw d
    first true d false e z f = rw (d, e)
    first true d true e false f = rw (d, e, f)
    first true d true e true f =
        let a = leb-true from n d in
        let b = ltb-true n to e in
        rw (d, e, f, h 0 (omega arith) (omega arith) (eqb-true t.topic p f))

pub optional_passes : (m : Model) (p from to : ℕ) → AllOptional m p from to → mandatory_between p from to 0 m.tables ≡ false
optional_passes m p from to h = all_optional p from to 0 m.tables (λ j a b. h j (omega arith) (omega arith))

each_optional : (p from to n : ℕ) (ts : List Table) → mandatory_between p from to n ts ≡ false → (j : ℕ) → from ≤ n + j → n + j < to → (get_or ts j no_table).topic ≡ p → (get_or ts j no_table).optional ≡ true
unfolding mandatory_between
each_optional p from to n [] h j a b e = refl
each_optional p from to n (t ∷ ts) h zero a b e =
    not-false t.optional (rw (le-leb from n (omega arith), lt-ltb n to (omega arith), eq-eqb t.topic p e) at (neither (leb from n && ltb n to && eqb t.topic p && not t.optional) _ h).0)
each_optional p from to n (t ∷ ts) h (suc j) a b e =
    each_optional p from to (n + 1) ts (neither (leb from n && ltb n to && eqb t.topic p && not t.optional) _ h).1 j (omega arith) (omega arith) e

pub passes_optional : (m : Model) (p from to : ℕ) → mandatory_between p from to 0 m.tables ≡ false → AllOptional m p from to
passes_optional m p from to h n a b e = each_optional p from to 0 m.tables h n (omega arith) (omega arith) e
