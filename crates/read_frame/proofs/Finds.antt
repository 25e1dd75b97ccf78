-- Finding a topic or a table by its name: none is found before the number reached, and a turn finds one or passes it. Assumes nothing.
use Prim.Native.Nat.{ℕ, zero, suc, ◌+◌, ◌≤◌, ◌<◌, min}
use native.Mathlib.Omega.{arith}
use native.Mathlib.Nat.{zero-add}
use mathlib.Core.Path.{◌≡◌, subst, refl, sym, ap, ◌∙◌}
use mathlib.Core.Bool.{Bool, true, false, not, ◌&&◌, ◌||◌, or-false, or_assoc, and-false}
use mathlib.Core.List.{List, [], ◌∷◌}
use lib.Dec.{eqb, leb}
use lib.ListN.{length, take, drop, get_or, drop_of_length-le}
use lib.Seq.{take_all}
use borrow.Author.Tests.{leb-true, leb-false, eq-eqb, ne_eqb, lt-leb, le-leb, lt-ltb, le-ltb}
use Rattle.meaning.specs.Bytes.{choose}
use Rattle.meaning.specs.Model.{Table, found, missing, no_table, table_at}
use Rattle.meaning.specs.Reading.{same_name, find_topic, find_table, mandatory_between}
use Rattle.meaning.proofs.Tests.Unequal.{no_found, same_found}
use Rattle.meaning.proofs.Model.Names.{none_mandatory}
use Rattle.meaning.proofs.Lists.{drop_next}

-- the first 24 bytes, of a shorter name too
pub first_bytes : (l : List ℕ) → take (min 24 (length l)) l ≡ take 24 l
first_bytes l = go (leb 24 (length l)) refl
  where
    go : (x : Bool) → leb 24 (length l) ≡ x → take (min 24 (length l)) l ≡ take 24 l
    go true h = let k = leb-true 24 (length l) h in let e : min 24 (length l) ≡ 24 = omega arith in rw e
    go false h = let k = leb-false 24 (length l) h in let e : min 24 (length l) ≡ length l = omega arith in rw (e, take_all (length l) l (omega arith), take_all 24 l (omega arith))

-- ## Topics

module _ (from : ℕ) (name : List ℕ) where
  -- none is found before `from`; the first topic has the number n
  before_from : (k n : ℕ) (ts : List (List ℕ)) → n + k ≤ from → find_topic from n name ts ≡ find_topic from (n + k) name (drop k ts)
  unfolding find_topic choose
  before_from zero n ts l = let e : n ≡ n + 0 = omega arith in ap (λ (x : ℕ). find_topic from x name ts) e
  before_from (suc k) n [] l = refl
  before_from (suc k) n (t ∷ ts) l =
      let e : n + suc k ≡ n + 1 + k = omega arith in
      rw (e, lt-leb from n (omega arith)) (before_from k (n + 1) ts (omega arith))

  -- what is found is a topic
  pub topic_inside : (n : ℕ) (ts : List (List ℕ)) (p : ℕ) → find_topic from n name ts ≡ found p → p < n + length ts
  unfolding find_topic choose
  topic_inside n [] p e = absurd (no_found p e)
  topic_inside n (t ∷ ts) p e = go (leb from n && same_name t name) e (topic_inside (n + 1) ts p)
    where
      go : (x : Bool) → choose x (found n) (find_topic from (n + 1) name ts) ≡ found p → (find_topic from (n + 1) name ts ≡ found p → p < n + 1 + length ts) → p < n + length (t ∷ ts)
      go true e ih = let q : n ≡ p = same_found n p e in omega arith
      go false e ih = omega (arith, ih e)

module _ (from : ℕ) (name : List ℕ) (ts : List (List ℕ)) where
  pub topic_start : find_topic from 0 name ts ≡ find_topic from from name (drop from ts)
  topic_start = rw (zero-add from) at (before_from from name from 0 ts (omega arith))

  pub topic_hit : (k : ℕ) → k < length ts → from ≤ k → same_name (get_or ts k []) name ≡ true → find_topic from k name (drop k ts) ≡ found k
  unfolding find_topic choose
  topic_hit k l g e = rw (drop_next ts k [] l, le-leb from k g, e)

  pub topic_pass : (k : ℕ) → k < length ts → from ≤ k → same_name (get_or ts k []) name ≡ false → find_topic from k name (drop k ts) ≡ find_topic from (k + 1) name (drop (k + 1) ts)
  unfolding find_topic choose
  topic_pass k l g e = rw (drop_next ts k [] l, le-leb from k g, e)

  pub topic_none : (k : ℕ) → length ts ≤ k → find_topic from k name (drop k ts) ≡ missing
  unfolding find_topic
  topic_none k l = rw (drop_of_length-le ts l)

-- ## Tables

module _ (p from : ℕ) (name : List ℕ) where
  -- none is found before `from`; the first table has the number n
  before_table : (k n : ℕ) (ts : List Table) → n + k ≤ from → find_table p from n name ts ≡ find_table p from (n + k) name (drop k ts)
  unfolding find_table choose
  before_table zero n ts l = let e : n ≡ n + 0 = omega arith in ap (λ (x : ℕ). find_table p from x name ts) e
  before_table (suc k) n [] l = refl
  before_table (suc k) n (t ∷ ts) l =
      let e : n + suc k ≡ n + 1 + k = omega arith in
      rw (e, lt-leb from n (omega arith)) (before_table k (n + 1) ts (omega arith))

module _ (p from : ℕ) (name : List ℕ) (ts : List Table) where
  pub table_start : find_table p from 0 name ts ≡ find_table p from from name (drop from ts)
  table_start = rw (zero-add from) at (before_table p from name from 0 ts (omega arith))

  pub table_none : (t : ℕ) → length ts ≤ t → find_table p from t name (drop t ts) ≡ missing
  unfolding find_table
  table_none t l = rw (drop_of_length-le ts l)

  module _ (t : ℕ) (l : t < length ts) where
    pub table_hit : from ≤ t → (table_at ts t).topic ≡ p → same_name (table_at ts t).name name ≡ true → find_table p from t name (drop t ts) ≡ found t
    unfolding find_table choose
    table_hit g o e = rw (drop_next ts t no_table l, le-leb from t g, eq-eqb (table_at ts t).topic p o, e)

    -- a table of another name, and one of another topic
    pub table_pass : same_name (table_at ts t).name name ≡ false → find_table p from t name (drop t ts) ≡ find_table p from (t + 1) name (drop (t + 1) ts)
    unfolding find_table choose
    table_pass e = rw (drop_next ts t no_table l, e, and-false (leb from t && eqb (table_at ts t).topic p))

    pub table_other : ((table_at ts t).topic ≡ p → ⊥) → find_table p from t name (drop t ts) ≡ find_table p from (t + 1) name (drop (t + 1) ts)
    unfolding find_table choose
    table_other n = rw (drop_next ts t no_table l, ne_eqb (table_at ts t).topic p n, and-false (leb from t))

-- ## Mandatory tables

-- none before the first
between_none : (p from to n : ℕ) (ts : List Table) → to ≤ n → mandatory_between p from to n ts ≡ false
between_none p from to n ts l = none_mandatory p from to n ts (λ j a b d e. absurd (omega arith))

-- one table more
between_more : (p from n : ℕ) (ts : List Table) (i : ℕ) → i < length ts
    → mandatory_between p from (n + i + 1) n ts ≡ (mandatory_between p from (n + i) n ts || (leb from (n + i) && eqb (table_at ts i).topic p && not (table_at ts i).optional))
unfolding mandatory_between
between_more p from n [] i l = absurd (omega arith)
between_more p from n (t ∷ ts) zero l =
    let e : n + 0 ≡ n = omega arith in
    subst
    (λ (k : ℕ). mandatory_between p from (k + 1) n (t ∷ ts) ≡ (mandatory_between p from k n (t ∷ ts) || (leb from k && eqb t.topic p && not t.optional)))
    (sym e)
    (rw (lt-ltb n (n + 1) (omega arith), le-ltb n n (omega arith), between_none p from (n + 1) (n + 1) ts (omega arith))
    (rw (between_none p from n (n + 1) ts (omega arith)) (go (leb from n) (eqb t.topic p) (not t.optional))))
  where
    go : (x y z : Bool) → (x && true && y && z || false) ≡ ((x && false && y && z || false) || (x && y && z))
    go true true true = refl
    go true true false = refl
    go true false z = refl
    go false y z = refl
between_more p from n (t ∷ ts) (suc i) l =
    let e : n + suc i ≡ n + 1 + i = omega arith in
    let ih = between_more p from (n + 1) ts i (omega arith) in
    subst
    (λ (k : ℕ). mandatory_between p from (k + 1) n (t ∷ ts) ≡ (mandatory_between p from k n (t ∷ ts) || (leb from k && eqb (table_at ts i).topic p && not (table_at ts i).optional)))
    (sym e)
    (rw (lt-ltb n (n + 1 + i + 1) (omega arith), lt-ltb n (n + 1 + i) (omega arith), ih) (sym (or_assoc (leb from n && true && eqb t.topic p && not t.optional) _ _)))

-- all tables, up to any number behind them
between_all : (p from to n : ℕ) (ts : List Table) → n + length ts ≤ to → mandatory_between p from to n ts ≡ mandatory_between p from (n + length ts) n ts
unfolding mandatory_between
between_all p from to n [] l = refl
between_all p from to n (t ∷ ts) l =
    let e : n + 1 + length ts ≡ n + suc (length ts) = omega arith in
    let ih = rw e at (between_all p from to (n + 1) ts (omega arith)) in
    rw (lt-ltb n to (omega arith), lt-ltb n (n + suc (length ts)) (omega arith), ih)

module _ (p from : ℕ) (ts : List Table) where
  pub owed_start : mandatory_between p from from 0 ts ≡ false
  owed_start = none_mandatory p from from 0 ts (λ j a b d e. absurd (omega arith))

  pub owed_end : (t : ℕ) → length ts ≤ t → mandatory_between p from t 0 ts ≡ mandatory_between p from (length ts) 0 ts
  owed_end t l = rw (zero-add (length ts)) at (between_all p from t 0 ts (omega arith))

  module _ (t : ℕ) (l : t < length ts) where
    owed_next : mandatory_between p from (t + 1) 0 ts ≡ (mandatory_between p from t 0 ts || (leb from t && eqb (table_at ts t).topic p && not (table_at ts t).optional))
    owed_next = rw (zero-add t) at (between_more p from 0 ts t l)

    -- a table of the topic, and one of another
    pub owed_more : (owed optional : Bool) → from ≤ t → (table_at ts t).topic ≡ p → owed ≡ mandatory_between p from t 0 ts → optional ≡ (table_at ts t).optional
        → (owed || not optional) ≡ mandatory_between p from (t + 1) 0 ts
    owed_more owed optional g e old o = rw (old, o) (sym (rw (le-leb from t g, eq-eqb (table_at ts t).topic p e) at owed_next))

    pub owed_other : (owed : Bool) → ((table_at ts t).topic ≡ p → ⊥) → owed ≡ mandatory_between p from t 0 ts → owed ≡ mandatory_between p from (t + 1) 0 ts
    owed_other owed n old = old ∙ sym (rw (ne_eqb (table_at ts t).topic p n, and-false (leb from t), or-false (mandatory_between p from t 0 ts)) at owed_next)
