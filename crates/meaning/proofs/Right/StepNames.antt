-- What is found by a name, and what is used: in the words of reasons. Assumes nothing.
use Prim.Native.Nat.{ℕ, zero, suc, ◌+◌, ◌-◌, ◌≤◌, ◌<◌}
use native.Mathlib.Omega.{arith}
use mathlib.Core.Path.{◌≡◌, refl, sym, ap, subst, ◌∙◌}
use mathlib.Core.Bool.{Bool, true, false, ◌&&◌, ◌||◌, false≢true}
use mathlib.Core.List.{List, [], ◌∷◌}
use lib.Dec.{eqb, leb}
use lib.IntN.{ℤ}
use lib.ListN.{length, get_or}
use borrow.Author.Tests.{le-leb, eq-eqb}
use Rattle.meaning.specs.Bytes.{choose}
use Rattle.meaning.specs.Model.{found, missing, Table, Model, no_table}
use Rattle.meaning.specs.Value.{same_identification}
use Rattle.meaning.specs.Reading.{same_name, find_topic, find_table, Content, Object, objects_of, is_used}
use Rattle.meaning.specs.Reasons.{TopicOf, TableOf, Used}
use Rattle.meaning.proofs.Tests.Refuse.{or_right}
use Rattle.meaning.proofs.Tests.Same.{same_refl, same_is}
use Rattle.meaning.proofs.Reading.StepsRead.{topic_found, table_found}
use Rattle.meaning.proofs.Right.References.{one_found}
use Rattle.meaning.proofs.Right.Places.{identifications_in, UsedIn}

-- ## Topics and tables

-- where none is found, none of the name stands in order
missing_topic : (from n : ℕ) (name : List ℕ) (names : List (List ℕ)) → find_topic from n name names ≡ missing → (j : ℕ) → j < length names → from ≤ n + j → same_name (get_or names j []) name ≡ true → ⊥
unfolding find_topic choose
missing_topic from n name [] e j l f s = absurd (omega arith)
missing_topic from n name (t ∷ ts) e zero l f s = one_found n (rw (le-leb from n (omega arith), s) at e)
missing_topic from n name (t ∷ ts) e (suc j) l f s = by (leb from n && same_name t name) e (λ k. missing_topic from (n + 1) name ts k j (omega arith) (omega arith) s)
  where
    by : (x : Bool) → choose x (found n) (find_topic from (n + 1) name ts) ≡ missing → (find_topic from (n + 1) name ts ≡ missing → ⊥) → ⊥
    by true e ih = one_found n e
    by false e ih = ih e

missing_table : (topic from n : ℕ) (name : List ℕ) (ts : List Table) → find_table topic from n name ts ≡ missing → (j : ℕ) → j < length ts → from ≤ n + j → (get_or ts j no_table).topic ≡ topic
    → same_name (get_or ts j no_table).name name ≡ true → ⊥
unfolding find_table choose
missing_table topic from n name [] e j l f o s = absurd (omega arith)
missing_table topic from n name (t ∷ ts) e zero l f o s = one_found n (rw (le-leb from n (omega arith), eq-eqb t.topic topic o, s) at e)
missing_table topic from n name (t ∷ ts) e (suc j) l f o s = by (leb from n && eqb t.topic topic && same_name t.name name) e (λ k. missing_table topic from (n + 1) name ts k j (omega arith) (omega arith) o s)
  where
    by : (x : Bool) → choose x (found n) (find_table topic from (n + 1) name ts) ≡ missing → (find_table topic from (n + 1) name ts ≡ missing → ⊥) → ⊥
    by true e ih = one_found n e
    by false e ih = ih e

module _ (m : Model) where
  pub topic_of_lem : (from : ℕ) (name : List ℕ) (q : ℕ) → find_topic from 0 name m.topics ≡ found q → TopicOf m from name q
  topic_of_lem from name q e =
      let r = topic_found from 0 name m.topics q e in
      let z : q - 0 ≡ q = omega arith in
      record { later = r.after; within = rw z at r.size; named = rw z at r.alike }

  pub no_topic_lem : (from : ℕ) (name : List ℕ) → find_topic from 0 name m.topics ≡ missing → (q : ℕ) → TopicOf m from name q → ⊥
  no_topic_lem from name e q t = missing_topic from 0 name m.topics e q t.within (omega (arith, t.later)) t.named

  pub table_of : (p from : ℕ) (name : List ℕ) (t : ℕ) → find_table p from 0 name m.tables ≡ found t → TableOf m p from name t
  table_of p from name t e =
      let r = table_found p from 0 name m.tables t e in
      let z : t - 0 ≡ t = omega arith in
      record { later = r.after; within = rw z at r.size; topic = rw z at r.in_topic; named = rw z at r.alike }

  pub no_table_lem : (p from : ℕ) (name : List ℕ) → find_table p from 0 name m.tables ≡ missing → (t : ℕ) → TableOf m p from name t → ⊥
  no_table_lem p from name e t o = missing_table p from 0 name m.tables e t o.within (omega (arith, o.later)) o.topic o.named

-- ## Identifications

used_of_lem : (i : List ℕ) (os : List Object) → is_used i os ≡ true → Used i (identifications_in os)
unfolding is_used identifications_in same_identification
used_of_lem i [] h = absurd (false≢true h)
used_of_lem i (o ∷ os) h = by (same_identification o.identification i) refl h (used_of_lem i os)
  where
    by : (x : Bool) → same_identification o.identification i ≡ x → (x || is_used i os) ≡ true → (is_used i os ≡ true → Used i (identifications_in os)) → Used i (o.identification ∷ identifications_in os)
    by true e h ih = rw (same_is o.identification i e) Used.here
    by false e h ih = Used.later (ih h)

of_used : {used : List (List ℕ)} (i : List ℕ) (os : List Object) → Used i used → identifications_in os ≡ used → is_used i os ≡ true
unfolding is_used identifications_in same_identification
of_used i [] Used.here e = cc
of_used i [] (Used.later h) e = cc
of_used i (o ∷ os) Used.here e = let q : o.identification ≡ i = cc in rw (q, same_refl i)
of_used i (o ∷ os) (Used.later h) e = or_right (same_identification o.identification i) _ (of_used i os h (cc))

objects_length : (own : List ℕ) (cs : List ℤ) (rows : List ℕ) → length (identifications_in (objects_of own cs rows)) ≡ length rows
unfolding identifications_in objects_of
objects_length own cs [] = refl
objects_length own cs (r ∷ rows) = ap suc (objects_length own cs rows)

module _ (own : List ℕ) (c : Content) (used : List (List ℕ)) (uses : UsedIn own c used) where
  pub used_before : (i : List ℕ) → is_used i (objects_of own c.cells c.rows) ≡ true → Used i used
  used_before i h = subst (Used i) uses (used_of_lem i _ h)

  pub not_before : (i : List ℕ) → is_used i (objects_of own c.cells c.rows) ≡ false → Used i used → ⊥
  not_before i h k = false≢true (sym h ∙ of_used i _ k uses)

  pub used_length : length used ≡ length c.rows
  used_length = ap length (sym uses) ∙ objects_length own c.cells c.rows
