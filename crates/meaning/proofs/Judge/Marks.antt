-- What the judge says of marks. Assumes nothing.
use Prim.Native.Nat.{ℕ, zero, suc, ◌+◌, ◌≤◌, ◌<◌}
use native.Mathlib.Omega.{arith}
use mathlib.Core.Path.{◌≡◌, refl, subst}
use mathlib.Core.Bool.{Bool, true, false, not, ◌||◌, false≢true, true≢false}
use mathlib.Core.List.{List, [], ◌∷◌}
use lib.ListN.{length, get_or}
use borrow.Author.Tests.{leb-true, eqb-true, eqb-false, not-true, not-false}
use Rattle.meaning.specs.Bytes.{all_of, every}
use Rattle.meaning.specs.Model.{Table, table_at}
use Rattle.meaning.specs.Reading.{Content}
use Rattle.meaning.specs.Writing.{is_delivered}
use Rattle.meaning.specs.Judge.{is_mark, judge_tables}
use Rattle.meaning.proofs.Tests.Refuse.{both, holds}

-- ## A mark

mark_at : (marks : List ℕ) (j : ℕ) → every is_mark marks ≡ true → get_or marks j 0 ≤ 1
unfolding every is_mark
mark_at [] j h = omega arith
mark_at (b ∷ marks) zero h = leb-true b 1 (both (is_mark b) _ h).0
mark_at (b ∷ marks) (suc j) h = mark_at marks j (both (is_mark b) _ h).1

pub delivered_one : (c : Content) (j : ℕ) → every is_mark c.marks ≡ true → is_delivered c j ≡ true → get_or c.marks j 0 ≡ 1
delivered_one c j m h = let l = mark_at c.marks j m in omega (arith, eqb-false (get_or c.marks j 0) 0 (not-true _ h))

pub undelivered_zero : (c : Content) (j : ℕ) → is_delivered c j ≡ false → get_or c.marks j 0 ≡ 0
undelivered_zero c j h = eqb-true (get_or c.marks j 0) 0 (not-false _ h)

-- ## The marks of tables

-- table n, behind so many topics: it is delivered only in a delivered topic, and optional where it is left out of one
pub record TableMarked (c : Content) (topics n : ℕ) (table : Table) : Type 0 where
  pub in_topic : is_delivered c (topics + n) ≡ true → is_delivered c table.topic ≡ true
  pub optional : is_delivered c (topics + n) ≡ false → is_delivered c table.topic ≡ true → table.optional ≡ true

-- "topics and optional tables may be left out", as tests
marked : (a b o : Bool) → (not a || b) ≡ true → (a || not b || o) ≡ true → (a ≡ true → b ≡ true) × (a ≡ false → b ≡ true → o ≡ true)
marked true true o h k = (λ e. refl, λ e. absurd (true≢false e))
marked true false o h k = absurd (false≢true h)
marked false true o h k = (λ e. absurd (false≢true e), λ e d. k)
marked false false o h k = (λ e. absurd (false≢true e), λ e d. absurd (false≢true d))

marks : (a b o : Bool) → (a ≡ true → b ≡ true) → (a ≡ false → b ≡ true → o ≡ true) → ((not a || b) ≡ true) × ((a || not b || o) ≡ true)
marks true b o h k = (h refl, refl)
marks false true o h k = (refl, k refl refl)
marks false false o h k = (refl, refl)

module _ (c : Content) (topics : ℕ) where
  tables_judged : (n : ℕ) (ts : List Table) → judge_tables topics c n ts ≡ true → (j : ℕ) → j < length ts → TableMarked c topics (n + j) (table_at ts j)
  unfolding judge_tables
  tables_judged n [] h j l = absurd (omega arith)
  tables_judged n (t ∷ ts) h zero l =
      let r = marked (is_delivered c (topics + n)) (is_delivered c t.topic) t.optional (holds _ 0 h) (holds _ 1 h) in
      let z : n ≡ n + 0 = omega arith in
      subst (λ (x : ℕ). TableMarked c topics x t) z (record { in_topic = r.0; optional = r.1 })
  tables_judged n (t ∷ ts) h (suc j) l =
      let z : n + 1 + j ≡ n + suc j = omega arith in
      subst (λ (x : ℕ). TableMarked c topics x (table_at ts j)) z (tables_judged (n + 1) ts (holds _ 2 h) j (omega arith))

  judged_tables : (n : ℕ) (ts : List Table) → ((j : ℕ) → j < length ts → TableMarked c topics (n + j) (table_at ts j)) → judge_tables topics c n ts ≡ true
  unfolding judge_tables all_of
  judged_tables n [] h = refl
  judged_tables n (t ∷ ts) h =
      let z : n + 0 ≡ n = omega arith in
      let first : TableMarked c topics n t = subst (λ (x : ℕ). TableMarked c topics x t) z (h 0 (omega arith)) in
      let r = marks (is_delivered c (topics + n)) (is_delivered c t.topic) t.optional first.in_topic first.optional in
      rw (r.0, r.1, judged_tables (n + 1) ts (λ j l. let y : n + suc j ≡ n + 1 + j = omega arith in subst (λ (x : ℕ). TableMarked c topics x (table_at ts j)) y (h (suc j) (omega arith))))

  -- all tables
  pub all_tables_judged : (ts : List Table) → judge_tables topics c 0 ts ≡ true → (t : ℕ) → t < length ts → TableMarked c topics t (table_at ts t)
  all_tables_judged ts h t l = let z : 0 + t ≡ t = omega arith in subst (λ (x : ℕ). TableMarked c topics x (table_at ts t)) z (tables_judged 0 ts h t l)

  pub judged_all_tables : (ts : List Table) → ((t : ℕ) → t < length ts → TableMarked c topics t (table_at ts t)) → judge_tables topics c 0 ts ≡ true
  judged_all_tables ts h = judged_tables 0 ts (λ j l. let z : j ≡ 0 + j = omega arith in subst (λ (x : ℕ). TableMarked c topics x (table_at ts j)) z (h j l))
