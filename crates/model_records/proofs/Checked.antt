-- One record of the check: what is known of it where the whole model is good, and what the check then does with the rest.
-- Assumes nothing.
use Prim.Native.Nat.{ℕ, zero, suc, ◌≤◌, ◌<◌}
use native.Mathlib.Omega.{arith}
use mathlib.Core.Path.{◌≡◌, refl, sym, ◌∙◌}
use mathlib.Core.Bool.{Bool, true, false, true≢false}
use mathlib.Core.List.{List, []}
use lib.Dec.{eqb, leb}
use lib.ListN.{length}
use borrow.Author.Tests.{eqb-true, leb-true, leb-false, not-false, ne_eqb}
use Rattle.meaning.specs.Bytes.{refuse}
use Rattle.meaning.specs.Model.{Records, finish, overrun, entry, Model, tables_of, topics_of, model_of}
use Rattle.meaning.specs.Check.{Seen, Checked, good, nothing_seen, keeps, see, follows, follows_transfer, check_records, check_model}
use Rattle.meaning.proofs.Unfolding.Cuts.{both}
use Rattle.meaning.proofs.Model.Marks.{bad_good, passed, references_good, rest_good}
use Rattle.meaning.proofs.Model.Records.{entry_at, overrun_at, finish_at}
use Rattle.model_records.specs.Records.{records_at, kind_at, payload_at, next_at}

-- the check of a good model's records, from the first on
pub record Begun (m : Model) (b : List ℕ) : Type 0 where
  pub model : model_of (records_at b 0) ≡ m
  pub rest : Checked
  pub checked : check_records 0 nothing_seen (records_at b 0) rest ≡ good m

pub begun : (m : Model) (b : List ℕ) → check_model b ≡ good m → Begun m b
unfolding check_model
begun m b h =
    let r = passed _ 0 _ m h in
    let same : good (model_of (records_at b 0)) ≡ good m = references_good _ _ _ m (rest_good 0 nothing_seen (records_at b 0) _ m r.1) in
    record { model = (cc); rest = _; checked = r.1 }

-- ## One record

-- the record at a byte keeps the rules, and the rest is good
pub record Turn (m : Model) (b : List ℕ) (at before : ℕ) (seen : Seen) (rest : Checked) : Type 0 where
  pub fits : next_at b at ≤ length b
  pub entry : records_at b at ≡ entry at (kind_at b at) (payload_at b at) (records_at b (next_at b at))
  pub follows : follows before (kind_at b at) ≡ true
  pub keeps : keeps (kind_at b at) (payload_at b at) seen ≡ true
  pub checked : check_records (kind_at b at) (see (kind_at b at) (payload_at b at) seen) (records_at b (next_at b at)) rest ≡ good m

pub turn : (m : Model) (b : List ℕ) (at before : ℕ) (seen : Seen) (rest : Checked)
    → before < 6 → check_records before seen (records_at b at) rest ≡ good m → Turn m b at before seen rest
unfolding check_records refuse
turn m b at before seen rest l h = go (leb (next_at b at) (length b)) refl
  where
    late : length b < next_at b at → (x : Bool) → leb (length b) at ≡ x → ⊥
    late o true e = bad_good at m (rw (finish_at b at (leb-true _ _ e), ne_eqb before 6 (omega arith)) at h)
    late o false e = bad_good at m (rw (overrun_at b at (leb-false _ _ e) o) at h)

    go : (x : Bool) → leb (next_at b at) (length b) ≡ x → Turn m b at before seen rest
    go true e =
        let f = leb-true _ _ e in
        let n = entry_at b at f in
        let r = passed _ at _ m (rw n at h) in
        let q = passed _ at _ m r.1 in
        record { fits = f; entry = n; follows = not-false _ r.0; keeps = not-false _ q.0; checked = q.1 }
    go false e = absurd (late (leb-false _ _ e) (leb (length b) at) refl)

-- ## The order of the kinds

-- a test that can hold by one equation only
by_one : (k n : ℕ) (h : Bool) → h ≡ true → (eqb k n ≡ false → h ≡ false) → k ≡ n
by_one k n h t f = go (eqb k n) refl
  where
    go : (x : Bool) → eqb k n ≡ x → k ≡ n
    go true e = eqb-true k n e
    go false e = absurd (true≢false (sym t ∙ f e))

module _ (k : ℕ) where
  pub behind_nothing : follows 0 k ≡ true → k ≡ 1
  unfolding follows
  behind_nothing h = by_one k 1 _ h (λ e. rw e)

  pub behind_transfer : follows 1 k ≡ true → k ≡ 2
  unfolding follows follows_transfer
  behind_transfer h = by_one k 2 _ h (λ e. rw e)

  pub behind_model : follows 2 k ≡ true → k ≡ 3
  unfolding follows
  behind_model h = by_one k 3 _ h (λ e. rw e)

  pub behind_topic_lem : follows 3 k ≡ true → k ≡ 4
  unfolding follows
  behind_topic_lem h = by_one k 4 _ h (λ e. rw e)

  pub behind_table : follows 4 k ≡ true → k ≡ 5
  unfolding follows
  behind_table h = by_one k 5 _ h (λ e. rw e)

  pub behind_attribute : follows 5 k ≡ true → (3 ≤ k) × (k ≤ 6)
  unfolding follows
  behind_attribute h = let r = both (leb 3 k) (leb k 6) h in (leb-true 3 k r.0, leb-true k 6 r.1)

-- behind the model record: a topic, table, attribute or end record; and only a topic right behind the model record
pub in_order : (before k : ℕ) → 2 ≤ before → before < 6 → follows before k ≡ true → (3 ≤ k) × (k ≤ 6) × (before ≡ 2 → k ≡ 3)
in_order zero k l g h = absurd (omega arith)
in_order (suc zero) k l g h = absurd (omega arith)
in_order (suc (suc zero)) k l g h = let e = behind_model k h in (omega arith, omega arith, λ q. e)
in_order (suc (suc (suc zero))) k l g h = let e = behind_topic_lem k h in (omega arith, omega arith, λ q. absurd (omega arith))
in_order (suc (suc (suc (suc zero)))) k l g h = let e = behind_table k h in (omega arith, omega arith, λ q. absurd (omega arith))
in_order (suc (suc (suc (suc (suc zero))))) k l g h = let e = behind_attribute k h in (e.0, e.1, λ q. absurd (omega arith))
in_order (suc (suc (suc (suc (suc (suc n)))))) k l g h = absurd (omega arith)

-- nothing stands behind the end record
pub at_end_lem : (seen : Seen) (rs : Records) (rest : Checked) (m : Model) → check_records 6 seen rs rest ≡ good m → (topics_of rs ≡ []) × ((k : ℕ) → tables_of k rs ≡ [])
unfolding check_records follows topics_of tables_of refuse
at_end_lem seen (finish at) rest m h = (refl, λ k. refl)
at_end_lem seen (overrun at) rest m h = absurd (bad_good at m h)
at_end_lem seen (entry at kind p others) rest m h = absurd (bad_good at m h)
