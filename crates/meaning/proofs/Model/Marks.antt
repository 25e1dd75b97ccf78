-- A good model's mark is a special byte. Assumes nothing.
use Prim.Native.Nat.{ℕ}
use native.Mathlib.Omega.{arith}
use mathlib.Core.Path.{◌≡◌, refl}
use mathlib.Core.Bool.{Bool, true, false, false≢true, true≢false}
use mathlib.Core.List.{List, [], ◌∷◌}
use lib.Dec.{eqb}
use borrow.Author.Tests.{eqb-true, leb-true, not-false}
use Rattle.meaning.specs.Bytes.{choose, refuse}
use Rattle.meaning.specs.Cut.{Mark}
use Rattle.meaning.specs.Model.{Records, finish, overrun, entry, records_from, Attribute, Table, Model, model_of}
use Rattle.meaning.specs.Check.{bad, special, Seen, nothing_seen, keeps_transfer, keeps, see, good, Checked, follows, judge_attributes, judge_references, check_records, check_model}
use Rattle.meaning.proofs.Tests.Refuse as refusing
pub use Rattle.meaning.proofs.Tests.Refuse.{holds}

pub bad_good : (at : ℕ) (m : Model) → bad at ≡ good m → ⊥
bad_good at m h = let z : ◌≡◌ {A = ℕ} 0 1 = cc in omega arith

-- what a test that did not refuse leaves
pub passed : (t : Bool) (at : ℕ) (u : Checked) (m : Model) → refuse t (bad at) u ≡ good m → (t ≡ false) × (u ≡ good m)
passed t at u m h = refusing.passed t (bad at) u (good m) (bad_good at m) h

pub attributes_good : (ts : List Table) (topic : ℕ) (attributes : List Attribute) (u : Checked) (m : Model) → judge_attributes ts topic attributes u ≡ good m → u ≡ good m
unfolding judge_attributes
attributes_good ts topic [] u m h = h
attributes_good ts topic (a ∷ others) u m h = attributes_good ts topic others u m (passed _ a.at _ m h).1

pub references_good : (ts others : List Table) (u : Checked) (m : Model) → judge_references ts others u ≡ good m → u ≡ good m
unfolding judge_references
references_good ts [] u m h = h
references_good ts (t ∷ others) u m h = references_good ts others u m (attributes_good ts t.topic t.attributes _ m h)

-- what is judged last is good where all is
pub rest_good : (before : ℕ) (seen : Seen) (rs : Records) (u : Checked) (m : Model) → check_records before seen rs u ≡ good m → u ≡ good m
unfolding check_records
rest_good before seen (finish at) u m h = (passed _ at _ m h).1
rest_good before seen (overrun at) u m h = absurd (bad_good at m h)
rest_good before seen (entry at kind p others) u m h =
    rest_good kind (see kind p seen) others u m (passed _ at _ m (passed _ at _ m h).1).1

-- the first record is a transfer record, and keeps its rules
pub is_transfer : (kind : ℕ) → follows 0 kind ≡ true → kind ≡ 1
unfolding follows
is_transfer kind h = go (eqb kind 1) refl
  where
    go : (t : Bool) → eqb kind 1 ≡ t → kind ≡ 1
    go true e = eqb-true kind 1 e
    go false e = absurd (false≢true (rw e at h))

pub first_special : (rs : Records) (u : Checked) (m : Model) → check_records 0 nothing_seen rs u ≡ good m → special (model_of rs).mark ≡ true
unfolding check_records model_of keeps keeps_transfer choose
first_special (finish at) u m h = absurd (true≢false (passed _ at _ m h).0)
first_special (overrun at) u m h = absurd (bad_good at m h)
first_special (entry at kind p others) u m h =
    let r = passed _ at _ m h in
    let q = passed _ at _ m r.1 in
    let one : kind ≡ 1 = is_transfer kind (not-false _ r.0) in
    let k : keeps_transfer p ≡ true = rw one at (not-false (keeps kind p nothing_seen) q.0) in
    holds _ 2 k

-- a good model's mark lies in 21 to 7E hex
pub good_mark : (model : List ℕ) (m : Model) → check_model model ≡ good m → Mark m.mark
unfolding check_model special
good_mark model m h =
    let rs : Records = records_from 0 0 model in
    let r = passed _ 0 _ m h in
    let same : good (model_of rs) ≡ good m = references_good _ _ _ m (rest_good 0 nothing_seen rs _ m r.1) in
    let equal : model_of rs ≡ m = cc in
    let s : special m.mark ≡ true = rw equal at (first_special rs _ m r.1) in
    record { low = leb-true 0x21 m.mark (holds _ 0 s); high = leb-true m.mark 0x7e (holds _ 1 s) }
