-- The byte of a bad record lies within the model's 65,536 bytes. Assumes nothing.
use Prim.Native.Nat.{ℕ, zero, suc, ◌+◌, ◌≤◌}
use native.Mathlib.Omega.{arith}
use mathlib.Core.Path.{◌≡◌, refl}
use mathlib.Core.Bool.{Bool, true, false}
use mathlib.Core.List.{List, [], ◌∷◌}
use lib.Dec.{eqb, ltb}
use lib.ListN.{length}
use borrow.Author.Tests.{ltb-false}
use Rattle.meaning.specs.Bytes.{choose, refuse, u16_at}
use Rattle.meaning.specs.Model.{Records, finish, overrun, entry, records_from, Attribute, Table, attribute_of, attributes_of, tables_of, model_of, target_of}
use Rattle.meaning.specs.Check.{Seen, nothing_seen, Checked, good, bad, is_outside, judge_attributes, judge_references, check_records, check_model}

-- each record begins at byte n at the latest
abbrev Below : ℕ → Records → Type 0
Below n (finish at) = at ≤ n
Below n (overrun at) = at ≤ n
Below n (entry at kind p others) = (at ≤ n) × Below n others

abbrev AttributesBelow : ℕ → List Attribute → Type 0
AttributesBelow n [] = Unit {0}
AttributesBelow n (a ∷ others) = (a.at ≤ n) × AttributesBelow n others

abbrev TablesBelow : ℕ → List Table → Type 0
TablesBelow n [] = Unit {0}
TablesBelow n (t ∷ others) = AttributesBelow n t.attributes × TablesBelow n others

abbrev pub BadBelow : ℕ → Checked → Type 0
BadBelow n (good m) = Unit {0}
BadBelow n (bad at) = at ≤ n

from_below : (n skip at : ℕ) (s : List ℕ) → at + length s ≤ n → Below n (records_from skip at s)
unfolding records_from refuse
from_below n skip at [] h = omega arith
from_below n (suc skip) at (b ∷ s) h = from_below n skip (at + 1) s (omega arith)
from_below n zero at (b ∷ s) h = go (ltb (length s) (u16_at (b ∷ s) 0 + 3)) _ _ _ (from_below n (u16_at (b ∷ s) 0 + 3) (at + 1) s (omega arith))
  where
    go : (x : Bool) (k : ℕ) (p : List ℕ) (others : Records) → Below n others → Below n (refuse x (overrun at) (entry at k p others))
    go true k p others o = omega arith
    go false k p others o = (omega arith, o)

attributes_below : (n : ℕ) (rs : Records) → Below n rs → AttributesBelow n (attributes_of rs)
unfolding attributes_of attribute_of choose
attributes_below n (finish at) h = tt
attributes_below n (overrun at) h = tt
attributes_below n (entry at kind p others) h = go (eqb kind 5) (attributes_of others) (attributes_below n others h.1)
  where
    go : (x : Bool) (as' : List Attribute) → AttributesBelow n as' → AttributesBelow n (choose x (attribute_of at p ∷ as') [])
    go true as' o = (h.0, o)
    go false as' o = tt

tables_below_lem : (n k : ℕ) (rs : Records) → Below n rs → TablesBelow n (tables_of k rs)
unfolding tables_of choose
tables_below_lem n k (finish at) h = tt
tables_below_lem n k (overrun at) h = tt
tables_below_lem n k (entry at kind p others) h = go (eqb kind 4) _ _ (attributes_below n others h.1) (tables_below_lem n (choose (eqb kind 3) (k + 1) k) others h.1)
  where
    go : (x : Bool) (t : Table) (ts : List Table) → AttributesBelow n t.attributes → TablesBelow n ts → TablesBelow n (choose x (t ∷ ts) ts)
    go true t ts a o = (a, o)
    go false t ts a o = o

either_below : (n at : ℕ) (x : Bool) (c : Checked) → at ≤ n → BadBelow n c → BadBelow n (refuse x (bad at) c)
unfolding refuse
either_below n at true c h r = h
either_below n at false c h r = r

judged_attributes : (n : ℕ) (ts : List Table) (topic : ℕ) (as' : List Attribute) (rest : Checked) → AttributesBelow n as' → BadBelow n rest → BadBelow n (judge_attributes ts topic as' rest)
unfolding judge_attributes
judged_attributes n ts topic [] rest h r = r
judged_attributes n ts topic (a ∷ others) rest h r = either_below n a.at (is_outside ts topic (target_of a.type)) (judge_attributes ts topic others rest) h.0 (judged_attributes n ts topic others rest h.1 r)

judged_references : (n : ℕ) (ts others : List Table) (rest : Checked) → TablesBelow n others → BadBelow n rest → BadBelow n (judge_references ts others rest)
unfolding judge_references
judged_references n ts [] rest h r = r
judged_references n ts (t ∷ others) rest h r = judged_attributes n ts t.topic t.attributes _ h.0 (judged_references n ts others rest h.1 r)

records_below : (n before : ℕ) (seen : Seen) (rs : Records) (rest : Checked) → Below n rs → BadBelow n rest → BadBelow n (check_records before seen rs rest)
unfolding check_records
records_below n before seen (finish at) rest h r = either_below n at _ _ h r
records_below n before seen (overrun at) rest h r = h
records_below n before seen (entry at kind p others) rest h r = either_below n at _ _ h.0 (either_below n at _ _ h.0 (records_below n kind _ others rest h.1 r))

model_below : (n : ℕ) (rs : Records) → Below n rs → TablesBelow n (model_of rs).tables
unfolding model_of
model_below n (finish at) h = tt
model_below n (overrun at) h = tt
model_below n (entry at kind p others) h = tables_below_lem n 0 others h.1

pub bad_below : (b : List ℕ) → BadBelow 65536 (check_model b)
unfolding check_model refuse
bad_below b = go (ltb 65536 (length b)) refl
  where
    rs : Records
    rs = records_from 0 0 b

    go : (x : Bool) → ltb 65536 (length b) ≡ x
        → BadBelow 65536 (refuse x (bad 0) (check_records 0 nothing_seen (records_from 0 0 b) (judge_references (model_of (records_from 0 0 b)).tables (model_of (records_from 0 0 b)).tables (good (model_of (records_from 0 0 b))))))
    go true e = omega arith
    go false e =
        let short : length b ≤ 65536 = ltb-false 65536 (length b) e in
        let h : Below 65536 (records_from 0 0 b) = from_below 65536 0 0 b (omega arith) in
        records_below 65536 0 nothing_seen (records_from 0 0 b) _ h (judged_references 65536 _ _ _ (model_below 65536 (records_from 0 0 b) h) tt)
