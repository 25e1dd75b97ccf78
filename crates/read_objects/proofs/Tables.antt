-- What a good model bounds: it has no more tables than bytes, and its bytes are few. Assumes nothing.
use Prim.Native.Nat.{ℕ, zero, suc, ◌+◌, ◌≤◌}
use native.Mathlib.Omega.{arith}
use mathlib.Core.Path.{ap, ◌∙◌}
use mathlib.Core.Bool.{Bool, true, false}
use mathlib.Core.List.{List, [], ◌∷◌}
use lib.Dec.{ltb, eqb}
use lib.ListN.{length, take, drop, length-drop}
use Rattle.meaning.specs.Bytes.{choose, refuse, u16_at}
use Rattle.meaning.specs.Model.{Records, overrun, entry, records_from, Table, Model, tables_of}
use Rattle.model_records.specs.AtRecord.{AtRecord}
use Rattle.model_records.proofs.AtRecord.{here}

pick_few : (x : Bool) (t : Table) (ts : List Table) (n : ℕ) → length ts ≤ n → length (choose x (t ∷ ts) ts) ≤ suc n
unfolding choose
pick_few true t ts n h = omega arith
pick_few false t ts n h = omega arith

record_few : (x : Bool) (at kind k : ℕ) (p : List ℕ) (others : Records) (n : ℕ) → ((j : ℕ) → length (tables_of j others) ≤ n)
    → length (tables_of k (refuse x (overrun at) (entry at kind p others))) ≤ suc n
unfolding tables_of refuse
record_few true at kind k p others n h = omega arith
record_few false at kind k p others n h = pick_few (eqb kind 4) _ _ n (h (choose (eqb kind 3) (k + 1) k))

records_few : (skip at k : ℕ) (s : List ℕ) → length (tables_of k (records_from skip at s)) ≤ length s
unfolding records_from tables_of
records_few skip at k [] = omega arith
records_few (suc skip) at k (b ∷ s) = omega (arith, records_few skip (at + 1) k s)
records_few zero at k (b ∷ s) =
    record_few (ltb (length s) (u16_at (b ∷ s) 0 + 3)) at (u16_at (b ∷ s) 2) k (take (u16_at (b ∷ s) 0) (drop 3 s)) (records_from (u16_at (b ∷ s) 0 + 3) (at + 1) s) (length s)
    (λ j. records_few (u16_at (b ∷ s) 0 + 3) (at + 1) j s)

pub tables_few : (m : Model) (b : List ℕ) (at k t : ℕ) → AtRecord m b at k t → length m.tables ≤ length b
tables_few m b at k t s =
    let n = records_few 0 at k (drop at b) in
    let d = ap length s.tables ∙ length-drop t m.tables in
    omega (arith, n, d, length-drop at b, s.counted, (here m b at k t s).room)
