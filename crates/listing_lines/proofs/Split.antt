-- The model's size, record by record. Assumes nothing.
use Prim.Native.Nat.{ℕ, ◌+◌, ◌≤◌, ◌<◌}
use native.Mathlib.Omega.{arith}
use mathlib.Core.Path.{◌≡◌, refl}
use mathlib.Core.Bool.{Bool, true, false}
use mathlib.Core.List.{List}
use lib.Dec.{ltb}
use lib.ListN.{length, length-take, length-drop}
use borrow.Author.Tests.{eq-eqb, ne_eqb, ltb-true, ltb-false}
use Rattle.meaning.specs.Bytes.{choose, u16_at}
use Rattle.meaning.specs.Listing.{model_size}
use Rattle.meaning.proofs.Model.Records.{records_at, payload_at, next_at, entry_at, overrun_at, finish_at}

module _ (all : ℕ) (b : List ℕ) (at : ℕ) where
  -- the record of kind 6 belongs to the model
  pub ends : next_at b at ≤ length b → u16_at b (at + 2) ≡ 6 → model_size all (records_at b at) ≡ next_at b at
  unfolding model_size choose
  ends h e =
      let size : length (payload_at b at) ≡ u16_at b at = simp (length-take, length-drop) (omega arith) in
      rw (entry_at b at h, eq-eqb (u16_at b (at + 2)) 6 e, size)

  pub goes_on : next_at b at ≤ length b → (u16_at b (at + 2) ≡ 6 → ⊥) → model_size all (records_at b at) ≡ model_size all (records_at b (next_at b at))
  unfolding model_size choose
  goes_on h n = rw (entry_at b at h, ne_eqb (u16_at b (at + 2)) 6 n)

  pub no_more : length b < next_at b at → model_size all (records_at b at) ≡ all
  unfolding model_size
  no_more h = by (ltb at (length b)) refl
    where
      by : (x : Bool) → ltb at (length b) ≡ x → model_size all (records_at b at) ≡ all
      by true e = rw (overrun_at b at (ltb-true at (length b) e) h)
      by false e = rw (finish_at b at (ltb-false at (length b) e))
