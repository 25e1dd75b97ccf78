-- How many pairs an attribute has, and those of the attribute records from a byte on. Assumes nothing.
use Prim.Native.Nat.{ℕ, zero, suc, ◌+◌, ◌≤◌}
use native.Mathlib.Omega.{arith}
use mathlib.Core.Path.{◌≡◌, refl}
use mathlib.Core.Bool.{Bool, true, false}
use mathlib.Core.List.{List, [], ◌++◌}
use lib.Dec.{eqb}
use lib.ListN.{length, drop, length-append}
use Rattle.meaning.specs.Bytes.{choose, byte_at}
use Rattle.meaning.specs.Model.{Model, type_of, components_of, attribute_of}
use Rattle.meaning.specs.Row.{Pair, component_pairs, pairs_of_type, pairs_of}
use Rattle.model_records.specs.Records.{kind_at, payload_at, next_at, pairs_at}
use Rattle.model_records.specs.AtRecord.{AtRecord, AttributeHere, AttributeNext}
use Rattle.model_records.specs.Attributes as means
use Rattle.model_records.specs.Attributes.{ParametersFit, RecordAttribute}
use Rattle.model_records.specs.declared.attributes.Attribute.{Attribute}
use Rattle.model_records.specs.Counts.{fields_of, pair_count, CountsOf}
use Rattle.model_records.proofs.AtRecord.{attribute_here}
use Rattle.model_records.proofs.Types.{sized, type_at}

-- ## By the number of its type

-- no more fields than pairs, and a pair at least
few : (t : ℕ) (q : List ℕ) → ParametersFit t q → (fields_of t ≤ pair_count t) × (1 ≤ pair_count t)
unfolding fields_of pair_count choose
few zero q s = (omega arith, omega arith)
few (suc zero) q s = (omega arith, omega arith)
few (suc (suc zero)) q s = (omega arith, omega arith)
few (suc (suc (suc zero))) q s = (omega arith, omega arith)
few (suc (suc (suc (suc zero)))) q s = (omega arith, omega arith)
few (suc (suc (suc (suc (suc zero))))) q s = (omega arith, omega arith)
few (suc (suc (suc (suc (suc (suc zero)))))) q s = (omega arith, omega arith)
few (suc (suc (suc (suc (suc (suc (suc zero))))))) q s = (omega arith, omega arith)
few (suc (suc (suc (suc (suc (suc (suc (suc zero)))))))) q s = (omega arith, omega arith)
few (suc (suc (suc (suc (suc (suc (suc (suc (suc t))))))))) q s = absurd (omega (arith, s.most))

module _ (o : Bool) (q : List ℕ) (ps : List Pair) where
  count_type : (t : ℕ) → ParametersFit t q → length (pairs_of_type o (type_of t q) ++ ps) ≡ pair_count t + length ps
  unfolding pairs_of_type component_pairs type_of components_of pair_count choose
  count_type zero s = absurd (omega (arith, s.least))
  count_type (suc zero) s = omega arith
  count_type (suc (suc zero)) s = omega arith
  count_type (suc (suc (suc zero))) s = omega arith
  count_type (suc (suc (suc (suc zero)))) s = omega arith
  count_type (suc (suc (suc (suc (suc zero))))) s = omega arith
  count_type (suc (suc (suc (suc (suc (suc zero)))))) s = omega arith
  count_type (suc (suc (suc (suc (suc (suc (suc zero))))))) s = omega arith
  count_type (suc (suc (suc (suc (suc (suc (suc (suc zero)))))))) s = omega arith
  count_type (suc (suc (suc (suc (suc (suc (suc (suc (suc t))))))))) s = absurd (omega (arith, s.most))

-- ## Its record

module _ (m : Model) (b : List ℕ) (at k t : ℕ) (a : AttributeNext m b at k t) (f p : ℕ) (c : CountsOf (byte_at b (at + 5)) f p) where
  counted : CountsOf (byte_at (payload_at b at) 1) f p
  counted = rw (type_at b at a.good) at c

  pub pairs_more : length (pairs_at b at) ≡ p + length (pairs_at b (next_at b at))
  unfolding attribute_of pairs_of
  pairs_more = rw (a.attributes, counted.pairs) (count_type _ (drop 2 (payload_at b at)) _ (byte_at (payload_at b at) 1) (sized b at a.good))

  pub field_most : (f ≤ p) × (1 ≤ p)
  field_most =
      let q = few (byte_at (payload_at b at) 1) (drop 2 (payload_at b at)) (sized b at a.good) in
      (omega (arith, counted.fields, counted.pairs), omega (arith, counted.pairs))

-- ## The attribute that is decoded

module _ (b : List ℕ) (at : ℕ) (a : Attribute) (h : AttributeHere b at) (d : RecordAttribute b at a) where
  pub own_count : length (pairs_of_type a.optional (means.type_of a)) ≡ pair_count (byte_at (payload_at b at) 1)
  unfolding attribute_of
  own_count =
      let q = drop 2 (payload_at b at) in
      let t = byte_at (payload_at b at) 1 in
      rw d.type (omega (arith, length-append (pairs_of_type a.optional (type_of t q)) [], count_type a.optional q [] t (sized b at h)))

-- ## The records from a byte on

module _ (m : Model) (b : List ℕ) (at k t : ℕ) (s : AtRecord m b at k t) where
  module _ (e : kind_at b at ≡ 5) where
    a : AttributeNext m b at k t
    a = attribute_here m b at k t s e

    pub pairs_turn : (p : ℕ) → p ≡ pair_count (byte_at b (at + 5)) → length (pairs_at b at) ≡ p + length (pairs_at b (next_at b at))
    pairs_turn p h = pairs_more m b at k t a (fields_of (byte_at b (at + 5))) p (record { fields = refl; pairs = h })

pub pairs_few : (t : ℕ) → pair_count t ≤ 3
unfolding pair_count choose
pairs_few t = go (eqb t 2) (eqb t 3)
  where
    go : (x y : Bool) → choose x 2 (choose y 3 1) ≤ 3
    go true y = omega arith
    go false true = omega arith
    go false false = omega arith
