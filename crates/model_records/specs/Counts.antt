-- The fields and pairs of an attribute, by the number of its type.
use Rattle.std.specs.Prelude.{ℕ, ◌≡◌, eqb}
use Rattle.meaning.specs.Bytes.{choose}

-- the fields and the pairs of an attribute of type number t, 1 to 8: a coordinate has both for each component, a line
-- no field
unfoldable pub fields_of : (t : ℕ) → ℕ
fields_of t = choose (eqb t 2) 2 (choose (eqb t 3) 3 (choose (eqb t 8) 0 1))

unfoldable pub pair_count : (t : ℕ) → ℕ
pair_count t = choose (eqb t 2) 2 (choose (eqb t 3) 3 1)

pub record CountsOf (t f p : ℕ) : Type 0 where
  pub fields : f ≡ fields_of t
  pub pairs : p ≡ pair_count t
