-- Two outcomes of one call of writing coincide: neither the seed nor what the rooms held before is seen in them.
use Rattle.std.specs.Prelude.{ℕ, ◌≡◌, List, replicate, Result}
use Rattle.meaning.specs.Writing.{Lent}
use Rattle.meaning.specs.Width as meaning
use Rattle.base.specs.declared.reasons.Refused.{Refused}
use Rattle.write.specs.Answers.{answer_of}

-- what the call `write` ensures of its answer, its output room and its index, into rooms of so many bytes and numbers
pub record Outcome (model : List ℕ) (t : Lent) (width room slots : ℕ) (r : Result ℕ Refused)
    (out index : List ℕ) : Type 0 where
  pub answer : answer_of r ≡ (meaning.write model t width room).answer
  pub output : out ≡ (meaning.write model t width room).output
  pub zeros : index ≡ replicate slots 0

abbrev pub Same : Type 0
Same = (model : List ℕ) (t : Lent) (width room slots : ℕ) (r r' : Result ℕ Refused) (out out' index index' : List ℕ)
    → Outcome model t width room slots r out index → Outcome model t width room slots r' out' index'
    → (r ≡ r') × (out ≡ out') × (index ≡ index')
