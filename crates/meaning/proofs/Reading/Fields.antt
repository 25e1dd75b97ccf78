-- The fields of a line that writing writes. Assumes nothing.
use Prim.Native.Nat.{ℕ, suc, ◌+◌}
use native.Mathlib.Omega.{arith}
use mathlib.Core.Path.{◌≡◌, refl}
use mathlib.Core.Bool.{Bool, true, false, not}
use mathlib.Core.List.{List, [], ◌∷◌, ◌++◌}
use lib.ListN.{length}
use borrow.Author.Tests.{not-true}
use Rattle.meaning.specs.Bytes.{separator, every}
use Rattle.meaning.specs.Field.{Field, goes_on, add_to_fields, fields_of}
use Rattle.meaning.specs.Writing.{spaced}
use Rattle.meaning.proofs.Tests.Refuse.{both}

-- bytes of a field
unfoldable pub solid : ℕ → Bool
solid b = not (separator b)

-- a field that is not empty and holds no separator
abbrev pub Solid : List ℕ → Type 0
Solid [] = ⊥
Solid (b ∷ s) = every solid (b ∷ s) ≡ true

abbrev pub AllSolid : List (List ℕ) → Type 0
AllSolid [] = Unit {0}
AllSolid (f ∷ fs) = Solid f × AllSolid fs

-- where they stand
unfoldable pub placed : ℕ → List (List ℕ) → List Field
placed start [] = []
placed start (f ∷ fs) = record { start = start; bytes = f } ∷ placed (start + length f + 1) fs

-- what stands behind a field does not go on
rest_stops : (fs : List (List ℕ)) → goes_on (spaced fs) ≡ false
unfolding goes_on spaced separator
rest_stops [] = refl
rest_stops (f ∷ fs) = refl

pub one_field : (start : ℕ) (b : ℕ) (s rest : List ℕ) (others : List Field) → every solid (b ∷ s) ≡ true → goes_on rest ≡ false → fields_of (start + suc (length s)) rest ≡ others
    → fields_of start (b ∷ (s ++ rest)) ≡ record { start = start; bytes = b ∷ s } ∷ others
unfolding fields_of add_to_fields every solid goes_on
one_field start b [] rest others h g e =
    let r = both (not (separator b)) _ h in
    rw (not-true (separator b) r.0, g, e)
one_field start b (c ∷ s) rest others h g e =
    let r = both (not (separator b)) _ h in
    let q = both (not (separator c)) _ r.1 in
    let next : start + suc (suc (length s)) ≡ start + 1 + suc (length s) = omega arith in
    let ih = one_field (start + 1) c s rest others r.1 g (rw next at e) in
    rw (not-true (separator b) r.0, ih) (rw (not-true (separator c) q.0))

pub fields_rest : (start : ℕ) (fs : List (List ℕ)) → AllSolid fs → fields_of start (spaced fs) ≡ placed (start + 1) fs
unfolding fields_of spaced placed add_to_fields separator
fields_rest start [] h = refl
fields_rest start ([] ∷ fs) h = absurd h.0
fields_rest start ((b ∷ s) ∷ fs) h =
    one_field (start + 1) b s (spaced fs) _ h.0 (rest_stops fs) (fields_rest (start + 1 + suc (length s)) fs h.1)

pub fields_spaced : (start : ℕ) (f : List ℕ) (fs : List (List ℕ)) → Solid f → AllSolid fs → fields_of start (f ++ spaced fs) ≡ placed start (f ∷ fs)
unfolding placed
fields_spaced start [] fs h hs = absurd h
fields_spaced start (b ∷ s) fs h hs = one_field start b s (spaced fs) _ h (rest_stops fs) (fields_rest (start + suc (length s)) fs hs)
