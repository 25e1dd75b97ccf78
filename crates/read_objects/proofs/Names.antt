-- The identification's field, by what it is. Assumes nothing.
use Prim.Native.Nat.{ℕ, suc, ◌+◌}
use native.Mathlib.Omega.{arith}
use mathlib.Core.Path.{◌≡◌}
use mathlib.Core.Bool.{true, false, ◌||◌}
use mathlib.Core.List.{List, [], ◌∷◌}
use mathlib.Core.Logic.{◌⊎◌, ⊎_elim}
use lib.ListN.{length, take, drop}
use borrow.Author.Tests.{lt-ltb}
use Rattle.std.proofs.lemmas.Bool.{or_left}
use Rattle.meaning.specs.Bytes.{refuse}
use Rattle.meaning.specs.Field.{Field, fields_of}
use Rattle.meaning.specs.Value.{is_identification, is_undefined, is_undefined_twice}
use Rattle.meaning.specs.Lines.{Step, no}
use Rattle.read_fields.specs.FieldForm.{FieldTaken, TwiceTaken, TakenAs}
use Rattle.read_fields.specs.declared.taking.Form.{Form}
use Rattle.read_fields.specs.declared.taking.Form.TheVariants.{Undefined, Twice}
use Rattle.read_fields.proofs.Due.{formed}
use Rattle.read_objects.specs.Names.{identify_in, IdentifiedAt}
use Rattle.meaning.proofs.Tests.Refuse.{or_right}

-- ## A first field

module _ (u : ℕ) (f : Field) (fs : List Field) (next : Step) where
  undefined_first_lem : (is_undefined u f || is_undefined_twice u f) ≡ true → identify_in u (f ∷ fs) next ≡ no 12 2
  unfolding identify_in refuse
  undefined_first_lem e = rw (lt-ltb 0 (suc (length fs)) (omega arith), e)

  once_first : is_undefined u f ≡ true → identify_in u (f ∷ fs) next ≡ no 12 2
  once_first e = undefined_first_lem (or_left (is_undefined u f) (is_undefined_twice u f) e)

  twice_first : is_undefined_twice u f ≡ true → identify_in u (f ∷ fs) next ≡ no 12 2
  twice_first e = undefined_first_lem (or_right (is_undefined u f) (is_undefined_twice u f) e)

  shapeless_first : is_undefined u f ≡ false → is_undefined_twice u f ≡ false → is_identification f.bytes ≡ false → identify_in u (f ∷ fs) next ≡ no 13 2
  unfolding identify_in refuse
  shapeless_first e g h = rw (lt-ltb 0 (suc (length fs)) (omega arith), e, g, h)

  identified_first : is_undefined u f ≡ false → is_undefined_twice u f ≡ false → is_identification f.bytes ≡ true → identify_in u (f ∷ fs) next ≡ next
  unfolding identify_in refuse
  identified_first e g h = rw (lt-ltb 0 (suc (length fs)) (omega arith), e, g, h)

-- ## The first field of the rest

module _ (u : ℕ) (rest : List ℕ) where
  pub none_missing : ((s : ℕ) → fields_of s rest ≡ []) → (s : ℕ) (next : Step) → identify_in u (fields_of s rest) next ≡ no 11 2
  unfolding identify_in refuse
  none_missing h s next = rw (h s)

  module _ (at len : ℕ) where
    is_undefined_lem : FieldTaken u rest at len true → (s : ℕ) (next : Step) → identify_in u (fields_of s rest) next ≡ no 12 2
    is_undefined_lem t s next = rw (t.first.first s) (once_first u _ _ next (t.single (s + at)))

    is_twice : TwiceTaken u rest at len → (s : ℕ) (next : Step) → identify_in u (fields_of s rest) next ≡ no 12 2
    is_twice t s next = rw (t.first.first s) (twice_first u _ _ next (t.twice (s + at)))

    pub is_undefined_form : {form : Form} → (form ≡ Undefined) ⊎ (form ≡ Twice) → TakenAs u rest at len form → (s : ℕ) (next : Step) → identify_in u (fields_of s rest) next ≡ no 12 2
    is_undefined_form f t = ⊎_elim (λ e. is_undefined_lem (formed u rest at len e t)) (λ e. is_twice (formed u rest at len e t)) f

    pub is_shapeless : FieldTaken u rest at len false → is_identification (take len (drop at rest)) ≡ false → (s : ℕ) (next : Step) → identify_in u (fields_of s rest) next ≡ no 13 2
    is_shapeless t e s next = rw (t.first.first s) (shapeless_first u _ _ next (t.single (s + at)) (t.not_twice (s + at)) e)

    pub is_identified : FieldTaken u rest at len false → is_identification (take len (drop at rest)) ≡ true → IdentifiedAt u rest at len
    is_identified t e = record { first = t.first; goes_on = λ s next. rw (t.first.first s) (identified_first u _ _ next (t.single (s + at)) (t.not_twice (s + at)) e) }
