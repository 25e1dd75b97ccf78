-- What a field is in its turn, by cases: the fields of the rest, wherever it starts.
use Rattle.std.specs.Prelude.{ℕ, Bool, true, false, ◌≡◌, Option, Some, None, List, [], take, drop}
use Rattle.meaning.specs.Field.{fields_of}
use Rattle.meaning.specs.Value.{is_undefined, is_undefined_twice}
use Rattle.base.specs.Fields.{FirstField}
use Rattle.value_read.specs.Meant.{field_of}
use Rattle.read_fields.specs.declared.taking.Form.{Form}
use Rattle.read_fields.specs.declared.taking.Form.TheVariants.{Defined, Undefined, Twice}
use Rattle.read_fields.specs.declared.taking.Taken.{Taken}

-- the first field of the rest, and whether it is the undefined byte; it is not two of them
pub record FieldTaken (u : ℕ) (rest : List ℕ) (at len : ℕ) (undefined : Bool) : Type 0 where
  pub first : FirstField rest at len
  pub not_twice : (s : ℕ) → is_undefined_twice u (field_of s (take len (drop at rest))) ≡ false
  pub single : (s : ℕ) → is_undefined u (field_of s (take len (drop at rest))) ≡ undefined

-- the first field of the rest is two undefined bytes
pub record TwiceTaken (u : ℕ) (rest : List ℕ) (at len : ℕ) : Type 0 where
  pub first : FirstField rest at len
  pub twice : (s : ℕ) → is_undefined_twice u (field_of s (take len (drop at rest))) ≡ true

-- the form of a field, wherever it starts
abbrev pub HasForm : ℕ → List ℕ → Form → Type 0
HasForm u bytes Defined = ((s : ℕ) → is_undefined_twice u (field_of s bytes) ≡ false)
    × ((s : ℕ) → is_undefined u (field_of s bytes) ≡ false)
HasForm u bytes Undefined = ((s : ℕ) → is_undefined_twice u (field_of s bytes) ≡ false)
    × ((s : ℕ) → is_undefined u (field_of s bytes) ≡ true)
HasForm u bytes Twice = (s : ℕ) → is_undefined_twice u (field_of s bytes) ≡ true

-- the first field of the rest, by its form
abbrev pub TakenAs : ℕ → List ℕ → (at len : ℕ) → Form → Type 0
TakenAs u rest at len Defined = FieldTaken u rest at len false
TakenAs u rest at len Undefined = FieldTaken u rest at len true
TakenAs u rest at len Twice = TwiceTaken u rest at len

abbrev pub Takes : ℕ → List ℕ → Option Taken → Type 0
Takes u rest None = (s : ℕ) → fields_of s rest ≡ []
Takes u rest (Some taken) = TakenAs u rest taken.part.start taken.part.len taken.form
