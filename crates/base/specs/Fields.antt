-- What the next field of the rest of a line is, by cases: the fields of the rest, wherever it starts.
use Rattle.std.specs.Prelude.{ℕ, ◌+◌, ◌≤◌, ◌<◌, ◌≡◌, Option, Some, None, List, [], ◌∷◌, length, take, drop}
use Rattle.meaning.specs.Field.{fields_of}
use Rattle.base.specs.declared.parts.Part.{Part}

-- a field is the first of the rest's fields, and what follows it has the others
pub record FirstField (rest : List ℕ) (at len : ℕ) : Type 0 where
  pub within : at + len ≤ length rest
  pub some : 0 < len
  pub first : (s : ℕ)
      → fields_of s rest ≡ record { start = s + at; bytes = take len (drop at rest) }
      ∷ fields_of (s + at + len) (drop (at + len) rest)

abbrev pub NextField : List ℕ → Option Part → Type 0
NextField rest (Some part) = FirstField rest part.start part.len
NextField rest None = (s : ℕ) → fields_of s rest ≡ []
