-- What the identification's field of an OBJE line says, by cases.
use Rattle.std.specs.Prelude.{ℕ, ◌≡◌, false, not, ◌||◌, List, Result, Ok, Err, ℤ, take}
use Rattle.meaning.specs.Bytes.{refuse}
use Rattle.meaning.specs.Field.{Field, fields_of, field_at, more_than}
use Rattle.meaning.specs.Value.{is_identification, is_undefined, is_undefined_twice}
use Rattle.meaning.specs.Lines.{Step, no}
use Rattle.meaning.specs.Reading.{stretch, objects_of, is_used}
use Rattle.base.specs.Fields.{FirstField}
use Rattle.base.specs.declared.parts.Part.{Part}
use Rattle.base.specs.declared.reasons.Reason.{Reason}
use Rattle.base.specs.Reasons.{number_of}
use Rattle.table_index.specs.Index.{hash_of}
use Rattle.table_index.specs.Holds.{IndexedTable}
use Rattle.read_state.specs.declared.State.{State}
use Rattle.read_objects.specs.declared.storing.Name.{Name}

-- the fields behind the code OBJE, judged up to the identification's shape, and then the next step
unfoldable pub identify_in : (u : ℕ) → List Field → Step → Step
identify_in u fs next =
    refuse (not (more_than 0 fs)) (no 11 2)
    (refuse (is_undefined u (field_at 1 fs) || is_undefined_twice u (field_at 1 fs)) (no 12 2)
    (refuse (not (is_identification (field_at 1 fs).bytes)) (no 13 2)
    next))

-- the first field of the rest is an identification
pub record IdentifiedAt (u : ℕ) (rest : List ℕ) (at len : ℕ) : Type 0 where
  pub first : FirstField rest at len
  pub goes_on : (s : ℕ) (next : Step) → identify_in u (fields_of s rest) next ≡ next

abbrev pub Identifies : ℕ → List ℕ → Result Part Reason → Type 0
Identifies u rest (Ok part) = IdentifiedAt u rest part.start part.len
Identifies u rest (Err reason) = (s : ℕ) (next : Step)
    → identify_in u (fields_of s rest) next ≡ no (number_of reason) 2

-- a name that no object before has, and its hash under this seed
pub record NewName (text : List ℕ) (seed : ℕ) (name : Name) (s : State) (rows : List ℕ) (cells : List ℤ)
    (index : List ℕ)
    : Type 0 where
  pub held : IndexedTable seed text s.rows s.cells rows cells index
  pub unused : is_used (stretch text name.part.start name.part.len)
      (objects_of text (take s.cells cells) (take s.rows rows)) ≡ false
  pub hashed : name.hash ≡ hash_of seed (stretch text name.part.start name.part.len)
