-- What a line makes of what is due, by its fields: a code alone, or a code and a name.
use Rattle.std.specs.Prelude.{ℕ, ◌≡◌, not, Result, Ok, Err, List, []}
use Rattle.meaning.specs.Bytes.{refuse, same}
use Rattle.meaning.specs.Model.{Model}
use Rattle.meaning.specs.Field.{Field, fields_of, field_at, more_than, has_code}
use Rattle.base.specs.Fields.{FirstField}
use Rattle.base.specs.declared.parts.Part.{Part}
use Rattle.base.specs.declared.reasons.Reason.{Reason}
use Rattle.base.specs.declared.reasons.Reason.TheVariants.{OtherCode, NameWrong, FieldCount}
use Rattle.base.specs.declared.reasons.Refusal.{Refusal}
use Rattle.read_state.specs.declared.Due.{Due}
use Rattle.read_state.specs.Holds.{DueHolds}

-- a refusal by its reason and its field
abbrev pub refused : Reason → (field : ℕ) → Result Due Refusal
refused reason field = Err (record { reason = reason; field = field })

-- the name behind a code
abbrev pub NameField : List ℕ → Result Part Refusal → Type 0
NameField rest (Ok part) = FirstField rest part.start part.len
NameField rest (Err refusal) = (refusal ≡ record { reason = FieldCount; field = 2 }) × ((s : ℕ) → fields_of s rest ≡ [])

-- no field may follow, and the next one would be this one
unfoldable pub end_in : (field : ℕ) → List Field → Due → Result Due Refusal
end_in field fs due = refuse (more_than 0 fs) (refused FieldCount field) (Ok due)

-- this code alone
unfoldable pub alone_in : (code : List ℕ) → List Field → Due → Result Due Refusal
alone_in code fs due =
    refuse (not (has_code code fs)) (refused OtherCode 1)
    (refuse (more_than 1 fs) (refused FieldCount 2)
    (Ok due))

-- this name alone, in the fields behind a code
unfoldable pub named_in : (name : List ℕ) → List Field → Due → Result Due Refusal
named_in name fs due =
    refuse (not (more_than 0 fs)) (refused FieldCount 2)
    (refuse (not (same (field_at 1 fs).bytes name)) (refused NameWrong 2)
    (refuse (more_than 1 fs) (refused FieldCount 3)
    (Ok due)))

-- what is due behind a line holds, whatever the table's size
abbrev pub NextDueHolds : Model → (b : List ℕ) → Result Due Refusal → Type 0
NextDueHolds m b (Ok due) = (rows : List ℕ) (n used points : ℕ) → DueHolds m b rows n used points due
NextDueHolds m b (Err refusal) = Unit {0}
