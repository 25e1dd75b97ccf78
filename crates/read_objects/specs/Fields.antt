-- The row of an OBJE line: the attribute records it is filled by, and what is left at its end.
use Rattle.std.specs.Prelude.{ℕ, ◌+◌, ◌≤◌, ◌≡◌, List, [], Result, Ok, Err, ℤ, length}
use Rattle.std.proofs.lemmas.List.Edits.{sets}
use Rattle.meaning.specs.Model.{attribute_of}
use Rattle.meaning.specs.Row.{Pair, Cells, cells, refused, pairs_of_type}
use Rattle.model_records.specs.Records.{payload_at}
use Rattle.base.specs.declared.reasons.Refusal.{Refusal}
use Rattle.base.specs.Reasons.{number_of}
use Rattle.read_fields.specs.RowProgress.{going}
use Rattle.read_fields.specs.declared.filling.RowCursor.{RowCursor}

-- the pairs of the attribute record at a byte
abbrev pub record_pairs : (b : List ℕ) (at : ℕ) → List Pair
record_pairs b at = pairs_of_type (attribute_of at (payload_at b at)).optional (attribute_of at (payload_at b at)).type

-- a row that is full: all its values are stored behind the cells used before, as far as there is room
pub record EndsFull (meant : Cells) (most used n : ℕ) (entry exit : List ℤ) : Type 0 where
  pub values : List ℤ
  pub meaning : meant ≡ cells values
  pub size : n ≡ used + length values
  pub few : n ≤ most
  pub stored : exit ≡ sets entry used values

abbrev pub Ends : (meant : Cells) (most used : ℕ) (entry exit : List ℤ) → Result ℕ Refusal → Type 0
Ends meant most used entry exit (Ok n) = EndsFull meant most used n entry exit
Ends meant most used entry exit (Err r) = meant ≡ refused (number_of r.reason) r.field

-- a row without further attributes: it is full, or a field is left
abbrev pub EndsHere : List ℕ → RowCursor → Result ℕ Refusal → Type 0
EndsHere rest s (Ok n) = (n ≡ s.used) × ((u start : ℕ) → going u start rest s [] ≡ cells [])
EndsHere rest s (Err r) = (u start : ℕ) → going u start rest s [] ≡ refused (number_of r.reason) r.field
