-- The walk over the attribute records of a table: what a step gives.
use Rattle.std.specs.Prelude.{ℕ, ◌≡◌, [], MatchOption}
use Rattle.std.specs.declared.option.Option.{Option}
use Rattle.model_records.specs.Records.{model_at, kind_at, next_at, attributes_at}
use Rattle.model_records.specs.AtRecord.{AttributeNext}
use Rattle.model_records.specs.declared.records.AttributeRecords.{AttributeRecords}

-- the step from s gives the record at a byte, and leaves t behind it
pub record RecordGiven (s : AttributeRecords) (x : ℕ) (t : AttributeRecords) : Type 0 where
  pub model : t.model.now ≡ s.model.now
  pub at : x ≡ s.at
  pub kind : kind_at s.model.now s.at ≡ 5
  pub next : t.at ≡ next_at s.model.now x
  pub topics : ℕ
  pub tables : ℕ
  pub here : AttributeNext (model_at s.model.now) s.model.now x topics tables

-- no attribute is left
pub record NoRecord (s : AttributeRecords) : Type 0 where
  pub kind : kind_at s.model.now s.at ≡ 5 → ⊥
  pub attributes : attributes_at s.model.now s.at ≡ []

abbrev pub GivesRecord : AttributeRecords → Option ℕ → AttributeRecords → Type 0
GivesRecord s r t = MatchOption r (NoRecord s) (λ at. RecordGiven s at t)
