-- The table whose objects are read, under the good model m of the bytes b.
use Rattle.std.specs.Prelude.{ℕ, ◌<◌, ◌≡◌, List, length}
use Rattle.meaning.specs.Model.{Model, table_at}
use Rattle.model_records.specs.Records.{attributes_at}
use Rattle.model_records.specs.AtRecord.{AttributesHere}
use Rattle.read_objects.specs.declared.OpenTable.{OpenTable}

-- it is a table of the model, and its attribute records stand at its byte
pub record TableHolds (m : Model) (b : List ℕ) (h : OpenTable) : Type 0 where
  pub table : h.table < length m.tables
  pub attributes : attributes_at b h.at ≡ (table_at m.tables h.table).attributes
  pub here : AttributesHere m b h.at
