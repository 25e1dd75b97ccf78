-- What judging needs, and the judge of the marks of the tables.
use Rattle.std.specs.Prelude.{ℕ, ◌+◌, ◌≤◌, Bool, not, ◌&&◌, ◌||◌, List, length, drop}
use Rattle.meaning.specs.Model as meaning
use Rattle.meaning.specs.Judge.{judge_tables}
use Rattle.model_records.specs.Places.{Placed}
use Rattle.model_records.specs.declared.places.Records.{Records}
use Rattle.table.specs.declared.Table.{Table}
use Rattle.table.specs.Contents.{marks_only}

-- a good model's records, and a lent table with a mark for each topic and each table
pub record Judging (model : Records) (t : Table) : Type 0 where
  pub placed : Placed model
  pub marks_room : model.shape.topics + model.shape.tables ≤ length t.marks.now

-- the judge of the tables from table n on
unfoldable pub tables_from : (topics : ℕ) (marks : List ℕ) → List meaning.Table → (n : ℕ) → Bool
tables_from topics marks ts n = judge_tables topics (marks_only marks) n (drop n ts)

-- of a table: whether it is delivered, whether its topic is, and whether it is optional
unfoldable pub is_fine : (delivered in_topic optional : Bool) → Bool
is_fine a b o = (not a || b) && (a || not b || o)
