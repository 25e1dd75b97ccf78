-- What resolving references answers, and what it needs.
use Rattle.std.specs.Prelude.{ℕ, ◌+◌, ◌≡◌, List, Result, Ok, Err, ℤ, length, get_or, take}
use Rattle.meaning.specs.Model.{Model}
use Rattle.meaning.specs.Reading.{Object, objects_of}
use Rattle.meaning.specs.Table as table
use Rattle.model_records.specs.Records.{pairs_at}
use Rattle.model_records.specs.AtRecord.{AttributesHere}
use Rattle.table.specs.Rows.{PairsInRow}
use Rattle.table_index.specs.Holds.{ObjectsKnown, IndexedTable}
use Rattle.read_references.specs.declared.Unresolved.{Unresolved}
use Rattle.read_references.specs.declared.ObjectRows.{ObjectRows}

abbrev pub resolved_of : Result Unit Unresolved → List ℤ → table.Resolved
resolved_of (Ok u) cs = table.resolved cs
resolved_of (Err r) cs = table.unresolved r.object r.field

-- the objects that references name, and that they can be looked for in these cells
abbrev pub objects_named : ObjectRows → List ℤ → List Object
objects_named r cs = objects_of r.text.now cs (take r.count r.rows.now)

abbrev pub Known : ObjectRows → List ℤ → Type 0
Known r cs = ObjectsKnown r.seed r.text.now r.rows.now cs r.index.now r.count

-- the same where all cells of their rows, and no more, are these
abbrev pub Indexed : ObjectRows → List ℤ → Type 0
Indexed r cs = IndexedTable r.seed r.text.now r.count (length cs) r.rows.now cs r.index.now

-- resolving goes on: the objects are those of the beginning
pub record Going (seed : ℕ) (text rows : List ℕ) (n : ℕ) (index : List ℕ) (cells₀ cells : List ℤ) : Type 0 where
  pub held : IndexedTable seed text n (length cells₀) rows cells index
  pub size : length cells ≡ length cells₀
  pub objects : objects_of text cells (take n rows) ≡ objects_of text cells₀ (take n rows)

-- the attribute records of the table of object o begin at this byte
pub record RowHere (m : Model) (b rows : List ℕ) (n o at size : ℕ) : Type 0 where
  pub attributes : AttributesHere m b at
  pub row : PairsInRow rows n o (get_or rows o 0 + 3) (length (pairs_at b at)) size
