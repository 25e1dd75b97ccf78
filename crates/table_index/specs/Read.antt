-- The objects read so far, as the struct holds them.
use Rattle.std.specs.Prelude.{ℕ, List, Option, take}
use Rattle.meaning.specs.Reading.{Object, objects_of}
use Rattle.table.specs.Rows.{identification_of, RowsListed}
use Rattle.table_index.specs.Objects.{last_named}
use Rattle.table_index.specs.Holds.{ObjectsKnown}
use Rattle.table_index.specs.declared.Objects.{Objects}

-- the identification of each object
abbrev pub identifications : Objects → ℕ → List ℕ
identifications r = identification_of r.text.now r.rows.now r.cells.now

abbrev pub objects_read : Objects → List Object
objects_read r = objects_of r.text.now r.cells.now (take r.count r.rows.now)

-- the last object with this identification
abbrev pub last_of : Objects → List ℕ → Option ℕ
last_of r identification = last_named r.text.now r.rows.now r.cells.now identification r.count

-- their rows lie in the cells
abbrev pub Listed : Objects → Type 0
Listed r = RowsListed r.text.now r.rows.now r.cells.now r.count

-- they can be looked for
abbrev pub Known : Objects → Type 0
Known r = ObjectsKnown r.seed r.text.now r.rows.now r.cells.now r.index.now r.count
