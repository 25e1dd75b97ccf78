-- A table's content, as it stands in lent buffers.
use Rattle.std.specs.Prelude.{ℕ, List, [], ℤ}
use Rattle.meaning.specs.Reading.{Content}
use Rattle.table.specs.declared.Table.{Table}

-- these buffers, whole
abbrev pub content_in : (marks rows : List ℕ) (cells points : List ℤ) → Content
content_in marks rows cells points = record { marks = marks; rows = rows; cells = cells; points = points }

-- marks and nothing else
abbrev pub marks_only : (marks : List ℕ) → Content
marks_only marks = content_in marks [] [] []

-- rows, cells and points without marks
abbrev pub unmarked_in : (rows : List ℕ) (cells points : List ℤ) → Content
unmarked_in rows cells points = content_in [] rows cells points

-- a table's buffers
abbrev pub content : Table → Content
content t = content_in t.marks.now t.rows.now t.cells.now t.points.now
