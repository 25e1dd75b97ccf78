-- What the index's answer says, and what a caller holds while its table grows.
use Rattle.std.specs.Prelude.{ℕ, ◌+◌, ◌≤◌, ◌<◌, List, Option, None, Some, ℤ, length, get_or}
use Rattle.meaning.specs.Model as model
use Rattle.table_index.specs.Objects.{Unique}
use Rattle.table.specs.Rows.{identification_of, RowsListed}
use Rattle.table_index.specs.Index.{Indexed}

abbrev pub found_of : Option ℕ → model.Found
found_of (Some o) = model.found o
found_of None = model.missing

-- the first n objects can be looked for: their rows lie in the cells, their identifications differ, and the index has
-- them
pub record ObjectsKnown (seed : ℕ) (text rows : List ℕ) (cells : List ℤ) (index : List ℕ) (n : ℕ) : Type 0 where
  pub listed : RowsListed text rows cells n
  pub unique : Unique (identification_of text rows cells) n
  pub indexed : Indexed seed text rows cells index n

-- the same of a table of n objects and `used` cells, whose rows stand one behind the other
pub record IndexedTable (seed : ℕ) (text : List ℕ) (n used : ℕ) (rows : List ℕ) (cells : List ℤ) (index : List ℕ) : Type
    0 where
  pub known : ObjectsKnown seed text rows cells index n
  pub cells_in : used ≤ length cells
  pub within : (o : ℕ) → o < n → get_or rows o 0 + 2 < used
  pub spaced : (o p : ℕ) → o < p → p < n → get_or rows o 0 + 2 < get_or rows p 0
