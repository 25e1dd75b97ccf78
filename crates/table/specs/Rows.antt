-- How the table lies in the buffers: "An object's row: table number, start and length of the identification in the
-- unfolded text", then its pairs, and one row behind the other.
-- Short names: m the model, o an object's number, n the count of objects, used the count of cells.
use Rattle.std.specs.Prelude.{ℕ, ◌+◌, ◌*◌, ◌≤◌, ◌<◌, ◌≡◌, List, T, ℤ, pos, length, get_or}
use Rattle.std.specs.Int.Signed.{non_neg}
use Rattle.meaning.specs.Model.{Model, table_at}
use Rattle.meaning.specs.Row.{pairs_of}
use Rattle.meaning.specs.Reading.{stretch, cell_at}

-- ## A row's first three cells

-- a row lies in the cells: "table number, start and length of the identification", which lies in the text
pub record Row (text : List ℕ) (cells : List ℤ) (row : ℕ) : Type 0 where
  pub in_cells : row + 2 < length cells
  pub table_pos : T (non_neg (get_or cells row (pos 0)))
  pub start_pos : T (non_neg (get_or cells (row + 1) (pos 0)))
  pub length_pos : T (non_neg (get_or cells (row + 2) (pos 0)))
  pub in_text : cell_at cells (row + 1) + cell_at cells (row + 2) ≤ length text

-- the identification of an object: "start and length of the identification in the unfolded text"
unfoldable pub identification_of : (text rows : List ℕ) → List ℤ → ℕ → List ℕ
identification_of text rows cells o =
    stretch text (cell_at cells (get_or rows o 0 + 1)) (cell_at cells (get_or rows o 0 + 2))

-- the first n objects have such rows
pub record RowsListed (text rows : List ℕ) (cells : List ℤ) (n : ℕ) : Type 0 where
  pub in_rows : n ≤ length rows
  pub row : (o : ℕ) → o < n → Row text cells (get_or rows o 0)

-- a cell that is none of the first three of a row
pub record BesideRows (rows : List ℕ) (n cell : ℕ) : Type 0 where
  pub beside : (o k : ℕ) → o < n → k < 3 → cell ≡ get_or rows o 0 + k → ⊥

-- ## A row's pairs

-- the count of cells of a row of table t
abbrev pub row_size : Model → (t : ℕ) → ℕ
row_size m t = 3 + 2 * length (pairs_of (table_at m.tables t).attributes)

-- the pair at this cell is none of the first three cells of a row
pub record PairHere (rows : List ℕ) (n cell : ℕ) (cells : List ℤ) : Type 0 where
  pub inside : cell + 1 < length cells
  pub first : BesideRows rows n cell
  pub second : BesideRows rows n (cell + 1)

-- so many pairs from this cell on are of the row of object o: behind its first three cells, and before the later rows
pub record PairsInRow (rows : List ℕ) (n o cell pairs size : ℕ) : Type 0 where
  pub object : o < n
  pub behind : get_or rows o 0 + 2 < cell
  pub inside : cell + 2 * pairs ≤ size
  pub later : (p : ℕ) → o < p → p < n → cell + 2 * pairs ≤ get_or rows p 0

-- ## One row behind the other

-- each row is of a table of the model, has its cells, and the next row comes behind them
pub record RowsLaidOut (m : Model) (n used : ℕ) (rows : List ℕ) (cells : List ℤ) : Type 0 where
  pub table : (o : ℕ) → o < n → cell_at cells (get_or rows o 0) < length m.tables
  pub ends : (o : ℕ) → o < n → get_or rows o 0 + row_size m (cell_at cells (get_or rows o 0)) ≤ used
  pub apart : (o p : ℕ) → o < p → p < n
      → get_or rows o 0 + row_size m (cell_at cells (get_or rows o 0)) ≤ get_or rows p 0
