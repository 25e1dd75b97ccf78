-- What a row that joins the table does: its values, the state behind it, and what then holds.
use Rattle.std.specs.Prelude.{ℕ, ◌+◌, ◌*◌, ◌-◌, ◌≤◌, ◌<◌, ◌≡◌, true, List, Result, Ok, Err, ℤ, length, get_or}
use Rattle.std.proofs.lemmas.List.Edits.{sets}
use Rattle.meaning.specs.Field.{fields_of}
use Rattle.meaning.specs.Row.{Cells, cells, refused, pair_cells}
use Rattle.meaning.specs.Reading.{Content, Rooms, due_lines, stretch}
use Rattle.meaning.specs.Lines as lines
use Rattle.base.specs.declared.reasons.Refusal.{Refusal}
use Rattle.base.specs.Reasons.{number_of}
use Rattle.model_records.specs.Records.{model_at, pairs_at}
use Rattle.value_read.specs.Meant.{field_of}
use Rattle.read_state.specs.declared.State.{State}
use Rattle.read_state.specs.Meaning.{lines_at, due_of, content_of, step_of}
use Rattle.read_state.specs.Holds.{DueHolds, Holds}
use Rattle.read_objects.specs.declared.OpenTable.{OpenTable}
use Rattle.read_polylines.specs.Ways.{StepHolds}

-- a row that is full: where there is room, all its values are stored from a cell on
pub record RowFull (meant : Cells) (most at n : ℕ) (entry exit : List ℤ) : Type 0 where
  pub values : List ℤ
  pub meaning : meant ≡ cells values
  pub size : n ≡ length values
  pub few : n ≤ most
  pub stored : at + n ≤ length entry → exit ≡ sets entry at values

abbrev pub Fills : (meant : Cells) (most at : ℕ) (entry exit : List ℤ) → Result ℕ Refusal → Type 0
Fills meant most at entry exit (Ok n) = RowFull meant most at n entry exit
Fills meant most at entry exit (Err r) = meant ≡ refused (number_of r.reason) r.field

-- r is the state behind a row of so many cells
pub record BehindRow (b : List ℕ) (here : OpenTable) (s : State) (size : ℕ) (r : State) : Type 0 where
  pub due : due_of b r.due ≡ due_lines here.table s.points (lines_at b here.at (s.cells + 3))
  pub rows : r.rows ≡ s.rows + 1
  pub cells : r.cells ≡ s.cells + size
  pub points : r.points ≡ s.points
  pub holds : (rows : List ℕ) → ((o : ℕ) → o < s.rows + 1 → get_or rows o 0 + 2 < s.cells + 3)
      → DueHolds (model_at b) b rows (s.rows + 1) (s.cells + size) s.points r.due

-- a line means this, with the rows and cells before and behind it; and what holds stays
pub record RowAdds (b text : List ℕ) (seed : ℕ) (s : State) (meant : Rooms → Content → lines.Step)
    (rows rows' : List ℕ) (cells cells' : List ℤ) (index index' : List ℕ) (r : Result State Refusal)
    : Type 0 where
  pub step : (k : ℕ) (rooms : Rooms) (marks : List ℕ) (points : List ℤ)
      → rooms.rows ≡ length rows → rooms.cells ≡ length cells → 4 * s.points ≤ length points
      → step_of b k r marks rows' cells' points ≡ meant rooms (content_of k s marks rows cells points)
  pub holds : (marks : List ℕ) (points : List ℤ) → Holds (model_at b) b text seed s marks rows cells points index
      → StepHolds (model_at b) b text seed r marks rows' cells' points index'

-- what the row means whose identification has so many bytes from `start` on, with the fields from there to the line's
-- end
abbrev pub row_meant : (b text : List ℕ) (u : ℕ) → OpenTable → (start size end : ℕ) → Rooms → Content → lines.Step
row_meant b text u here start size end rooms c =
    let from = start + size in
    lines.store_row (model_at b) rooms text here.table (field_of start (stretch text start size)) c
    (pair_cells u true 3 (pairs_at b here.at) (fields_of from (stretch text from (end - from))))
