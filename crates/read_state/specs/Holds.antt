-- What reading holds between two lines, under the good model m of the bytes b: where the model's records stand, and how
-- the table lies in the buffers.
-- Short names: n the count of objects, used the count of cells, o an object's number.
use Rattle.std.specs.Prelude.{ℕ, ◌+◌, ◌*◌, ◌≤◌, ◌<◌, ◌≡◌, List, ℤ, length, get_or}
use Rattle.meaning.specs.Bytes.{byte_at}
use Rattle.meaning.specs.Model.{Model}
use Rattle.model_records.specs.Records.{kind_at, payload_at, pairs_at}
use Rattle.model_records.specs.AtRecord.{AttributesHere}
use Rattle.table.specs.Rows.{RowsLaidOut}
use Rattle.table_index.specs.Holds.{IndexedTable}
use Rattle.read_state.specs.declared.OpenLine.{OpenLine}
use Rattle.read_state.specs.declared.FrameDue.{FrameDue}
use Rattle.read_state.specs.declared.FrameDue.TheVariants as frame
use Rattle.read_state.specs.declared.Due.{Due}
use Rattle.read_state.specs.declared.Due.TheVariants.{Frame, Object, Line}
use Rattle.read_state.specs.declared.State.{State}

-- ## What is due

-- a topic that may follow is one of the model's or none; a table that may follow is one of this topic of the model
abbrev pub FrameHolds : Model → FrameDue → Type 0
FrameHolds m frame.Opening = Unit {0}
FrameHolds m frame.Description = Unit {0}
FrameHolds m frame.Transfer = Unit {0}
FrameHolds m frame.ModelName = Unit {0}
FrameHolds m (frame.Topic from) = from ≤ length m.topics
FrameHolds m (frame.Table topic from) = (topic < length m.topics) × (from ≤ length m.tables)
FrameHolds m frame.Closing = Unit {0}
FrameHolds m frame.Nothing = Unit {0}

-- a line attribute of the last object is under way: its record is a line's, and its pair and those behind it lie behind
-- every row's first three cells
pub record LineHolds (m : Model) (b rows : List ℕ) (n used points : ℕ) (u : OpenLine) : Type 0 where
  pub table : u.table < length m.tables
  pub attributes : AttributesHere m b u.at
  pub kind : kind_at b u.at ≡ 5
  pub line : byte_at (payload_at b u.at) 1 ≡ 8
  pub behind_rows : (o : ℕ) → o < n → get_or rows o 0 + 2 < u.cell
  pub fits : u.cell + 2 * length (pairs_at b u.at) ≤ used
  pub first : u.first ≤ points

abbrev pub DueHolds : Model → (b rows : List ℕ) (n used points : ℕ) → Due → Type 0
DueHolds m b rows n used points (Frame due) = FrameHolds m due
DueHolds m b rows n used points (Object table) = table < length m.tables
DueHolds m b rows n used points (Line u) = LineHolds m b rows n used points u

-- ## How the table lies in the buffers

-- the state s in the lent buffers, with the exact unfolded text
pub record Holds (m : Model) (b text : List ℕ) (seed : ℕ) (s : State) (marks rows : List ℕ) (cells points : List ℤ)
    (index : List ℕ) : Type 0 where
  pub due : DueHolds m b rows s.rows s.cells s.points s.due
  pub objects : IndexedTable seed text s.rows s.cells rows cells index
  pub laid : RowsLaidOut m s.rows s.cells rows cells
  pub points_fit : 4 * s.points ≤ length points
  pub marks_fit : length m.topics + length m.tables ≤ length marks
