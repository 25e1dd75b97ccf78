-- What a line makes of the state, under the model's bytes b: what it may take for granted, and what it does to the lent
-- buffers.
use Rattle.std.specs.Prelude.{ℕ, ◌+◌, ◌≡◌, Result, List, ℤ, length}
use Rattle.meaning.specs.Field.{fields_of}
use Rattle.meaning.specs.Reading.{Content, Rooms, stretch}
use Rattle.meaning.specs.Lines as lines
use Rattle.model_records.specs.Records.{model_at}
use Rattle.model_records.specs.declared.places.Records.{Records}
use Rattle.model_records.specs.Places.{Placed}
use Rattle.read_state.specs.Meaning.{topic_marked_by, marked_by, due_of, content_of, step_of}
use Rattle.read_state.specs.declared.FrameDue.{FrameDue}
use Rattle.read_state.specs.declared.Due.{Due}
use Rattle.read_state.specs.declared.State.{State}
use Rattle.base.specs.declared.reasons.Refusal.{Refusal}
use Rattle.read_polylines.specs.Ways.{StepHolds}
use Rattle.table.specs.Contents.{marks_only}

-- ## Marks

-- the marks behind a line that begins a topic
abbrev pub topic_marks_by : FrameDue → (marks : List ℕ) → List ℕ
topic_marks_by due marks = (topic_marked_by due (marks_only marks)).marks

-- the marks behind a line that begins a topic or a table; there are so many topics
abbrev pub marks_by : (topics : ℕ) → Due → (marks : List ℕ) → List ℕ
marks_by topics due marks = (marked_by topics due (marks_only marks)).marks

-- ## A line

-- what every line may take for granted: a good model with its shape and its places, and a mark for each topic and table
pub record Prepared (r : Records) (marks : List ℕ) : Type 0 where
  pub placed : Placed r
  pub mark_count : length marks ≡ r.shape.topics + r.shape.tables

-- a step means this, with the buffers before and behind it; and what holds stays
pub record Steps (b text : List ℕ) (seed : ℕ) (s : State) (meant : Rooms → Content → lines.Step) (marks rows : List ℕ)
    (cells points : List ℤ) (index : List ℕ) (marks' rows' : List ℕ) (cells' points' : List ℤ) (index' : List ℕ)
    (r : Result State Refusal) : Type 0 where
  pub step : (rooms : Rooms) → rooms.rows ≡ length rows → rooms.cells ≡ length cells → rooms.points ≡ length points
      → step_of b (length marks) r marks' rows' cells' points'
      ≡ meant rooms (content_of (length marks) s marks rows cells points)
  pub holds : StepHolds (model_at b) b text seed r marks' rows' cells' points' index'

-- what a line that stands in the text from `at` to `end` means, by what is due
abbrev pub line_meant : (b text : List ℕ) (at size : ℕ) (due : Due) → Rooms → Content → lines.Step
line_meant b text at size due rooms c =
    lines.line_due (model_at b) rooms text (due_of b due) (stretch text at size) (fields_of at (stretch text at size)) c
