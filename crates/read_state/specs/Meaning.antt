-- What the state of reading means: each case of this crate's enums with its case of the meaning.
use Rattle.std.specs.Prelude.{ℕ, ◌+◌, ◌*◌, Result, Ok, Err, List, [], ◌∷◌, ℤ, take, drop}
use Rattle.meaning.specs.Model.{records_from, attributes_of}
use Rattle.meaning.specs.Row.{pairs_of}
use Rattle.meaning.specs.Reading as meaning
use Rattle.meaning.specs.Reading.{LineAttribute, line_attributes, Content, with_mark}
use Rattle.meaning.specs.Lines as lines
use Rattle.base.specs.Reasons.{number_of}
use Rattle.base.specs.declared.reasons.Refusal.{Refusal}
use Rattle.read_state.specs.declared.LineState.{LineState}
use Rattle.read_state.specs.declared.LineState.TheVariants.{Unstarted, Started, InArc, Reached}
use Rattle.read_state.specs.declared.LineCode.{LineCode}
use Rattle.read_state.specs.declared.LineCode.TheVariants.{Stpt, Lipt, Arcp, Elin, Other}
use Rattle.read_state.specs.declared.Move.{Move}
use Rattle.read_state.specs.declared.Move.TheVariants.{Unexpected, UndefinedLine, Ended, Point}
use Rattle.read_state.specs.declared.OpenLine.{OpenLine}
use Rattle.read_state.specs.declared.Due.{Due}
use Rattle.read_state.specs.declared.Due.TheVariants.{Frame, Object, Line}
use Rattle.read_state.specs.declared.FrameDue.{FrameDue}
use Rattle.read_state.specs.declared.FrameDue.TheVariants as frame
use Rattle.read_state.specs.declared.State.{State}

-- ## The line state

abbrev pub line_state_of : LineState → meaning.LineState
line_state_of Unstarted = meaning.unstarted
line_state_of Started = meaning.started
line_state_of InArc = meaning.in_arc
line_state_of Reached = meaning.reached

abbrev pub line_code_of : LineCode → meaning.LineCode
line_code_of Stpt = meaning.stpt
line_code_of Lipt = meaning.lipt
line_code_of Arcp = meaning.arcp
line_code_of Elin = meaning.elin
line_code_of Other = meaning.other

abbrev pub move_of : Move → meaning.Move
move_of Unexpected = meaning.unexpected
move_of UndefinedLine = meaning.undefined_line
move_of Ended = meaning.ended
move_of (Point kind state) = meaning.point kind (line_state_of state)

-- ## What is due, under a model's bytes

-- the line attributes among the attribute records from a byte on, the first of which has its pair at this cell
abbrev pub lines_at : (model : List ℕ) (at cell : ℕ) → List LineAttribute
lines_at model at cell = line_attributes cell (pairs_of (attributes_of (records_from 0 at (drop at model))))

-- the first of these line attributes is under way
unfoldable pub open_line_of : OpenLine → List LineAttribute → meaning.Due
open_line_of u [] = meaning.object_of u.table
open_line_of u (a ∷ others) =
    meaning.line_of (record {
      table = u.table;
      state = line_state_of u.state;
      first = u.first;
      attribute = a;
      others = others;
    })

unfoldable pub frame_due_of : FrameDue → meaning.Due
frame_due_of frame.Opening = meaning.opening
frame_due_of frame.Description = meaning.description
frame_due_of frame.Transfer = meaning.transfer
frame_due_of frame.ModelName = meaning.model_name
frame_due_of (frame.Topic from) = meaning.topic_from from
frame_due_of (frame.Table topic from) = meaning.table_from topic from
frame_due_of frame.Closing = meaning.closing
frame_due_of frame.Nothing = meaning.nothing

unfoldable pub due_of : (model : List ℕ) → Due → meaning.Due
due_of model (Frame due) = frame_due_of due
due_of model (Object table) = meaning.object_of table
due_of model (Line u) = open_line_of u (lines_at model u.at u.cell)

-- ## What a line makes of the state

-- a line that begins a topic adds its mark
unfoldable pub topic_marked_by : FrameDue → Content → Content
topic_marked_by frame.Opening c = c
topic_marked_by frame.Description c = c
topic_marked_by frame.Transfer c = c
topic_marked_by frame.ModelName c = c
topic_marked_by (frame.Topic from) c = c
topic_marked_by (frame.Table topic from) c = with_mark topic c
topic_marked_by frame.Closing c = c
topic_marked_by frame.Nothing c = c

-- so does a line that begins a table; there are so many topics
unfoldable pub marked_by : (topics : ℕ) → Due → Content → Content
marked_by topics (Frame due) c = topic_marked_by due c
marked_by topics (Object table) c = with_mark (topics + table) c
marked_by topics (Line u) c = c

-- behind a line that leaves the table as it is
abbrev pub next_due_of : (model : List ℕ) → Result Due Refusal → Content → lines.Step
next_due_of model (Ok due) c = lines.go (due_of model due) c
next_due_of model (Err refusal) c = lines.no (number_of refusal.reason) refusal.field

-- behind a line that begins a topic or a table, or ends one
abbrev pub marked_of : (model : List ℕ) (topics : ℕ) → Result Due Refusal → Content → lines.Step
marked_of model topics (Ok due) c = lines.go (due_of model due) (marked_by topics due c)
marked_of model topics (Err refusal) c = lines.no (number_of refusal.reason) refusal.field

-- the table so far, in the lent buffers, of so many marks
abbrev pub content_of : (mark_count : ℕ) → State → (marks rows : List ℕ) (cells points : List ℤ) → Content
content_of mark_count s marks rows cells points =
    record {
      marks = take mark_count marks;
      rows = take s.rows rows;
      cells = take s.cells cells;
      points = take (4 * s.points) points;
    }

abbrev pub step_of : (model : List ℕ) (mark_count : ℕ)
    → Result State Refusal → (marks rows : List ℕ) (cells points : List ℤ) → lines.Step
step_of model mark_count (Ok s) marks rows cells points =
    lines.go (due_of model s.due) (content_of mark_count s marks rows cells points)
step_of model mark_count (Err refusal) marks rows cells points = lines.no (number_of refusal.reason) refusal.field
