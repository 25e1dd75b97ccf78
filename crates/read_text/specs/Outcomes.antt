-- What reading answers, and what the lent buffers then hold.
use Rattle.std.specs.Prelude.{ℕ, ◌*◌, ◌≤◌, ◌≡◌, false, List, ℤ, pos, length, take, replicate, Ok, Err}
use Rattle.std.specs.Prelude as std
use Rattle.meaning.specs.Answer as meaning
use Rattle.meaning.specs.Answer.{filled}
use Rattle.meaning.specs.Reading.{Content, Rooms, nothing, is_complete}
use Rattle.meaning.specs.Lines as lines
use Rattle.meaning.specs.Table.{Result, refused_with, accepted_with}
use Rattle.model_records.specs.Records.{model_at}
use Rattle.read_state.specs.Meaning.{due_of, content_of}
use Rattle.read_state.specs.declared.Due.TheVariants.{Frame}
use Rattle.read_state.specs.declared.FrameDue.TheVariants as frame
use Rattle.read_state.specs.declared.State.{State}
use Rattle.read_state.specs.Holds.{Holds}
use Rattle.base.specs.Reasons.{number_of}
use Rattle.base.specs.declared.reasons.Reason.TheVariants.{OtherCode}
use Rattle.base.specs.declared.reasons.Refused.{Refused}
use Rattle.table.specs.declared.Used.{Used}

-- ## The lines in order

-- all lines are read and complete: the state behind them, in the buffers
pub record AllRead (b text : List ℕ) (seed : ℕ) (marks rows : List ℕ) (cells points : List ℤ) (index : List ℕ)
    (run : lines.Run) (s : State) : Type 0 where
  pub line : ℕ
  pub start : ℕ
  pub runs : run ≡ lines.ran (record {
    line = line;
    start = start;
    due = nothing;
    content = content_of (length marks) s marks rows cells points;
  })
  pub holds : Holds (model_at b) b text seed s marks rows cells points index

abbrev pub RanTo : (b text : List ℕ) (seed : ℕ) (marks rows : List ℕ) (cells points : List ℤ) (index : List ℕ)
    → lines.Run → std.Result State Refused → Type 0
RanTo b text seed marks rows cells points index run (Ok s) = AllRead b text seed marks rows cells points index run s
RanTo b text seed marks rows cells points index run (Err r) =
    run ≡ lines.stopped (number_of r.reason) r.first r.second

-- behind the last line: the state s, where no line is due
abbrev pub EndsAs : State → (line : ℕ) → std.Result State Refused → Type 0
EndsAs s line (Ok t) = (t ≡ s) × (s.due ≡ Frame frame.Nothing)
EndsAs s line (Err r) =
    (r ≡ record { reason = OtherCode; first = line; second = 1 })
    × ((b : List ℕ) → is_complete (due_of b s.due) ≡ false)

-- ## The answer

abbrev pub Answer : Type 0
Answer = std.Result Used Refused

abbrev pub answer_of : Answer → meaning.Answer
answer_of (Ok u) = meaning.accepted u.objects u.cells u.points
answer_of (Err r) = meaning.refusal (number_of r.reason) r.first r.second

-- the counts lie within the buffers, whatever a refusal is told by
abbrev pub Fits : {E : Type 0} → (rows : List ℕ) (cells points : List ℤ) → std.Result Used E → Type 0
Fits rows cells points (Ok u) = (u.objects ≤ length rows) × (u.cells ≤ length cells) × (4 * u.points ≤ length points)
Fits rows cells points (Err refused) = Unit {0}

-- the used part of the buffers
abbrev pub used_of : (marks rows : List ℕ) (cells points : List ℤ) (o c p : ℕ) → Content
used_of marks rows cells points o c p =
    record { marks = marks; rows = take o rows; cells = take c cells; points = take (4 * p) points }

-- the table of the exact text and marks stands in the buffers, or the refusal is this
abbrev pub TableRead : Result → Rooms → (text marks rows : List ℕ) (cells points : List ℤ) → Answer → Type 0
TableRead r rooms text marks rows cells points (Ok u) =
    r ≡ accepted_with rooms text (used_of marks rows cells points u.objects u.cells u.points) (take u.cells cells)
TableRead r rooms text marks rows cells points (Err refused) =
    r ≡ refused_with rooms (number_of refused.reason) refused.first refused.second

-- the same with zeros behind the marks
pub record Marked (r : Result) (rooms : Rooms) (text marks rows : List ℕ) (cells points : List ℤ)
    (u : Used) : Type 0 where
  pub delivered : List ℕ
  pub is : TableRead r rooms text delivered rows cells points (Ok u)
  pub marks_are : marks ≡ filled 0 rooms.marks delivered

abbrev pub MarksRead : Result → Rooms → (text marks rows : List ℕ) (cells points : List ℤ) → Answer → Type 0
MarksRead r rooms text marks rows cells points (Ok u) = Marked r rooms text marks rows cells points u
MarksRead r rooms text marks rows cells points (Err refused) =
    r ≡ refused_with rooms (number_of refused.reason) refused.first refused.second

-- and behind the text
pub record Unfinished (r : Result) (rooms : Rooms) (text marks rows : List ℕ) (cells points : List ℤ)
    (u : Used) : Type 0 where
  pub used : List ℕ
  pub is : Marked r rooms used marks rows cells points u
  pub text_is : text ≡ filled 0 rooms.text used

abbrev pub ReadInto : Result → Rooms → (text marks rows : List ℕ) (cells points : List ℤ) → Answer → Type 0
ReadInto r rooms text marks rows cells points (Ok u) = Unfinished r rooms text marks rows cells points u
ReadInto r rooms text marks rows cells points (Err refused) =
    r ≡ refused_with rooms (number_of refused.reason) refused.first refused.second

-- ## What is left in the buffers

-- "All result buffers are zeroed by every refusal"
pub record Zeroed (text marks rows : List ℕ) (cells points : List ℤ) (text' marks' rows' : List ℕ)
    (cells' points' : List ℤ) : Type 0 where
  pub text_is : text' ≡ replicate (length text) 0
  pub marks_are : marks' ≡ replicate (length marks) 0
  pub rows_are : rows' ≡ replicate (length rows) 0
  pub cells_are : cells' ≡ replicate (length cells) (pos 0)
  pub points_are : points' ≡ replicate (length points) (pos 0)

-- "Every result buffer is zero behind its used part"
pub record Closed (text marks rows : List ℕ) (cells points : List ℤ) (u : Used) (text' marks' rows' : List ℕ)
    (cells' points' : List ℤ) : Type 0 where
  pub text_is : text' ≡ text
  pub marks_are : marks' ≡ marks
  pub rows_are : rows' ≡ filled 0 (length rows) (take u.objects rows)
  pub cells_are : cells' ≡ filled (pos 0) (length cells) (take u.cells cells)
  pub points_are : points' ≡ filled (pos 0) (length points) (take (4 * u.points) points)

abbrev pub Finished : {E : Type 0} → (text marks rows : List ℕ) (cells points : List ℤ)
    (text' marks' rows' : List ℕ) (cells' points' : List ℤ) → std.Result Used E → Type 0
Finished text marks rows cells points text' marks' rows' cells' points' (Ok u) =
    Closed text marks rows cells points u text' marks' rows' cells' points'
Finished text marks rows cells points text' marks' rows' cells' points' (Err refused) =
    Zeroed text marks rows cells points text' marks' rows' cells' points'
