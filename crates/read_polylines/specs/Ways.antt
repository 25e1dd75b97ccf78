-- What a line of the line attribute under way makes of the table, under the model's bytes b.
use Rattle.std.specs.Prelude.{ℕ, ◌+◌, ◌*◌, ◌≤◌, ◌<◌, ◌^◌, ◌≡◌, Result, Ok, Err, List, [], ℤ, length}
use Rattle.base.specs.declared.reasons.Refusal.{Refusal}
use Rattle.meaning.specs.Model.{Model}
use Rattle.meaning.specs.Reading as meaning
use Rattle.meaning.specs.Reading.{Content, due_lines}
use Rattle.meaning.specs.Lines as lines
use Rattle.model_records.specs.Components.{components_of}
use Rattle.model_records.specs.declared.attributes.LineAttribute.{LineAttribute}
use Rattle.model_records.specs.Records.{model_at, next_at}
use Rattle.read_state.specs.declared.OpenLine.{OpenLine}
use Rattle.read_state.specs.declared.State.{State}
use Rattle.read_state.specs.Meaning.{line_state_of, lines_at, due_of, content_of, step_of}
use Rattle.read_state.specs.Holds.{LineHolds, DueHolds, Holds}

-- the line attribute under way, whose record is the attribute a
abbrev pub way_of : (b : List ℕ) → LineAttribute → OpenLine → meaning.Underway
way_of b a u = record {
  table = u.table;
  state = line_state_of u.state;
  first = u.first;
  attribute = record {
    cell = u.cell;
    optional = a.optional;
    forms = a.forms;
    components = components_of a.components;
  };
  others = lines_at b (next_at b u.at) (u.cell + 2);
}

-- what a line of the line attribute under way may take for granted: its rows do not matter
pub record LineReady (b : List ℕ) (u : OpenLine) (s : State) : Type 0 where
  pub line : LineHolds (model_at b) b [] 0 s.cells s.points u
  pub cells : s.cells < 2 ^ 63
  pub points : s.points < 2 ^ 61

-- the same with the buffers lent to it, and the model's undefined byte
pub record LineGiven (b : List ℕ) (undefined : ℕ) (u : OpenLine) (s : State) (cells points : List ℤ) : Type 0 where
  pub line : LineHolds (model_at b) b [] 0 s.cells s.points u
  pub cells_fit : s.cells ≤ length cells
  pub points_fit : 4 * s.points ≤ length points
  pub undefined_byte : (model_at b).undefined ≡ undefined

-- r is the state behind the last line of the line attribute under way, with this first point for the next one
pub record BehindLine (b : List ℕ) (u : OpenLine) (s : State) (first : ℕ) (r : State) : Type 0 where
  pub due : due_of b r.due ≡ due_lines u.table first (lines_at b (next_at b u.at) (u.cell + 2))
  pub rows : r.rows ≡ s.rows
  pub cells : r.cells ≡ s.cells
  pub points : r.points ≡ s.points
  pub holds : (rows : List ℕ) (n : ℕ) → first ≤ s.points → LineHolds (model_at b) b rows n s.cells s.points u
      → DueHolds (model_at b) b rows n s.cells s.points r.due

-- what holds behind a line
abbrev pub StepHolds : Model → (b text : List ℕ) (seed : ℕ) → Result State Refusal
    → (marks rows : List ℕ) (cells points : List ℤ) (index : List ℕ) → Type 0
StepHolds m b text seed (Ok s) marks rows cells points index = Holds m b text seed s marks rows cells points index
StepHolds m b text seed (Err refusal) marks rows cells points index = Unit {0}

-- a line of the line attribute under way means this, with the cells and points before and behind it; what holds stays
pub record LineDoes (b : List ℕ) (u : OpenLine) (s : State) (meant : Content → lines.Step)
    (cells points cells' points' : List ℤ) (r : Result State Refusal) : Type 0 where
  pub step : (k : ℕ) (marks rows : List ℕ)
      → step_of b k r marks rows cells' points' ≡ meant (content_of k s marks rows cells points)
  pub holds : (text : List ℕ) (seed : ℕ) (marks rows index : List ℕ)
      → LineHolds (model_at b) b rows s.rows s.cells s.points u
      → Holds (model_at b) b text seed s marks rows cells points index
      → StepHolds (model_at b) b text seed r marks rows cells' points' index
