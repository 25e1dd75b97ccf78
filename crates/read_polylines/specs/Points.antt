-- How a point joins the table: u is the line attribute under way with its state behind the point, s the state before.
use Rattle.std.specs.Prelude.{ℕ, ◌+◌, ◌*◌, ◌≤◌, ◌<◌, ◌≡◌, Result, Ok, Err, IsErrAnd, List, ℤ, length}
use Rattle.base.specs.declared.reasons.Refusal.{Refusal}
use Rattle.base.specs.Reasons.{number_of}
use Rattle.std.proofs.lemmas.List.Edits.{sets}
use Rattle.meaning.specs.Row.{Cells, cells, refused, point_cells}
use Rattle.read_state.specs.declared.LineState.{LineState}
use Rattle.read_state.specs.declared.OpenLine.{OpenLine}
use Rattle.read_state.specs.declared.Due.TheVariants.{Line}
use Rattle.read_state.specs.declared.State.{State}

-- the line attribute under way with another line state
abbrev pub moved_to : LineState → OpenLine → OpenLine
moved_to state u = record { table = u.table; state = state; first = u.first; at = u.at; cell = u.cell }

-- the state with a point more
abbrev pub point_added : OpenLine → State → State
point_added u s = record { due = Line u; rows = s.rows; cells = s.cells; points = s.points + 1 }

-- these four cells are stored behind the points before
pub record Stored (four : List ℤ) (u : OpenLine) (s : State) (entry exit : List ℤ) (r : State) : Type 0 where
  pub state : r ≡ point_added u s
  pub stored : exit ≡ sets entry (4 * s.points) four
  pub room : 4 * s.points + 4 ≤ length entry

-- 16: "no room for .. a point"
pub record NoRoom (s : State) (entry exit : List ℤ) (number field : ℕ) : Type 0 where
  pub sixteen : number ≡ 16
  pub none : field ≡ 0
  pub same : exit ≡ entry
  pub full : length entry < 4 * s.points + 4

abbrev pub Stores : (four : List ℤ) → OpenLine → State → (entry exit : List ℤ) → Result State Refusal → Type 0
Stores four u s entry exit (Ok r) = Stored four u s entry exit r
Stores four u s entry exit (Err r) = NoRoom s entry exit (number_of r.reason) r.field

-- the point of these values, or their refusal
abbrev pub Joins : (kind : ℕ) → OpenLine → State → (entry exit : List ℤ) → Result State Refusal → Cells → Type 0
Joins kind u s entry exit r (cells values) = Stores (point_cells kind values) u s entry exit r
Joins kind u s entry exit r (refused number field) =
    IsErrAnd r (λ e. (number_of e.reason ≡ number) × (e.field ≡ field)) × (exit ≡ entry)
