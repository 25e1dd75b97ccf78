-- The loop over the lines: what it holds between two of them. Assumes nothing.
use Prim.Native.Nat.{ℕ, ◌+◌, ◌-◌, ◌≤◌, ◌<◌}
use native.Mathlib.Omega.{arith}
use mathlib.Core.Path.{◌≡◌, refl, sym, ap, subst, ◌∙◌}
use mathlib.Core.Bool.{false}
use mathlib.Core.List.{List, [], ◌∷◌}
use lib.IntN.{ℤ}
use lib.ListN.{length, drop, replicate}
use lib.Seq.{take-length}
use Rattle.meaning.specs.Bytes.{refuse}
use Rattle.meaning.specs.Reading as meaning
use Rattle.meaning.specs.Reading.{Rooms, start_of, nothing_read, is_complete}
use Rattle.meaning.specs.Lines as lines
use Rattle.meaning.specs.Lines.{run, ran, stopped, at_end, read_lines}
use Rattle.model_records.specs.Records.{model_at}
use Rattle.read_state.specs.declared.OpenLine.{OpenLine}
use Rattle.read_state.specs.declared.Due.TheVariants.{Frame, Object, Line}
use Rattle.read_state.specs.declared.FrameDue.TheVariants as frame
use Rattle.read_state.specs.declared.State.{State}
use Rattle.model_records.specs.declared.places.Records.{Records}
use Rattle.read_state.specs.Meaning.{lines_at, open_line_of, frame_due_of, due_of, content_of}
use Rattle.read_state.specs.Holds.{Holds}
use Rattle.table_index.proofs.Kept.{held_start}
use Rattle.std.proofs.Common.{Result, Ok, Err}
use Rattle.base.specs.Reasons.{number_of}
use Rattle.base.specs.declared.reasons.Refusal.{Refusal}
use Rattle.base.specs.declared.reasons.Refused.{Refused}
use Rattle.read_state.specs.declared.Due.{Due}
use Rattle.read_text.specs.Text.{lines_of, line_end}
use Rattle.read_step.specs.Steps.{Prepared, Steps, line_meant}
use Rattle.read_text.specs.Outcomes.{RanTo, EndsAs}
use Rattle.read_text.proofs.Turns.{forward, refused, run_end}

-- the rooms that the buffers lend, as far as lines look at them
pub record Lends (rows : List ℕ) (cells points : List ℤ) (rooms : Rooms) : Type 0 where
  pub row_room : rooms.rows ≡ length rows
  pub cell_room : rooms.cells ≡ length cells
  pub point_room : rooms.points ≡ length points

-- the state s before the line of this number, which begins at `at`
abbrev pub state_at : (b : List ℕ) (line at : ℕ) → State → (marks rows : List ℕ) (cells points : List ℤ) → meaning.State
state_at b line at s marks rows cells points = record { line = line; start = at; due = due_of b s.due; content = content_of (length marks) s marks rows cells points }

pub record Going (good : Records) (text : List ℕ) (seed : ℕ) (rows₀ : List ℕ) (cells₀ points₀ : List ℤ) (marks rows : List ℕ) (cells points : List ℤ) (index : List ℕ) (s : State) (number at : ℕ) : Type 0 where
  pub prepared : Prepared good marks
  pub row_size : length rows ≡ length rows₀
  pub cell_size : length cells ≡ length cells₀
  pub point_size : length points ≡ length points₀
  pub holds : Holds (model_at good.bytes.now) good.bytes.now text seed s marks rows cells points index
  pub numbered : number ≤ at + 1
  pub runs : (rooms : Rooms) → Lends rows₀ cells₀ points₀ rooms
      → run (model_at good.bytes.now) rooms text (state_at good.bytes.now number at s marks rows cells points) (lines_of (drop at text)) ≡ run (model_at good.bytes.now) rooms text (start_of (model_at good.bytes.now)) (lines_of text)

-- a line is still due but behind ENDE
pub still_due : (due : Due) (b : List ℕ) → (due ≡ Frame frame.Nothing → ⊥) → is_complete (due_of b due) ≡ false
unfolding is_complete due_of frame_due_of open_line_of
still_due (Frame frame.Opening) b other = refl
still_due (Frame frame.Description) b other = refl
still_due (Frame frame.Transfer) b other = refl
still_due (Frame frame.ModelName) b other = refl
still_due (Frame (frame.Topic from)) b other = refl
still_due (Frame (frame.Table topic from)) b other = refl
still_due (Frame frame.Closing) b other = refl
still_due (Frame frame.Nothing) b other = absurd (other refl)
still_due (Object table) b other = refl
still_due (Line u) b other = due_line u (lines_at b u.at u.cell)
  where
    due_line : (u : OpenLine) (ls : List meaning.LineAttribute) → is_complete (open_line_of u ls) ≡ false
    due_line u [] = refl
    due_line u (a ∷ ls) = refl

-- before the first line
abbrev pub first : State
first = record { due = Frame frame.Opening; rows = 0; cells = 0; points = 0 }

module _ (good : Records) (text : List ℕ) (seed : ℕ) where
  start_is : (marks rows : List ℕ) (cells points : List ℤ) → Prepared good marks → marks ≡ replicate (length marks) 0
      → state_at good.bytes.now 1 0 first marks rows cells points ≡ start_of (model_at good.bytes.now)
  unfolding start_of nothing_read due_of frame_due_of
  start_is marks rows cells points m e =
      let count : length marks ≡ length (model_at good.bytes.now).topics + length (model_at good.bytes.now).tables = omega (arith, m.mark_count, m.placed.topics, m.placed.tables) in
      ap (λ (k : List ℕ). record { line = 1; start = 0; due = meaning.opening; content = record { marks = k; rows = []; cells = []; points = [] } })
      (take-length marks ∙ e ∙ ap (λ (n : ℕ). replicate n 0) count)

  pub begin : (marks rows : List ℕ) (cells points : List ℤ) (index : List ℕ) → Prepared good marks → marks ≡ replicate (length marks) 0 → index ≡ replicate (length index) 0
      → Going good text seed rows cells points marks rows cells points index first 1 0
  begin marks rows cells points index m e z = record {
    prepared = m;
    row_size = refl;
    cell_size = refl;
    point_size = refl;
    holds = record {
      due = tt;
      objects = held_start seed text rows cells index (length index) z;
      laid = record { table = λ o l. absurd (omega arith); ends = λ o l. absurd (omega arith); apart = λ o p l k. absurd (omega arith) };
      points_fit = omega arith;
      marks_fit = omega (arith, m.mark_count, m.placed.topics, m.placed.tables);
    };
    numbered = omega arith;
    runs = λ rooms l. ap (λ (x : meaning.State). run (model_at good.bytes.now) rooms text x (lines_of text)) (start_is marks rows cells points m e);
  }

  module _ {rows₀ : List ℕ} {cells₀ points₀ : List ℤ} {marks rows : List ℕ} {cells points : List ℤ} {index : List ℕ} {s : State} {number at : ℕ}
      (g : Going good text seed rows₀ cells₀ points₀ marks rows cells points index s number at) where
    -- the rooms, as the next line sees them
    lends : (rooms : Rooms) → Lends rows₀ cells₀ points₀ rooms → Lends rows cells points rooms
    lends rooms l = record { row_room = l.row_room ∙ sym g.row_size; cell_room = l.cell_room ∙ sym g.cell_size; point_room = l.point_room ∙ sym g.point_size }

    -- a line from `at` to e, whose step is r
    module _ (e : ℕ) (inside : at < length text) (end : e ≡ at + line_end (drop at text)) (within : e ≤ length text) {marks' rows' : List ℕ} {cells' points' : List ℤ} {index' : List ℕ} where
      pub again : (next : State) → length marks' ≡ length marks → length rows' ≡ length rows → length cells' ≡ length cells → length points' ≡ length points → length index' ≡ length index
          → Steps good.bytes.now text seed s (line_meant good.bytes.now text at (e - at) s.due) marks rows cells points index marks' rows' cells' points' index' (Ok next)
          → Going good text seed rows₀ cells₀ points₀ marks' rows' cells' points' index' next (number + 1) (e + 1)
      unfolding lines.step_of
      again next ma ro ce po ix t = record {
        prepared = record { placed = g.prepared.placed; mark_count = ma ∙ g.prepared.mark_count };
        row_size = ro ∙ g.row_size;
        cell_size = ce ∙ g.cell_size;
        point_size = po ∙ g.point_size;
        holds = t.holds;
        numbered = omega (arith, g.numbered);
        runs = λ rooms l.
            let k = lends rooms l in
            ap (λ (n : ℕ). run (model_at good.bytes.now) rooms text (record { line = number + 1; start = e + 1; due = due_of good.bytes.now next.due; content = content_of n next marks' rows' cells' points' }) (lines_of (drop (e + 1) text))) ma
            ∙ forward (model_at good.bytes.now) rooms text number at e (due_of good.bytes.now s.due) (content_of (length marks) s marks rows cells points) _ inside end within (g.runs rooms l)
            (due_of good.bytes.now next.due) (content_of (length marks) next marks' rows' cells' points') (sym (t.step rooms k.row_room k.cell_room k.point_room));
      }

      pub stops : (refusal : Refusal) → Steps good.bytes.now text seed s (line_meant good.bytes.now text at (e - at) s.due) marks rows cells points index marks' rows' cells' points' index' (Err refusal)
          → (rooms : Rooms) → Lends rows₀ cells₀ points₀ rooms → read_lines (model_at good.bytes.now) rooms text (start_of (model_at good.bytes.now)) (lines_of text) ≡ stopped (number_of refusal.reason) number refusal.field
      unfolding lines.step_of read_lines
      stops refusal t rooms l =
          let n = lends rooms l in
          let r = refused (model_at good.bytes.now) rooms text number at e (due_of good.bytes.now s.due) (content_of (length marks) s marks rows cells points) _ inside end within (g.runs rooms l)
          (number_of refusal.reason) refusal.field (sym (t.step rooms n.row_room n.cell_room n.point_room)) in
          rw (sym r)

    -- behind the last line
    module _ (past : length text ≤ at) where
      ends_run : (rooms : Rooms) → Lends rows₀ cells₀ points₀ rooms → run (model_at good.bytes.now) rooms text (start_of (model_at good.bytes.now)) (lines_of text) ≡ ran (state_at good.bytes.now number at s marks rows cells points)
      ends_run rooms l = sym (g.runs rooms l) ∙ run_end (model_at good.bytes.now) rooms text at _ past

      pub ends : (r : Result State Refused) → EndsAs s number r → (rooms : Rooms) → Lends rows₀ cells₀ points₀ rooms
          → RanTo good.bytes.now text seed marks rows cells points index (read_lines (model_at good.bytes.now) rooms text (start_of (model_at good.bytes.now)) (lines_of text)) r
      unfolding read_lines at_end is_complete due_of frame_due_of refuse
      ends (Ok t) h rooms l = record {
        line = number;
        start = at;
        runs = rw (ends_run rooms l, h.1, h.0);
        holds = subst (λ (x : State). Holds (model_at good.bytes.now) good.bytes.now text seed x marks rows cells points index) (sym h.0) g.holds;
      }
      ends (Err r) h rooms l = rw (ends_run rooms l, h.1 good.bytes.now, h.0)
