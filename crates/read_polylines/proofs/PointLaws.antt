-- A point of the line attribute under way: where it is stored, what it means, and what then holds. Assumes nothing.
use Prim.Native.Nat.{ℕ, ◌+◌, ◌*◌, ◌≤◌, ◌<◌}
use native.Mathlib.Omega.{arith}
use mathlib.Core.Path.{◌≡◌, sym, ◌∙◌}
use mathlib.Core.Bool.{true, false}
use mathlib.Core.List.{List, [], ◌++◌}
use lib.Dec.{ltb}
use lib.IntN.{ℤ}
use lib.ListN.{length, take, drop, length-append}
use lib.Seq.{sets, sets-eq, length-sets, length-take-le, take_at}
use borrow.Author.Tests.{lt-ltb, le-ltb}
use Rattle.meaning.specs.Bytes.{refuse}
use Rattle.meaning.specs.Model.{Model}
use Rattle.meaning.specs.Field.{Field}
use Rattle.meaning.specs.Row as row
use Rattle.meaning.specs.Row.{Cells, component_values, point_cells}
use Rattle.meaning.specs.Reading as meaning
use Rattle.meaning.specs.Reading.{Content, Rooms, line_of, is_forbidden, point, with_state}
use Rattle.meaning.specs.Lines.{no, store_point, attribute_line}
use Rattle.meaning.specs.Lines as lines
use Rattle.model_records.specs.declared.attributes.LineAttribute.{LineAttribute}
use Rattle.model_records.specs.Records.{model_at}
use Rattle.model_records.specs.Attributes.{RecordLine}
use Rattle.read_state.specs.declared.LineState.{LineState}
use Rattle.read_state.specs.declared.OpenLine.{OpenLine}
use Rattle.read_state.specs.declared.Due.TheVariants as due
use Rattle.read_state.specs.declared.State.{State}
use Rattle.std.proofs.Common.{Result, Ok, Err}
use Rattle.base.specs.declared.reasons.Refusal.{Refusal}
use Rattle.read_state.specs.Meaning.{line_state_of, due_of, content_of, step_of}
use Rattle.read_state.specs.Holds.{LineHolds}
use Rattle.read_polylines.specs.Ways.{way_of, LineDoes}
use Rattle.read_polylines.specs.Points.{moved_to, point_added, Stores, Joins}
use Rattle.read_polylines.proofs.Ways.{due_way, refused_here}
use Rattle.meaning.proofs.Reading.Buffers.{point_length}

-- ## The four cells

-- cells stored behind those that count
taken_more : (l vs : List ℤ) (i k : ℕ) → k ≡ i + length vs → k ≤ length l → take k (sets l i vs) ≡ take i l ++ vs
taken_more l vs i k e h =
    rw (sets-eq vs l i (omega arith))
    (take_at (take i l ++ vs) (drop (i + length vs) l) k (length-append (take i l) vs ∙ rw (length-take-le i l (omega arith)) (sym e)))

-- ## The state behind the point

module _ (b : List ℕ) (u : OpenLine) (s : State) where
  pub does_same : (meant meant' : Content → lines.Step) (cells points cells' points' : List ℤ) (r : Result State Refusal) → ((c : Content) → meant c ≡ meant' c) → LineDoes b u s meant cells points cells' points' r → LineDoes b u s meant' cells points cells' points' r
  does_same meant meant' cells points cells' points' r e d = record { step = λ k marks rows. d.step k marks rows ∙ e _; holds = d.holds }

  module _ (next : LineState) where
    moved_holds : (m : Model) (rows : List ℕ) (n used points points' : ℕ) → points ≤ points' → LineHolds m b rows n used points u → LineHolds m b rows n used points' (moved_to next u)
    moved_holds m rows n used points points' g l = record { table = l.table; attributes = l.attributes; kind = l.kind; line = l.line; behind_rows = l.behind_rows; fits = l.fits; first = omega (arith, l.first) }

    module _ (a : LineAttribute) (d : RecordLine b u.at a) (l : LineHolds (model_at b) b [] 0 s.cells s.points u) where
      due_moved : due_of b (due.Line (moved_to next u)) ≡ line_of (with_state (line_state_of next) (way_of b a u))
      due_moved = due_way (model_at b) b [] 0 s.cells s.points (moved_to next u) (moved_holds (model_at b) [] 0 s.cells s.points s.points (omega arith) l) a d

      module _ (rooms : Rooms) (text : List ℕ) (kind : ℕ) (cells points : List ℤ) (er : rooms.points ≡ length points) (fits : 4 * s.points ≤ length points) where
        abbrev pub meant_by : Cells → Content → lines.Step
        meant_by v c = store_point (model_at b) rooms text kind (with_state (line_state_of next) (way_of b a u)) c v

        size_is : length (take (4 * s.points) points) ≡ 4 * s.points
        size_is = length-take-le (4 * s.points) points fits

        stored_step : (values : List ℤ) → 4 * s.points + 4 ≤ length points → (k : ℕ) (marks rows : List ℕ)
            → step_of b k (Ok (point_added (moved_to next u) s)) marks rows cells (sets points (4 * s.points) (point_cells kind values)) ≡ meant_by (row.cells values) (content_of k s marks rows cells points)
        unfolding store_point refuse
        stored_step values room k marks rows =
            let t = taken_more points (point_cells kind values) (4 * s.points) (4 * (s.points + 1)) (omega (arith, point_length kind values)) (omega arith) in
            let f : ltb (length points) (4 * s.points + 4) ≡ false = le-ltb (length points) (4 * s.points + 4) room in
            rw (er, size_is, f, due_moved, t)

        full_step : (values : List ℤ) → length points < 4 * s.points + 4 → (k : ℕ) (marks rows : List ℕ) → no 16 0 ≡ meant_by (row.cells values) (content_of k s marks rows cells points)
        unfolding store_point refuse
        full_step values full k marks rows =
            let f : ltb (length points) (4 * s.points + 4) ≡ true = lt-ltb (length points) (4 * s.points + 4) full in
            rw (er, size_is, f)

        stored_does : (values : List ℤ) → 4 * s.points + 4 ≤ length points → LineDoes b u s (meant_by (row.cells values)) cells points cells (sets points (4 * s.points) (point_cells kind values)) (Ok (point_added (moved_to next u) s))
        stored_does values room = record {
          step = stored_step values room;
          holds = λ text seed marks rows index h held. record {
            due = moved_holds (model_at b) rows s.rows s.cells s.points (s.points + 1) (omega arith) h;
            objects = held.objects;
            laid = held.laid;
            points_fit = rw (length-sets points (4 * s.points) (point_cells kind values)) (omega arith);
            marks_fit = held.marks_fit;
          };
        }

        values_do : (values points' : List ℤ) (r : Result State Refusal) → Stores (point_cells kind values) (moved_to next u) s points points' r → LineDoes b u s (meant_by (row.cells values)) cells points cells points' r
        values_do values points' (Ok r) h = rw (h.state, h.stored) (stored_does values h.room)
        values_do values points' (Err r) h = rw h.same (record { step = λ k marks rows. rw (h.sixteen, h.none) (full_step values h.full k marks rows); holds = λ text seed marks rows index g held. tt })

        -- a point by its values, or their refusal
        pub joined : (v : Cells) (points' : List ℤ) (r : Result State Refusal) → Joins kind (moved_to next u) s points points' r v → LineDoes b u s (meant_by v) cells points cells points' r
        unfolding store_point
        joined (row.cells values) points' r h = values_do values points' r h
        joined (row.refused number field) points' (Ok r) h = absurd h.0
        joined (row.refused number field) points' (Err r) h = rw h.1 (refused_here b u s _ cells points r (λ c. rw (h.0.0, h.0.1)))

-- ## What its line means

module _ (m : Model) (rooms : Rooms) (text : List ℕ) (w : meaning.Underway) (fs : List Field) (c : Content) (kind : ℕ) (state : meaning.LineState) where
  pub forbidden_point : is_forbidden w.attribute.forms w.state (meaning.line_code_of fs) ≡ true → no 18 1 ≡ attribute_line m rooms text w fs c (point kind state)
  unfolding attribute_line refuse
  forbidden_point e = rw e

  pub permitted_point : is_forbidden w.attribute.forms w.state (meaning.line_code_of fs) ≡ false
      → store_point m rooms text kind (with_state state w) c (component_values m.undefined 2 w.attribute.components (drop 1 fs)) ≡ attribute_line m rooms text w fs c (point kind state)
  unfolding attribute_line refuse
  permitted_point e = rw e
