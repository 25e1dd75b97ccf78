-- Behind the first lines of a file: a run over them, and the place that they have come to. Assumes nothing.
use Prim.Native.Nat.{ℕ, ◌+◌}
use native.Mathlib.Omega.{arith}
use mathlib.Core.Path.{◌≡◌, refl, sym, ◌∙◌}
use mathlib.Core.Bool.{true, true≢false}
use mathlib.Core.List.{List, [], ◌∷◌, ◌++◌}
use lib.ListN.{length, length-append}
use Rattle.meaning.specs.Unfold.{unfolded_text}
use Rattle.meaning.specs.Model.{Model}
use Rattle.meaning.specs.Check.{GoodModel}
use Rattle.meaning.specs.Reading.{Due, nothing, is_complete, Content, State, start_of, Rooms}
use Rattle.meaning.specs.Lines.{no, step_of, ran, run}
use Rattle.meaning.specs.Right.{with_starts}
use Rattle.meaning.specs.Reasons.{Place, end, Gain, Follows, Reason, used_with, cells_with, points_with, Within}
use Rattle.meaning.specs.RightClaims.{ComeTo, line_behind}
use Rattle.meaning.proofs.Right.Steps.{step_at, run_steps, steps_run}
use Rattle.meaning.proofs.Right.Objects.{LinesStand, lines_stand, stand_left}
use Rattle.meaning.proofs.Right.Places.{At, at_start, at_description, at_transfer, at_model, at_topics, at_tables, at_objects, at_line, at_closing, at_nothing, Effect, Refused, Goes, on, stops}
use Rattle.meaning.proofs.Right.Runs.{run_start}
use Rattle.meaning.proofs.Right.StepLines.{went, refused}
use Rattle.meaning.proofs.Right.Reasoned.{reasoned}
use Rattle.meaning.proofs.Right.Followed.{followed}
use Rattle.meaning.proofs.Right.StepNames.{used_length}
use Rattle.meaning.proofs.Right.Kept.{cells_on, points_on, rows_on}
use Rattle.meaning.proofs.Right.Come.{StandsAt, Come, lines_come, reached_lead}

-- ## Where lines start

pub starts_append : (start : ℕ) (ks ls : List (List ℕ)) → with_starts start (ks ++ ls) ≡ with_starts start ks ++ with_starts (start + length (unfolded_text ks)) ls
unfolding with_starts unfolded_text
starts_append start [] ls = let z : start + 0 ≡ start = omega arith in rw z
starts_append start (k ∷ ks) ls =
    let z : start + length (k ++ (0x0a ∷ unfolded_text ks)) ≡ start + length k + 1 + length (unfolded_text ks) = omega (arith, length-append k (0x0a ∷ unfolded_text ks)) in
    rw (z, starts_append (start + length k + 1) ks ls)

-- the first lines of a file stand in its text
pub before_stand : (before others : List (List ℕ)) → LinesStand (unfolded_text (before ++ others)) (with_starts 0 before)
before_stand before others =
    let own : List ℕ = unfolded_text (before ++ others) in
    stand_left own (with_starts 0 before) (with_starts (0 + length (unfolded_text before)) others) (rw (starts_append 0 before others) at (lines_stand own 0 (before ++ others) refl))

-- ## The end

-- nothing is due at the end, and at no other place
pub at_end_lem : {due : Due} {x : Place} → At due x → is_complete due ≡ true → x ≡ end
unfolding is_complete
at_end_lem at_start e = absurd (true≢false (sym e))
at_end_lem at_description e = absurd (true≢false (sym e))
at_end_lem at_transfer e = absurd (true≢false (sym e))
at_end_lem at_model e = absurd (true≢false (sym e))
at_end_lem at_topics e = absurd (true≢false (sym e))
at_end_lem at_tables e = absurd (true≢false (sym e))
at_end_lem at_objects e = absurd (true≢false (sym e))
at_end_lem (at_line w cell ps h) e = absurd (true≢false (sym e))
at_end_lem at_closing e = absurd (true≢false (sym e))
at_end_lem at_nothing e = refl

pub due_nothing : {due : Due} {x : Place} → At due x → x ≡ end → due ≡ nothing
due_nothing at_start e = absurd (let z : ◌≡◌ {A = ℕ} 0 1 = cc in omega arith)
due_nothing at_description e = absurd (let z : ◌≡◌ {A = ℕ} 0 1 = cc in omega arith)
due_nothing at_transfer e = absurd (let z : ◌≡◌ {A = ℕ} 0 1 = cc in omega arith)
due_nothing at_model e = absurd (let z : ◌≡◌ {A = ℕ} 0 1 = cc in omega arith)
due_nothing at_topics e = absurd (let z : ◌≡◌ {A = ℕ} 0 1 = cc in omega arith)
due_nothing at_tables e = absurd (let z : ◌≡◌ {A = ℕ} 0 1 = cc in omega arith)
due_nothing at_objects e = absurd (let z : ◌≡◌ {A = ℕ} 0 1 = cc in omega arith)
due_nothing (at_line w cell ps h) e = absurd (let z : ◌≡◌ {A = ℕ} 0 1 = cc in omega arith)
due_nothing at_closing e = absurd (let z : ◌≡◌ {A = ℕ} 0 1 = cc in omega arith)
due_nothing at_nothing e = refl

-- ## A run and a place

-- two gains that made one content of another need the same room
room_alike : (rooms : Rooms) (used : List (List ℕ)) {c b : Content} {g g' : Gain} → length used ≡ length c.rows → Effect g c b → Effect g' c b
    → Within rooms (used_with g used) (cells_with g (length c.cells)) (points_with g (length c.points)) → Within rooms (used_with g' used) (cells_with g' (length c.cells)) (points_with g' (length c.points))
room_alike rooms used h e e' r = record {
  for_rows = rw (sym (rows_on e' used h) ∙ rows_on e used h) r.for_rows;
  for_cells = rw (sym (cells_on e') ∙ cells_on e) r.for_cells;
  for_points = rw (sym (points_on e') ∙ points_on e) r.for_points;
}

module _ (m : Model) (rooms : Rooms) (own : List ℕ) (before : List (List ℕ)) (stand : LinesStand own (with_starts 0 before)) where
  -- the step over the line behind them
  step_behind : (l : List ℕ) (s : State) → run m rooms own (start_of m) before ≡ ran s → step_of m rooms own l s ≡ step_at m rooms own s.due s.content (line_behind before l)
  unfolding step_of start_of
  step_behind l s e =
      let at : s.start ≡ length (unfolded_text before) = omega (arith, run_start m rooms own before (start_of m) s e) in
      rw at

  pub run_come : (s : State) → run m rooms own (start_of m) before ≡ ran s → Come m rooms own (with_starts 0 before) s.due s.content
  unfolding start_of
  run_come s e = lines_come m rooms own (with_starts 0 before) stand s.due s.content (run_steps m rooms own before (start_of m) s e)

  -- a line that was refused there
  pub line_refused : (l : List ℕ) (s : State) (n k : ℕ) → run m rooms own (start_of m) before ≡ ran s → (h : Come m rooms own (with_starts 0 before) s.due s.content) → step_of m rooms own l s ≡ no n k
      → Refused m rooms own h.used s.due s.content h.place (line_behind before l) n k
  line_refused l s n k e h q =
      refused m rooms own h.used s.due s.content h.place (line_behind before l) h.stands.at h.stands.names h.room n k (sym (step_behind l s e) ∙ q)

  -- lines that have come to a place are read to it
  pub record RunsTo (x : Place) (used : List (List ℕ)) (cells points : ℕ) : Type 0 where
    pub state : State
    pub runs : run m rooms own (start_of m) before ≡ ran state
    pub stands : StandsAt m rooms own x used state.due state.content
    pub cell_count : length state.content.cells ≡ cells
    pub point_cells : length state.content.points ≡ points

  pub come_run : {x : Place} {used : List (List ℕ)} {cells points : ℕ} → GoodModel m → ComeTo m rooms before x used cells points → RunsTo x used cells points
  unfolding start_of
  come_run good k =
      let r = reached_lead m rooms own good k.reached stand k.room in
      let s = steps_run m rooms own before (start_of m) r.due r.content r.goes in
      record {
        state = s.final;
        runs = s.runs;
        stands = rw (s.due, s.content) r.stands;
        cell_count = rw s.content r.cell_count;
        point_cells = rw s.content r.point_cells;
      }

  module _ {x : Place} {used : List (List ℕ)} {cells points : ℕ} (good : GoodModel m) (k : ComeTo m rooms before x used cells points) (r : RunsTo x used cells points) (l : List ℕ) where
    -- a line with a reason is refused for it
    pub reason_refuses : (n field : ℕ) → Reason m used x (line_behind before l) n field → step_of m rooms own l r.state ≡ no n field
    reason_refuses n field why =
        let s = r.state in
        step_behind l s r.runs ∙ reasoned m rooms own used s.due s.content x (line_behind before l) good r.stands.at r.stands.names n field why

    -- and one that may follow, without room, is refused with 16
    pub full_refuses : (y : Place) (g : Gain) → Follows m used x (line_behind before l) y g → (Within rooms (used_with g used) (cells_with g cells) (points_with g points) → ⊥) → step_of m rooms own l r.state ≡ no 16 0
    full_refuses y g f full =
        let s = r.state in
        step_behind l s r.runs ∙ by (followed m rooms own used s.due s.content x (line_behind before l) good r.stands.at r.stands.names y g f)
      where
        room : Within rooms used (length r.state.content.cells) (length r.state.content.points)
        room = rw (r.cell_count, r.point_cells) k.room

        by : Goes m rooms own used r.state.due r.state.content x (line_behind before l) y g → step_at m rooms own r.state.due r.state.content (line_behind before l) ≡ no 16 0
        by (stops e f) = e
        by (on d b e at effect) =
            let s = r.state in
            let w = went m rooms own used s.due s.content x (line_behind before l) r.stands.at r.stands.names room d b e in
            absurd (full (rw (r.cell_count, r.point_cells) at (room_alike rooms used (used_length own s.content used r.stands.names) w.effect effect w.room)))
