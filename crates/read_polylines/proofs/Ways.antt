-- The line attribute under way, what each move makes of it, and what then holds. Assumes nothing.
use Prim.Native.Nat.{ℕ, ◌+◌, ◌*◌, ◌-◌, ◌/◌, ◌≤◌, ◌<◌}
use native.Mathlib.Omega.{arith}
use mathlib.Core.Path.{◌≡◌, refl, sym, ap, subst, ◌∙◌}
use mathlib.Core.Bool.{Bool, true, false, not}
use mathlib.Core.List.{List, [], ◌∷◌}
use lib.Dec.{eqb}
use lib.IntN.{ℤ, pos}
use lib.ListN.{length, take, drop, get_or, set}
use lib.Seq.{take-set-lt, length-take-le, get_or-set_other}
use borrow.Author.Tests.{not-true, not-false}
use Rattle.meaning.specs.Bytes.{choose, refuse}
use Rattle.meaning.specs.Model as model
use Rattle.meaning.specs.Model.{Model, attribute_of, Line}
use Rattle.meaning.specs.Field.{Field, fields_of, more_than, has_code, STPT, LIPT, ARCP, ELIN}
use Rattle.meaning.specs.Row.{pairs_of, pairs_of_type}
use Rattle.meaning.specs.Reading as meaning
use Rattle.meaning.specs.Reading.{line_attributes, line_of, due_lines, Content, point_count, with_line, Rooms, ended, undefined_line}
use Rattle.meaning.specs.Lines.{Step, go, no, bare, attribute_line, line_due}
use Rattle.model_records.specs.Components.{components_of}
use Rattle.model_records.specs.declared.attributes.LineAttribute.{LineAttribute}
use Rattle.model_records.specs.Records.{model_at, next_at, pairs_at}
use Rattle.model_records.specs.AtRecord.{AttributeNext, AttributesHere}
use Rattle.model_records.specs.Attributes.{RecordLine}
use Rattle.model_records.proofs.AtRecord.{attribute_here}
use Rattle.table_index.proofs.Kept.{beside_behind, held_pair}
use Rattle.read_state.specs.declared.OpenLine.{OpenLine}
use Rattle.read_state.specs.declared.State.{State}
use Rattle.read_state.specs.declared.Due.TheVariants as due
use Rattle.read_state.specs.Meaning.{line_state_of, lines_at, open_line_of, due_of, content_of}
use Rattle.read_state.specs.Holds.{LineHolds, Holds}
use Rattle.table.specs.Rows.{RowsLaidOut}
use Rattle.std.proofs.Common.{Option, Some, None, Result, Ok, Err}
use Rattle.base.specs.declared.reasons.Refusal.{Refusal}
use Rattle.base.specs.Reasons.{number_of}
use Rattle.read_frame.specs.Codes.{place_or_0}
use Rattle.read_frame.specs.declared.codes.Code.{Code}
use Rattle.read_frame.specs.declared.codes.Code.TheVariants as code
use Rattle.read_frame.specs.Heads.{HeadOf}
use Rattle.read_frame.specs.declared.codes.Head.{Head}
use Rattle.read_frame.proofs.Moves.{behind_more}
use Rattle.read_polylines.specs.Codes.{code_of}
use Rattle.read_polylines.specs.Ways.{way_of, LineGiven, BehindLine, LineDoes}

-- ## The code

indexed : (code : Option Code) → choose (eqb (place_or_0 code) 9) meaning.stpt (choose (eqb (place_or_0 code) 10) meaning.lipt (choose (eqb (place_or_0 code) 11) meaning.arcp (choose (eqb (place_or_0 code) 12) meaning.elin meaning.other))) ≡ code_of code
unfolding choose
indexed None = refl
indexed (Some code.Scnt) = refl
indexed (Some code.Slashes) = refl
indexed (Some code.Mtid) = refl
indexed (Some code.Motr) = refl
indexed (Some code.Modl) = refl
indexed (Some code.Topi) = refl
indexed (Some code.Tabl) = refl
indexed (Some code.Obje) = refl
indexed (Some code.Stpt) = refl
indexed (Some code.Lipt) = refl
indexed (Some code.Arcp) = refl
indexed (Some code.Elin) = refl
indexed (Some code.Etab) = refl
indexed (Some code.Etop) = refl
indexed (Some code.Emod) = refl
indexed (Some code.Ende) = refl

pub code_meant : (l : List ℕ) (h : Head) → HeadOf l h → (s : ℕ) → meaning.line_code_of (fields_of s l) ≡ code_of h.code
unfolding meaning.line_code_of
code_meant l h o s =
    let a : has_code STPT (fields_of s l) ≡ eqb (place_or_0 h.code) 9 = o.code 8 (omega arith) s in
    let b : has_code LIPT (fields_of s l) ≡ eqb (place_or_0 h.code) 10 = o.code 9 (omega arith) s in
    let c : has_code ARCP (fields_of s l) ≡ eqb (place_or_0 h.code) 11 = o.code 10 (omega arith) s in
    let d : has_code ELIN (fields_of s l) ≡ eqb (place_or_0 h.code) 12 = o.code 11 (omega arith) s in
    rw (a, b, c, d) (indexed h.code)

more_one : (fs : List Field) → more_than 1 fs ≡ more_than 0 (drop 1 fs)
more_one [] = refl
more_one (f ∷ fs) = behind_more (f ∷ fs) 0 (omega arith)

-- ## The record of the line attribute under way

module _ (m : Model) (b rows : List ℕ) (n used points : ℕ) (u : OpenLine) (h : LineHolds m b rows n used points u) where
  record_here : AttributeNext m b u.at h.attributes.topics h.attributes.tables
  record_here = attribute_here m b u.at _ _ h.attributes.standing h.kind

  pub next_here : AttributesHere m b (next_at b u.at)
  next_here = record { topics = _; tables = _; standing = record_here.next }

  -- it has one pair
  next_size : 2 * length (pairs_at b u.at) ≡ 2 + 2 * length (pairs_at b (next_at b u.at))
  unfolding pairs_of pairs_of_type attribute_of model.type_of choose
  next_size = rw (record_here.attributes, h.line) (omega arith)

  pub next_fits : u.cell + 2 + 2 * length (pairs_at b (next_at b u.at)) ≤ used
  next_fits = omega (arith, next_size, h.fits)

  -- the same, whatever the rows, and where points were added
  without_rows : LineHolds m b [] 0 used points u
  without_rows = record { table = h.table; attributes = h.attributes; kind = h.kind; line = h.line; behind_rows = λ o l. absurd (omega arith); fits = h.fits; first = h.first }

  -- the attribute of its record
  module _ (a : LineAttribute) (d : RecordLine b u.at a) where
    lines_here : lines_at b u.at u.cell ≡ record { cell = u.cell; optional = a.optional; forms = a.forms; components = components_of a.components } ∷ lines_at b (next_at b u.at) (u.cell + 2)
    unfolding pairs_of pairs_of_type line_attributes
    lines_here = rw (record_here.attributes, d.type, sym d.optional)

    pub due_way : due_of b (due.Line u) ≡ line_of (way_of b a u)
    unfolding due_of open_line_of
    due_way = rw lines_here

-- ## What a code alone makes of it

module _ (m : Model) (rooms : Rooms) (text : List ℕ) (w : meaning.Underway) (fs : List Field) (c : Content) where
  pub mandatory : w.attribute.optional ≡ false → no 12 1 ≡ attribute_line m rooms text w fs c undefined_line
  unfolding attribute_line refuse
  mandatory e = rw e

  module _ (rest : List ℕ) (start : ℕ) (d : drop 1 fs ≡ fields_of start rest) (bare_rest : Bool) (x : bare_rest ≡ not (more_than 0 (fields_of start rest))) where
    more : bare_rest ≡ false → more_than 1 fs ≡ true
    more e = more_one fs ∙ rw d (not-false _ (sym x ∙ e))

    none : bare_rest ≡ true → more_than 1 fs ≡ false
    none e = more_one fs ∙ rw d (not-true _ (sym x ∙ e))

    pub undefined_extra : w.attribute.optional ≡ true → bare_rest ≡ false → no 11 2 ≡ attribute_line m rooms text w fs c undefined_line
    unfolding attribute_line bare refuse
    undefined_extra o e = rw (o, more e)

    pub undefined_next : w.attribute.optional ≡ true → bare_rest ≡ true → go (due_lines w.table w.first w.others) c ≡ attribute_line m rooms text w fs c undefined_line
    unfolding attribute_line bare refuse
    undefined_next o e = rw (o, none e)

    pub ended_extra : bare_rest ≡ false → no 11 2 ≡ attribute_line m rooms text w fs c ended
    unfolding attribute_line bare refuse
    ended_extra e = rw (more e)

    pub ended_next : bare_rest ≡ true → go (due_lines w.table (point_count c) w.others) (with_line w c) ≡ attribute_line m rooms text w fs c ended
    unfolding attribute_line bare refuse
    ended_next e = rw (none e)

-- ## The state behind it

-- behind an undefined line
pub behind_same : (b : List ℕ) (a : LineAttribute) (u : OpenLine) (s r : State) → BehindLine b u s u.first r → (meant : Content → Step) (cells points : List ℤ)
    → ((c : Content) → go (due_lines u.table u.first (way_of b a u).others) c ≡ meant c) → LineDoes b u s meant cells points cells points (Ok r)
behind_same b a u s r h meant cells points e = record {
  step = λ k marks rows. rw (h.due, h.rows, h.cells, h.points) (e (content_of k s marks rows cells points));
  holds = λ text seed marks rows index l held. record {
    due = rw (h.rows, h.cells, h.points) (h.holds rows s.rows l.first l);
    objects = rw (h.rows, h.cells) held.objects;
    laid = rw (h.rows, h.cells) held.laid;
    points_fit = rw h.points held.points_fit;
    marks_fit = held.marks_fit;
  };
}

-- ## A line's pair

-- the count of points
pub point_count_lem : (points : List ℤ) (n : ℕ) → 4 * n ≤ length points → length (take (4 * n) points) / 4 ≡ n
point_count_lem points n h = rw (length-take-le (4 * n) points h) (omega arith)

-- a pair among the cells that count
pair_taken : (cells : List ℤ) (used x : ℕ) (v w : ℤ) → x + 1 < used → take used (set (set cells x v) (x + 1) w) ≡ set (set (take used cells) x v) (x + 1) w
pair_taken cells used x v w h = take-set-lt used (set cells x v) (x + 1) w h ∙ ap (λ (l : List ℤ). set l (x + 1) w) (take-set-lt used cells x v (omega arith))

-- the rows stay laid where a pair behind their first cells changes
laid_pair : (m : Model) (n used : ℕ) (rows : List ℕ) (cells : List ℤ) (x : ℕ) (v w : ℤ) → ((o : ℕ) → o < n → get_or rows o 0 + 2 < x) → RowsLaidOut m n used rows cells → RowsLaidOut m n used rows (set (set cells x v) (x + 1) w)
laid_pair m n used rows cells x v w behind d = record {
  table = λ o l. rw (same o l) (d.table o l);
  ends = λ o l. rw (same o l) (d.ends o l);
  apart = λ o p l g. rw (same o (omega arith)) (d.apart o p l g);
}
  where
    same : (o : ℕ) → o < n → get_or (set (set cells x v) (x + 1) w) (get_or rows o 0) (pos 0) ≡ get_or cells (get_or rows o 0) (pos 0)
    same o l =
        get_or-set_other (set cells x v) (x + 1) (get_or rows o 0) w (pos 0) (λ q. omega (arith, behind o l))
        ∙ get_or-set_other cells x (get_or rows o 0) v (pos 0) (λ q. omega (arith, behind o l))

-- behind the end of a line
pub behind_pair_lem : (b : List ℕ) (a : LineAttribute) (u : OpenLine) (s r : State) → BehindLine b u s s.points r → (meant : Content → Step) (cells points : List ℤ) → u.cell + 1 < s.cells → 4 * s.points ≤ length points
    → ((c : Content) → go (due_lines u.table (point_count c) (way_of b a u).others) (with_line (way_of b a u) c) ≡ meant c)
    → LineDoes b u s meant cells points (set (set cells u.cell (pos (1 + (s.points - u.first)))) (u.cell + 1) (pos u.first)) points (Ok r)
unfolding with_line
behind_pair_lem b a u s r h meant cells points inside fits e = record {
  step = λ k marks rows.
      let p = point_count_lem points s.points fits in
      let q = pair_taken cells s.cells u.cell (pos (1 + (s.points - u.first))) (pos u.first) inside in
      rw (h.due, h.rows, h.cells, h.points, q) (rw p at (e (content_of k s marks rows cells points)));
  holds = λ text seed marks rows index l held. record {
    due = rw (h.rows, h.cells, h.points) (h.holds rows s.rows (omega arith) l);
    objects =
        rw (h.rows, h.cells)
        (held_pair seed text s.rows s.cells rows cells index held.objects u.cell _ _ (beside_behind rows s.rows u.cell l.behind_rows) (beside_behind rows s.rows (u.cell + 1) (λ o q. omega (arith, l.behind_rows o q))));
    laid = rw (h.rows, h.cells) (laid_pair (model_at b) s.rows s.cells rows cells u.cell _ _ l.behind_rows held.laid);
    points_fit = rw h.points held.points_fit;
    marks_fit = held.marks_fit;
  };
}

-- ## A refusal

pub refused_here : (b : List ℕ) (u : OpenLine) (s : State) (meant : Content → Step) (cells points : List ℤ) (r : Refusal) → ((c : Content) → no (number_of r.reason) r.field ≡ meant c) → LineDoes b u s meant cells points cells points (Err r)
refused_here b u s meant cells points r e = record { step = λ k marks rows. e (content_of k s marks rows cells points); holds = λ text seed marks rows index l held. tt }

-- ## A line by its move

pub unexpected_line : (m : Model) (rooms : Rooms) (text : List ℕ) (w : meaning.Underway) (fs : List Field) (c : Content) → no 7 1 ≡ attribute_line m rooms text w fs c meaning.unexpected
unfolding attribute_line
unexpected_line m rooms text w fs c = refl

pub by_move : (b : List ℕ) (u : OpenLine) (s : State) (m : Model) (rooms : Rooms) (text : List ℕ) (w : meaning.Underway) (fs : List Field) (cells points cells' points' : List ℤ) (move move' : meaning.Move) → move ≡ move'
    → (r : Result State Refusal) → LineDoes b u s (λ c. attribute_line m rooms text w fs c move) cells points cells' points' r → LineDoes b u s (λ c. attribute_line m rooms text w fs c move') cells points cells' points' r
by_move b u s m rooms text w fs cells points cells' points' move move' e r d = subst (λ (x : meaning.Move). LineDoes b u s (λ c. attribute_line m rooms text w fs c x) cells points cells' points' r) e d

-- a line of what is due is a line of the line attribute under way
pub due_line : (b : List ℕ) (a : LineAttribute) (u : OpenLine) (s : State) → LineHolds (model_at b) b [] 0 s.cells s.points u → RecordLine b u.at a
    → (rooms : Rooms) (text l : List ℕ) (fs : List Field) (cells points cells' points' : List ℤ) (r : Result State Refusal)
    → LineDoes b u s (λ c. attribute_line (model_at b) rooms text (way_of b a u) fs c (meaning.move (line_state_of u.state) (meaning.line_code_of fs))) cells points cells' points' r
    → LineDoes b u s (λ c. line_due (model_at b) rooms text (due_of b (due.Line u)) l fs c) cells points cells' points' r
unfolding line_due
due_line b a u s h d rooms text l fs cells points cells' points' r x = subst (λ (y : meaning.Due). LineDoes b u s (λ c. line_due (model_at b) rooms text y l fs c) cells points cells' points' r) (sym (due_way (model_at b) b [] 0 s.cells s.points u h a d)) x

-- ## What a caller has

-- between two lines a line attribute is under way
pub line_held : (b text : List ℕ) (seed : ℕ) (s : State) (marks rows : List ℕ) (cells points : List ℤ) (index : List ℕ) (u : OpenLine) → s.due ≡ due.Line u → Holds (model_at b) b text seed s marks rows cells points index
    → LineHolds (model_at b) b rows s.rows s.cells s.points u
line_held b text seed s marks rows cells points index u e h = rw e at h.due

pub given : (b text : List ℕ) (seed : ℕ) (s : State) (marks rows : List ℕ) (cells points : List ℤ) (index : List ℕ) (u : OpenLine) (undefined : ℕ) → s.due ≡ due.Line u → (model_at b).undefined ≡ undefined → Holds (model_at b) b text seed s marks rows cells points index
    → LineGiven b undefined u s cells points
given b text seed s marks rows cells points index u undefined e f h = record {
  line = without_rows (model_at b) b rows s.rows s.cells s.points u (line_held b text seed s marks rows cells points index u e h);
  cells_fit = h.objects.cells_in;
  points_fit = h.points_fit;
  undefined_byte = f;
}
