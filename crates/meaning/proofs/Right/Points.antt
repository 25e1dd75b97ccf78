-- Lines of a line attribute that are right are read. Assumes nothing.
use Prim.Native.Nat.{ℕ, ◌+◌, ◌*◌, ◌≤◌}
use native.Mathlib.Omega.{arith}
use mathlib.Core.Path.{◌≡◌, refl, ap, ◌∙◌}
use mathlib.Core.Bool.{true, false}
use mathlib.Core.List.{List, [], ◌∷◌, ◌++◌, append_assoc, append-nil}
use lib.IntN.{ℤ}
use lib.ListN.{length, length-append}
use borrow.Author.Tests.{le-ltb, ne_eqb}
use Rattle.meaning.specs.Bytes.{choose, refuse, same}
use Rattle.meaning.specs.Model.{Component, Model}
use Rattle.meaning.specs.Field.{Field, fields_of, has_code, STPT, LIPT, ARCP, ELIN}
use Rattle.meaning.specs.Row.{cells, put_number, component_values, point_cells}
use Rattle.meaning.specs.Reading.{LineState, unstarted, started, in_arc, reached, LineCode, stpt, lipt, arcp, elin, line_code_of, point, move, is_in_arc, is_forbidden, LineAttribute, Underway, Due, line_of, due_lines, Content, with_point, point_count, with_line, Rooms}
use Rattle.meaning.specs.Lines.{go, bare, store_point, attribute_line, line_due}
use Rattle.meaning.specs.Right.{Point, Line, Coded, Alone, PointLine, Values, none, one, Segment, straight, arc, Segments, last, more, Drawn, drawn, cells_of_points}
use Rattle.meaning.proofs.Right.Steps.{step_at, steps, step_on, steps_on}
use Rattle.meaning.proofs.Right.Content.{points_length, points_append}

-- ## Codes

pub coded_fields : (code : List ℕ) (l : Line) (fs : List Field) → (h : Coded code l fs) → fields_of l.start l.bytes ≡ record { start = h.first.start; bytes = code } ∷ fs
coded_fields code l fs h = h.fields ∙ ap (λ (b : List ℕ). record { start = h.first.start; bytes = b } ∷ fs) h.reads

pub stpt_code : (l : Line) (fs : List Field) → Coded STPT l fs → line_code_of (fields_of l.start l.bytes) ≡ stpt
unfolding line_code_of has_code same choose
stpt_code l fs h = rw (coded_fields STPT l fs h)

pub lipt_code : (l : Line) (fs : List Field) → Coded LIPT l fs → line_code_of (fields_of l.start l.bytes) ≡ lipt
unfolding line_code_of has_code same choose
lipt_code l fs h = rw (coded_fields LIPT l fs h)

pub arcp_code : (l : Line) (fs : List Field) → Coded ARCP l fs → line_code_of (fields_of l.start l.bytes) ≡ arcp
unfolding line_code_of has_code same choose
arcp_code l fs h = rw (coded_fields ARCP l fs h)

pub elin_code : (l : Line) (fs : List Field) → Coded ELIN l fs → line_code_of (fields_of l.start l.bytes) ≡ elin
unfolding line_code_of has_code same choose
elin_code l fs h = rw (coded_fields ELIN l fs h)

-- ## Values

pub values_cells : {u : ℕ} {ks : List Component} {fs : List Field} {vs : List ℤ} → Values u ks fs vs → (place : ℕ) → component_values u place ks fs ≡ cells vs
unfolding component_values refuse put_number
values_cells none place = refl
values_cells (one d n v) place = rw (d.one, d.two, n, values_cells v (place + 1))

-- ## Points

abbrev pub with_points : List Point → Content → Content
with_points ps c = record { marks = c.marks; rows = c.rows; cells = c.cells; points = c.points ++ cells_of_points ps }

pub one_point : (kind : ℕ) (vs : List ℤ) (c : Content) → with_point (point_cells kind vs) c ≡ with_points (record { kind = kind; values = vs } ∷ []) c
unfolding cells_of_points
one_point kind vs c = rw (append-nil (point_cells kind vs))

-- points behind points
pub points_on : (ps qs : List Point) (c : Content) → with_points qs (with_points ps c) ≡ with_points (ps ++ qs) c
points_on ps qs c = rw (points_append ps qs, append_assoc c.points (cells_of_points ps) (cells_of_points qs))

-- a line state in which a segment may begin
record Open (state : LineState) : Type 0 where
  to_straight : move state lipt ≡ point 1 reached
  to_arc : move state arcp ≡ point 2 in_arc
  out : is_in_arc state ≡ false

open_started : Open started
unfolding move is_in_arc
open_started = record { to_straight = refl; to_arc = refl; out = refl }

open_reached : Open reached
unfolding move is_in_arc
open_reached = record { to_straight = refl; to_arc = refl; out = refl }

module _ (m : Model) (rooms : Rooms) (text : List ℕ) (t k : ℕ) (a : LineAttribute) (rest : List LineAttribute) where
  abbrev pub under : LineState → Underway
  under state = record { table = t; state = state; first = k; attribute = a; others = rest }

  point_step : (l : Line) (fs : List Field) (code : List ℕ) (of : LineCode) (kind : ℕ) (state next : LineState) (vs : List ℤ) (c : Content) → Coded code l fs → line_code_of (fields_of l.start l.bytes) ≡ of
      → move state of ≡ point kind next → is_forbidden a.forms state of ≡ false → Values m.undefined a.components fs vs → length c.points + 4 ≤ rooms.points
      → step_at m rooms text (line_of (under state)) c l ≡ go (line_of (under next)) (with_point (point_cells kind vs) c)
  unfolding line_due attribute_line refuse store_point
  point_step l fs code of kind state next vs c h e moves form values room =
      rw (e, moves, e, form, h.fields, values_cells values 2, le-ltb rooms.points (length c.points + 4) room)

  point_line_lem : (l : Line) (code : List ℕ) (of : LineCode) (kind : ℕ) (state next : LineState) (vs : List ℤ) (c : Content) → (h : PointLine m.undefined a.components code l vs)
      → line_code_of (fields_of l.start l.bytes) ≡ of → move state of ≡ point kind next → is_forbidden a.forms state of ≡ false → length c.points + 4 ≤ rooms.points
      → steps m rooms text (line_of (under state)) c (l ∷ []) ≡ go (line_of (under next)) (with_points (record { kind = kind; values = vs } ∷ []) c)
  unfolding steps
  point_line_lem l code of kind state next vs c h e moves form room =
      step_on m rooms text _ (line_of (under next)) c (with_point (point_cells kind vs) c) l [] _ (point_step l h.others code of kind state next vs c h.coded e moves form h.values room)
      (ap (λ (x : Content). go (line_of (under next)) x) (one_point kind vs c))

  more_points : (ls ks : List Line) (ps qs : List Point) (due d e : Due) (c : Content) → steps m rooms text due c ls ≡ go d (with_points ps c)
      → steps m rooms text d (with_points ps c) ks ≡ go e (with_points qs (with_points ps c)) → steps m rooms text due c (ls ++ ks) ≡ go e (with_points (ps ++ qs) c)
  more_points ls ks ps qs due d e c h i = steps_on m rooms text ls due d c (with_points ps c) ks _ h (i ∙ ap (λ (x : Content). go e x) (points_on ps qs c))

  room_behind : (ps : List Point) (c : Content) (n : ℕ) → length c.points + 4 * (length ps + n) ≤ rooms.points → length (with_points ps c).points + 4 * n ≤ rooms.points
  room_behind ps c n h = omega (arith, length-append c.points (cells_of_points ps), points_length ps)

  straight_form : (state : LineState) → Open state → (a.forms ≡ 2 → ⊥) → is_forbidden a.forms state lipt ≡ false
  unfolding is_forbidden
  straight_form state o h = rw (o.out, ne_eqb a.forms 2 h)

  arc_form : (state : LineState) → (a.forms ≡ 1 → ⊥) → is_forbidden a.forms state arcp ≡ false
  unfolding is_forbidden
  arc_form state h = ne_eqb a.forms 1 h

  segment_run : {ls : List Line} {ps : List Point} → Segment m.undefined a.forms a.components ls ps → (state : LineState) → Open state → (c : Content) → length c.points + 4 * length ps ≤ rooms.points
      → steps m rooms text (line_of (under state)) c ls ≡ go (line_of (under reached)) (with_points ps c)
  unfolding move is_forbidden is_in_arc
  segment_run (straight {l = l} {vs = vs} form p) state o c room =
      point_line_lem l LIPT lipt 1 state reached vs c p (lipt_code l p.others p.coded) o.to_straight (straight_form state o form) room
  segment_run (arc {a = x} {l = l} {vs = vs} {ws = ws} form p q) state o c room =
      more_points (x ∷ []) (l ∷ []) (record { kind = 2; values = vs } ∷ []) (record { kind = 1; values = ws } ∷ []) _ (line_of (under in_arc)) _ c
      (point_line_lem x ARCP arcp 2 state in_arc vs c p (arcp_code x p.others p.coded) o.to_arc (arc_form state form) (omega arith))
      (point_line_lem l LIPT lipt 1 in_arc reached ws (with_points (record { kind = 2; values = vs } ∷ []) c) q (lipt_code l q.others q.coded) refl refl
      (room_behind (record { kind = 2; values = vs } ∷ []) c 1 room))

  segments_run : {ls : List Line} {ps : List Point} → Segments m.undefined a.forms a.components ls ps → (state : LineState) → Open state → (c : Content)
      → length c.points + 4 * length ps ≤ rooms.points → steps m rooms text (line_of (under state)) c ls ≡ go (line_of (under reached)) (with_points ps c)
  segments_run (last s) state o c room = segment_run s state o c room
  segments_run (more {ls = ls} {others = others} {ps = ps} {qs = qs} s r) state o c room =
      let z : length c.points + 4 * (length ps + length qs) ≤ rooms.points = omega (arith, length-append ps qs) in
      more_points ls others ps qs _ (line_of (under reached)) _ c (segment_run s state o c (omega arith)) (segments_run r reached open_reached (with_points ps c) (room_behind ps c (length qs) z))

  pub end_step : (e : Line) (c : Content) → Alone ELIN e → step_at m rooms text (line_of (under reached)) c e ≡ go (due_lines t (point_count c) rest) (with_line (under reached) c)
  unfolding line_due attribute_line refuse move bare
  end_step e c h = rw (elin_code e [] h, h.fields)

  pub undrawn_step : (e : Line) (c : Content) → Alone ELIN e → a.optional ≡ true → step_at m rooms text (line_of (under unstarted)) c e ≡ go (due_lines t k rest) c
  unfolding line_due attribute_line refuse move bare
  undrawn_step e c h o = rw (elin_code e [] h, h.fields, o)

  pub drawn_run : {ls : List Line} {ps : List Point} → Drawn m.undefined a.forms a.components ls ps → (c : Content) → length c.points + 4 * length ps ≤ rooms.points
      → steps m rooms text (line_of (under unstarted)) c ls ≡ go (due_lines t (point_count (with_points ps c)) rest) (with_line (under reached) (with_points ps c))
  unfolding steps move is_forbidden
  drawn_run (drawn {l = l} {e = e} {ls = ls} {vs = vs} {ps = ps} p s end) c room =
      let first : Point = record { kind = 0; values = vs } in
      let whole : steps m rooms text (line_of (under unstarted)) c ((l ∷ []) ++ ls) ≡ go (line_of (under reached)) (with_points ((first ∷ []) ++ ps) c) =
      more_points (l ∷ []) ls (first ∷ []) ps _ (line_of (under started)) _ c (point_line_lem l STPT stpt 0 unstarted started vs c p (stpt_code l p.others p.coded) refl refl (omega arith))
      (segments_run s started open_started (with_points (first ∷ []) c) (room_behind (first ∷ []) c (length ps) (omega arith))) in
      steps_on m rooms text (l ∷ ls) _ (line_of (under reached)) c (with_points (first ∷ ps) c) (e ∷ []) _ whole
      (step_on m rooms text _ _ _ _ e [] _ (end_step e (with_points (first ∷ ps) c) end) refl)
