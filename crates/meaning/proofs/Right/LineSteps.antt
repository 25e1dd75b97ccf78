-- What reading does at a place: in the lines of a line attribute and at an OBJE line, before the fields are judged. Assumes nothing.
use Prim.Native.Nat.{ℕ}
use native.Mathlib.Omega.{arith}
use mathlib.Core.Path.{◌≡◌, refl, ap, ◌∙◌}
use mathlib.Core.Bool.{Bool, true, false}
use mathlib.Core.List.{List, ◌∷◌}
use lib.ListN.{length}
use borrow.Author.Tests.{ne_eqb, lt-ltb}
use Rattle.meaning.specs.Bytes.{choose, refuse, same}
use Rattle.meaning.specs.Model.{Component, Model}
use Rattle.meaning.specs.Field.{Field, fields_of, has_code, OBJE}
use Rattle.meaning.specs.Row.{Pair, pair_cells, component_values}
use Rattle.meaning.specs.Reading.{LineState, started, in_arc, reached, LineCode, stpt, lipt, arcp, line_code_of, point, move, is_in_arc, is_forbidden, line_attributes, Underway, Due, object_of, line_of, Content, Rooms, objects_of, is_used}
use Rattle.meaning.specs.Lines.{store_row, object_fields, object_line, store_point, attribute_line, line_due}
use Rattle.meaning.specs.Right.{Line, Coded, Identification}
use Rattle.meaning.specs.Reasons.{Place, line_in, behind_start, behind_point, Pointed, straight, arc, arc_end, pairs_in}
use Rattle.meaning.specs.Reasons as reasons
use Rattle.meaning.proofs.Tests.Refuse.{no_true}
use Rattle.meaning.proofs.Right.Steps.{step_at}
use Rattle.meaning.proofs.Right.Places.{At, at_line}
use Rattle.meaning.proofs.Right.Points.{coded_fields, stpt_code, lipt_code, arcp_code}
use Rattle.meaning.proofs.Right.BackLines.{coded_by}

-- ## Codes

-- a line that has not this code
pub no_code : (code : List ℕ) (l : Line) → ((fs : List Field) → Coded code l fs → ⊥) → has_code code (fields_of l.start l.bytes) ≡ false
no_code code l h = no_true _ (λ e. let r = coded_by code l _ refl e in h r.others r.coded)

-- ## In the lines of a line attribute

-- what is under way in the lines of a line attribute
abbrev pub underway : (t : ℕ) → LineState → (first pair : ℕ) (optional : Bool) (forms : ℕ) → List Component → (cell : ℕ) → List Pair → Underway
underway t s first pair o forms cs cell ps = record {
  table = t;
  state = s;
  first = first;
  attribute = record { cell = pair; optional = o; forms = forms; components = cs };
  others = line_attributes cell ps;
}

pub record AtLine (t : ℕ) (s : LineState) (o : Bool) (forms : ℕ) (cs : List Component) (ps : List Pair) (due : Due) : Type 0 where
  pub first : ℕ
  pub pair : ℕ
  pub cell : ℕ
  pub is : due ≡ line_of (underway t s first pair o forms cs cell ps)

pub at_line_lem : {due : Due} {t : ℕ} {s : LineState} {o : Bool} {forms : ℕ} {cs : List Component} {ps : List Pair} → At due (line_in t s o forms cs ps) → AtLine t s o forms cs ps due
at_line_lem (at_line w cell ps e) =
    record {
      first = w.first;
      pair = w.attribute.cell;
      cell = cell;
      is = ap (λ (x : List _). line_of (record { table = w.table; state = w.state; first = w.first; attribute = w.attribute; others = x })) e;
    }

module _ (m : Model) (rooms : Rooms) (own : List ℕ) (l : Line) (c : Content) where
  -- the step of a point's line that leads to a place, before its values are judged
  pub record PointStep (due : Due) (y : Place) (cs : List Component) (fs : List Field) : Type 0 where
    pub kind : ℕ
    pub under : Underway
    pub at : At (line_of under) y
    pub step : step_at m rooms own due c l ≡ store_point m rooms own kind under c (component_values m.undefined 2 cs fs)

  point_at : {due : Due} {t forms : ℕ} {s : LineState} {o : Bool} {cs : List Component} {ps : List Pair} {code : List ℕ} {fs : List Field} → At due (line_in t s o forms cs ps)
      → (of : LineCode) (kind : ℕ) (next : LineState) → Coded code l fs → line_code_of (fields_of l.start l.bytes) ≡ of → move s of ≡ point kind next → is_forbidden forms s of ≡ false
      → PointStep due (line_in t next o forms cs ps) cs fs
  unfolding line_due attribute_line refuse
  point_at {t = t} {forms = forms} {o = o} {cs = cs} {ps = ps} at of kind next h e moves form =
      let a = at_line_lem at in
      let w : Underway = underway t next a.first a.pair o forms cs a.cell ps in
      record { kind = kind; under = w; at = at_line w a.cell ps refl; step = ap (λ (d : Due). step_at m rooms own d c l) a.is ∙ rw (e, moves, e, form, h.fields) }

  pub pointed_step : {due : Due} {x y : Place} {code : List ℕ} {cs : List Component} {fs : List Field} → Pointed x code cs y → At due x → Coded code l fs → PointStep due y cs fs
  unfolding move is_forbidden is_in_arc
  pointed_step reasons.Pointed.stpt at h = point_at at stpt 0 started h (stpt_code l _ h) refl refl
  pointed_step (straight {forms = forms} behind_start f) at h = point_at at lipt 1 reached h (lipt_code l _ h) refl (ne_eqb forms 2 f)
  pointed_step (straight {forms = forms} behind_point f) at h = point_at at lipt 1 reached h (lipt_code l _ h) refl (ne_eqb forms 2 f)
  pointed_step (arc {forms = forms} behind_start f) at h = point_at at arcp 2 in_arc h (arcp_code l _ h) refl (ne_eqb forms 1 f)
  pointed_step (arc {forms = forms} behind_point f) at h = point_at at arcp 2 in_arc h (arcp_code l _ h) refl (ne_eqb forms 1 f)
  pointed_step arc_end at h = point_at at lipt 1 reached h (lipt_code l _ h) refl refl

  -- ## At an OBJE line

  -- the step of a new object, before its other fields are judged
  pub object_fields_lem : (t : ℕ) (i : Field) (fs : List Field) → Coded OBJE l (i ∷ fs) → Identification m.undefined i → is_used i.bytes (objects_of own c.cells c.rows) ≡ false
      → step_at m rooms own (object_of t) c l ≡ store_row m rooms own t i c (pair_cells m.undefined true 3 (pairs_in m t) fs)
  unfolding line_due object_line object_fields has_code same choose refuse
  object_fields_lem t i fs h d fresh = rw (coded_fields OBJE l (i ∷ fs) h, lt-ltb 1 (length (h.first ∷ (i ∷ fs))) (omega arith), d.defined.one, d.defined.two, d.shape, fresh)
