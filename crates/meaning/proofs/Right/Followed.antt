-- A line that may follow at a place goes on to the next place, or there is no room for what it adds. Assumes nothing.
use Prim.Native.Nat.{ℕ, ◌+◌, ◌*◌, ◌<◌}
use native.Mathlib.Omega.{arith}
use mathlib.Core.Path.{◌≡◌, refl, ap, subst, ◌∙◌}
use mathlib.Core.Bool.{Bool, true, false, ◌||◌, false≢true}
use mathlib.Core.List.{List, [], ◌∷◌}
use lib.Dec.{leb, ltb}
use lib.IntN.{ℤ, pos}
use lib.ListN.{length, length-append}
use borrow.Author.Tests.{lt-leb, le-ltb}
use Rattle.meaning.specs.Bytes.{refuse}
use Rattle.meaning.specs.Model.{Component, Model, table_at}
use Rattle.meaning.specs.Check.{GoodModel}
use Rattle.meaning.specs.Field.{Field, OBJE}
use Rattle.meaning.specs.Row.{cells, point_cells}
use Rattle.meaning.specs.Reading.{line_attributes, Underway, Due, description, transfer, model_name, topic_from, table_from, object_of, line_of, closing, nothing, due_lines, Content, with_row, with_point, point_count, Rooms}
use Rattle.meaning.specs.Lines.{go, store_row, store_point}
use Rattle.meaning.specs.Right.{Line, Coded, Alone, Identification, PointLine}
use Rattle.meaning.specs.Reasons.{Place, objects_in, behind_pair, Bare, Titled, Pointed, RightFields, Gain, object, point, Used, pairs_in, Follows, used_with, cells_with, points_with}
use Rattle.meaning.specs.Reasons as reasons
use Rattle.meaning.proofs.Tests.Refuse.{no_true}
use Rattle.meaning.proofs.Right.Steps.{step_at}
use Rattle.meaning.proofs.Right.Places.{At, at_start, at_description, at_transfer, at_model, at_topics, at_tables, at_objects, at_closing, at_nothing, UsedIn, marked, drawn, stored, pointed, Full, Goes, on, stops}
use Rattle.meaning.proofs.Reading.Buffers.{point_length}
use Rattle.meaning.proofs.Right.Points.{values_cells, end_step, undrawn_step}
use Rattle.meaning.proofs.Right.Names.{optional_passes}
use Rattle.meaning.proofs.Right.Topics.{etab_step, etop_step, tabl_step, topi_step, emod_step, ende_step, scnt_step, slashes_step, described_step, mtid_step, modl_step}
use Rattle.meaning.proofs.Right.StepNames.{used_before, used_length}
use Rattle.meaning.proofs.Right.StepLines.{at_lines}
use Rattle.meaning.proofs.Right.FieldReasons.{right_cells, cells_size}
use Rattle.meaning.proofs.Right.LineSteps.{at_line_lem, pointed_step, object_fields_lem}
use Rattle.meaning.proofs.Right.Reasoned.{topic_finds, table_finds}

-- an object's row
abbrev row_of : (t : ℕ) → Field → List ℤ → List ℤ
row_of t i xs = pos t ∷ pos i.start ∷ pos (length i.bytes) ∷ xs

module _ (m : Model) (rooms : Rooms) (own : List ℕ) (used : List (List ℕ)) (c : Content) (l : Line) where
  -- ## Lines that add nothing

  -- a line that leaves all but the marks
  goes_on : {x y : Place} (due d : Due) (n : List ℕ) → step_at m rooms own due c l ≡ go d (record { marks = n; rows = c.rows; cells = c.cells; points = c.points }) → At d y
      → Goes m rooms own used due c x l y reasons.Gain.nothing
  goes_on due d n e at = on d _ e at (marked refl refl refl)

  bare_goes : {due : Due} {x y : Place} {code : List ℕ} → Bare m x code y → At due x → Alone code l → Goes m rooms own used due c x l y reasons.Gain.nothing
  bare_goes reasons.Bare.scnt at_start h = goes_on _ description _ (scnt_step m rooms own l c h) at_description
  bare_goes (reasons.Bare.emod {p = p}) at_topics h = goes_on _ closing _ (emod_step m rooms own p l c h) at_closing
  bare_goes (reasons.Bare.etop {p = p} {from = from} o) at_tables h =
      goes_on _ (topic_from (p + 1)) _ (etop_step m rooms own p from l c h (optional_passes m p from (length m.tables) o)) at_topics
  bare_goes (reasons.Bare.etab {t = t}) at_objects h = goes_on _ (table_from (table_at m.tables t).topic (t + 1)) _ (etab_step m rooms own t l c h) at_tables
  bare_goes (reasons.Bare.elin {t = t} {ps = ps}) at h =
      let a = at_line_lem at in
      on (due_lines t (point_count c) (line_attributes a.cell ps)) _ (ap (λ (d : Due). step_at m rooms own d c l) a.is ∙ end_step m rooms own t a.first _ _ l c h) (at_lines t (point_count c) a.cell ps) (drawn _)
  bare_goes (reasons.Bare.undrawn {t = t} {ps = ps}) at h =
      let a = at_line_lem at in
      goes_on _ (due_lines t a.first (line_attributes a.cell ps)) _ (ap (λ (d : Due). step_at m rooms own d c l) a.is ∙ undrawn_step m rooms own t a.first _ _ l c h refl) (at_lines t a.first a.cell ps)
  bare_goes reasons.Bare.ende at_closing h = goes_on _ nothing _ (ende_step m rooms own l c h) at_nothing

  module _ (good : GoodModel m) where
    titled_goes : {due : Due} {x y : Place} {code name : List ℕ} → Titled m x code name y → At due x → (f : Field) → f.bytes ≡ name → Coded code l (f ∷ []) → Goes m rooms own used due c x l y reasons.Gain.nothing
    titled_goes reasons.Titled.mtid at_transfer f e h = goes_on _ model_name _ (mtid_step m rooms own l f c h e) at_model
    titled_goes reasons.Titled.modl at_model f e h = goes_on _ (topic_from 0) _ (modl_step m rooms own l f c h e) at_topics
    titled_goes (reasons.Titled.topi {from = from} {q = q} t) at_topics f e h = goes_on _ (table_from q 0) _ (topi_step m rooms own from q l f c h (rw e (topic_finds good t))) at_tables
    titled_goes (reasons.Titled.tabl {p = p} {from = from} {t = q} t o) at_tables f e h =
        goes_on _ (object_of q) _ (tabl_step m rooms own p from q l f c h (rw e (table_finds good t)) (optional_passes m p from q o)) at_objects

  -- ## Objects and points

  row_full : UsedIn own c used → (i : List ℕ) (n : ℕ) → (leb rooms.rows (length c.rows) || ltb rooms.cells (length c.cells + n)) ≡ true → Full rooms c used (object i n)
  unfolding used_with cells_with
  row_full uses i n e w =
      let rows : length c.rows < rooms.rows = omega (arith, w.for_rows, length-append used (i ∷ []), used_length own c used uses) in
      false≢true (rw (lt-leb rooms.rows (length c.rows) rows, le-ltb rooms.cells (length c.cells + n) w.for_cells) at e)

  point_full : ltb rooms.points (length c.points + 4) ≡ true → Full rooms c used point
  unfolding points_with
  point_full e w = false≢true (rw (le-ltb rooms.points (length c.points + 4) w.for_points) at e)

  -- a row of these cells is stored, or there is no room for it
  row_goes : (uses : UsedIn own c used) (t : ℕ) (i : Field) (xs : List ℤ) → step_at m rooms own (object_of t) c l ≡ store_row m rooms own t i c (cells xs)
      → Goes m rooms own used (object_of t) c (objects_in t) l (behind_pair t (pairs_in m t)) (object i.bytes (3 + length xs))
  unfolding store_row refuse
  row_goes uses t i xs step = by (leb rooms.rows (length c.rows) || ltb rooms.cells (length c.cells + length (row_of t i xs))) refl
    where
      by : (b : Bool) → (leb rooms.rows (length c.rows) || ltb rooms.cells (length c.cells + length (row_of t i xs))) ≡ b
          → Goes m rooms own used (object_of t) c (objects_in t) l (behind_pair t (pairs_in m t)) (object i.bytes (3 + length xs))
      by true e = let three : 3 + length xs ≡ length (row_of t i xs) = omega arith in stops (step ∙ rw e) (row_full uses i.bytes (3 + length xs) (rw three e))
      by false e =
          on (due_lines t (point_count c) (line_attributes (length c.cells + 3) (pairs_in m t))) (with_row (row_of t i xs) c) (step ∙ rw e) (at_lines t (point_count c) (length c.cells + 3) (pairs_in m t)) (stored t i xs)

  object_goes : (uses : UsedIn own c used) (t : ℕ) (i : Field) (fs : List Field) → Coded OBJE l (i ∷ fs) → Identification m.undefined i → (Used i.bytes used → ⊥)
      → RightFields m.undefined true (pairs_in m t) fs
      → Goes m rooms own used (object_of t) c (objects_in t) l (behind_pair t (pairs_in m t)) (object i.bytes (3 + 2 * length (pairs_in m t)))
  object_goes uses t i fs h d fresh r =
      let k = right_cells r 3 in
      let size = cells_size m.undefined (pairs_in m t) fs true 3 k.values k.is in
      let step = object_fields_lem m rooms own l c t i fs h d (no_true _ (λ e. fresh (used_before own c used uses i.bytes e))) ∙ ap (store_row m rooms own t i c) k.is in
      subst (λ (n : ℕ). Goes m rooms own used (object_of t) c (objects_in t) l (behind_pair t (pairs_in m t)) (object i.bytes (3 + n))) size (row_goes uses t i k.values step)

  -- a point is stored, or there is no room for it
  point_goes : {due : Due} {x y : Place} (kind : ℕ) (w : Underway) (vs : List ℤ) → step_at m rooms own due c l ≡ store_point m rooms own kind w c (cells vs) → At (line_of w) y → Goes m rooms own used due c x l y point
  unfolding store_point refuse
  point_goes {due} {x} {y} kind w vs step at = by (ltb rooms.points (length c.points + 4)) refl
    where
      by : (b : Bool) → ltb rooms.points (length c.points + 4) ≡ b → Goes m rooms own used due c x l y point
      by true e = stops (step ∙ rw e) (point_full e)
      by false e = on (line_of w) (with_point (point_cells kind vs) c) (step ∙ rw e) at (pointed (point_cells kind vs) (point_length kind vs))

  pointed_goes : {due : Due} {x y : Place} {code : List ℕ} {cs : List Component} {vs : List ℤ} → Pointed x code cs y → At due x → PointLine m.undefined cs code l vs → Goes m rooms own used due c x l y point
  pointed_goes {vs = vs} p at h =
      let s = pointed_step m rooms own l c p at h.coded in
      point_goes s.kind s.under vs (s.step ∙ ap (store_point m rooms own s.kind s.under c) (values_cells h.values 2)) s.at

  goes : {due : Due} {x y : Place} {g : Gain} → GoodModel m → UsedIn own c used → Follows m used x l y g → At due x → Goes m rooms own used due c x l y g
  goes good uses (reasons.Follows.bare b h) at = bare_goes b at h
  goes good uses (reasons.Follows.titled {f = f} t h) at = titled_goes good t at f refl h
  goes good uses (reasons.Follows.described e) at_description = goes_on _ description _ (described_step m rooms own l c e) at_description
  goes good uses (reasons.Follows.divided e h) at_description = goes_on _ transfer _ (slashes_step m rooms own l c e h) at_transfer
  goes good uses (reasons.Follows.obje {t = t} {i = i} {fs = fs} h d fresh r) at_objects = object_goes uses t i fs h d fresh r
  goes good uses (reasons.Follows.pointed p h) at = pointed_goes p at h

pub followed : (m : Model) (rooms : Rooms) (own : List ℕ) (used : List (List ℕ)) (due : Due) (c : Content) (x : Place) (l : Line) → GoodModel m → At due x → UsedIn own c used → (y : Place) (g : Gain) → Follows m used x l y g
    → Goes m rooms own used due c x l y g
followed m rooms own used due c x l good at uses y g f = goes m rooms own used c l good uses f at
