-- One line by what is due: the state behind it, its mark, and what a good model bounds. Assumes nothing.
use Prim.Native.Nat.{ℕ, ◌+◌, ◌-◌, ◌*◌, ◌≤◌, ◌<◌}
use mathlib.Core.Path.{◌≡◌, refl, sym, ap, subst, ◌∙◌}
use mathlib.Core.List.{List}
use native.Mathlib.Omega.{arith}
use lib.Dec.{eqb}
use lib.IntN.{ℤ}
use lib.ListN.{length, take, drop, length-set, length-drop}
use lib.Seq.{take_all, take-length, length-take-le}
use borrow.Author.Tests.{eq-eqb, ne_eqb, ltb-false}
use Rattle.meaning.specs.Bytes.{choose}
use Rattle.meaning.specs.Model as model
use Rattle.meaning.specs.Check.{good, bad, check_model}
use Rattle.meaning.specs.Field.{Field, fields_of, has_code, OBJE}
use Rattle.meaning.specs.Reading.{Content, Rooms, rooms_of, stretch}
use Rattle.meaning.specs.Lines as lines
use Rattle.meaning.specs.Lines.{line_due, object_line, object_fields, behind_objects}
use Rattle.meaning.proofs.Tests.Refuse.{passed}
use Rattle.model_records.specs.Records.{model_at}
use Rattle.model_records.specs.Places.{RecordsPlaced, attributes_place}
use Rattle.model_records.specs.declared.places.Shape.{Shape}
use Rattle.model_records.specs.declared.places.Places.{Places}
use Rattle.read_state.specs.declared.Due.{Due}
use Rattle.read_state.specs.declared.Due.TheVariants.{Frame, Object, Line}
use Rattle.read_state.specs.declared.FrameDue.{FrameDue}
use Rattle.read_state.specs.declared.FrameDue.TheVariants as frame
use Rattle.base.specs.declared.reasons.Refusal.{Refusal}
use Rattle.std.proofs.Common.{Result, Ok}
use Rattle.read_state.specs.declared.State.{State}
use Rattle.read_state.specs.declared.OpenLine.{OpenLine}
use Rattle.read_frame.specs.Codes.{place_or_0}
use Rattle.read_state.specs.Meaning.{frame_due_of, due_of, topic_marked_by, marked_by, next_due_of, marked_of, content_of, step_of}
use Rattle.read_state.specs.Holds.{Holds}
use Rattle.read_frame.specs.Heads.{HeadOf}
use Rattle.read_frame.specs.Moves.{NextDueHolds}
use Rattle.read_frame.specs.declared.codes.Head.{Head}
use Rattle.read_polylines.specs.Ways.{StepHolds, LineDoes}
use Rattle.read_polylines.proofs.Ways.{line_held}
use Rattle.read_objects.specs.Rows.{RowAdds}
use Rattle.read_objects.specs.Tables.{TableHolds}
use Rattle.read_step.specs.Steps.{topic_marks_by, marks_by, Steps, line_meant}

-- ## The state behind a line that adds no row, cell or point

abbrev pub due_next : Due → State → State
due_next due s = record { due = due; rows = s.rows; cells = s.cells; points = s.points }

pub moved_to : (b : List ℕ) (moved : Result Due Refusal) (due : Due) (c : Content) → moved ≡ Ok due → lines.go (due_of b due) c ≡ next_due_of b moved c
moved_to b moved due c e = sym (ap (λ (x : Result Due Refusal). next_due_of b x c) e)

-- what holds stays, with so many marks as before
pub next_holds : (b text : List ℕ) (seed : ℕ) (s : State) (moved : Result Due Refusal) (due : Due) (marks marks' rows : List ℕ) (cells points : List ℤ) (index : List ℕ) → moved ≡ Ok due → length marks' ≡ length marks
    → NextDueHolds (model_at b) b moved → Holds (model_at b) b text seed s marks rows cells points index → Holds (model_at b) b text seed (due_next due s) marks' rows cells points index
next_holds b text seed s moved due marks marks' rows cells points index e n d h = record {
  due = subst (NextDueHolds (model_at b) b) e d rows s.rows s.cells s.points;
  objects = h.objects;
  laid = h.laid;
  points_fit = h.points_fit;
  marks_fit = omega (arith, h.marks_fit);
}

-- ## Marks

-- only the marks change, and their count stays
abbrev Marks : (Content → Content) → (List ℕ → List ℕ) → Type 0
Marks marked by =
    ((c : Content) → record { marks = by c.marks; rows = c.rows; cells = c.cells; points = c.points } ≡ marked c)
    × ((marks : List ℕ) → length (by marks) ≡ length marks)

topic_marks : (due : FrameDue) → Marks (topic_marked_by due) (topic_marks_by due)
unfolding topic_marked_by
topic_marks frame.Opening = ((λ c. refl), (λ marks. refl))
topic_marks frame.Description = ((λ c. refl), (λ marks. refl))
topic_marks frame.Transfer = ((λ c. refl), (λ marks. refl))
topic_marks frame.ModelName = ((λ c. refl), (λ marks. refl))
topic_marks (frame.Topic from) = ((λ c. refl), (λ marks. refl))
topic_marks (frame.Table topic from) = ((λ c. refl), (λ marks. length-set marks topic 1))
topic_marks frame.Closing = ((λ c. refl), (λ marks. refl))
topic_marks frame.Nothing = ((λ c. refl), (λ marks. refl))

due_marks : (topics : ℕ) (due : Due) → Marks (marked_by topics due) (marks_by topics due)
unfolding marked_by
due_marks topics (Frame due) = topic_marks due
due_marks topics (Object table) = ((λ c. refl), (λ marks. length-set marks (topics + table) 1))
due_marks topics (Line u) = ((λ c. refl), (λ marks. refl))

module _ (topics : ℕ) (due : Due) (marks marks' : List ℕ) (e : marks' ≡ marks_by topics due marks) where
  pub marks_kept : length marks' ≡ length marks
  marks_kept = ap length e ∙ (due_marks topics due).1 marks

  all_marks : take (length marks) marks' ≡ marks_by topics due (take (length marks) marks)
  all_marks = take_all (length marks) marks' (omega (arith, marks_kept)) ∙ e ∙ ap (marks_by topics due) (sym (take-length marks))

  marked_taken : (s : State) (rows : List ℕ) (cells points : List ℤ) → content_of (length marks) s marks' rows cells points ≡ marked_by topics due (content_of (length marks) s marks rows cells points)
  marked_taken s rows cells points =
      ap (λ (x : List ℕ). record { marks = x; rows = take s.rows rows; cells = take s.cells cells; points = take (4 * s.points) points }) all_marks
      ∙ (due_marks topics due).0 (content_of (length marks) s marks rows cells points)

  pub marked_to : (b : List ℕ) (moved : Result Due Refusal) → moved ≡ Ok due → (s : State) (rows : List ℕ) (cells points : List ℤ)
      → lines.go (due_of b due) (content_of (length marks) s marks' rows cells points) ≡ marked_of b topics moved (content_of (length marks) s marks rows cells points)
  marked_to b moved m s rows cells points =
      ap (lines.go (due_of b due)) (marked_taken s rows cells points)
      ∙ sym (ap (λ (x : Result Due Refusal). marked_of b topics x (content_of (length marks) s marks rows cells points)) m)

-- ## What a good model bounds

module _ (b : List ℕ) (g : check_model b ≡ good (model_at b)) where
  pub model_short : length b ≤ 65536
  unfolding check_model
  model_short = ltb-false 65536 (length b) (passed _ _ _ _ other g).0
    where
      other : bad 0 ≡ good (model_at b) → ⊥
      other e = let z : ◌≡◌ {A = ℕ} 0 1 = cc in omega arith

-- ## A line outside objects

-- a line of what is due, once it is known which
pub by_frame : (m : model.Model) (rooms : Rooms) (text : List ℕ) (due due' : FrameDue) (l : List ℕ) (fs : List Field) (c : Content) (x : lines.Step) → due ≡ due'
    → x ≡ line_due m rooms text (frame_due_of due') l fs c → x ≡ line_due m rooms text (frame_due_of due) l fs c
by_frame m rooms text due due' l fs c x e h = h ∙ sym (ap (λ (d : FrameDue). line_due m rooms text (frame_due_of d) l fs c) e)

-- what a line outside objects does: it means this, and what holds stays
abbrev FrameSteps : (b : List ℕ) (s : State) (l marks marks' : List ℕ) (due : FrameDue) (r : Result State Refusal) → Type 0
FrameSteps b s l marks marks' due r =
    ((rooms : Rooms) (text : List ℕ) (start : ℕ) (rows : List ℕ) (cells points : List ℤ)
    → step_of b (length marks) r marks' rows cells points
    ≡ line_due (model_at b) rooms text (frame_due_of due) l (fields_of start l) (content_of (length marks) s marks rows cells points))
    × ((text : List ℕ) (seed : ℕ) (rows : List ℕ) (cells points : List ℤ) (index : List ℕ)
    → Holds (model_at b) b text seed s marks rows cells points index → StepHolds (model_at b) b text seed r marks' rows cells points index)

module _ (b : List ℕ) (s : State) (l marks : List ℕ) (due due' : FrameDue) (e : due ≡ due') (moved : Result Due Refusal) (r : Result State Refusal) (d : NextDueHolds (model_at b) b moved) where
  -- by a step that leaves the marks
  pub plain_frame :
      ((k : ℕ) (marks rows : List ℕ) (cells points : List ℤ) → step_of b k r marks rows cells points ≡ next_due_of b moved (content_of k s marks rows cells points))
      → ((text : List ℕ) (seed : ℕ) (marks rows : List ℕ) (cells points : List ℤ) (index : List ℕ) → NextDueHolds (model_at b) b moved
      → Holds (model_at b) b text seed s marks rows cells points index → StepHolds (model_at b) b text seed r marks rows cells points index)
      → ((rooms : Rooms) (text : List ℕ) (start : ℕ) (c : Content) → next_due_of b moved c ≡ line_due (model_at b) rooms text (frame_due_of due') l (fields_of start l) c)
      → FrameSteps b s l marks marks due r
  plain_frame step holds meant = (
    (λ rooms text start rows cells points.
        by_frame (model_at b) rooms text due due' l (fields_of start l) _ _ e
        (step (length marks) marks rows cells points ∙ meant rooms text start (content_of (length marks) s marks rows cells points))),
    (λ text seed rows cells points index h. holds text seed marks rows cells points index d h),
  )

  -- by a step that may mark one of so many topics, or a table
  pub marked_frame : (marks' : List ℕ) (topics : ℕ) → topics ≡ length (model_at b).topics
      → ((rows : List ℕ) (cells points : List ℤ) → step_of b (length marks) r marks' rows cells points ≡ marked_of b topics moved (content_of (length marks) s marks rows cells points))
      → ((text : List ℕ) (seed : ℕ) (rows : List ℕ) (cells points : List ℤ) (index : List ℕ) → NextDueHolds (model_at b) b moved
      → Holds (model_at b) b text seed s marks rows cells points index → StepHolds (model_at b) b text seed r marks' rows cells points index)
      → ((rooms : Rooms) (text : List ℕ) (start : ℕ) (c : Content) → marked_of b (length (model_at b).topics) moved c ≡ line_due (model_at b) rooms text (frame_due_of due') l (fields_of start l) c)
      → FrameSteps b s l marks marks' due r
  marked_frame marks' topics t step holds meant = (
    (λ rooms text start rows cells points.
        let c = content_of (length marks) s marks rows cells points in
        by_frame (model_at b) rooms text due due' l (fields_of start l) c _ e
        (step rows cells points ∙ ap (λ (n : ℕ). marked_of b n moved c) t ∙ meant rooms text start c)),
    (λ text seed rows cells points index h. holds text seed rows cells points index d h),
  )

-- ## A line among objects

-- the table whose objects are read, by its number and the byte of its attributes
pub table_open : (b : List ℕ) (shape : Shape) (places : Places) (t first : ℕ) → RecordsPlaced b shape places → t < shape.tables → first ≡ attributes_place b places t
    → TableHolds (model_at b) b (record { table = t; at = first })
table_open b shape places t first p l e =
    let r = p.noted.table t l in
    rw e
    (record { table = omega (arith, l, p.tables); attributes = r.attributes; here = record { topics = _; tables = _; standing = r.standing } })

-- where the rest of a line in the text begins
pub behind_within : (text : List ℕ) (at end behind : ℕ) → at ≤ end → end ≤ length text → behind ≤ length (stretch text at (end - at)) → at + behind ≤ end
behind_within text at end behind a e h =
    let n : length (stretch text at (end - at)) ≡ end - at = length-take-le (end - at) (drop at text) (rw length-drop (omega arith)) in
    omega arith

-- a line that adds this adds the same by another name
pub adds_as : (b text : List ℕ) (seed : ℕ) (s : State) (meant meant' : Rooms → Content → lines.Step) (rows rows' : List ℕ) (cells cells' : List ℤ) (index index' : List ℕ) (r : Result State Refusal)
    → ((rooms : Rooms) (c : Content) → meant rooms c ≡ meant' rooms c) → RowAdds b text seed s meant rows rows' cells cells' index index' r → RowAdds b text seed s meant' rows rows' cells cells' index index' r
adds_as b text seed s meant meant' rows rows' cells cells' index index' r e a = record {
  step = λ k rooms marks points er ec fits. a.step k rooms marks points er ec fits ∙ e rooms (content_of k s marks rows cells points);
  holds = a.holds;
}

module _ (m : model.Model) (rooms : Rooms) (text l : List ℕ) (h : Head) (o : HeadOf l h) (t s : ℕ) (c : Content) where
  code_object : has_code OBJE (fields_of s l) ≡ eqb (place_or_0 h.code) 8
  code_object = o.code 7 (omega arith) s

  pub object_here : place_or_0 h.code ≡ 8 → object_fields m rooms text t (fields_of s l) c ≡ object_line m rooms text t (fields_of s l) c
  unfolding object_line choose
  object_here e = rw (code_object, eq-eqb (place_or_0 h.code) 8 e)

  pub object_none : (place_or_0 h.code ≡ 8 → ⊥) → behind_objects m rooms text t (fields_of s l) c ≡ object_line m rooms text t (fields_of s l) c
  unfolding object_line choose
  object_none e = rw (code_object, ne_eqb (place_or_0 h.code) 8 e)

-- ## What a line does to the buffers

by_due : (m : model.Model) (rooms : Rooms) (text b : List ℕ) (due due' : Due) (l : List ℕ) (fs : List Field) (c : Content) (x : lines.Step) → due ≡ due'
    → x ≡ line_due m rooms text (due_of b due') l fs c → x ≡ line_due m rooms text (due_of b due) l fs c
by_due m rooms text b due due' l fs c x e h = h ∙ sym (ap (λ (d : Due). line_due m rooms text (due_of b d) l fs c) e)

module _ (b text : List ℕ) (seed : ℕ) (s : State) (at size : ℕ) (marks rows : List ℕ) (cells points : List ℤ) (index : List ℕ) (h : Holds (model_at b) b text seed s marks rows cells points index) where
  -- a line outside objects
  pub frame_steps : (due : FrameDue) (marks' : List ℕ) (r : Result State Refusal) → s.due ≡ Frame due → FrameSteps b s (stretch text at size) marks marks' due r
      → Steps b text seed s (line_meant b text at size s.due) marks rows cells points index marks' rows cells points index r
  unfolding due_of
  frame_steps due marks' r e f = record {
    step = λ rooms er ec ep.
        by_due (model_at b) rooms text b s.due (Frame due) (stretch text at size) (fields_of at (stretch text at size)) (content_of (length marks) s marks rows cells points) _ e
        (f.0 rooms text at rows cells points);
    holds = f.1 text seed rows cells points index h;
  }

  -- a line among the objects of a table
  pub object_steps : (table : ℕ) (rows' : List ℕ) (cells' : List ℤ) (index' : List ℕ) (r : Result State Refusal) → s.due ≡ Object table
      → RowAdds b text seed s (λ rooms c. object_line (model_at b) rooms text table (fields_of at (stretch text at size)) c) rows rows' cells cells' index index' r
      → Steps b text seed s (line_meant b text at size s.due) marks rows cells points index marks rows' cells' points index' r
  unfolding line_due due_of
  object_steps table rows' cells' index' r e a = record {
    step = λ rooms er ec ep.
        by_due (model_at b) rooms text b s.due (Object table) (stretch text at size) (fields_of at (stretch text at size)) (content_of (length marks) s marks rows cells points) _ e
        (a.step (length marks) rooms marks points er ec h.points_fit);
    holds = a.holds marks points h;
  }

  -- a line of the line attribute under way
  pub line_steps : (u : OpenLine) (cells' points' : List ℤ) (r : Result State Refusal) → s.due ≡ Line u
      → ((rooms : Rooms) (t : List ℕ) (start : ℕ) → rooms.points ≡ length points → LineDoes b u s (λ c. line_due (model_at b) rooms t (due_of b (Line u)) (stretch text at size) (fields_of start (stretch text at size)) c) cells points cells' points' r)
      → Steps b text seed s (line_meant b text at size s.due) marks rows cells points index marks rows cells' points' index r
  line_steps u cells' points' r e d = record {
    step = λ rooms er ec ep.
        by_due (model_at b) rooms text b s.due (Line u) (stretch text at size) (fields_of at (stretch text at size)) (content_of (length marks) s marks rows cells points) _ e
        ((d rooms text at ep).step (length marks) marks rows);
    holds = (d (rooms_of text marks rows cells points) text at refl).holds text seed marks rows index (line_held b text seed s marks rows cells points index u e h) h;
  }
