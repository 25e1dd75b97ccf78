-- Reading with more room: what is read into some rooms is read alike into wider ones. Assumes nothing.
use Prim.Native.Nat.{ℕ, ◌+◌, ◌≤◌, ◌<◌}
use native.Mathlib.Omega.{arith}
use mathlib.Core.Path.{◌≡◌, refl}
use mathlib.Core.Bool.{Bool, true, false, ◌||◌}
use mathlib.Core.List.{List, [], ◌∷◌}
use lib.Dec.{leb, ltb}
use lib.ListN.{length}
use borrow.Author.Tests.{ltb-false, leb-false, le-ltb, lt-leb}
use Rattle.meaning.specs.Bytes.{choose, refuse}
use Rattle.meaning.specs.Model.{Model}
use Rattle.meaning.specs.Field.{Field, fields_of}
use Rattle.meaning.specs.Row.{Cells, cells, refused}
use Rattle.meaning.specs.Reading.{Move, unexpected, undefined_line, ended, point, Underway, Due, opening, description, transfer, model_name, topic_from, table_from, object_of, line_of, closing, nothing, Content, State, behind, Rooms}
use Rattle.meaning.specs.Lines.{Step, go, no, opening_line, description_line, transfer_line, model_line, topic_line, topic_end, table_line, store_row, object_fields, behind_objects, object_line, store_point, attribute_line, closing_line, line_due, step_of, Run, ran, stopped, after_step, after_run, run, at_end, read_lines}
use Rattle.meaning.proofs.Tests.Unequal.{no_go, no_ran}
use Rattle.meaning.proofs.Tests.Refuse.{passed, neither}

pub record Wider (r q : Rooms) : Type 0 where
  pub rows : r.rows ≤ q.rows
  pub cells : r.cells ≤ q.cells
  pub points : r.points ≤ q.points

-- what goes on goes on alike
unfoldable Follows : Step → Step → Type 0
Follows o o' = (due : Due) (c : Content) → o ≡ go due c → o' ≡ go due c

follows_same : (o : Step) → Follows o o
unfolding Follows
follows_same o due c e = e

follows_refuse : (t u : Bool) (number field : ℕ) (o o' : Step) → (t ≡ false → u ≡ false) → Follows o o' → Follows (refuse t (no number field) o) (refuse u (no number field) o')
unfolding Follows refuse
follows_refuse t u number field o o' f h due c e =
    let p = passed t _ o _ (no_go number field due c) e in
    rw (f p.0) (h due c p.1)

follows_choose : (t : Bool) (a a' b b' : Step) → Follows a a' → Follows b b' → Follows (choose t a b) (choose t a' b')
unfolding choose
follows_choose true a a' b b' h k = h
follows_choose false a a' b b' h k = k

module _ (m : Model) (r q : Rooms) (text : List ℕ) (wide : Wider r q) where
  -- room for a row, and for a point
  pub row_room : (c : Content) (size : ℕ) → (leb r.rows (length c.rows) || ltb r.cells (length c.cells + size)) ≡ false
      → (leb q.rows (length c.rows) || ltb q.cells (length c.cells + size)) ≡ false
  row_room c size e =
      let f = neither (leb r.rows (length c.rows)) _ e in
      let a : length c.rows < q.rows = omega (arith, leb-false r.rows (length c.rows) f.0, wide.rows) in
      let b : length c.cells + size ≤ q.cells = omega (arith, ltb-false r.cells (length c.cells + size) f.1, wide.cells) in
      rw (lt-leb q.rows (length c.rows) a, le-ltb q.cells (length c.cells + size) b)

  pub point_room_lem : (c : Content) → ltb r.points (length c.points + 4) ≡ false → ltb q.points (length c.points + 4) ≡ false
  point_room_lem c e = le-ltb q.points (length c.points + 4) (omega (arith, ltb-false r.points (length c.points + 4) e, wide.points))

  row_wider : (t : ℕ) (i : Field) (c : Content) (k : Cells) → Follows (store_row m r text t i c k) (store_row m q text t i c k)
  unfolding store_row
  row_wider t i c (refused number field) = follows_same _
  row_wider t i c (cells pairs) = follows_refuse _ _ _ _ _ _ (λ e. row_room c _ e) (follows_same _)

  point_wider : (kind : ℕ) (w : Underway) (c : Content) (k : Cells) → Follows (store_point m r text kind w c k) (store_point m q text kind w c k)
  unfolding store_point
  point_wider kind w c (refused number field) = follows_same _
  point_wider kind w c (cells values) = follows_refuse _ _ _ _ _ _ (λ e. point_room_lem c e) (follows_same _)

  fields_wider : (t : ℕ) (fs : List Field) (c : Content) → Follows (object_fields m r text t fs c) (object_fields m q text t fs c)
  unfolding object_fields
  fields_wider t fs c =
      follows_refuse _ _ _ _ _ _ (λ e. e) (follows_refuse _ _ _ _ _ _ (λ e. e) (follows_refuse _ _ _ _ _ _ (λ e. e) (follows_refuse _ _ _ _ _ _ (λ e. e) (row_wider t _ c _))))

  attribute_wider : (w : Underway) (fs : List Field) (c : Content) (v : Move) → Follows (attribute_line m r text w fs c v) (attribute_line m q text w fs c v)
  unfolding attribute_line
  attribute_wider w fs c unexpected = follows_same _
  attribute_wider w fs c undefined_line = follows_same _
  attribute_wider w fs c ended = follows_same _
  attribute_wider w fs c (point kind state) = follows_refuse _ _ _ _ _ _ (λ e. e) (point_wider kind _ c _)

  line_wider : (due : Due) (l : List ℕ) (fs : List Field) (c : Content) → Follows (line_due m r text due l fs c) (line_due m q text due l fs c)
  unfolding line_due opening_line description_line transfer_line model_line topic_line topic_end table_line object_line behind_objects closing_line
  line_wider opening l fs c = follows_same _
  line_wider description l fs c = follows_same _
  line_wider transfer l fs c = follows_same _
  line_wider model_name l fs c = follows_same _
  line_wider (topic_from from) l fs c = follows_same _
  line_wider (table_from p from) l fs c = follows_same _
  line_wider (object_of t) l fs c = follows_choose _ _ _ _ _ (fields_wider t fs c) (follows_same _)
  line_wider (line_of w) l fs c = attribute_wider w fs c _
  line_wider closing l fs c = follows_same _
  line_wider nothing l fs c = follows_same _

  pub run_wider : (ls : List (List ℕ)) (s s' : State) → run m r text s ls ≡ ran s' → run m q text s ls ≡ ran s'
  unfolding run step_of Follows
  run_wider [] s s' h = h
  run_wider (l ∷ ls) s s' h = next (line_due m r text s.due l (fields_of s.start l) s.content) refl h (λ s₁. run_wider ls s₁ s')
    where
      next : (o : Step) → line_due m r text s.due l (fields_of s.start l) s.content ≡ o → after_step o l s (λ s₁. run m r text s₁ ls) ≡ ran s'
          → ((s₁ : State) → run m r text s₁ ls ≡ ran s' → run m q text s₁ ls ≡ ran s')
          → after_step (line_due m q text s.due l (fields_of s.start l) s.content) l s (λ s₁. run m q text s₁ ls) ≡ ran s'
      next (go due c) e h more = rw (line_wider s.due l (fields_of s.start l) s.content due c e) (more (behind l due c s) h)
      next (no number field) e h more = absurd (no_ran number s.line field s' h)

  -- what is read into some rooms is read alike into wider ones
  pub lines_wider : (ls : List (List ℕ)) (s s' : State) → read_lines m r text s ls ≡ ran s' → read_lines m q text s ls ≡ ran s'
  unfolding read_lines
  lines_wider ls s s' h = next (run m r text s ls) refl h
    where
      next : (o : Run) → run m r text s ls ≡ o → after_run o (λ s₁. at_end s₁) ≡ ran s' → read_lines m q text s ls ≡ ran s'
      next (ran s₁) e h = rw (run_wider ls s s₁ e) h
      next (stopped number line field) e h = absurd (no_ran number line field s' h)
