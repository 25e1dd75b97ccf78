-- Reading with more room: all is alike, but for refusals for want of room. Assumes nothing.
use Prim.Native.Nat.{ℕ}
use mathlib.Core.Path.{◌≡◌, refl}
use mathlib.Core.Bool.{Bool, true, false}
use mathlib.Core.List.{List, [], ◌∷◌}
use Rattle.meaning.specs.Bytes.{choose, refuse}
use Rattle.meaning.specs.Model.{Model}
use Rattle.meaning.specs.Field.{Field, fields_of}
use Rattle.meaning.specs.Row.{Cells, cells, refused}
use Rattle.meaning.specs.Reading.{Move, unexpected, undefined_line, ended, point, Underway, Due, opening, description, transfer, model_name, topic_from, table_from, object_of, line_of, closing, nothing, Content, State, behind, Rooms}
use Rattle.meaning.specs.Lines.{Step, go, no, opening_line, description_line, transfer_line, model_line, topic_line, topic_end, table_line, store_row, object_fields, behind_objects, object_line, store_point, attribute_line, closing_line, line_due, step_of, stopped, run}
use Rattle.meaning.proofs.Reading.Rooms.{Wider, row_room, point_room_lem}

-- the same, or a refusal for want of room
data Alike : Step → Step → Type 0 where
  same : {o : Step} → Alike o o
  full : {o : Step} → Alike (no 16 0) o

alike_refuse : (t : Bool) (refusal o o' : Step) → Alike o o' → Alike (refuse t refusal o) (refuse t refusal o')
unfolding refuse
alike_refuse true refusal o o' h = same
alike_refuse false refusal o o' h = h

alike_room : (t u : Bool) (o : Step) → (t ≡ false → u ≡ false) → Alike (refuse t (no 16 0) o) (refuse u (no 16 0) o)
unfolding refuse
alike_room true u o h = full
alike_room false u o h = rw (h refl) same

alike_choose : (t : Bool) (a a' b b' : Step) → Alike a a' → Alike b b' → Alike (choose t a b) (choose t a' b')
unfolding choose
alike_choose true a a' b b' h k = h
alike_choose false a a' b b' h k = k

module _ (m : Model) (r q : Rooms) (own : List ℕ) (wide : Wider r q) where
  row_alike : (t : ℕ) (i : Field) (c : Content) (k : Cells) → Alike (store_row m r own t i c k) (store_row m q own t i c k)
  unfolding store_row
  row_alike t i c (refused number field) = same
  row_alike t i c (cells pairs) = alike_room _ _ _ (λ e. row_room m r q own wide c _ e)

  point_alike : (kind : ℕ) (w : Underway) (c : Content) (k : Cells) → Alike (store_point m r own kind w c k) (store_point m q own kind w c k)
  unfolding store_point
  point_alike kind w c (refused number field) = same
  point_alike kind w c (cells values) = alike_room _ _ _ (λ e. point_room_lem m r q own wide c e)

  fields_alike : (t : ℕ) (fs : List Field) (c : Content) → Alike (object_fields m r own t fs c) (object_fields m q own t fs c)
  unfolding object_fields
  fields_alike t fs c = alike_refuse _ _ _ _ (alike_refuse _ _ _ _ (alike_refuse _ _ _ _ (alike_refuse _ _ _ _ (row_alike t _ c _))))

  attribute_alike : (w : Underway) (fs : List Field) (c : Content) (v : Move) → Alike (attribute_line m r own w fs c v) (attribute_line m q own w fs c v)
  unfolding attribute_line
  attribute_alike w fs c unexpected = same
  attribute_alike w fs c undefined_line = same
  attribute_alike w fs c ended = same
  attribute_alike w fs c (point kind state) = alike_refuse _ _ _ _ (point_alike kind _ c _)

  line_alike : (due : Due) (l : List ℕ) (fs : List Field) (c : Content) → Alike (line_due m r own due l fs c) (line_due m q own due l fs c)
  unfolding line_due opening_line description_line transfer_line model_line topic_line topic_end table_line object_line behind_objects closing_line
  line_alike opening l fs c = same
  line_alike description l fs c = same
  line_alike transfer l fs c = same
  line_alike model_name l fs c = same
  line_alike (topic_from from) l fs c = same
  line_alike (table_from p from) l fs c = same
  line_alike (object_of t) l fs c = alike_choose _ _ _ _ _ (fields_alike t fs c) same
  line_alike (line_of w) l fs c = attribute_alike w fs c _
  line_alike closing l fs c = same
  line_alike nothing l fs c = same

  -- a run in the narrower rooms
  pub data RunAlike (s : State) (ls : List (List ℕ)) : Type 0 where
    runs_same : run m r own s ls ≡ run m q own s ls → RunAlike s ls
    runs_full : (line : ℕ) → run m r own s ls ≡ stopped 16 line 0 → RunAlike s ls

  pub run_alike : (ls : List (List ℕ)) (s : State) → RunAlike s ls
  unfolding run step_of
  run_alike [] s = runs_same refl
  run_alike (l ∷ ls) s = by _ refl _ refl (line_alike s.due l (fields_of s.start l) s.content) (λ d c. run_alike ls (behind l d c s))
    where
      next : (d : Due) (c : Content) → line_due m r own s.due l (fields_of s.start l) s.content ≡ go d c → line_due m q own s.due l (fields_of s.start l) s.content ≡ go d c
          → RunAlike (behind l d c s) ls → RunAlike s (l ∷ ls)
      next d c e f (runs_same h) = runs_same (rw (e, f) h)
      next d c e f (runs_full line h) = runs_full line (rw e h)

      by : (o : Step) → line_due m r own s.due l (fields_of s.start l) s.content ≡ o → (o' : Step) → line_due m q own s.due l (fields_of s.start l) s.content ≡ o' → Alike o o'
          → ((d : Due) (c : Content) → RunAlike (behind l d c s) ls) → RunAlike s (l ∷ ls)
      by (no n f) e _ e' full ih = runs_full s.line (rw e)
      by (go d c) e _ e' same ih = next d c e e' (ih d c)
      by (no n f) e _ e' same ih = runs_same (rw (e, e'))
