-- A place of a file and what is due there in reading: the words in which reasons and steps are held against each other. Assumes nothing.
use Prim.Native.Nat.{ℕ, ◌+◌}
use mathlib.Core.Path.{◌≡◌}
use mathlib.Core.List.{List, [], ◌∷◌}
use lib.IntN.{ℤ, pos}
use lib.ListN.{length}
use Rattle.meaning.specs.Model.{Model}
use Rattle.meaning.specs.Field.{Field}
use Rattle.meaning.specs.Row.{Pair}
use Rattle.meaning.specs.Reading.{line_attributes, Underway, Due, opening, description, transfer, model_name, topic_from, table_from, object_of, line_of, closing, nothing, Content, with_row, with_point, with_line, Rooms, Object, objects_of}
use Rattle.meaning.specs.Lines.{go, no}
use Rattle.meaning.specs.Right.{Line}
use Rattle.meaning.specs.Reasons.{Place, start, in_description, before_transfer, before_model, topics_from, tables_from, objects_in, line_in, before_end, end, Gain, object, point, Follows, Reason, used_with, cells_with, points_with, Within}
use Rattle.meaning.specs.Reasons as reasons
use Rattle.meaning.proofs.Right.Steps.{step_at}

-- what is due at a place
pub data At : Due → Place → Type 0 where
  at_start : At opening start
  at_description : At description in_description
  at_transfer : At transfer before_transfer
  at_model : At model_name before_model
  at_topics : {p : ℕ} → At (topic_from p) (topics_from p)
  at_tables : {p t : ℕ} → At (table_from p t) (tables_from p t)
  at_objects : {t : ℕ} → At (object_of t) (objects_in t)
  at_line : (w : Underway) (cell : ℕ) (ps : List Pair) → w.others ≡ line_attributes cell ps
      → At (line_of w) (line_in w.table w.state w.attribute.optional w.attribute.forms w.attribute.components ps)
  at_closing : At closing before_end
  at_nothing : At nothing end

-- the identifications of objects as reading has them
unfoldable pub identifications_in : List Object → List (List ℕ)
identifications_in [] = []
identifications_in (o ∷ os) = o.identification ∷ identifications_in os

-- the identifications of a content are those that were used
abbrev pub UsedIn : List ℕ → Content → List (List ℕ) → Type 0
UsedIn own c used = identifications_in (objects_of own c.cells c.rows) ≡ used

-- what a line made of the content, where it adds this
pub data Effect : Gain → Content → Content → Type 0 where
  marked : {c x : Content} → x.rows ≡ c.rows → x.cells ≡ c.cells → x.points ≡ c.points → Effect reasons.Gain.nothing c x
  drawn : {c : Content} (w : Underway) → Effect reasons.Gain.nothing c (with_line w c)
  stored : {c : Content} (t : ℕ) (i : Field) (xs : List ℤ) → Effect (object i.bytes (3 + length xs)) c (with_row (pos t ∷ pos i.start ∷ pos (length i.bytes) ∷ xs) c)
  pointed : {c : Content} (four : List ℤ) → length four ≡ 4 → Effect point c (with_point four c)

-- there is no room for what is added to a content
abbrev pub Full : Rooms → Content → List (List ℕ) → Gain → Type 0
Full rooms c used g = Within rooms (used_with g used) (cells_with g (length c.cells)) (points_with g (length c.points)) → ⊥

module _ (m : Model) (rooms : Rooms) (own : List ℕ) (used : List (List ℕ)) (due : Due) (c : Content) (x : Place) (l : Line) where
  -- ## What a step says of a line

  -- a line that went on
  pub record Went (d : Due) (b : Content) : Type 0 where
    pub place : Place
    pub gain : Gain
    pub follows : Follows m used x l place gain
    pub at : At d place
    pub effect : Effect gain c b
    pub room : Within rooms (used_with gain used) (cells_with gain (length c.cells)) (points_with gain (length c.points))

  -- a line that was refused: for a reason, or for want of room
  pub data Refused : (number field : ℕ) → Type 0 where
    reason : {n k : ℕ} → Reason m used x l n k → Refused n k
    full : {y : Place} {g : Gain} → Follows m used x l y g → Full rooms c used g → Refused 16 0

  -- ## What is said of a line, and its step

  -- a line that may follow, leads there and adds that: it goes on, or there is no room
  pub data Goes (y : Place) (g : Gain) : Type 0 where
    on : (d : Due) (b : Content) → step_at m rooms own due c l ≡ go d b → At d y → Effect g c b → Goes y g
    stops : step_at m rooms own due c l ≡ no 16 0 → Full rooms c used g → Goes y g
