-- What is proved of `Right`: reading accepts exactly what is right, and gives the first refusal in the fixed order
-- otherwise. Proved in proofs/Right/Claims.antt.
use Rattle.std.specs.Prelude.{ℕ, ◌+◌, ◌≤◌, ◌<◌, ◌≡◌, List, [], ◌∷◌, ◌++◌, ◌↔◌, length}
use Rattle.meaning.specs.Unfold.{unfolded_text}
use Rattle.meaning.specs.Cut.{Cut}
use Rattle.meaning.specs.Faults.{FirstFault}
use Rattle.meaning.specs.Model.{found, Model, mark_count, table_at}
use Rattle.meaning.specs.Check.{good, bad, check_model, GoodModel}
use Rattle.meaning.specs.Answer.{Answer, accepted, refusal}
use Rattle.meaning.specs.Field.{Field}
use Rattle.meaning.specs.Row.{Pair, OfAttribute, OfComponent, OfLine, pairs_of}
use Rattle.meaning.specs.Reading.{Rooms}
use Rattle.meaning.specs.Table.{find_object, Result, accepted_with, refused_with, read_text, read}
use Rattle.meaning.specs.WritingClaims.{Enough}
use Rattle.meaning.specs.Right.{Entry, OfReference, Delivered, DeliveredTopic, objects_of_topics, with_starts, File}
use Rattle.meaning.specs.Right.{Line, Unique, Names, IsNamed, AllNamed, Right, names_of, table_of}
use Rattle.meaning.specs.Reasons.{Place, end, Gain, Follows, Reason, used_with, cells_with, points_with, Reached}
use Rattle.meaning.specs.Reasons.{Within}
use Rattle.meaning.specs.Sample.{sample_model, with7}
use Rattle.meaning.specs.Neighbours.{one_more}

-- ## Accepted exactly when right

-- lines that deliver ds, accepted: their text, and the table of ds
abbrev pub accepted_as : Model → Rooms → List (List ℕ) → List DeliveredTopic → Result
accepted_as m rooms ls ds = accepted_with rooms (unfolded_text ls) (table_of m ds) (table_of m ds).cells

-- lines that are right are accepted with their table, where there is room for it
abbrev pub RightIsRead : Type 0
RightIsRead =
    (m : Model) (ls : List (List ℕ)) (ds : List DeliveredTopic) (rooms : Rooms) → GoodModel m → Right m ls ds
    → Enough m ls (table_of m ds) rooms
    → read_text m rooms ls ≡ accepted_as m rooms ls ds

-- lines are right, and there is room for what they deliver
pub record RightWithin (m : Model) (ls : List (List ℕ)) (rooms : Rooms) : Type 0 where
  pub delivered : List DeliveredTopic
  pub right : Right m ls delivered
  pub enough : Enough m ls (table_of m delivered) rooms

-- an answer is of a file that is accepted: 0 and three counts
pub record IsAccepted (a : Answer) : Type 0 where
  pub first : ℕ
  pub second : ℕ
  pub third : ℕ
  pub is : a ≡ accepted first second third

-- lines that are accepted are right
abbrev pub ReadIsRight : Type 0
ReadIsRight = (m : Model) (ls : List (List ℕ)) (rooms : Rooms) → IsAccepted (read_text m rooms ls).answer
    → RightWithin m ls rooms

-- a file is a cut of lines that are right
pub record RightFile (m : Model) (file : List ℕ) (rooms : Rooms) : Type 0 where
  pub of : List (List ℕ)
  pub cut : Cut m.mark of file
  pub within : RightWithin m of rooms

-- "With enough room, a file within the size limit and under a good model is accepted exactly when its structure,
-- values, identifications and references are right"
abbrev pub AcceptedExactlyWhenRight : Type 0
AcceptedExactlyWhenRight =
    (model file : List ℕ) (m : Model) (rooms : Rooms) → check_model model ≡ good m → length file ≤ 16777216
    → IsAccepted (read model file rooms).answer ↔ RightFile m file rooms

-- and the answer and every buffer are those of what its lines deliver
abbrev pub AcceptedWithItsTable : Type 0
AcceptedWithItsTable =
    (model file : List ℕ) (m : Model) (rooms : Rooms) → check_model model ≡ good m → length file ≤ 16777216
    → (f : RightFile m file rooms)
    → read model file rooms ≡ accepted_as m rooms f.of f.within.delivered

-- a refusal that is not for size or room means that the file is no cut of lines that are right
abbrev pub RefusedMeansNotRight : Type 0
RefusedMeansNotRight =
    (model file : List ℕ) (m : Model) (rooms : Rooms) (number first second : ℕ) → check_model model ≡ good m
    → (read model file rooms).answer ≡ refusal number first second
    → (number ≡ 1 → ⊥) → (number ≡ 6 → ⊥) → (number ≡ 16 → ⊥) → (ls : List (List ℕ)) (ds : List DeliveredTopic)
    → Cut m.mark ls file → Right m ls ds → ⊥

-- the table's number of a reference is that of the object that it names
abbrev pub ReferenceIsItsObject : Type 0
ReferenceIsItsObject = (os : List Delivered) (target : ℕ) (i : List ℕ) → Unique os → (n : Names os target i)
    → find_object target 0 i (names_of os) ≡ found n.number

-- some file is right: the sample, with the room of `one_more`
pub record SampleRight : Type 0 where
  pub model : Model
  pub is_good : check_model sample_model ≡ good model
  pub file : RightFile model (with7 "OBJE k1 A_1 10.0 20.5") one_more

-- ## The first reference that names no object

-- the field behind a pair's: a line attribute has none
unfoldable pub field_behind : (field : ℕ) → Pair → ℕ
field_behind field (OfAttribute o type) = field + 1
field_behind field (OfComponent c) = field + 1
field_behind field (OfLine o forms cs) = field

-- of the entries from this field on, the one of field `at` is the first reference that names none of all objects
pub data FirstOfEntries (all : List Delivered) : (field : ℕ) → List Pair → List Entry → (at : ℕ) → Type 0 where
  here : {field target : ℕ} {f : Field} {p : Pair} {ps : List Pair} {es : List Entry}
      → (Names all target f.bytes → ⊥) → FirstOfEntries all field (p ∷ ps) (OfReference target f ∷ es) field
  later : {field at : ℕ} {p : Pair} {ps : List Pair} {e : Entry} {es : List Entry} → IsNamed all e
      → FirstOfEntries all (field_behind field p) ps es at → FirstOfEntries all field (p ∷ ps) (e ∷ es) at

-- of the objects from number n on, `object` is the first with such a reference, in `field`; an object's attributes
-- begin at field 3
pub data FirstOfObjects (m : Model) (all : List Delivered) : (n : ℕ) → List Delivered → (object field : ℕ)
    → Type 0 where
  here : {n field : ℕ} {o : Delivered} {os : List Delivered}
      → FirstOfEntries all 3 (pairs_of (table_at m.tables o.table).attributes) o.entries field
      → FirstOfObjects m all n (o ∷ os) n field
  later : {n object field : ℕ} {o : Delivered} {os : List Delivered} → AllNamed all o.entries
      → FirstOfObjects m all (n + 1) os object field → FirstOfObjects m all n (o ∷ os) object field

-- ## The first refusal: "1, 2, unfolding, 6, the lines in order, then 17 by object and field"

-- the file is not too long
abbrev pub Short : List ℕ → Type 0
Short file = length file ≤ 16777216

-- the file is not too long, the model is good (`GoodExactly` says when), and the file is a cut of these lines
pub record Opened (model file : List ℕ) (m : Model) (ls : List (List ℕ)) : Type 0 where
  pub short : Short file
  pub is_good : check_model model ≡ good m
  pub cut : Cut m.mark ls file

-- there is room for text and marks
pub record HasRoom (m : Model) (ls : List (List ℕ)) (rooms : Rooms) : Type 0 where
  pub text : length (unfolded_text ls) ≤ rooms.text
  pub marks : mark_count m ≤ rooms.marks

-- these lines, from the first of a file on, have come to a place, and there is room for what they deliver
pub record ComeTo (m : Model) (rooms : Rooms) (ls : List (List ℕ)) (x : Place) (used : List (List ℕ))
    (cells points : ℕ) : Type 0 where
  pub reached : Reached m (with_starts 0 ls) x used cells points
  pub room : Within rooms used cells points

-- the line l behind these
abbrev pub line_behind : List (List ℕ) → List ℕ → Line
line_behind before l = record { start = length (unfolded_text before); bytes = l }

-- the first refusal of a file under a model, with these rooms: its number and its place
pub data First (model file : List ℕ) (rooms : Rooms) : (number first second : ℕ) → Type 0 where
  too_large : 16777216 < length file → First model file rooms 1 0 0
  -- `BadExactly` says at which byte
  bad_model : {at : ℕ} → Short file → check_model model ≡ bad at → First model file rooms 2 at 0
  bad_unfolding : {m : Model} {number line : ℕ} → Short file → check_model model ≡ good m
      → FirstFault m.mark file number line → First model file rooms number line 0
  no_room : {m : Model} {ls : List (List ℕ)} → Opened model file m ls → (HasRoom m ls rooms → ⊥)
      → First model file rooms 6 0 0
  -- the lines before the line l have come to a place where l may not follow, for this reason
  bad_line : {m : Model} {x : Place} {used : List (List ℕ)} {cells points number field : ℕ} (before : List (List ℕ))
      (l : List ℕ) (after : List (List ℕ))
      → Opened model file m (before ++ (l ∷ after)) → HasRoom m (before ++ (l ∷ after)) rooms
      → ComeTo m rooms before x used cells points → Reason m used x (line_behind before l) number field
      → First model file rooms number (1 + length before) field
  -- or where it may, and there is no room for what it adds
  full_line : {m : Model} {x y : Place} {used : List (List ℕ)} {cells points : ℕ} {g : Gain} (before : List (List ℕ))
      (l : List ℕ) (after : List (List ℕ))
      → Opened model file m (before ++ (l ∷ after)) → HasRoom m (before ++ (l ∷ after)) rooms
      → ComeTo m rooms before x used cells points → Follows m used x (line_behind before l) y g
      → (Within rooms (used_with g used) (cells_with g cells) (points_with g points) → ⊥)
      → First model file rooms 16 (1 + length before) 0
  -- all lines may follow one another, and another one has to follow
  line_missing : {m : Model} {ls : List (List ℕ)} {x : Place} {used : List (List ℕ)} {cells points : ℕ}
      → Opened model file m ls → HasRoom m ls rooms → ComeTo m rooms ls x used cells points → (x ≡ end → ⊥)
      → First model file rooms 7 (1 + length ls) 1
  -- the lines are right and have room, references aside; of all that they deliver this is the first that names no
  -- object
  object_missing : {m : Model} {ls : List (List ℕ)} {ds : List DeliveredTopic} {object field : ℕ}
      → Opened model file m ls → File m (with_starts 0 ls) ds → Unique (objects_of_topics ds)
      → Enough m ls (table_of m ds) rooms
      → FirstOfObjects m (objects_of_topics ds) 0 (objects_of_topics ds) object field
      → First model file rooms 17 object field

-- "otherwise the first refusal in the fixed order is given": a refusal is the first one
abbrev pub RefusalIsFirst : Type 0
RefusalIsFirst = (model file : List ℕ) (rooms : Rooms) (number first second : ℕ)
    → (read model file rooms).answer ≡ refusal number first second → First model file rooms number first second

-- and the first one is given
abbrev pub FirstIsRefusal : Type 0
FirstIsRefusal = (model file : List ℕ) (rooms : Rooms) (number first second : ℕ)
    → First model file rooms number first second → read model file rooms ≡ refused_with rooms number first second

-- ## Behind the last line

-- the identifications of objects
unfoldable pub identifications_of : List Delivered → List (List ℕ)
identifications_of [] = []
identifications_of (o ∷ os) = o.identification.bytes ∷ identifications_of os

-- lines that may follow one another to the end are right, references aside: with these identifications and counts
pub record Complete (m : Model) (ls : List (List ℕ)) (used : List (List ℕ)) (cells points : ℕ) : Type 0 where
  pub delivered : List DeliveredTopic
  pub file : File m (with_starts 0 ls) delivered
  pub unique : Unique (objects_of_topics delivered)
  pub identifications : identifications_of (objects_of_topics delivered) ≡ used
  pub cell_count : length (table_of m delivered).cells ≡ cells
  pub point_cells : length (table_of m delivered).points ≡ points

-- lines that may follow one another to the end are right, references aside, and the other way round: so `Reached`
-- takes no other lines than `Right` does
abbrev pub ReachedExactly : Type 0
ReachedExactly = (m : Model) (ls : List (List ℕ)) (used : List (List ℕ)) (cells points : ℕ) → GoodModel m
    → Reached m (with_starts 0 ls) end used cells points ↔ Complete m ls used cells points

-- a line has one reason or none: two coincide, and a line that may follow has none
pub record OneReason (m : Model) (used : List (List ℕ)) (x : Place) (l : Line) : Type 0 where
  pub alike : (n k n' k' : ℕ) → Reason m used x l n k → Reason m used x l n' k' → (n ≡ n') × (k ≡ k')
  pub none : (y : Place) (g : Gain) (n k : ℕ) → Follows m used x l y g → Reason m used x l n k → ⊥

abbrev pub ReasonsAlike : Type 0
ReasonsAlike = (m : Model) (used : List (List ℕ)) (x : Place) (l : Line) → GoodModel m → OneReason m used x l
