-- What is proved of writing: unwritable exactly when no lines read as the table, the judge that says so, and the round
-- trip. Proved in proofs/Writing/WritingClaims.antt.
use Rattle.std.specs.Prelude.{ℕ, ◌+◌, ◌*◌, ◌-◌, ◌≤◌, ◌<◌, ◌≡◌, Bool, true, false, ◌&&◌, List, [], ◌∷◌, ◌++◌, ◌↔◌, ℤ}
use Rattle.std.specs.Prelude.{ltb, eqb, length, take, drop, replicate}
use Rattle.meaning.specs.Bytes.{choose, ends, cont}
use Rattle.meaning.specs.Unfold.{unfolded_text}
use Rattle.meaning.specs.Cut.{Cut, Permitted}
use Rattle.meaning.specs.Model.{Model, mark_count}
use Rattle.meaning.specs.Check.{good, bad, check_model}
use Rattle.meaning.specs.Answer.{accepted, refusal, filled}
use Rattle.meaning.specs.Reading.{Content, Rooms}
use Rattle.meaning.specs.Table.{Result, accepted_with, read}
use Rattle.meaning.specs.Right.{DeliveredTopic, Right, table_of}
use Rattle.meaning.specs.Writing.{Lent, counts_fit, content_of, lines_of}
use Rattle.meaning.specs.Readback.{Shown, of_cells, of_bytes, outside, ShownObject, shown_objects, same_table}
use Rattle.meaning.specs.Readback.{reads_as, is_table}
use Rattle.meaning.specs.Judge.{judge}
use Rattle.meaning.specs.Width.{cut_line, cut_lines, write}

-- ## Unwritable exactly when

-- lines that are right, for objects whose table is the lent one: starts aside, texts and identifications compare by
-- their bytes. A table's counts are no more than is lent
pub record RightAs (m : Model) (t : Lent) (ls : List (List ℕ)) : Type 0 where
  pub fits : counts_fit m t ≡ true
  pub delivered : List DeliveredTopic
  pub right : Right m ls delivered
  pub same : same_table m (unfolded_text ls) (table_of m delivered) t.text (content_of m t) ≡ true

-- no lines of permitted bytes read as a lent table
abbrev pub NoLines : Model → Lent → Type 0
NoLines m t = (ls : List (List ℕ)) → Permitted ls → RightAs m t ls → ⊥

-- "a table is refused as unwritable exactly when no lines read as that table"
abbrev pub Unwritable : Type 0
Unwritable =
    (model : List ℕ) (m : Model) (t : Lent) (width room : ℕ) → check_model model ≡ good m → 16 ≤ width → width ≤ 65535
    → ((write model t width room).answer ≡ refusal 19 0 0) ↔ NoLines m t

-- lines that the reader's own step takes for a lent table, whatever their bytes are: an LF within a line, say
pub record ReadAs (m : Model) (t : Lent) (ls : List (List ℕ)) : Type 0 where
  pub fits : counts_fit m t ≡ true
  pub reads : reads_as m ls t.text (content_of m t) ≡ true

-- not even such lines read as a lent table
abbrev pub NoLinesAtAll : Model → Lent → Type 0
NoLinesAtAll m t = (ls : List (List ℕ)) → ReadAs m t ls → ⊥

-- where no lines of permitted bytes are right, no lines at all read as the table: both say the same
abbrev pub NoLinesEither : Type 0
NoLinesEither = (model : List ℕ) (m : Model) (t : Lent) → check_model model ≡ good m → NoLines m t ↔ NoLinesAtAll m t

-- the judge of a lent table, which reads no lines, says exactly whether the table's own lines read as it
abbrev pub JudgedExactly : Type 0
JudgedExactly = (model : List ℕ) (m : Model) (t : Lent) → check_model model ≡ good m → judge m t ≡ is_table m t

-- ## The same table

-- nothing of these lies outside the text
abbrev pub Inside : Shown → Type 0
Inside (of_cells a b) = Unit {0}
Inside (of_bytes s) = Unit {0}
Inside outside = ⊥

abbrev pub PairsInside : List Shown → Type 0
PairsInside [] = Unit {0}
PairsInside (x ∷ xs) = Inside x × PairsInside xs

abbrev pub ObjectsInside : List ShownObject → Type 0
ObjectsInside [] = Unit {0}
ObjectsInside (x ∷ xs) = Inside x.identification × PairsInside x.pairs × ObjectsInside xs

-- the same marks, row list, count of cells, objects and points
pub record SameTable (m : Model) (text : List ℕ) (c : Content) (text' : List ℕ) (c' : Content) : Type 0 where
  pub marks : c.marks ≡ c'.marks
  pub rows : c.rows ≡ c'.rows
  pub cells : length c.cells ≡ length c'.cells
  pub objects : shown_objects m text c.cells c.rows ≡ shown_objects m text' c'.cells c'.rows
  pub inside : ObjectsInside (shown_objects m text c.cells c.rows)
  pub points : c.points ≡ c'.points

-- the test of tables is equality of their objects, of which nothing lies outside the text: so it is symmetric and
-- transitive, and a table is the same as itself exactly when no stretch lies outside its text
abbrev pub SameExactly : Type 0
SameExactly = (m : Model) (text : List ℕ) (c : Content) (text' : List ℕ) (c' : Content)
    → (same_table m text c text' c' ≡ true) ↔ SameTable m text c text' c'

-- ## What is written, and when: "In writing: 2, 20, 19, 21"

-- the file of a lent table at a width: its lines, cut
abbrev pub file_of : Model → Lent → (width : ℕ) → List ℕ
file_of m t width = cut_lines m.mark width (lines_of m t.text (content_of m t))

-- "a permitted width"
abbrev pub PermittedWidth : ℕ → Type 0
PermittedWidth width = (16 ≤ width) × (width ≤ 65535)

-- a file fits the output room, and the limit of 16,777,216 bytes
abbrev pub OutputFits : (room : ℕ) → List ℕ → Type 0
OutputFits room file = (length file ≤ room) × (length file ≤ 16777216)

-- a table that some lines read as, and whose file fits, is written: the answer and the whole room
abbrev pub Writes : Type 0
Writes =
    (model : List ℕ) (m : Model) (t : Lent) (width room : ℕ) → check_model model ≡ good m → PermittedWidth width
    → (NoLines m t → ⊥) → OutputFits room (file_of m t width)
    → write model t width room ≡ record {
      answer = accepted (length (file_of m t width)) 0 0;
      output = filled 0 room (file_of m t width);
    }

-- 21: "output room or 16,777,216 too small"
abbrev pub TooSmallExactly : Type 0
TooSmallExactly =
    (model : List ℕ) (m : Model) (t : Lent) (width room : ℕ) → check_model model ≡ good m → PermittedWidth width
    → ((write model t width room).answer ≡ refusal 21 0 0)
    ↔ ((NoLines m t → ⊥) × (OutputFits room (file_of m t width) → ⊥))

-- 20: "writing: width not 16 to 65,535", before all but the model
abbrev pub WidthExactly : Type 0
WidthExactly =
    (model : List ℕ) (m : Model) (t : Lent) (width room : ℕ) → check_model model ≡ good m
    → ((write model t width room).answer ≡ refusal 20 0 0) ↔ (PermittedWidth width → ⊥)

-- 2: "model bad", before all else
abbrev pub BadModelWrites : Type 0
BadModelWrites = (model : List ℕ) (t : Lent) (width room at : ℕ) → check_model model ≡ bad at
    → (write model t width room).answer ≡ refusal 2 at 0

-- what was written is a cut of the table's lines
abbrev pub WrittenIsCut : Type 0
WrittenIsCut =
    (model : List ℕ) (m : Model) (t : Lent) (width room n : ℕ) → check_model model ≡ good m
    → (write model t width room).answer ≡ accepted n 0 0
    → Cut m.mark (lines_of m t.text (content_of m t)) (take n (write model t width room).output)

-- ## The round trip

-- room enough for lines and the table that they read as
pub record Enough (m : Model) (ls : List (List ℕ)) (c : Content) (rooms : Rooms) : Type 0 where
  pub text : length (unfolded_text ls) ≤ rooms.text
  pub marks : mark_count m ≤ rooms.marks
  pub rows : length c.rows ≤ rooms.rows
  pub cells : length c.cells ≤ rooms.cells
  pub points : length c.points ≤ rooms.points

-- a table whose references are resolved
abbrev pub resolved_table : Content → List ℤ → Content
resolved_table c cs = record { marks = c.marks; rows = c.rows; cells = cs; points = c.points }

-- a result is accepted, with a table that is the lent one, and with its counts: texts and identifications compare by
-- their bytes, starts aside
pub record ReadBack (m : Model) (t : Lent) (rooms : Rooms) (r : Result) : Type 0 where
  pub text : List ℕ
  pub content : Content
  pub cells : List ℤ
  pub is : r ≡ accepted_with rooms text content cells
  pub same : same_table m text (resolved_table content cells) t.text (content_of m t) ≡ true
  pub counts : r.answer ≡ accepted t.objects t.cell_count t.point_count

-- "what it wrote reads as the same objects, values, points and references"
abbrev pub RoundTrip : Type 0
RoundTrip =
    (model : List ℕ) (m : Model) (t : Lent) (width room n : ℕ) (rooms : Rooms) → check_model model ≡ good m
    → (write model t width room).answer ≡ accepted n 0 0
    → Enough m (lines_of m t.text (content_of m t)) (content_of m t) rooms
    → ReadBack m t rooms (read model (take n (write model t width room).output) rooms)

-- rooms that suffice, as a caller can evaluate it: text for the bytes that were written, the rest for the lent counts
pub record RoomsAsLent (m : Model) (t : Lent) (n : ℕ) (rooms : Rooms) : Type 0 where
  pub text : n ≤ rooms.text
  pub marks : mark_count m ≤ rooms.marks
  pub rows : t.objects ≤ rooms.rows
  pub cells : t.cell_count ≤ rooms.cells
  pub points : 4 * t.point_count ≤ rooms.points

abbrev pub LentIsEnough : Type 0
LentIsEnough =
    (model : List ℕ) (m : Model) (t : Lent) (width room n : ℕ) (rooms : Rooms) → check_model model ≡ good m
    → (write model t width room).answer ≡ accepted n 0 0 → RoomsAsLent m t n rooms
    → Enough m (lines_of m t.text (content_of m t)) (content_of m t) rooms

-- a table that was read, as it is lent to writing: the whole buffers, and its counts
abbrev pub lent_again : Result → (objects cells points : ℕ) → Lent
lent_again r o c p = record {
  text = r.text;
  marks = r.marks;
  rows = r.rows;
  cells = r.cells;
  points = r.points;
  objects = o;
  cell_count = c;
  point_count = p;
}

-- and written again it gives the same bytes, at that width or another
abbrev pub WrittenAgain : Type 0
WrittenAgain =
    (model : List ℕ) (m : Model) (t : Lent) (width room n : ℕ) (rooms : Rooms) → check_model model ≡ good m
    → (write model t width room).answer ≡ accepted n 0 0
    → Enough m (lines_of m t.text (content_of m t)) (content_of m t) rooms → (width' room' : ℕ)
    → write model
    (lent_again (read model (take n (write model t width room).output) rooms) t.objects t.cell_count
    t.point_count) width' room' ≡ write model t width' room'

-- every table of a reading can be written: the answer is never 19
abbrev pub ReadIsWritable : Type 0
ReadIsWritable =
    (model file : List ℕ) (m : Model) (rooms : Rooms) (objects cells points width room : ℕ) → check_model model ≡ good m
    → (read model file rooms).answer ≡ accepted objects cells points
    → 16 ≤ width → width ≤ 65535
    → (write model (lent_again (read model file rooms) objects cells points) width room).answer ≡ refusal 19 0 0 → ⊥

-- ## What writing leaves in its room

-- "All result buffers are zeroed by every refusal"
abbrev pub WritingRefusalZeroes : Type 0
WritingRefusalZeroes =
    (model : List ℕ) (t : Lent) (width room number first second : ℕ)
    → (write model t width room).answer ≡ refusal number first second
    → (write model t width room).output ≡ replicate room 0

-- the room keeps its length, and behind the bytes written there are zeros
pub record RoomUsed (room n : ℕ) (output : List ℕ) : Type 0 where
  pub fits : n ≤ room
  pub behind : drop n output ≡ replicate (room - n) 0

abbrev pub WritingKeepsRoom : Type 0
WritingKeepsRoom = (model : List ℕ) (t : Lent) (width room : ℕ) → length (write model t width room).output ≡ room

abbrev pub WrittenZeroBehind : Type 0
WrittenZeroBehind = (model : List ℕ) (t : Lent) (width room n : ℕ) → (write model t width room).answer ≡ accepted n 0 0
    → RoomUsed room n (write model t width room).output

-- ## The width

-- "A line is cut only where needed: the rest goes out whole if it fits the width (after CONT and space where continued,
-- LF not counted) and does not end in the mark. Else as many bytes as fit before a mark, then the mark." A line, or the
-- rest of one, and its physical lines, of which the first has room for so many bytes:
--   whole   it fits and does not end in the mark
--   full    a part of it, which fills the room with its mark; CONT and a space, and the rest
--   short   all of it, which ends in the mark and does not fill the room; CONT and a space, and nothing
pub data CutTo (mark width : ℕ) : (room : ℕ) (l bytes : List ℕ) → Type 0 where
  whole : {room : ℕ} (l : List ℕ) → length l ≤ room → ends mark l ≡ false
      → CutTo mark width room l (l ++ (0x0a ∷ []))
  full : {room : ℕ} {bytes : List ℕ} (p rest : List ℕ) → length p + 1 ≡ room
      → (length (p ++ rest) ≤ room → ends mark (p ++ rest) ≡ true) → CutTo mark width (width - 5) rest bytes
      → CutTo mark width room (p ++ rest) (p ++ (mark ∷ 0x0a ∷ (cont ++ bytes)))
  short : {room : ℕ} (l : List ℕ) → length l + 1 < room → ends mark l ≡ true
      → CutTo mark width room l (l ++ (mark ∷ 0x0a ∷ (cont ++ (0x0a ∷ []))))

-- a line at a permitted width is written as these physical lines and no others: each that is continued is full, unless
-- what it has ends in the mark
abbrev pub CutExactly : Type 0
CutExactly = (mark width : ℕ) (l bytes : List ℕ) → 16 ≤ width
    → (cut_line mark width l ≡ bytes) ↔ CutTo mark width width l bytes

-- no physical line of these bytes is longer than the width, the first of which has so many bytes before them
unfoldable pub fits_width : (width column : ℕ) → List ℕ → Bool
fits_width width column [] = true
fits_width width column (b ∷ s) =
    choose (eqb b 0x0a) (fits_width width 0 s) (ltb column width && fits_width width (column + 1) s)

-- "the rest goes out whole if it fits the width": no line of what is written is longer
abbrev pub WrittenFitsWidth : Type 0
WrittenFitsWidth =
    (model : List ℕ) (m : Model) (t : Lent) (width room n : ℕ) → check_model model ≡ good m
    → (write model t width room).answer ≡ accepted n 0 0
    → fits_width width 0 (take n (write model t width room).output) ≡ true
