-- What is proved of answers and rooms: a refusal's number is one of 01's, at a place as its row says; more room gives
-- the same answer; which rooms suffice for every file. Proved in proofs/Right/RoomClaims.antt.
use Rattle.std.specs.Prelude.{ℕ, ◌+◌, ◌*◌, ◌-◌, ◌/◌, ◌^◌, ◌≤◌, max, ◌≡◌, Bool, true, false, ◌&&◌, ◌||◌, List, [], ◌∷◌}
use Rattle.std.specs.Prelude.{leb, eqb, ℤ, pos, negsuc, length, drop, replicate}
use Rattle.std.specs.Int.Signed.{lt_z}
use Rattle.meaning.specs.Bytes.{choose}
use Rattle.meaning.specs.Unfold.{unfolded_text}
use Rattle.meaning.specs.Model.{Table, Model, mark_count}
use Rattle.meaning.specs.Check.{good, check_model}
use Rattle.meaning.specs.Answer.{Answer, accepted, refusal, check, unfold_text}
use Rattle.meaning.specs.Row.{pairs_of}
use Rattle.meaning.specs.Reading.{Rooms}
use Rattle.meaning.specs.Table.{Result, read}
use Rattle.meaning.specs.Writing.{Lent}
use Rattle.meaning.specs.Width.{write}
use Rattle.meaning.specs.RightClaims.{Opened}

-- ## Numbers and places

unfoldable pub is_one_of : ℕ → List ℕ → Bool
is_one_of n [] = false
is_one_of n (k ∷ ks) = eqb n k || is_one_of n ks

-- 01's table of refusals, its columns "No" and "Place": may a refusal of this number have this place?
unfoldable pub is_place_of : (number first second : ℕ) → Bool
is_place_of number first second =
    choose (is_one_of number (1 ∷ 6 ∷ 19 ∷ 20 ∷ 21 ∷ [])) (eqb first 0 && eqb second 0)
    (choose (eqb number 2) (eqb second 0)
    (choose (is_one_of number (3 ∷ 4 ∷ 5 ∷ 16 ∷ [])) (leb 1 first && eqb second 0)
    (choose (is_one_of number (7 ∷ 8 ∷ 18 ∷ [])) (leb 1 first && eqb second 1)
    (choose (is_one_of number (9 ∷ 15 ∷ [])) (leb 1 first && eqb second 2)
    (choose (eqb number 10) (leb 1 first && (eqb second 1 || eqb second 2))
    (choose (is_one_of number (11 ∷ 13 ∷ 14 ∷ [])) (leb 1 first && leb 2 second)
    (choose (eqb number 12) (leb 1 first && leb 1 second)
    (choose (eqb number 17) (leb 3 second)
    false))))))))

-- an answer's refusal is one of these numbers, at such a place; so it is never 0, which says that all went well
abbrev pub Numbered : List ℕ → Answer → Type 0
Numbered numbers a = (number first second : ℕ) → a ≡ refusal number first second
    → (is_one_of number numbers ≡ true) × (is_place_of number first second ≡ true)

abbrev pub ReadingNumbers : Type 0
ReadingNumbers = (model file : List ℕ) (rooms : Rooms)
    → Numbered (1 ∷ 2 ∷ 3 ∷ 4 ∷ 5 ∷ 6 ∷ 7 ∷ 8 ∷ 9 ∷ 10 ∷ 11 ∷ 12 ∷ 13 ∷ 14 ∷ 15 ∷ 16 ∷ 17 ∷ 18 ∷ [])
    (read model file rooms).answer

abbrev pub WritingNumbers : Type 0
WritingNumbers = (model : List ℕ) (t : Lent) (width room : ℕ)
    → Numbered (2 ∷ 19 ∷ 20 ∷ 21 ∷ []) (write model t width room).answer

abbrev pub UnfoldingNumbers : Type 0
UnfoldingNumbers = (model file : List ℕ) (room : ℕ)
    → Numbered (1 ∷ 2 ∷ 3 ∷ 4 ∷ 5 ∷ 6 ∷ []) (unfold_text model file room).answer

abbrev pub CheckNumbers : Type 0
CheckNumbers = (model : List ℕ) → Numbered (2 ∷ []) (check model)

-- ## More room

-- no room is smaller
pub record NoLess (rooms rooms' : Rooms) : Type 0 where
  pub text : rooms.text ≤ rooms'.text
  pub marks : rooms.marks ≤ rooms'.marks
  pub rows : rooms.rows ≤ rooms'.rows
  pub cells : rooms.cells ≤ rooms'.cells
  pub points : rooms.points ≤ rooms'.points

-- an answer is no refusal for want of room
abbrev pub HadRoom : Answer → Type 0
HadRoom a = (first second : ℕ) → ((a ≡ refusal 6 first second) → ⊥) × ((a ≡ refusal 16 first second) → ⊥)

-- more room gives the same answer, unless it was one for want of room
abbrev pub MoreRoomSameAnswer : Type 0
MoreRoomSameAnswer = (model file : List ℕ) (rooms rooms' : Rooms) → NoLess rooms rooms'
    → HadRoom (read model file rooms).answer → (read model file rooms').answer ≡ (read model file rooms).answer

-- ## Room enough for every file

-- the cells of the longest row of these tables: 3, and 2 for each pair
unfoldable pub longest_row : List Table → ℕ
longest_row [] = 0
longest_row (t ∷ ts) = max (3 + 2 * length (pairs_of t.attributes)) (longest_row ts)

-- rooms for every file of at most n bytes: an object takes 7 bytes at least, `OBJE a` and an LF; a point 9, `LIPT 1 2`
-- and an LF, and has 4 cells
abbrev pub rooms_for : Model → (n : ℕ) → Rooms
rooms_for m n = record {
  text = n;
  marks = mark_count m;
  rows = n / 7;
  cells = longest_row m.tables * (n / 7);
  points = 4 * (n / 9);
}

-- in such rooms no file is refused for want of room
abbrev pub SomeRoomIsEnough : Type 0
SomeRoomIsEnough = (model file : List ℕ) (m : Model) (rooms : Rooms) → check_model model ≡ good m
    → NoLess (rooms_for m (length file)) rooms → HadRoom (read model file rooms).answer

-- ## What is used of text and marks

-- "Every result buffer is zero behind its used part": the text of the lines, and a mark for each topic and table
pub record UsedText (m : Model) (ls : List (List ℕ)) (rooms : Rooms) (r : Result) : Type 0 where
  pub text_fits : length (unfolded_text ls) ≤ rooms.text
  pub marks_fit : mark_count m ≤ rooms.marks
  pub text : drop (length (unfolded_text ls)) r.text ≡ replicate (rooms.text - length (unfolded_text ls)) 0
  pub marks : drop (mark_count m) r.marks ≡ replicate (rooms.marks - mark_count m) 0

abbrev pub LinesSayWhatIsUsed : Type 0
LinesSayWhatIsUsed = (model file : List ℕ) (m : Model) (ls : List (List ℕ)) (rooms : Rooms) (objects cells points : ℕ)
    → Opened model file m ls → (read model file rooms).answer ≡ accepted objects cells points
    → UsedText m ls rooms (read model file rooms)

-- ## "Signed 64-bit cells"

abbrev pub IsCell : ℤ → Type 0
IsCell v = (lt_z v (pos (2 ^ 63)) ≡ true) × (lt_z v (negsuc (2 ^ 63 - 1)) ≡ false)

abbrev pub AreCells : List ℤ → Type 0
AreCells [] = Unit {0}
AreCells (v ∷ vs) = IsCell v × AreCells vs

abbrev pub CellsFit : Type 0
CellsFit = (model file : List ℕ) (rooms : Rooms)
    → AreCells (read model file rooms).cells × AreCells (read model file rooms).points
