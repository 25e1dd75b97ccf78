-- What is proved of these definitions, in proofs/Reading/Claims.antt.
use Rattle.std.specs.Prelude.{ℕ, ◌*◌, ◌-◌, ◌≤◌, ◌<◌, ◌≡◌, false, List, ◌↔◌, pos, length, drop, replicate}
use Rattle.meaning.specs.Unfold.{lines, fault, unfold_file, unfolded_text}
use Rattle.meaning.specs.Cut.{Cut, Mark, Permitted}
use Rattle.meaning.specs.Faults.{Begun, FirstFault}
use Rattle.meaning.specs.Model.{Model}
use Rattle.meaning.specs.Check.{Checked, good, bad, check_model}
use Rattle.meaning.specs.Answer.{accepted, refusal, filled, text_unfolded, unfold_text}
use Rattle.meaning.specs.Reading.{Rooms}
use Rattle.meaning.specs.Table.{Result, refused_with, read_text, read}
use Rattle.meaning.specs.Width.{cut_lines}

-- ## Unfolding and cuts

-- (a) a cut of lines is unfolded to exactly those lines
abbrev pub CutUnfolds : Type 0
CutUnfolds = (mark : ℕ) → Mark mark → (ls : List (List ℕ)) (f : List ℕ) → Cut mark ls f → unfold_file mark f ≡ lines ls

-- (b) a file without a fault of unfolding is a cut of its lines, and their bytes are permitted
abbrev pub UnfoldsCut : Type 0
UnfoldsCut = (mark : ℕ) → Mark mark → (ls : List (List ℕ)) (f : List ℕ) → unfold_file mark f ≡ lines ls → Cut mark ls f
    × Permitted ls

-- f is a cut of ls, and of no other lines
pub record OnlyCut (mark : ℕ) (f : List ℕ) : Type 0 where
  pub of : List (List ℕ)
  pub cut : Cut mark of f
  pub only : (ks : List (List ℕ)) → Cut mark ks f → ks ≡ of

-- (c) "every file without a fault of unfolding is a cut of exactly one list of lines"
abbrev pub OneCut : Type 0
OneCut = (mark : ℕ) → Mark mark → (f : List ℕ) → ((number line : ℕ) → unfold_file mark f ≡ fault number line → ⊥)
    → OnlyCut mark f

-- the lines that a file is a cut of are complete behind its physical lines, and the other way round
abbrev pub CutIsBegun : Type 0
CutIsBegun = (mark : ℕ) → Mark mark → (ls : List (List ℕ)) (f : List ℕ) → Cut mark ls f → Begun mark (length ls) false f

-- f is a cut of so many lines, and of no others
pub record CutOf (mark n : ℕ) (f : List ℕ) : Type 0 where
  pub lines : OnlyCut mark f
  pub count : length lines.of ≡ n

abbrev pub BegunIsCut : Type 0
BegunIsCut = (mark : ℕ) → Mark mark → (n : ℕ) (f : List ℕ) → Begun mark n false f → CutOf mark n f

-- the fault of unfolding is the first one, and no other
abbrev pub FaultExactly : Type 0
FaultExactly = (mark : ℕ) → Mark mark → (f : List ℕ) (number line : ℕ)
    → (unfold_file mark f ≡ fault number line) ↔ FirstFault mark f number line

-- "under a good model every file without a fault of unfolding is a cut of exactly one list of lines"
abbrev pub OneCutUnder : Type 0
OneCutUnder = (model : List ℕ) (m : Model) (f : List ℕ) → check_model model ≡ good m
    → ((number line : ℕ) → FirstFault m.mark f number line → ⊥) → OnlyCut m.mark f

-- ## The unfolding alone: "0, text bytes, 0, 0 or reading's 1, 2, 3 to 6"

-- a cut of lines whose text has room is answered with the text's length, and the room holds the text
abbrev pub TextUnfolds : Type 0
TextUnfolds =
    (model : List ℕ) (m : Model) (ls : List (List ℕ)) (f : List ℕ) (room : ℕ) → check_model model ≡ good m
    → length f ≤ 16777216 → Cut m.mark ls f → length (unfolded_text ls) ≤ room
    → unfold_text model f room ≡ record {
      answer = accepted (length (unfolded_text ls)) 0 0;
      text = filled 0 room (unfolded_text ls);
    }

-- the first refusal of an unfolding: its number and its first place number
pub data FirstOfText (model file : List ℕ) (room : ℕ) : (number first : ℕ) → Type 0 where
  too_large : 16777216 < length file → FirstOfText model file room 1 0
  bad_model : {at : ℕ} → length file ≤ 16777216 → check_model model ≡ bad at → FirstOfText model file room 2 at
  faulty : {m : Model} {number line : ℕ} → length file ≤ 16777216 → check_model model ≡ good m
      → FirstFault m.mark file number line → FirstOfText model file room number line
  no_room : {m : Model} {ls : List (List ℕ)} → length file ≤ 16777216 → check_model model ≡ good m
      → Cut m.mark ls file → room < length (unfolded_text ls) → FirstOfText model file room 6 0

-- an unfolding is refused exactly with the first refusal
abbrev pub TextRefusedExactly : Type 0
TextRefusedExactly = (model file : List ℕ) (room number first : ℕ)
    → ((unfold_text model file room).answer ≡ refusal number first 0) ↔ FirstOfText model file room number first

-- ## Demand 3

-- a cut within the size limit is read as its lines: the answer and every buffer are those that reading defines for the
-- lines
abbrev pub CutReadsAsLines : Type 0
CutReadsAsLines =
    (model : List ℕ) (m : Model) (ls : List (List ℕ)) (f : List ℕ) (rooms : Rooms) → check_model model ≡ good m
    → length f ≤ 16777216 → Cut m.mark ls f
    → read model f rooms ≡ read_text m rooms ls

-- and so for the unfolding alone
abbrev pub CutUnfoldsToText : Type 0
CutUnfoldsToText =
    (model : List ℕ) (m : Model) (ls : List (List ℕ)) (f : List ℕ) (room : ℕ) → check_model model ≡ good m
    → length f ≤ 16777216 → Cut m.mark ls f
    → unfold_text model f room ≡ text_unfolded room (lines ls)

-- "under a bad one both files get 2"
abbrev pub BadModelReads : Type 0
BadModelReads = (model : List ℕ) (at : ℕ) (f : List ℕ) (rooms : Rooms)
    → check_model model ≡ bad at → length f ≤ 16777216
    → read model f rooms ≡ refused_with rooms 2 at 0

-- "A good model gives its mark": a cut under a checked model; under a bad one there is no mark, and nothing is asked
abbrev pub CutUnder : Checked → List (List ℕ) → List ℕ → Type 0
CutUnder (good m) ls f = Cut m.mark ls f
CutUnder (bad at) ls f = Unit {0}

-- two cuts of the same logical lines get "the same number, place, counts and contents of every result buffer"
abbrev pub CutsReadAlike : Type 0
CutsReadAlike =
    (model : List ℕ) (ls : List (List ℕ)) (f g : List ℕ) (rooms : Rooms) → length f ≤ 16777216 → length g ≤ 16777216
    → CutUnder (check_model model) ls f → CutUnder (check_model model) ls g → read model f rooms ≡ read model g rooms

-- ## What reading leaves in the buffers

-- nothing but zeros
pub record Zeroed (rooms : Rooms) (r : Result) : Type 0 where
  pub text : r.text ≡ replicate rooms.text 0
  pub marks : r.marks ≡ replicate rooms.marks 0
  pub rows : r.rows ≡ replicate rooms.rows 0
  pub cells : r.cells ≡ replicate rooms.cells (pos 0)
  pub points : r.points ≡ replicate rooms.points (pos 0)

-- "All result buffers are zeroed by every refusal"
abbrev pub RefusalZeroes : Type 0
RefusalZeroes =
    (model file : List ℕ) (rooms : Rooms) (number first second : ℕ)
    → (read model file rooms).answer ≡ refusal number first second
    → Zeroed rooms (read model file rooms)

-- every buffer keeps its length
pub record Kept (rooms : Rooms) (r : Result) : Type 0 where
  pub text : length r.text ≡ rooms.text
  pub marks : length r.marks ≡ rooms.marks
  pub rows : length r.rows ≡ rooms.rows
  pub cells : length r.cells ≡ rooms.cells
  pub points : length r.points ≡ rooms.points

abbrev pub BuffersKept : Type 0
BuffersKept = (model file : List ℕ) (rooms : Rooms) → Kept rooms (read model file rooms)

-- "Every result buffer is zero behind its used part": the answer's counts say what is used
pub record UsedBy (rooms : Rooms) (object_count cell_count point_count : ℕ) (r : Result) : Type 0 where
  pub rows_fit : object_count ≤ rooms.rows
  pub cells_fit : cell_count ≤ rooms.cells
  pub points_fit : 4 * point_count ≤ rooms.points
  pub rows : drop object_count r.rows ≡ replicate (rooms.rows - object_count) 0
  pub cells : drop cell_count r.cells ≡ replicate (rooms.cells - cell_count) (pos 0)
  pub points : drop (4 * point_count) r.points ≡ replicate (rooms.points - 4 * point_count) (pos 0)

abbrev pub CountsSayWhatIsUsed : Type 0
CountsSayWhatIsUsed =
    (model file : List ℕ) (rooms : Rooms) (objects count points : ℕ)
    → (read model file rooms).answer ≡ accepted objects count points
    → UsedBy rooms objects count points (read model file rooms)

-- the unfolding's text room, likewise
abbrev pub UnfoldingRefusalZeroes : Type 0
UnfoldingRefusalZeroes = (model file : List ℕ) (room number first second : ℕ)
    → (unfold_text model file room).answer ≡ refusal number first second
    → (unfold_text model file room).text ≡ replicate room 0

abbrev pub UnfoldingKeepsRoom : Type 0
UnfoldingKeepsRoom = (model file : List ℕ) (room : ℕ) → length (unfold_text model file room).text ≡ room

-- ## Writing

-- the writer's lines, cut to a width, are a cut of them
abbrev pub WidthCuts : Type 0
WidthCuts = (mark width : ℕ) (ls : List (List ℕ)) → 16 ≤ width → Permitted ls → Cut mark ls (cut_lines mark width ls)
