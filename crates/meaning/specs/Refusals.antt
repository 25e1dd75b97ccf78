-- 01's table of refusals, computed: a smallest input for each row from 2 to 21, and the inputs next to it.
use Rattle.std.specs.Prelude.{ℕ, zero, suc, ◌+◌, ◌≡◌, Bool, pos}
use Prim.Native.String.{String}
use Rattle.std.proofs.Math.Path.{refl}
use mathlib.Core.List.{List, [], ◌∷◌, ◌++◌}
use Rattle.meaning.specs.Bytes.{choose, all_of, permitted, separator, digit, letter, text_byte, bytes_of, ends}
use Rattle.meaning.specs.Check.{special, name_byte}
use Rattle.meaning.specs.Answer.{Answer, accepted, refusal, numbers_of, TextResult, code_for_c, numbers_in}
use Rattle.meaning.specs.Reading.{Rooms}
use Rattle.meaning.specs.Writing.{Lent}
use Rattle.meaning.specs.Width.{goes_whole, cut_in, cut_line}
use Rattle.meaning.specs.Listing.{listing_rooms}
use Rattle.meaning.specs.Compute.{compute_read, compute_unfold, compute_write}
use Rattle.meaning.specs.ModelBytes.{u16_bytes, u64_bytes, record_bytes}
use Rattle.meaning.specs.Sample.{component_of_bits}

-- ## A model with three tables
-- A  an optional text X of 2 bytes, an optional coordinate P and an optional reference R to A
-- B  a number Z and a line L of straights alone, all mandatory
-- C  may be left out: an optional line K of arcs alone

-- no decimals, 0 to 9
abbrev pub digit_bytes : List ℕ
digit_bytes = component_of_bits 0 0 9

unfoldable pub small_model : List ℕ
unfolding record_bytes u16_bytes u64_bytes
small_model =
    record_bytes 1 (bytes_of "_@\\T")
    ++ record_bytes 2 (bytes_of "M")
    ++ record_bytes 3 (bytes_of "N")
    ++ record_bytes 4 (0 ∷ bytes_of "A")
    ++ record_bytes 5 (1 ∷ 5 ∷ 2 ∷ 0 ∷ bytes_of "X")
    ++ record_bytes 5 (1 ∷ 2 ∷ (digit_bytes ++ digit_bytes ++ bytes_of "P"))
    ++ record_bytes 5 (1 ∷ 1 ∷ 0 ∷ 0 ∷ bytes_of "R")
    ++ record_bytes 4 (0 ∷ bytes_of "B")
    ++ record_bytes 5 (0 ∷ 4 ∷ (digit_bytes ++ bytes_of "Z"))
    ++ record_bytes 5 (0 ∷ 8 ∷ 1 ∷ 2 ∷ (digit_bytes ++ digit_bytes ++ bytes_of "L"))
    ++ record_bytes 4 (1 ∷ bytes_of "C")
    ++ record_bytes 5 (1 ∷ 8 ∷ 2 ∷ 2 ∷ (digit_bytes ++ digit_bytes ++ bytes_of "K"))
    ++ record_bytes 6 []

-- ## Reading

-- the answer of a reading of these bytes
unfoldable pub answers : List ℕ → Answer
unfolding compute_read small_model
answers file = (compute_read small_model file listing_rooms).answer

-- five lines, and these: the first of them is line 6
abbrev pub behind_topic : String → List ℕ
behind_topic ls = bytes_of "SCNT\n////\nMTID T\nMODL M\nTOPI N\n" ++ bytes_of ls

-- in table A, in table B, in table C: the first of these lines is line 7, 9 and 11
abbrev pub in_a : String → List ℕ
in_a ls = behind_topic "TABL A\n" ++ bytes_of ls

abbrev pub in_b : String → List ℕ
in_b ls = in_a "ETAB\nTABL B\n" ++ bytes_of ls

abbrev pub in_c : String → List ℕ
in_c ls = in_b "ETAB\nTABL C\n" ++ bytes_of ls

-- an input, and its answer
pub data Row : Type 0 where
  row : List ℕ → Answer → Row

abbrev pub reading_rows : List Row
reading_rows =
    -- 3 "last line has no LF, or ends in the mark"
    row (bytes_of "SCNT") (refusal 3 1 0)
    ∷ row (bytes_of "SCNT\\\n") (refusal 3 1 0)
    -- the last line ends in the mark, has no CONT and a byte that is not permitted: 3 comes first, then 5, then 4
    ∷ row (bytes_of "SC\\\n" ++ (1 ∷ bytes_of "\\\n")) (refusal 3 1 0)
    ∷ row (bytes_of "SC\\\n" ++ (1 ∷ bytes_of "\n")) (refusal 5 1 0)
    -- 4 "byte not permitted"
    ∷ row (bytes_of "SCNT" ++ (1 ∷ bytes_of "\n")) (refusal 4 1 0)
    -- 5 "mark not followed by CONT and space"
    ∷ row (bytes_of "SC\\\nNT\n") (refusal 5 1 0)
    -- 7 "another line code expected, or no line left (one past the last)"; "A line without fields where a code is due,
    -- a line behind ENDE and `////x` are 7"
    ∷ row (bytes_of "ENDE\n") (refusal 7 1 1)
    ∷ row [] (refusal 7 1 1)
    ∷ row (bytes_of "SCNT\n") (refusal 7 2 1)
    ∷ row (bytes_of " \n") (refusal 7 1 1)
    ∷ row (bytes_of "SCNT\n////x\n") (refusal 7 2 1)
    ∷ row (bytes_of "SCNT\n////\nMTID T\nMODL M\nEMOD\nENDE\n\n") (refusal 7 7 1)
    -- 8 "MOTR in place of MTID"
    ∷ row (bytes_of "SCNT\n////\nMOTR T\n") (refusal 8 3 1)
    ∷ row (bytes_of "SCNT\n////\nMOTR\n") (refusal 8 3 1)
    -- 9 "name wrong or not in order", before an extra field
    ∷ row (bytes_of "SCNT\n////\nMTID U x\n") (refusal 9 3 2)
    ∷ row (bytes_of "SCNT\n////\nMTID T\nMODL U\n") (refusal 9 4 2)
    ∷ row (bytes_of "SCNT\n////\nMTID T\nMODL M\nTOPI U\n") (refusal 9 5 2)
    ∷ row (behind_topic "TABL U\n") (refusal 9 6 2)
    ∷ row (in_a "ETAB\nTABL A\n") (refusal 9 8 2)
    -- 10 "mandatory table skipped": 2 at TABL, 1 at ETOP
    ∷ row (behind_topic "TABL B\n") (refusal 10 6 2)
    ∷ row (behind_topic "ETOP\n") (refusal 10 6 1)
    ∷ row (behind_topic "ETOP x\n") (refusal 10 6 1)
    -- 11 "field missing or extra"
    ∷ row (bytes_of "SCNT x\n") (refusal 11 1 2)
    ∷ row (bytes_of "SCNT\n////\nMTID\n") (refusal 11 3 2)
    ∷ row (bytes_of "SCNT\n////\nMTID T x\n") (refusal 11 3 3)
    ∷ row (in_a "OBJE\n") (refusal 11 7 2)
    ∷ row (in_a "OBJE a x 1 2\n") (refusal 11 7 6)
    ∷ row (in_a "OBJE a x 1 2 @ y\n") (refusal 11 7 7)
    ∷ row (in_a "OBJE a x @@ y\n") (refusal 11 7 5)
    ∷ row (in_b "OBJE a 1\nSTPT 1\n") (refusal 11 10 3)
    ∷ row (in_b "OBJE a 1\nSTPT 1 2 3\n") (refusal 11 10 4)
    -- 12 "undefined where not allowed, mixed coordinate"
    ∷ row (in_a "OBJE @\n") (refusal 12 7 2)
    ∷ row (in_a "OBJE @@\n") (refusal 12 7 2)
    ∷ row (in_b "OBJE a @\n") (refusal 12 9 3)
    ∷ row (in_b "OBJE a @@\n") (refusal 12 9 3)
    ∷ row (in_a "OBJE a x 1 @ @\n") (refusal 12 7 5)
    ∷ row (in_a "OBJE a x 1 @@\n") (refusal 12 7 5)
    ∷ row (in_a "OBJE a x @ 1 @\n") (refusal 12 7 5)
    ∷ row (in_b "OBJE a 1\nELIN\n") (refusal 12 10 1)
    ∷ row (in_b "OBJE a 1\nSTPT @ 2\n") (refusal 12 10 2)
    ∷ row (in_b "OBJE a 1\nSTPT 1 @@\n") (refusal 12 10 3)
    -- 13 "field has wrong shape", before 14
    ∷ row (in_a "OBJE " ++ (0xd7 ∷ bytes_of "\n")) (refusal 13 7 2)
    ∷ row (in_b "OBJE a 1.0\n") (refusal 13 9 3)
    ∷ row (in_a "OBJE a xy" ++ (0xd7 ∷ bytes_of "\n")) (refusal 13 7 3)
    ∷ row (in_b "OBJE a 1\nSTPT a 2\n") (refusal 13 10 2)
    -- 14 "outside its domain, text too long"
    ∷ row (in_b "OBJE a 10\n") (refusal 14 9 3)
    ∷ row (in_b "OBJE a -1\n") (refusal 14 9 3)
    ∷ row (in_a "OBJE a xyz\n") (refusal 14 7 3)
    ∷ row (in_b "OBJE a 1\nSTPT 1 10\n") (refusal 14 10 3)
    -- 15 "identification used twice", "after the identification's shape"
    ∷ row (in_a "OBJE a @@\nOBJE a\n") (refusal 15 8 2)
    ∷ row (in_a "OBJE a @@\nETAB\nTABL B\nOBJE a 1.0\n") (refusal 15 10 2)
    -- 17 "reference names no object of its table": the object from 0, and the field behind a coordinate's two
    ∷ row (in_a "OBJE a @ @ @ a\nOBJE b @ 1 2 c\nETAB\nTABL B\nETAB\nETOP\nEMOD\nENDE\n") (refusal 17 1 6)
    -- 18 "straight or arc not in the forms", before the fields; behind ARCP a LIPT ends the arc, and another ARCP is 7
    ∷ row (in_b "OBJE a 1\nSTPT 1 2\nARCP\n") (refusal 18 11 1)
    ∷ row (in_c "OBJE a\nSTPT 1 2\nLIPT\n") (refusal 18 13 1)
    ∷ row (in_c "OBJE a\nSTPT 1 2\nARCP 1 2\nARCP 1 2\n") (refusal 7 14 1)
    -- and what is right next to them
    ∷ row (bytes_of "SCNT\n\n////\nMTID T\nMODL M\nEMOD\nENDE\n") (accepted 0 0 0)
    ∷ row (in_a "ETAB\nTABL B\nETAB\nETOP\nEMOD\nENDE\n") (accepted 0 0 0)
    ∷ row (in_b "OBJE a +009\nSTPT 1 2\nLIPT 3 4\nELIN\nETAB\nETOP\nEMOD\nENDE\n") (accepted 1 7 2)
    ∷ row (in_c "OBJE a\nELIN\nOBJE b\nSTPT 1 2\nARCP 1 2\nLIPT 3 4\nELIN\nETAB\nETOP\nEMOD\nENDE\n") (accepted 2 10 3)
    ∷ row (in_a "OBJE a x @ @@\nETAB\nTABL B\nETAB\nETOP\nEMOD\nENDE\n") (accepted 1 11 0)
    ∷ []

unfoldable pub answered : List Row → List Answer
unfolding answers
answered [] = []
answered (row file answer ∷ others) = answers file ∷ answered others

unfoldable pub asked : List Row → List Answer
asked [] = []
asked (row file answer ∷ others) = answer ∷ asked others

pub each_refusal : answered reading_rows ≡ asked reading_rows
unfolding answered asked
each_refusal = refl

-- ## Reading, with less room or a bad model

-- the answer of a reading of one object of A with this line, in these rooms
unfoldable pub answers_in : Rooms → String → Answer
unfolding compute_read small_model
answers_in rooms line7 = (compute_read small_model (in_a line7) rooms).answer

abbrev pub rooms_with : (text marks rows cells points : ℕ) → Rooms
rooms_with text marks rows cells points =
    record { text = text; marks = marks; rows = rows; cells = cells; points = points }

-- the answer of a reading of one object of B with a line of two points, in these rooms
unfoldable pub answers_b : Rooms → Answer
unfolding compute_read small_model
answers_b rooms = (compute_read small_model
    (in_b "OBJE a 1\nSTPT 1 2\nLIPT 3 4\nELIN\nETAB\nETOP\nEMOD\nENDE\n") rooms).answer

-- 2 "model bad", before the file; 6 "too little room for unfolded text or marks": the text has 102 bytes, the marks are
-- 4; 16 "no room for a row, its cells or a point", behind the fields of its line
pub each_room :
    ((compute_read
    (record_bytes 1 (bytes_of "_@\\T") ++ record_bytes 3 (bytes_of "N"))
    (bytes_of "x")
    listing_rooms).answer
    ∷ answers_b (rooms_with 102 4 1 7 8)
    ∷ answers_b (rooms_with 101 4 1 7 8)
    ∷ answers_b (rooms_with 102 3 1 7 8)
    ∷ answers_b (rooms_with 102 4 0 7 8)
    ∷ answers_b (rooms_with 102 4 1 6 8)
    ∷ answers_b (rooms_with 102 4 1 7 7)
    ∷ answers_b (rooms_with 102 4 1 7 3)
    ∷ answers_in (rooms_with 102 4 0 7 8) "OBJE a xyz\n"
    ∷ answers_in (rooms_with 102 4 0 7 8) "OBJE a @@ x\n"
    ∷ answers_in (rooms_with 102 4 0 7 8) "OBJE a @@\n"
    ∷ [])
    ≡ (refusal 2 8 0
    ∷ accepted 1 7 2
    ∷ refusal 6 0 0
    ∷ refusal 6 0 0
    ∷ refusal 16 9 0
    ∷ refusal 16 9 0
    ∷ refusal 16 11 0
    ∷ refusal 16 10 0
    ∷ refusal 14 7 3
    ∷ refusal 11 7 4
    ∷ refusal 16 7 0
    ∷ [])
unfolding answers_in answers_b compute_read record_bytes u16_bytes
each_room = refl

-- ## Writing

-- one object a of table A with the text x, in a text of so many bytes of `ax`; so its file at width 16 is
-- SCNT, ////, MTID T, MODL M, TOPI N, TABL A, OBJE a x @ @ @, ETAB, TABL B, ETAB, ETOP, EMOD, ENDE: 85 bytes
abbrev pub lent_a : List ℕ → Lent
lent_a text = record {
  text = text;
  marks = 1 ∷ 1 ∷ 1 ∷ 0 ∷ [];
  rows = 0 ∷ [];
  cells = pos 0 ∷ pos 0 ∷ pos 1 ∷ pos 2 ∷ pos 1 ∷ pos 0 ∷ pos 0 ∷ pos 0 ∷ pos 0 ∷ pos 0 ∷ pos 0 ∷ [];
  points = [];
  objects = 1;
  cell_count = 11;
  point_count = 0;
}

unfoldable pub writes_a : List ℕ → (width room : ℕ) → Answer
unfolding compute_write small_model
writes_a text width room = (compute_write small_model (lent_a text) width room).answer

-- "In writing: 2, 20, 19, 21": 19 "no lines read as this table", here a text that is too short; 20 "width not 16 to
-- 65,535"; 21 "output room or 16,777,216 too small"
pub each_writing :
    ((compute_write [] (lent_a []) 15 0).answer
    ∷ writes_a (bytes_of "a") 15 0
    ∷ writes_a (bytes_of "a") 65536 0
    ∷ writes_a (bytes_of "a") 16 0
    ∷ writes_a (bytes_of "ax") 16 84
    ∷ writes_a (bytes_of "ax") 16 85
    ∷ writes_a (bytes_of "ax") 65535 85
    ∷ [])
    ≡ (refusal 2 0 0
    ∷ refusal 20 0 0
    ∷ refusal 20 0 0
    ∷ refusal 19 0 0
    ∷ refusal 21 0 0
    ∷ accepted 85 0 0
    ∷ accepted 85 0 0
    ∷ [])
unfolding writes_a compute_write
each_writing = refl

-- a line of exactly the width goes out whole, and one byte more is cut: 15 bytes and the mark, then CONT and a space
-- and as much as fits the width with a mark; the rest of 11 bytes goes out whole
pub each_cut :
    (cut_line 0x5c 16 (bytes_of "OBJE a bcdefghij")
    ∷ cut_line 0x5c 16 (bytes_of "OBJE a bcdefghijk")
    ∷ cut_line 0x5c 16 (bytes_of "OBJE a bcdefghijklmnopqrst")
    ∷ cut_line 0x5c 16 (bytes_of "OBJE a bcdefghijklmnopqrstu")
    ∷ cut_line 0x5c 16 (bytes_of "OBJE a bcdefgh\\")
    ∷ cut_line 0x5c 16 (bytes_of "OBJE a bcdefghi\\")
    ∷ [])
    ≡ (bytes_of "OBJE a bcdefghij\n"
    ∷ bytes_of "OBJE a bcdefghi\\\nCONT jk\n"
    ∷ bytes_of "OBJE a bcdefghi\\\nCONT jklmnopqrst\n"
    ∷ bytes_of "OBJE a bcdefghi\\\nCONT jklmnopqrs\\\nCONT tu\n"
    ∷ bytes_of "OBJE a bcdefgh\\\\\nCONT \n"
    ∷ bytes_of "OBJE a bcdefghi\\\nCONT \\\\\nCONT \n"
    ∷ [])
unfolding cut_line cut_in goes_whole choose ends
each_cut = refl

-- ## The unfolding alone

unfoldable pub unfolds : List ℕ → (room : ℕ) → TextResult
unfolding compute_unfold small_model
unfolds file room = compute_unfold small_model file room

-- "0, text bytes, 0, 0 or reading's 1, 2, 3 to 6": a text of 5 bytes in just enough room, with two bytes more, in one
-- byte too few; 3 and not 6 where there is no room at all; 2 before 3
pub each_unfolding :
    (unfolds (bytes_of "SC\\\nCONT NT\n") 5
    ∷ unfolds (bytes_of "SCNT\n") 7
    ∷ unfolds (bytes_of "SCNT\n") 4
    ∷ unfolds (bytes_of "SCNT") 0
    ∷ compute_unfold [] (bytes_of "SCNT") 1
    ∷ [])
    ≡ (record { answer = accepted 5 0 0; text = bytes_of "SCNT\n" }
    ∷ record { answer = accepted 5 0 0; text = bytes_of "SCNT\n" ++ (0 ∷ 0 ∷ []) }
    ∷ record { answer = refusal 6 0 0; text = 0 ∷ 0 ∷ 0 ∷ 0 ∷ [] }
    ∷ record { answer = refusal 3 1 0; text = [] }
    ∷ record { answer = refusal 2 0 0; text = 0 ∷ [] }
    ∷ [])
unfolding unfolds compute_unfold
each_unfolding = refl

-- ## What a host sees

-- "An answer is four numbers", "C gets each as one u64: first number plus 256 times the second"
pub each_number :
    (numbers_of (accepted 1 2 3) ∷ numbers_of (refusal 14 5 7) ∷ [])
    ≡ ((0 ∷ 1 ∷ 2 ∷ 3 ∷ []) ∷ (14 ∷ 5 ∷ 7 ∷ 0 ∷ []) ∷ [])
unfolding numbers_of
each_number = refl

-- "An answer is four numbers": as many as there is room for, and zeros behind
pub each_room_of_numbers :
    (numbers_in 2 (refusal 14 5 7) ∷ numbers_in 4 (accepted 1 2 3) ∷ numbers_in 6 (refusal 14 5 7) ∷ [])
    ≡ ((14 ∷ 5 ∷ []) ∷ (0 ∷ 1 ∷ 2 ∷ 3 ∷ []) ∷ (14 ∷ 5 ∷ 7 ∷ 0 ∷ 0 ∷ 0 ∷ []) ∷ [])
unfolding numbers_in numbers_of
each_room_of_numbers = refl

pub each_code :
    (code_for_c (accepted 5 7 9) ∷ code_for_c (refusal 2 5 7) ∷ []) ≡ (1280 ∷ 1282 ∷ [])
unfolding code_for_c
each_code = refl

-- ## Kinds of bytes

-- of the numbers below n, those of a kind, from the least on
unfoldable pub of_kind : (ℕ → Bool) → (n : ℕ) → List ℕ
of_kind kind zero = []
of_kind kind (suc n) = of_kind kind n ++ choose (kind n) (n ∷ []) []

-- so many numbers, from the first on
unfoldable pub numbers_from : (first count : ℕ) → List ℕ
numbers_from first zero = []
numbers_from first (suc count) = first ∷ numbers_from (first + 1) count

-- of all bytes: "09, 20 to 7E, A0 to FF hex"; space and tab; "21 to 7E, C0 to FF without D7 and F7"; of a model's names
-- letters, digits and _; of its three bytes "21 to 7E hex .. no letter, digit, + - . or /"
pub each_byte :
    (of_kind permitted 256 ∷ of_kind separator 256 ∷ of_kind text_byte 256 ∷ of_kind digit 256 ∷ of_kind letter 256
    ∷ of_kind name_byte 256 ∷ of_kind special 256 ∷ [])
    ≡ ((9 ∷ (numbers_from 0x20 95 ++ numbers_from 0xa0 96))
    ∷ (0x09 ∷ 0x20 ∷ [])
    ∷ (numbers_from 0x21 94 ++ (numbers_from 0xc0 23 ++ (numbers_from 0xd8 31 ++ numbers_from 0xf8 8)))
    ∷ numbers_from 0x30 10
    ∷ (numbers_from 0x41 26 ++ numbers_from 0x61 26)
    ∷ (numbers_from 0x30 10 ++ (numbers_from 0x41 26 ++ (0x5f ∷ numbers_from 0x61 26)))
    ∷ (numbers_from 0x21 10 ++ (0x2c ∷ (numbers_from 0x3a 7 ++ (numbers_from 0x5b 6 ++ numbers_from 0x7b 4))))
    ∷ [])
unfolding of_kind numbers_from permitted separator text_byte digit letter name_byte special all_of choose
each_byte = refl
