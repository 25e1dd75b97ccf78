-- Cases that the sample's model does not try, computed: dates, two undefined bytes, long names, and a text's own last
-- mark in writing.
use Rattle.std.specs.Prelude.{ℕ, ◌≡◌, refl, List, [], ◌∷◌, ◌++◌, ℤ, pos}
use Prim.Native.String.{String}
use Rattle.meaning.specs.Bytes.{bytes_of}
use Rattle.meaning.specs.Answer.{accepted, refusal, numbers_of}
use Rattle.meaning.specs.Reading.{Rooms}
use Rattle.meaning.specs.Table.{Result}
use Rattle.meaning.specs.Writing.{Lent}
use Rattle.meaning.specs.Width.{Written}
use Rattle.meaning.specs.Listing.{listing_rooms}
use Rattle.meaning.specs.Compute.{compute_listing, compute_read, compute_write}
use Rattle.meaning.specs.ModelBytes.{u16_bytes, u64_bytes, record_bytes}
use Rattle.meaning.specs.Sample.{component_of_bits, lage, sample_model, with7}

-- ## A model of one table: a mandatory date D, an optional text X and a mandatory text Y of 4 bytes; its topic's name
-- has 24 bytes

unfoldable pub date_model : List ℕ
unfolding record_bytes u16_bytes
date_model =
    record_bytes 1 (bytes_of "_@\\T")
    ++ record_bytes 2 (bytes_of "M")
    ++ record_bytes 3 (bytes_of "Abcdefghijklmnopqrstuvwx")
    ++ record_bytes 4 (0 ∷ bytes_of "A")
    ++ record_bytes 5 (0 ∷ 6 ∷ bytes_of "D")
    ++ record_bytes 5 (1 ∷ 5 ∷ 4 ∷ 0 ∷ bytes_of "X")
    ++ record_bytes 5 (0 ∷ 5 ∷ 4 ∷ 0 ∷ bytes_of "Y")
    ++ record_bytes 6 []

-- a file with this topic's name, and this line 7
abbrev pub dated : String → String → List ℕ
dated topic line7 = bytes_of "SCNT\n////\nMTID T\nMODL M\nTOPI " ++ bytes_of topic ++ bytes_of "\nTABL A\n"
    ++ bytes_of line7 ++ bytes_of "\nETAB\nETOP\nEMOD\nENDE\n"

unfoldable pub prints_dated : String → String → List ℕ
unfolding compute_listing date_model
prints_dated topic line7 = compute_listing listing_rooms (date_model ++ dated topic line7)

pub dates_and_names :
    (prints_dated "Abcdefghijklmnopqrstuvwx" "OBJE a 19991231 x y"
    ∷ prints_dated "Abcdefghijklmnopqrstuvwx" "OBJE a 19991301 x y"
    ∷ prints_dated "Abcdefghijklmnopqrstuvwx" "OBJE a 19991200 x y"
    ∷ prints_dated "Abcdefghijklmnopqrstuvwx" "OBJE a 1999123 x y"
    -- two undefined bytes over an optional and a mandatory field
    ∷ prints_dated "Abcdefghijklmnopqrstuvwx" "OBJE a 19991231 @@"
    ∷ prints_dated "Abcdefghijklmnopqrstuvwx" "OBJE a 19991231 @ y"
    -- topics' names compare by their first 24 bytes
    ∷ prints_dated "Abcdefghijklmnopqrstuvwxyz" "OBJE a 19991231 x y"
    ∷ prints_dated "Abcdefghijklmnopqrstuvw" "OBJE a 19991231 x y"
    ∷ [])
    ≡ (bytes_of "0 1 9 0\n0 66 1 1 19991231 2 77 2 79\n"
    ∷ bytes_of "14 7 3 0\n"
    ∷ bytes_of "14 7 3 0\n"
    ∷ bytes_of "13 7 3 0\n"
    ∷ bytes_of "12 7 4 0\n"
    ∷ bytes_of "0 1 9 0\n0 66 1 1 19991231 0 0 2 79\n"
    ∷ bytes_of "0 1 9 0\n0 68 1 1 19991231 2 79 2 81\n"
    ∷ bytes_of "9 5 2 0\n"
    ∷ [])
unfolding prints_dated
dates_and_names = refl

-- ## Writing: a model of one table with a mandatory text of 4 bytes, and an object a with the text b\

unfoldable pub text_model : List ℕ
unfolding record_bytes u16_bytes
text_model =
    record_bytes 1 (bytes_of "_@\\T")
    ++ record_bytes 2 (bytes_of "M")
    ++ record_bytes 3 (bytes_of "N")
    ++ record_bytes 4 (0 ∷ bytes_of "A")
    ++ record_bytes 5 (0 ∷ 5 ∷ 4 ∷ 0 ∷ bytes_of "Y")
    ++ record_bytes 6 []

-- the object's text is so many bytes long
abbrev pub lent : ℤ → Lent
lent size = record {
  text = bytes_of "ab\\";
  marks = 1 ∷ 1 ∷ [];
  rows = 0 ∷ [];
  cells = pos 0 ∷ pos 0 ∷ pos 1 ∷ size ∷ pos 1 ∷ [];
  points = [];
  objects = 1;
  cell_count = 5;
  point_count = 0;
}

unfoldable pub writes_as : ℤ → ℕ → ℕ → Written
unfolding compute_write text_model
writes_as size width room = compute_write text_model (lent size) width room

-- "Taking a text's own last \ for nothing special when writing" would write `OBJE a b\`, which the next line had to
-- continue
pub own_mark : writes_as (pos 3) 16 76 ≡ record {
  answer = accepted 75 0 0;
  output = bytes_of "SCNT\n////\nMTID T\nMODL M\nTOPI N\nTABL A\nOBJE a b\\\\\nCONT \nETAB\nETOP\nEMOD\nENDE\n"
      ++ (0 ∷ []);
}
unfolding writes_as
own_mark = refl

-- "In writing: 2, 20, 19, 21": a stretch outside the lent text is 19, a width of 15 is 20, and no room at all is 21
pub writing_refused_lem : (writes_as (pos 4) 16 2 ∷ writes_as (pos 4) 15 2 ∷ writes_as (pos 3) 16 0 ∷ []) ≡
    (record { answer = refusal 19 0 0; output = 0 ∷ 0 ∷ [] }
    ∷ record { answer = refusal 20 0 0; output = 0 ∷ 0 ∷ [] }
    ∷ record { answer = refusal 21 0 0; output = [] }
    ∷ [])
unfolding writes_as
writing_refused_lem = refl

-- the file has 75 bytes, so 74 are one too few
pub one_byte_short : (writes_as (pos 3) 16 74).answer ≡ refusal 21 0 0
unfolding writes_as
one_byte_short = refl

-- ## Reading: all that the sample leaves in the buffers, in just enough room and one byte, mark, row, cell and point
-- cell more

unfoldable pub reads_sample : Rooms → Result
unfolding compute_read sample_model
reads_sample rooms = compute_read sample_model (with7 "OBJE k1 A_1 10.0 20.5") rooms

abbrev pub one_more : Rooms
one_more = record { text = 170; marks = 4; rows = 3; cells = 19; points = 13 }

pub whole_table : reads_sample one_more ≡ record {
  answer = accepted 2 18 3;
  text = with7 "OBJE k1 A_1 10.0 20.5" ++ (0 ∷ []);
  marks = 1 ∷ 1 ∷ 1 ∷ 0 ∷ [];
  rows = 0 ∷ 9 ∷ 0 ∷ [];
  cells = pos 0 ∷ pos 51 ∷ pos 2 ∷ pos 4 ∷ pos 54 ∷ pos 1 ∷ pos 100 ∷ pos 1 ∷ pos 205
      ∷ pos 1 ∷ pos 91 ∷ pos 2 ∷ pos 1 ∷ pos 0 ∷ pos 0 ∷ pos 0 ∷ pos 4 ∷ pos 0 ∷ pos 0 ∷ [];
  points = pos 0 ∷ pos 100 ∷ pos 205 ∷ pos 0 ∷ pos 2 ∷ pos 110 ∷ pos 210 ∷ pos 0 ∷ pos 1 ∷ pos 120 ∷ pos 205 ∷ pos 0
      ∷ pos 0 ∷ [];
}
unfolding reads_sample
whole_table = refl

-- ## Two topics, and what the sample has not: an enumeration, heights, and a line attribute before a reference

-- topic N with a table A: an enumeration E of 3 leaves, an optional coordinate P of three, an optional line L, an
-- optional reference R to A; topic O with a table B, which may be left out: a date
unfoldable pub wide_model : List ℕ
unfolding record_bytes u16_bytes u64_bytes
wide_model =
    record_bytes 1 (bytes_of "_@\\T")
    ++ record_bytes 2 (bytes_of "M")
    ++ record_bytes 3 (bytes_of "N")
    ++ record_bytes 4 (0 ∷ bytes_of "A")
    ++ record_bytes 5 (0 ∷ 7 ∷ 3 ∷ 0 ∷ bytes_of "E")
    ++ record_bytes 5 (1 ∷ 3 ∷ (lage ++ component_of_bits 0 0 9 ++ bytes_of "P"))
    ++ record_bytes 5 (1 ∷ 8 ∷ 3 ∷ 3 ∷ (lage ++ component_of_bits 0 0 9 ++ bytes_of "L"))
    ++ record_bytes 5 (1 ∷ 1 ∷ 0 ∷ 0 ∷ bytes_of "R")
    ++ record_bytes 3 (bytes_of "O")
    ++ record_bytes 4 (1 ∷ bytes_of "B")
    ++ record_bytes 5 (0 ∷ 6 ∷ bytes_of "D")
    ++ record_bytes 6 []

unfoldable pub reads_wide : List ℕ → Rooms → Result
unfolding compute_read wide_model
reads_wide ls rooms = compute_read wide_model (bytes_of "SCNT\n////\nMTID T\nMODL M\n" ++ ls) rooms

abbrev pub wide_lines : List ℕ
wide_lines = bytes_of "TOPI N\nTABL A\nOBJE a 02 1.0 2.0 3 a\nSTPT 1.0 2.0 3\nLIPT 4.0 5.0 6\nELIN\nETAB\nETOP\n"
    ++ bytes_of "TOPI O\nTABL B\nOBJE b 20000229\nETAB\nETOP\nEMOD\nENDE\n"

abbrev pub wide_end : List ℕ
wide_end = bytes_of "ETOP\nEMOD\nENDE\n"

abbrev pub rooms_of_marks : ℕ → Rooms
rooms_of_marks marks = record { text = 100; marks = marks; rows = 0; cells = 0; points = 0 }

-- all buffers, in just enough room
pub two_topics : reads_wide wide_lines (record { text = 155; marks = 4; rows = 2; cells = 20; points = 8 }) ≡ record {
  answer = accepted 2 20 2;
  text = bytes_of "SCNT\n////\nMTID T\nMODL M\n" ++ wide_lines;
  marks = 1 ∷ 1 ∷ 1 ∷ 1 ∷ [];
  rows = 0 ∷ 15 ∷ [];
  cells = pos 0 ∷ pos 43 ∷ pos 1 ∷ pos 1 ∷ pos 2 ∷ pos 1 ∷ pos 10 ∷ pos 1 ∷ pos 20 ∷ pos 1 ∷ pos 3 ∷ pos 3 ∷ pos 0
      ∷ pos 1 ∷ pos 0
      ∷ pos 1 ∷ pos 124 ∷ pos 1 ∷ pos 1 ∷ pos 20000229 ∷ [];
  points = pos 0 ∷ pos 10 ∷ pos 20 ∷ pos 3 ∷ pos 1 ∷ pos 40 ∷ pos 50 ∷ pos 6 ∷ [];
}
unfolding reads_wide
two_topics = refl

-- "Marks: one byte per topic, then per table": the second topic alone, with its table and without; 17 behind a line
-- attribute, which has no field; a leaf beyond the last
pub topics_and_fields :
    ((reads_wide (bytes_of "TOPI O\nTABL B\nETAB\nETOP\nEMOD\nENDE\n") (rooms_of_marks 4)).marks
    ∷ (reads_wide (bytes_of "TOPI O\nETOP\nEMOD\nENDE\n") (rooms_of_marks 5)).marks
    ∷ numbers_of (reads_wide (bytes_of "TOPI N\nTABL A\nOBJE a 0 @@\nELIN\nOBJE b 0 @ @ @ q\nELIN\nETAB\n" ++ wide_end)
    listing_rooms).answer
    ∷ numbers_of (reads_wide (bytes_of "TOPI N\nTABL A\nOBJE a 3\n") listing_rooms).answer
    ∷ [])
    ≡ ((0 ∷ 1 ∷ 0 ∷ 1 ∷ [])
    ∷ (0 ∷ 1 ∷ 0 ∷ 0 ∷ 0 ∷ [])
    ∷ (17 ∷ 1 ∷ 7 ∷ 0 ∷ [])
    ∷ (14 ∷ 7 ∷ 3 ∷ 0 ∷ [])
    ∷ [])
unfolding reads_wide numbers_of
topics_and_fields = refl
