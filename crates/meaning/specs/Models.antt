-- Models next to a good one (01, "The compiled model"), and what the check says of each, computed: a rule too strict or
-- too lax, and the byte of the first bad record.
use Rattle.std.specs.Prelude.{ℕ, zero, suc, ◌+◌, ◌-◌, ◌/◌, ◌%◌, ◌^◌, ◌≡◌, refl, List, [], ◌∷◌, ◌++◌, replicate}
use Prim.Native.String.{String}
use Rattle.meaning.specs.Bytes.{bytes_of}
use Rattle.meaning.specs.Answer.{Answer, accepted, refusal}
use Rattle.meaning.specs.Compute.{compute_check}
use Rattle.meaning.specs.ModelBytes.{u16_bytes, u64_bytes, record_bytes}
use Rattle.meaning.specs.Sample.{component_of_bits}
use Rattle.meaning.specs.Refusals.{Row, row, asked}

-- the records of transfer and model: 8 and 5 bytes, so that a topic is at byte 13
abbrev pub head : List ℕ
head = record_bytes 1 (bytes_of "_@\\T") ++ record_bytes 2 (bytes_of "M")

abbrev pub topic : String → List ℕ
topic name = record_bytes 3 (bytes_of name)

abbrev pub table : String → List ℕ
table name = record_bytes 4 (0 ∷ bytes_of name)

-- a mandatory attribute of this name: a date, a text, a reference, a number, a coordinate of two or
-- three components
abbrev pub date : String → List ℕ
date name = record_bytes 5 (0 ∷ 6 ∷ bytes_of name)

abbrev pub text : ℕ → String → List ℕ
text longest name = record_bytes 5 (0 ∷ 5 ∷ longest ∷ 0 ∷ bytes_of name)

abbrev pub reference : ℕ → String → List ℕ
reference target name = record_bytes 5 (0 ∷ 1 ∷ target ∷ 0 ∷ bytes_of name)

abbrev pub number : (decimals least greatest : ℕ) → String → List ℕ
number decimals least greatest name =
    record_bytes 5 (0 ∷ 4 ∷ (component_of_bits decimals least greatest ++ bytes_of name))

abbrev pub two : String → List ℕ
two name = record_bytes 5 (0 ∷ 2 ∷ (component_of_bits 0 0 9 ++ component_of_bits 0 0 9 ++ bytes_of name))

abbrev pub three : String → List ℕ
three name =
    record_bytes 5
    (0 ∷ 3 ∷ (component_of_bits 0 0 9 ++ component_of_bits 0 0 9 ++ component_of_bits 0 0 9 ++ bytes_of name))

-- an enumeration of so many leaves
abbrev pub leaves : ℕ → String → List ℕ
leaves count name = record_bytes 5 (0 ∷ 7 ∷ count ∷ 0 ∷ bytes_of name)

-- a line of these forms; one of three components
abbrev pub line : ℕ → String → List ℕ
line forms name =
    record_bytes 5 (0 ∷ 8 ∷ forms ∷ 2 ∷ (component_of_bits 0 0 9 ++ component_of_bits 0 0 9 ++ bytes_of name))

abbrev pub line_of_three : String → List ℕ
line_of_three name = record_bytes 5
    (0 ∷ 8 ∷ 3 ∷ 3 ∷ (component_of_bits 0 0 9 ++ component_of_bits 0 0 9 ++ component_of_bits 0 0 9 ++ bytes_of name))

abbrev pub close : List ℕ
close = record_bytes 6 []

-- one table with these attributes: the topic is at byte 13, the table at 18 and the first attribute at 24
abbrev pub one_table : List ℕ → List ℕ
one_table attributes = head ++ (topic "N" ++ (table "A" ++ (attributes ++ close)))

-- a name of two letters, another one for each number below 676
abbrev pub two_letters : ℕ → List ℕ
two_letters n = (0x41 + n / 26) ∷ (0x41 + n % 26) ∷ []

-- so many topics of a table of a date, and so many dates
unfoldable pub topics : ℕ → List ℕ
topics zero = []
topics (suc n) = record_bytes 3 (two_letters n) ++ (table "A" ++ (date "D" ++ topics n))

unfoldable pub attributes : ℕ → List ℕ
attributes zero = []
attributes (suc n) = record_bytes 5 (0 ∷ 6 ∷ two_letters n) ++ attributes n

-- what the check says of each model
unfoldable pub checked : List Row → List Answer
unfolding compute_check
checked [] = []
checked (row model answer ∷ others) = compute_check model ∷ checked others

-- ## What is good

abbrev pub good_models : List Row
good_models =
    row (one_table (date "D")) (accepted 1 0 0)
    -- a text of one byte; a least value that is the greatest; nine decimals; three components; each of the forms
    ∷ row (one_table (text 1 "X")) (accepted 1 0 0)
    ∷ row (one_table (number 9 5 5 "Z")) (accepted 1 0 0)
    ∷ row (one_table (two "P" ++ three "Q")) (accepted 1 0 0)
    ∷ row (one_table (line 1 "K" ++ (line 2 "L" ++ line 3 "M"))) (accepted 1 0 0)
    -- bounds just inside -10^18 and 10^18
    ∷ row (one_table (number 0 (2 ^ 64 - 10 ^ 18 + 1) (10 ^ 18 - 1) "Z")) (accepted 1 0 0)
    -- names unique where they have to be: a topic, its table and its attribute may share one, and tables of two topics
    ∷ row (head ++ (topic "A" ++ (table "A" ++ (date "A" ++ (topic "B" ++ (table "A" ++ (date "A" ++ close)))))))
    (accepted 2 0 0)
    -- a reference to a table of the topic, itself or a later one
    ∷ row (head ++ (topic "N" ++ (table "A" ++ (reference 1 "R" ++ (table "B" ++ (reference 1 "R" ++ close))))))
    (accepted 1 0 0)
    -- an enumeration of one leaf, a line of three components
    ∷ row (one_table (leaves 1 "E")) (accepted 1 0 0)
    ∷ row (one_table (line_of_three "L")) (accepted 1 0 0)
    -- names that differ in a letter's case, and a word of the language
    ∷ row (one_table (date "N" ++ (date "n" ++ date "END"))) (accepted 1 0 0)
    -- a name of 24 bytes with all that may stand in one
    ∷ row (one_table (date "Ab_0123456789012345678_z")) (accepted 1 0 0)
    ∷ row (head ++ (topics 64 ++ close)) (accepted 64 0 0)
    ∷ row (one_table (attributes 64)) (accepted 1 0 0)
    ∷ []

-- ## What is bad, and at which byte

abbrev pub bad_models : List Row
bad_models =
    -- "a missing record is at the model's end"
    row [] (refusal 2 0 0)
    ∷ row head (refusal 2 13 0)
    ∷ row (head ++ topic "N") (refusal 2 18 0)
    ∷ row (head ++ (topic "N" ++ table "A")) (refusal 2 24 0)
    ∷ row (head ++ (topic "N" ++ (table "A" ++ date "D"))) (refusal 2 31 0)
    -- "bytes behind the end record are at the first of them"
    ∷ row (one_table (date "D") ++ (0 ∷ [])) (refusal 2 35 0)
    ∷ row (one_table (date "D") ++ close) (refusal 2 35 0)
    -- "overruns the model"
    ∷ row (head ++ (2 ∷ 0 ∷ 3 ∷ 0 ∷ bytes_of "N")) (refusal 2 13 0)
    -- "has a kind not allowed there": a topic without tables, a table without attributes, no topic
    ∷ row (head ++ (topic "N" ++ close)) (refusal 2 18 0)
    ∷ row (head ++ (topic "N" ++ (table "A" ++ close))) (refusal 2 24 0)
    ∷ row (head ++ close) (refusal 2 13 0)
    -- "or breaks a rule": names
    ∷ row (head ++ topic "9") (refusal 2 13 0)
    ∷ row (head ++ topic "") (refusal 2 13 0)
    ∷ row (head ++ topic "_N") (refusal 2 13 0)
    ∷ row (head ++ topic "N-N") (refusal 2 13 0)
    ∷ row (head ++ record_bytes 3 (0xc4 ∷ [])) (refusal 2 13 0)
    ∷ row (head ++ (topic "N" ++ (table "A" ++ (date "D" ++ topic "N")))) (refusal 2 31 0)
    ∷ row (head ++ topic "Abcdefghijklmnopqrstuvwxy") (refusal 2 13 0)
    ∷ row (one_table (date "D" ++ date "D")) (refusal 2 31 0)
    ∷ row (head ++ (topic "N" ++ (table "A" ++ (date "D" ++ (table "A" ++ (date "D" ++ close)))))) (refusal 2 31 0)
    -- values
    ∷ row (one_table (text 0 "X")) (refusal 2 24 0)
    ∷ row (one_table (leaves 0 "E")) (refusal 2 24 0)
    ∷ row (one_table (number 10 0 9 "Z")) (refusal 2 24 0)
    ∷ row (one_table (number 0 6 5 "Z")) (refusal 2 24 0)
    ∷ row (one_table (number 0 0 (10 ^ 18) "Z")) (refusal 2 24 0)
    ∷ row (one_table (line 0 "L")) (refusal 2 24 0)
    ∷ row (one_table (line 4 "L")) (refusal 2 24 0)
    ∷ row (one_table (record_bytes 5 (2 ∷ 6 ∷ bytes_of "D"))) (refusal 2 24 0)
    ∷ row (one_table (record_bytes 5 (0 ∷ 9 ∷ bytes_of "D"))) (refusal 2 24 0)
    -- the three bytes
    ∷ row (record_bytes 1 (bytes_of "__\\T")) (refusal 2 0 0)
    ∷ row (record_bytes 1 (bytes_of "_@-T")) (refusal 2 0 0)
    ∷ row (record_bytes 1 (bytes_of "_@+T")) (refusal 2 0 0)
    -- counts: the 65th topic, here the last one, and the 65th attribute
    ∷ row (head ++ (topics 65 ++ close)) (refusal 2 1229 0)
    ∷ row (one_table (attributes 65)) (refusal 2 536 0)
    -- "References are judged last, in order": to no table, and to a table of another topic
    ∷ row (one_table (date "D" ++ reference 1 "R")) (refusal 2 31 0)
    ∷ row (head ++ (topic "A" ++ (table "A" ++ (date "D" ++ (topic "B" ++ (table "A" ++ (reference 0 "R" ++ close)))))))
    (refusal 2 42 0)
    ∷ row (one_table (reference 1 "R") ++ (0 ∷ [])) (refusal 2 37 0)
    -- "A model too long is bad at 0"
    ∷ row (one_table (date "D") ++ replicate 65501 0) (refusal 2 35 0)
    ∷ row (one_table (date "D") ++ replicate 65502 0) (refusal 2 0 0)
    ∷ []

-- a record and a component in their bytes: length and kind (u16), then the payload; decimals, -500 and 999 (i64 each),
-- "all little-endian"
pub each_record :
    (record_bytes 5 (bytes_of "AB") ∷ component_of_bits 2 (2 ^ 64 - 500) 999 ∷ [])
    ≡ ((2 ∷ 0 ∷ 5 ∷ 0 ∷ 0x41 ∷ 0x42 ∷ [])
    ∷ (2 ∷ 0x0c ∷ 0xfe ∷ 0xff ∷ 0xff ∷ 0xff ∷ 0xff ∷ 0xff ∷ 0xff ∷ 0xe7 ∷ 0x03 ∷ 0 ∷ 0 ∷ 0 ∷ 0 ∷ 0 ∷ 0 ∷ [])
    ∷ [])
unfolding record_bytes u16_bytes u64_bytes
each_record = refl

-- each of these models is called as these rows say
pub each_model : checked (good_models ++ bad_models) ≡ asked (good_models ++ bad_models)
unfolding checked asked topics attributes record_bytes u16_bytes u64_bytes
each_model = refl
