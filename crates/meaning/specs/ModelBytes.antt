-- A model's bytes (01, "The compiled model"), written forwards from what it says. It names nothing of the check; that
-- the check takes exactly these bytes is proved (ModelClaims).
use Rattle.std.specs.Prelude.{ℕ, ◌+◌, ◌-◌, ◌/◌, ◌%◌, ◌^◌, Bool, true, false, ◌&&◌, List, [], ◌∷◌, ◌++◌, leb, eqb, ℤ}
use Rattle.std.specs.Prelude.{pos, negsuc, length}
use Rattle.meaning.specs.Bytes.{choose}
use Rattle.meaning.specs.Model.{Component, AttributeType, Reference, Coordinate, Number, Text, Date, Enumeration}
use Rattle.meaning.specs.Model.{Line, Attribute, Table, Model}

-- ## Numbers, "all little-endian"

unfoldable pub u16_bytes : ℕ → List ℕ
u16_bytes n = n % 256 ∷ n / 256 ∷ []

-- 64 bits, as two's complement
unfoldable pub bits_of : ℤ → ℕ
bits_of (pos n) = n
bits_of (negsuc n) = 2 ^ 64 - 1 - n

unfoldable pub u64_bytes : ℕ → List ℕ
u64_bytes n = n % 256 ∷ n / 256 % 256 ∷ n / 256 ^ 2 % 256 ∷ n / 256 ^ 3 % 256 ∷ n / 256 ^ 4 % 256 ∷ n / 256 ^ 5 % 256
    ∷ n / 256 ^ 6 % 256 ∷ n / 256 ^ 7 ∷ []

-- ## Sizes

-- "u16 longest length", "u16 count of leaves"; a reference's table is bounded by the count of tables (`GoodModel`)
unfoldable pub is_u16 : AttributeType → Bool
is_u16 (Reference t) = true
is_u16 (Coordinate cs) = true
is_u16 (Number c) = true
is_u16 (Text longest) = leb longest 65535
is_u16 Date = true
is_u16 (Enumeration leaves) = leb leaves 65535
is_u16 (Line forms cs) = true

unfoldable pub are_u16 : List Attribute → Bool
are_u16 [] = true
are_u16 (a ∷ others) = is_u16 a.type && are_u16 others

unfoldable pub all_u16 : List Table → Bool
all_u16 [] = true
all_u16 (t ∷ others) = are_u16 t.attributes && all_u16 others

-- ## Records

-- "Each record: payload length (u16), kind (u16), payload"
unfoldable pub record_bytes : (kind : ℕ) → List ℕ → List ℕ
record_bytes kind payload = u16_bytes (length payload) ++ (u16_bytes kind ++ payload)

-- "A component is decimals (u8, 0 to 9), least and greatest value (i64 each)"
unfoldable pub component_bytes : Component → List ℕ
component_bytes c = c.decimals ∷ (u64_bytes (bits_of c.least) ++ u64_bytes (bits_of c.greatest))

unfoldable pub components_bytes : List Component → List ℕ
components_bytes [] = []
components_bytes (c ∷ cs) = component_bytes c ++ components_bytes cs

-- a type's number and its parameters; a coordinate's number is its count of components, "2 and 3"
unfoldable pub type_parameters : AttributeType → List ℕ
type_parameters (Reference t) = 1 ∷ u16_bytes t
type_parameters (Coordinate cs) = length cs ∷ components_bytes cs
type_parameters (Number c) = 4 ∷ component_bytes c
type_parameters (Text longest) = 5 ∷ u16_bytes longest
type_parameters Date = 6 ∷ []
type_parameters (Enumeration leaves) = 7 ∷ u16_bytes leaves
type_parameters (Line forms cs) = 8 ∷ forms ∷ length cs ∷ components_bytes cs

-- "optional (0 or 1)"
unfoldable pub flag_byte : Bool → ℕ
flag_byte true = 1
flag_byte false = 0

-- "5 attribute: optional (0 or 1), type, parameters, name"
unfoldable pub attribute_record : Attribute → List ℕ
attribute_record a = record_bytes 5 (flag_byte a.optional ∷ (type_parameters a.type ++ a.name))

unfoldable pub attribute_records : List Attribute → List ℕ
attribute_records [] = []
attribute_records (a ∷ others) = attribute_record a ++ attribute_records others

-- "4 table: optional (0 or 1), name", and its attributes
unfoldable pub table_record : Table → List ℕ
table_record t = record_bytes 4 (flag_byte t.optional ∷ t.name)

unfoldable pub table_records : List Table → List ℕ
table_records [] = []
table_records (t ∷ others) = table_record t ++ (attribute_records t.attributes ++ table_records others)

-- the tables of a topic
unfoldable pub tables_in : (topic : ℕ) → List Table → List Table
tables_in topic [] = []
tables_in topic (t ∷ others) = choose (eqb t.topic topic) (t ∷ tables_in topic others) (tables_in topic others)

-- "3 topic: name", each with its tables; the first of these topics has this number
unfoldable pub topic_records : (topic : ℕ) → List (List ℕ) → List Table → List ℕ
topic_records topic [] ts = []
topic_records topic (name ∷ names) ts =
    record_bytes 3 name ++ (table_records (tables_in topic ts) ++ topic_records (topic + 1) names ts)

-- "1 transfer: blank, undefined and continuation byte, then a name", "2 model: name"
unfoldable pub transfer_record : Model → List ℕ
transfer_record m = record_bytes 1 (m.blank ∷ m.undefined ∷ m.mark ∷ m.transfer)

-- "Order: transfer, model, topics .., end, nothing after"
unfoldable pub records_of : Model → List ℕ
records_of m =
    transfer_record m ++ (record_bytes 2 m.name ++ (topic_records 0 m.topics m.tables ++ record_bytes 6 []))

-- ## Where the attributes' records stand

-- these attributes, the record of the first of which stands at this byte
unfoldable pub place_attributes : (at : ℕ) → List Attribute → List Attribute
place_attributes at [] = []
place_attributes at (a ∷ others) =
    record { at = at; optional = a.optional; type = a.type; name = a.name }
    ∷ place_attributes (at + length (attribute_record a)) others

unfoldable pub place_tables : (at : ℕ) → List Table → List Table
place_tables at [] = []
place_tables at (t ∷ others) =
    let first : ℕ = at + length (table_record t) in
    record {
      topic = t.topic;
      optional = t.optional;
      name = t.name;
      attributes = place_attributes first t.attributes;
    } ∷ place_tables (first + length (attribute_records t.attributes)) others

unfoldable pub place_topics : (at topic : ℕ) → List (List ℕ) → List Table → List Table
place_topics at topic [] ts = []
place_topics at topic (name ∷ names) ts =
    let first : ℕ = at + length (record_bytes 3 name) in
    place_tables first (tables_in topic ts)
    ++ place_topics (first + length (table_records (tables_in topic ts))) (topic + 1) names ts

-- a model, each attribute with the byte of its record
unfoldable pub placed : Model → Model
placed m = record {
  blank = m.blank;
  undefined = m.undefined;
  mark = m.mark;
  transfer = m.transfer;
  name = m.name;
  topics = m.topics;
  tables = place_topics (length (transfer_record m) + length (record_bytes 2 m.name)) 0 m.topics m.tables;
}
