-- The check of a compiled model (01, "The compiled model"): the rules, and the first bad record.
use Rattle.std.specs.Prelude.{ℕ, ◌+◌, ◌-◌, ◌^◌, ◌≤◌, ◌<◌, ◌≡◌, Bool, true, false, not, ◌&&◌, ◌||◌, List, [], ◌∷◌}
use Rattle.std.specs.Prelude.{◌++◌, leb, ltb, eqb, ℤ, pos, negsuc, length, drop}
use Rattle.std.specs.Int.Signed.{lt_z}
use Rattle.meaning.specs.Bytes.{choose, refuse, all_of, digit, letter, every, same, byte_at}
use Rattle.meaning.specs.Model.{Records, finish, overrun, entry, records_from, Component, AttributeType, Reference}
use Rattle.meaning.specs.Model.{Coordinate, Number, Text, Date, Enumeration, Line, Attribute, Table, Model}
use Rattle.meaning.specs.Model.{table_at, type_of, attribute_of, model_of, Found, found, missing, target_of}

-- ## Rules of a record

-- "lie in 21 to 7E hex, and are no letter, digit, + - . or /"
unfoldable pub special : ℕ → Bool
special b = all_of
    (leb 0x21 b
    ∷ leb b 0x7e
    ∷ not (letter b)
    ∷ not (digit b)
    ∷ not (eqb b 0x2b)
    ∷ not (eqb b 0x2d)
    ∷ not (eqb b 0x2e)
    ∷ not (eqb b 0x2f)
    ∷ [])

-- "Names follow 000, 2.2.1.1": a letter, then letters, digits and _
unfoldable pub name_byte : ℕ → Bool
name_byte b = letter b || digit b || eqb b 0x5f

unfoldable pub is_name : ℕ → List ℕ → Bool
is_name longest n = letter (byte_at n 0) && every name_byte n && leb (length n) longest

-- "optional (0 or 1)"
unfoldable pub is_flag : List ℕ → Bool
is_flag p = leb 1 (length p) && leb (byte_at p 0) 1

-- "Bounds lie strictly between -10^18 and 10^18, least at most greatest"
unfoldable pub is_bound : ℤ → Bool
is_bound v = lt_z (negsuc (10 ^ 18 - 1)) v && lt_z v (pos (10 ^ 18))

unfoldable pub good_component : Component → Bool
good_component c = all_of
    (leb c.decimals 9
    ∷ is_bound c.least
    ∷ is_bound c.greatest
    ∷ not (lt_z c.greatest c.least)
    ∷ [])

unfoldable pub good_components : List Component → Bool
good_components [] = true
good_components (c ∷ cs) = good_component c && good_components cs

-- "two or three components"
unfoldable pub is_dimension : ℕ → Bool
is_dimension n = eqb n 2 || eqb n 3

-- a text's longest length and an enumeration's count of leaves are "at least 1"; a line's forms are "1 straight, 2 arc,
-- 3 both"
unfoldable pub good_type : AttributeType → Bool
good_type (Reference t) = true
good_type (Coordinate cs) = all_of (is_dimension (length cs) ∷ good_components cs ∷ [])
good_type (Number c) = good_component c
good_type (Text longest) = leb 1 longest
good_type Date = true
good_type (Enumeration leaves) = leb 1 leaves
good_type (Line forms cs) = all_of (leb 1 forms ∷ leb forms 3 ∷ is_dimension (length cs) ∷ good_components cs ∷ [])

-- a type's number, and for a line its count of components, "u8 2 or 3"
unfoldable pub is_type : ℕ → List ℕ → Bool
is_type t p = all_of
    (leb 1 t
    ∷ leb t 8
    ∷ (not (eqb t 8) || is_dimension (byte_at p 1))
    ∷ good_type (type_of t p)
    ∷ [])

-- ## Rules of a record behind others

-- the names seen so far: of the topics, of the tables of the last topic, of the attributes of the last table; and the
-- count of all tables
pub record Seen : Type 0 where
  pub topics : List (List ℕ)
  pub tables : List (List ℕ)
  pub attributes : List (List ℕ)
  pub table_count : ℕ

abbrev pub nothing_seen : Seen
nothing_seen = record { topics = []; tables = []; attributes = []; table_count = 0 }

-- "Names are unique among topics, among tables of a topic and among attributes of a table"
unfoldable pub is_among : List ℕ → List (List ℕ) → Bool
is_among n [] = false
is_among n (o ∷ os) = same o n || is_among n os

-- "1 transfer: blank, undefined and continuation byte, then a name of 1 to 63 bytes. The three differ"
unfoldable pub keeps_transfer : List ℕ → Bool
keeps_transfer p = all_of
    (special (byte_at p 0)
    ∷ special (byte_at p 1)
    ∷ special (byte_at p 2)
    ∷ not (eqb (byte_at p 0) (byte_at p 1))
    ∷ not (eqb (byte_at p 0) (byte_at p 2))
    ∷ not (eqb (byte_at p 1) (byte_at p 2))
    ∷ is_name 63 (drop 3 p)
    ∷ [])

-- "3 topic: name, 1 to 24 bytes", "At most 64 topics"
unfoldable pub keeps_topic : List ℕ → Seen → Bool
keeps_topic p seen = all_of
    (is_name 24 p
    ∷ ltb (length seen.topics) 64
    ∷ not (is_among p seen.topics)
    ∷ [])

-- "4 table: optional (0 or 1), name of 1 to 24 bytes", "512 tables"
unfoldable pub keeps_table : List ℕ → Seen → Bool
keeps_table p seen = all_of
    (is_flag p
    ∷ is_name 24 (drop 1 p)
    ∷ ltb seen.table_count 512
    ∷ not (is_among (drop 1 p) seen.tables)
    ∷ [])

-- "5 attribute: optional (0 or 1), type, parameters, name of 1 to 24 bytes", "64 attributes in a table"
unfoldable pub keeps_attribute : List ℕ → Seen → Bool
keeps_attribute p seen =
    let a : Attribute = attribute_of 0 p in
    all_of
    (is_flag p
    ∷ is_type (byte_at p 1) (drop 2 p)
    ∷ is_name 24 a.name
    ∷ ltb (length seen.attributes) 64
    ∷ not (is_among a.name seen.attributes)
    ∷ [])

-- does a record of this kind keep the rules, behind what is seen?
unfoldable pub keeps : ℕ → List ℕ → Seen → Bool
keeps kind p seen =
    choose (eqb kind 1) (keeps_transfer p)
    (choose (eqb kind 2) (is_name 63 p)
    (choose (eqb kind 3) (keeps_topic p seen)
    (choose (eqb kind 4) (keeps_table p seen)
    (choose (eqb kind 5) (keeps_attribute p seen)
    (eqb (length p) 0)))))

-- what is seen behind a record of this kind
unfoldable pub see : ℕ → List ℕ → Seen → Seen
see kind p seen =
    choose (eqb kind 3) (record {
      topics = seen.topics ++ (p ∷ []);
      tables = [];
      attributes = [];
      table_count = seen.table_count;
    })
    (choose (eqb kind 4) (record {
      topics = seen.topics;
      tables = seen.tables ++ (drop 1 p ∷ []);
      attributes = [];
      table_count = seen.table_count + 1;
    })
    (choose (eqb kind 5) (record {
      topics = seen.topics;
      tables = seen.tables;
      attributes = seen.attributes ++ ((attribute_of 0 p).name ∷ []);
      table_count = seen.table_count;
    })
    seen))

-- ## The check

-- a good model, or the byte of the first bad record
pub data Checked : Type 0 where
  good : Model → Checked
  bad : ℕ → Checked

-- the kinds that may follow the transfer record
unfoldable pub follows_transfer : ℕ → Bool
follows_transfer kind = eqb kind 2

-- "Order: transfer, model, topics each with at least one table, tables each with at least one attribute, end, nothing
-- after" may a record of this kind stand behind one of kind `before`, which is 0 for the first record?
unfoldable pub follows : ℕ → ℕ → Bool
follows before kind =
    eqb before 0 && eqb kind 1
    || eqb before 1 && follows_transfer kind
    || eqb before 2 && eqb kind 3
    || eqb before 3 && eqb kind 4
    || eqb before 4 && eqb kind 5
    || eqb before 5 && leb 3 kind && leb kind 6

-- "reference (u16 table number, counted from 0, same topic)": does a type refer to a table that is not there, or not in
-- this topic?
unfoldable pub is_outside : List Table → (topic : ℕ) → Found → Bool
is_outside ts topic missing = false
is_outside ts topic (found t) = not (ltb t (length ts) && eqb (table_at ts t).topic topic)

-- "References are judged last, in order": of one table's attributes, then of all tables
unfoldable pub judge_attributes : List Table → ℕ → List Attribute → Checked → Checked
judge_attributes ts topic [] rest = rest
judge_attributes ts topic (a ∷ attributes) rest =
    refuse (is_outside ts topic (target_of a.type)) (bad a.at) (judge_attributes ts topic attributes rest)

unfoldable pub judge_references : List Table → List Table → Checked → Checked
judge_references ts [] rest = rest
judge_references ts (t ∷ others) rest = judge_attributes ts t.topic t.attributes (judge_references ts others rest)

-- "The first bad record is the first that overruns the model, has a kind not allowed there, or breaks a rule;
-- a missing record is at the model's end, bytes behind the end record are at the first of them"; the rest is judged
-- last
unfoldable pub check_records : (before : ℕ) → Seen → Records → Checked → Checked
check_records before seen (finish at) rest = refuse (not (eqb before 6)) (bad at) rest
check_records before seen (overrun at) rest = bad at
check_records before seen (entry at kind p others) rest =
    let checked : Checked = check_records kind (see kind p seen) others rest in
    refuse (not (follows before kind)) (bad at)
    (refuse (not (keeps kind p seen)) (bad at)
    checked)

-- "At most 65,536 bytes", "A model too long is bad at 0"
unfoldable pub check_model : List ℕ → Checked
check_model b =
    let rs : Records = records_from 0 0 b in
    let m : Model = model_of rs in
    refuse (ltb 65536 (length b)) (bad 0)
    (check_records 0 nothing_seen rs (judge_references m.tables m.tables (good m)))

-- ## What a good model has

-- each of these is a name of at most 24 bytes, and no two are equal
unfoldable pub good_names : List (List ℕ) → Bool
good_names [] = true
good_names (n ∷ ns) = all_of (is_name 24 n ∷ not (is_among n ns) ∷ good_names ns ∷ [])

unfoldable pub attribute_names : List Attribute → List (List ℕ)
attribute_names [] = []
attribute_names (a ∷ others) = a.name ∷ attribute_names others

-- the names of the tables of a topic
unfoldable pub table_names : (topic : ℕ) → List Table → List (List ℕ)
table_names topic [] = []
table_names topic (t ∷ others) =
    choose (eqb t.topic topic) (t.name ∷ table_names topic others) (table_names topic others)

-- the types of a table's attributes are good, and refer to tables of its topic
unfoldable pub good_types : List Table → (topic : ℕ) → List Attribute → Bool
good_types ts topic [] = true
good_types ts topic (a ∷ others) =
    all_of (good_type a.type ∷ not (is_outside ts topic (target_of a.type)) ∷ good_types ts topic others ∷ [])

-- the tables `others` among all tables ts of so many topics
unfoldable pub good_tables : (topics : ℕ) (ts others : List Table) → Bool
good_tables topics ts [] = true
good_tables topics ts (t ∷ others) = all_of
    (ltb t.topic topics
    ∷ leb 1 (length t.attributes)
    ∷ leb (length t.attributes) 64
    ∷ good_names (attribute_names t.attributes)
    ∷ good_types ts t.topic t.attributes
    ∷ good_tables topics ts others
    ∷ [])

-- the tables stand in the order of their topics, the first of them in topic `least` or a later one
unfoldable pub in_topic_order : (least : ℕ) → List Table → Bool
in_topic_order least [] = true
in_topic_order least (t ∷ others) = leb least t.topic && in_topic_order t.topic others

-- what a good model is (`GoodExactly`, ModelClaims)
pub record GoodModel (m : Model) : Type 0 where
  pub blank : special m.blank ≡ true
  pub undefined : special m.undefined ≡ true
  pub mark : special m.mark ≡ true
  pub blank_is_not_undefined : eqb m.blank m.undefined ≡ false
  pub blank_is_not_mark : eqb m.blank m.mark ≡ false
  pub undefined_is_not_mark : eqb m.undefined m.mark ≡ false
  pub transfer : is_name 63 m.transfer ≡ true
  pub name : is_name 63 m.name ≡ true
  pub some_topic : 1 ≤ length m.topics
  pub topic_limit : length m.topics ≤ 64
  pub topics : good_names m.topics ≡ true
  pub table_limit : length m.tables ≤ 512
  pub tables : good_tables (length m.topics) m.tables m.tables ≡ true
  pub names_in_topic : (topic : ℕ) → good_names (table_names topic m.tables) ≡ true
  pub table_order : in_topic_order 0 m.tables ≡ true
  pub some_table : (topic : ℕ) → topic < length m.topics → 1 ≤ length (table_names topic m.tables)
