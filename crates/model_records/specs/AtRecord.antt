-- AtRecord at a record of a good model: what is known there, so that a reader never argues about bytes.
use Rattle.std.specs.Prelude.{ℕ, ◌+◌, ◌-◌, ◌≤◌, ◌<◌, ◌≡◌, true, List, [], ◌∷◌, length, drop, get_or}
use Rattle.meaning.specs.Bytes.{byte_at}
use Rattle.meaning.specs.Model.{Model, table_at, flag_of, attribute_of, topics_of, tables_of}
use Rattle.meaning.specs.Check.{Seen, Checked, good, is_type, is_name, check_records}
use Rattle.model_records.specs.Records.{records_at, kind_at, payload_at, next_at, attributes_at}

-- at the byte `at` of the bytes b of the good model m a record begins, behind k topics and t tables
pub record AtRecord (m : Model) (b : List ℕ) (at k t : ℕ) : Type 0 where
  pub topics : topics_of (records_at b at) ≡ drop k m.topics
  pub tables : tables_of k (records_at b at) ≡ drop t m.tables
  -- the check has come so far, and finds the rest good; the end record is not behind
  pub before : ℕ
  pub seen : Seen
  pub rest : Checked
  pub checked : check_records before seen (records_at b at) rest ≡ good m
  pub behind_second : 2 ≤ before
  pub before_end : before < 6
  -- what is passed: a topic at least behind a topic record, and no more than the model has
  pub in_topic : 2 < before → 1 ≤ k
  pub topic_count : k ≤ length m.topics
  pub table_count : t ≤ length m.tables
  pub earlier : (n : ℕ) → n < t → (table_at m.tables n).topic < k
  pub counted : k + t ≤ at

-- a record lies in the model
pub record RecordFits (b : List ℕ) (at : ℕ) : Type 0 where
  pub room : at + 4 ≤ length b
  pub fits : next_at b at ≤ length b
  pub least : 3 ≤ kind_at b at
  pub most : kind_at b at ≤ 6

-- a good attribute record lies in the model
pub record AttributeHere (b : List ℕ) (at : ℕ) : Type 0 where
  pub fits : next_at b at ≤ length b
  pub type : is_type (byte_at (payload_at b at) 1) (drop 2 (payload_at b at)) ≡ true
  pub name : is_name 24 (attribute_of at (payload_at b at)).name ≡ true

-- a topic record: topic k
pub record TopicHere (m : Model) (b : List ℕ) (at k t : ℕ) : Type 0 where
  pub inside : k < length m.topics
  pub topic : get_or m.topics k [] ≡ payload_at b at
  pub name : is_name 24 (payload_at b at) ≡ true
  pub next : AtRecord m b (next_at b at) (k + 1) t

-- a table record: table t, of the topic before topic k
pub record TableHere (m : Model) (b : List ℕ) (at k t : ℕ) : Type 0 where
  pub inside : t < length m.tables
  pub begun : 1 ≤ k
  pub table : table_at m.tables t ≡ record {
    topic = k - 1;
    optional = flag_of (payload_at b at);
    name = drop 1 (payload_at b at);
    attributes = attributes_at b (next_at b at);
  }
  pub flag : at + 5 ≤ next_at b at
  pub name : is_name 24 (drop 1 (payload_at b at)) ≡ true
  pub next : AtRecord m b (next_at b at) k (t + 1)

-- an attribute record of the table before table t
pub record AttributeNext (m : Model) (b : List ℕ) (at k t : ℕ) : Type 0 where
  pub attributes : attributes_at b at ≡ attribute_of at (payload_at b at) ∷ attributes_at b (next_at b at)
  pub good : AttributeHere b at
  pub next : AtRecord m b (next_at b at) k t

-- attribute records of the good model m stand from this byte on, or none
pub record AttributesHere (m : Model) (b : List ℕ) (at : ℕ) : Type 0 where
  pub topics : ℕ
  pub tables : ℕ
  pub standing : AtRecord m b at topics tables

-- the end record
pub record EndHere (m : Model) (k t : ℕ) : Type 0 where
  pub topics : k ≡ length m.topics
  pub tables : t ≡ length m.tables

-- the transfer record and the model record
pub record Beginning (m : Model) (b : List ℕ) : Type 0 where
  pub first_fits : next_at b 0 ≤ length b
  pub second_fits : next_at b (next_at b 0) ≤ length b
  pub three_bytes : 7 ≤ next_at b 0
  pub undefined : byte_at b 5 ≡ m.undefined
  pub mark : byte_at b 6 ≡ m.mark
  pub transfer : drop 3 (payload_at b 0) ≡ m.transfer
  pub name : payload_at b (next_at b 0) ≡ m.name
  pub topics : AtRecord m b (next_at b (next_at b 0)) 0 0
