-- Where the topics and tables of a good model stand, and its shape: what one walk behind the check notes.
-- Short names: m the model, b its bytes, p a topic's number, t a table's.
use Rattle.std.specs.Prelude.{ℕ, ◌+◌, ◌-◌, ◌≤◌, ◌<◌, ◌≡◌, List, [], eqb, length, drop, get_or, set}
use Rattle.meaning.specs.Bytes.{choose}
use Rattle.meaning.specs.Model.{Model, table_at, flag_of}
use Rattle.meaning.specs.Check.{good, check_model}
use Rattle.model_records.specs.Records.{kind_at, payload_at, next_at, model_at, attributes_at}
use Rattle.model_records.specs.AtRecord.{AtRecord}
use Rattle.model_records.specs.declared.places.Shape.{Shape}
use Rattle.model_records.specs.declared.places.RecordCursor.{RecordCursor}
use Rattle.model_records.specs.declared.places.TablePlace.{TablePlace}
use Rattle.model_records.specs.declared.places.Places.{Places}
use Rattle.model_records.specs.declared.places.Records.{Records}

-- ## The walk

-- r is behind the record at s
pub record RecordPassed (m : Model) (b : List ℕ) (s r : RecordCursor) : Type 0 where
  pub standing : AtRecord m b r.at r.topics r.tables
  pub at : r.at ≡ next_at b s.at
  pub topics : r.topics ≡ choose (eqb (kind_at b s.at) 3) (s.topics + 1) s.topics
  pub tables : r.tables ≡ choose (eqb (kind_at b s.at) 4) (s.tables + 1) s.tables

-- the places with the record of this kind at s noted
unfoldable pub noted_by : (kind : ℕ) → RecordCursor → Places → Places
noted_by kind s places =
    choose (eqb kind 3) (record { topics = set places.topics s.topics s.at; tables = places.tables })
    (choose (eqb kind 4) (record {
      topics = places.topics;
      tables = set places.tables s.tables (record { at = s.at; topic = s.topics - 1 });
    })
    places)

-- ## What is looked up

abbrev pub topic_place : Places → (p : ℕ) → ℕ
topic_place places p = get_or places.topics p 0

abbrev pub table_entry : Places → (t : ℕ) → TablePlace
table_entry places t = get_or places.tables t (record { at = 0; topic = 0 })

abbrev pub table_place : Places → (t : ℕ) → ℕ
table_place places t = (table_entry places t).at

abbrev pub topic_of : Places → (t : ℕ) → ℕ
topic_of places t = (table_entry places t).topic

-- the byte of the first attribute record of table t
abbrev pub attributes_place : (b : List ℕ) → Places → (t : ℕ) → ℕ
attributes_place b places t = next_at b (table_place places t)

-- ## What is noted

-- the record of topic p is at this byte
pub record TopicRecord (m : Model) (b : List ℕ) (p at : ℕ) : Type 0 where
  pub fits : next_at b at ≤ length b
  pub name : payload_at b at ≡ get_or m.topics p []

-- the record of table t is at this byte, and its attribute records behind it
pub record TableRecord (m : Model) (b : List ℕ) (t at : ℕ) : Type 0 where
  pub fits : next_at b at ≤ length b
  pub flag : at + 5 ≤ next_at b at
  pub optional : flag_of (payload_at b at) ≡ (table_at m.tables t).optional
  pub name : drop 1 (payload_at b at) ≡ (table_at m.tables t).name
  pub attributes : attributes_at b (next_at b at) ≡ (table_at m.tables t).attributes
  pub standing : AtRecord m b (next_at b at) ((table_at m.tables t).topic + 1) (t + 1)

-- of the first k topics and the first n tables
pub record RecordsNoted (m : Model) (b : List ℕ) (places : Places) (k n : ℕ) : Type 0 where
  pub topic_room : length places.topics ≡ 64
  pub table_room : length places.tables ≡ 512
  pub topic : (p : ℕ) → p < k → TopicRecord m b p (topic_place places p)
  pub table : (t : ℕ) → t < n → TableRecord m b t (table_place places t)
  pub owner : (t : ℕ) → t < n → topic_of places t ≡ (table_at m.tables t).topic

-- a good model's bytes, with its shape and its places
pub record RecordsPlaced (b : List ℕ) (s : Shape) (places : Places) : Type 0 where
  pub good : check_model b ≡ good (model_at b)
  pub topics : s.topics ≡ length (model_at b).topics
  pub tables : s.tables ≡ length (model_at b).tables
  pub topic_limit : s.topics ≤ 64
  pub table_limit : s.tables ≤ 512
  pub undefined : s.undefined ≡ (model_at b).undefined
  pub mark : s.mark ≡ (model_at b).mark
  pub noted : RecordsNoted (model_at b) b places s.topics s.tables

-- the records of a good model
abbrev pub Placed : Records → Type 0
Placed r = RecordsPlaced r.bytes.now r.shape r.places
