-- Where the check stands, in the words of the meaning.
use Rattle.std.specs.Prelude.{ℕ, ◌+◌, ◌≤◌, ◌≡◌, Bool, not, ◌&&◌, List, [], eqb, leb, length, take}
use Rattle.std.specs.Prelude.{Result, Ok, Err}
use Rattle.meaning.specs.Bytes.{choose, refuse, u16_at}
use Rattle.meaning.specs.Answer as meaning
use Rattle.meaning.specs.Model.{Records, Model, topics_of, tables_of, model_of}
use Rattle.meaning.specs.Check as check
use Rattle.meaning.specs.Check.{Seen, follows, keeps}
use Rattle.model_check.specs.Names.{names_of}
use Rattle.model_records.specs.Records.{records_at, payload_at, next_at}
use Rattle.model_check.specs.References.{topic_numbers}
use Rattle.model_check.specs.declared.check.BadRecord.{BadRecord}
use Rattle.model_check.specs.declared.check.Walker.{Walker}

-- names of topics, and of tables, that were seen, and nothing else
abbrev pub topics_seen : List (List ℕ) → Seen
topics_seen ns = record { topics = ns; tables = []; attributes = []; table_count = 0 }

abbrev pub tables_seen : List (List ℕ) → ℕ → Seen
tables_seen ns all = record { topics = []; tables = ns; attributes = []; table_count = all }

-- what the walker has seen: the names that the first of these numbers stand for
abbrev pub seen_of : List ℕ → Walker → (topics tables attributes : List ℕ) → Seen
seen_of model w topics tables attributes = record {
  topics = names_of model (take w.topics topics);
  tables = names_of model (take w.tables tables);
  attributes = names_of model (take w.attributes attributes);
  table_count = w.count;
}

-- the record at the walker's byte fits, may stand there and keeps the rules
abbrev pub passes_at : List ℕ → Walker → (topics tables attributes : List ℕ) → Bool
passes_at model w topics tables attributes =
    leb (next_at model w.at) (length model)
    && (follows w.before (u16_at model (w.at + 2))
    && keeps (u16_at model (w.at + 2)) (payload_at model w.at) (seen_of model w topics tables attributes))

-- the walker behind a record of this kind, whose next record is at this byte
unfoldable pub advanced_on : (kind next : ℕ) → Walker → Walker
advanced_on kind next w =
    choose (eqb kind 3) (record {
      at = next;
      before = kind;
      topics = w.topics + 1;
      tables = 0;
      attributes = 0;
      count = w.count;
    })
    (choose (eqb kind 4) (record {
      at = next;
      before = kind;
      topics = w.topics;
      tables = w.tables + 1;
      attributes = 0;
      count = w.count + 1;
    })
    (choose (eqb kind 5) (record {
      at = next;
      before = kind;
      topics = w.topics;
      tables = w.tables;
      attributes = w.attributes + 1;
      count = w.count;
    })
    (record {
      at = next;
      before = kind;
      topics = w.topics;
      tables = w.tables;
      attributes = w.attributes;
      count = w.count;
    })))

abbrev pub advanced : List ℕ → Walker → Walker
advanced model w = advanced_on (u16_at model (w.at + 2)) (next_at model w.at) w

-- "The check answers 0, topics, 0, 0 or 2"
unfoldable pub checked_meant : Result ℕ BadRecord → meaning.Answer
checked_meant (Ok topics) = meaning.accepted topics 0 0
checked_meant (Err bad) = meaning.refusal 2 bad.at 0

-- the check of a model that is not too long
abbrev pub checked_records : List ℕ → check.Checked
checked_records model =
    let rs : Records = records_at model 0 in
    let m : Model = model_of rs in
    check.check_records 0 check.nothing_seen rs (check.judge_references m.tables m.tables (check.good m))

-- a walk to the model's end: all is judged but the end itself and the references
pub record WalkerHolds (model : List ℕ) (w : Walker) (places : List ℕ) : Type 0 where
  pub room : w.count ≤ length places
  pub checked : (rest : check.Checked)
      → check.check_records 0 check.nothing_seen (records_at model 0) rest
      ≡ refuse (not (eqb w.before 6)) (check.bad w.at) rest
  pub placed : topic_numbers (tables_of 0 (records_at model 0)) ≡ take w.count places
  pub counted : w.topics ≡ length (topics_of (records_at model 0))
