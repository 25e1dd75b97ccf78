-- The judging of references, record by record, in the words of the meaning.
use Rattle.std.specs.Prelude.{ℕ, ◌+◌, ◌-◌, Bool, true, false, ◌&&◌, List, [], ◌∷◌, eqb, drop, Option, Some, None}
use Rattle.meaning.specs.Bytes.{choose, byte_at, u16_at}
use Rattle.meaning.specs.Model.{Records, Table, attributes_of, tables_of, type_of, target_of}
use Rattle.meaning.specs.Check.{Checked, bad, judge_attributes, judge_references, is_outside}
use Rattle.model_records.specs.Records.{payload_at, next_at}
use Rattle.model_check.specs.declared.references.Judge.{Judge}

-- the topic of each table
unfoldable pub topic_numbers : List Table → List ℕ
topic_numbers [] = []
topic_numbers (t ∷ ts) = t.topic ∷ topic_numbers ts

-- a reference outside is bad at its byte; else the rest decides
unfoldable pub outside_meant : Option ℕ → Checked → Checked
outside_meant (Some at) rest = bad at
outside_meant None rest = rest

-- the references of these records: those of the attributes that begin here, where they lie behind a table's record, and
-- those of the tables
unfoldable pub judged_from : List Table → (inside : Bool) → (topics : ℕ) → Records → Checked → Checked
judged_from ts true topics rs rest =
    judge_attributes ts (topics - 1) (attributes_of rs) (judge_references ts (tables_of topics rs) rest)
judged_from ts false topics rs rest = judge_references ts (tables_of topics rs) rest

-- the record where the judging stands is an attribute that refers outside
abbrev pub judges : List Table → List ℕ → Judge → Bool
judges ts model j =
    let p : List ℕ = payload_at model j.at in
    eqb (u16_at model (j.at + 2)) 5
    && (j.inside && is_outside ts (j.topics - 1) (target_of (type_of (byte_at p 1) (drop 2 p))))

-- the judging behind a record of this kind, whose next record is at this byte
unfoldable pub judged_on : (kind next : ℕ) → Judge → Judge
judged_on kind next j =
    choose (eqb kind 3) (record { at = next; topics = j.topics + 1; inside = false })
    (choose (eqb kind 4) (record { at = next; topics = j.topics; inside = true })
    (choose (eqb kind 5) (record { at = next; topics = j.topics; inside = j.inside })
    (record { at = next; topics = j.topics; inside = false })))

abbrev pub judged : List ℕ → Judge → Judge
judged model j = judged_on (u16_at model (j.at + 2)) (next_at model j.at) j
