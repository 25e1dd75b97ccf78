-- The topics and tables that lines name: what is found, and what a line that begins one makes of its fields.
use Rattle.std.specs.Prelude.{ℕ, ◌+◌, ◌<◌, ◌≡◌, ◌⊎◌, Bool, true, false, not, List, length}
use Rattle.std.specs.Prelude.{Option, Some, None, Result, Ok, Err}
use Rattle.meaning.specs.Bytes.{refuse}
use Rattle.meaning.specs.Model.{Model, Found, found, missing}
use Rattle.meaning.specs.Field.{Field, field_at, more_than}
use Rattle.meaning.specs.Reading.{Content, with_mark, topic_from, table_from, object_of}
use Rattle.meaning.specs.Reading.{find_topic, find_table, mandatory_between}
use Rattle.meaning.specs.Lines.{Step, go, no, after_found}
use Rattle.base.specs.declared.reasons.Reason.{Reason}
use Rattle.base.specs.declared.reasons.Reason.TheVariants as reasons

-- ## Topics

abbrev pub topic_found_of : Option ℕ → Found
topic_found_of (Some p) = found p
topic_found_of None = missing

-- the fields behind TOPI
unfoldable pub topic_in : Model → (from : ℕ) → List Field → Content → Step
topic_in m from fs c =
    refuse (not (more_than 0 fs)) (no 11 2)
    (after_found (find_topic from 0 (field_at 1 fs).bytes m.topics) (no 9 2) (λ p.
    refuse (more_than 1 fs) (no 11 3)
    (go (table_from p 0) (with_mark p c))))

-- ## Tables

-- the table of this topic and this name, `from` or a later one, is t
pub record TableAt (m : Model) (topic from : ℕ) (name : List ℕ) (t : ℕ) (mandatory : Bool) : Type 0 where
  pub found : find_table topic from 0 name m.tables ≡ found t
  pub inside : t < length m.tables
  pub owed : mandatory_between topic from t 0 m.tables ≡ mandatory

pub record TableSkipped (m : Model) (topic from : ℕ) (name : List ℕ) : Type 0 where
  pub table : ℕ
  pub at : TableAt m topic from name table true

abbrev pub FoundTable : Model → (topic from : ℕ) (name : List ℕ) → Result ℕ Reason → Type 0
FoundTable m topic from name (Ok t) = TableAt m topic from name t false
FoundTable m topic from name (Err reason) =
    ((reason ≡ reasons.TableSkipped) × TableSkipped m topic from name)
    ⊎ ((reason ≡ reasons.NameWrong) × (find_table topic from 0 name m.tables ≡ missing))

-- the fields behind TABL
unfoldable pub table_in : Model → (p from : ℕ) → List Field → Content → Step
table_in m p from fs c =
    refuse (not (more_than 0 fs)) (no 11 2)
    (after_found (find_table p from 0 (field_at 1 fs).bytes m.tables) (no 9 2) (λ t.
    refuse (mandatory_between p from t 0 m.tables) (no 10 2)
    (refuse (more_than 1 fs) (no 11 3)
    (go (object_of t) (with_mark (length m.topics + t) c)))))

-- the fields behind ETOP
unfoldable pub topic_end_in : Model → (p from : ℕ) → List Field → Content → Step
topic_end_in m p from fs c =
    refuse (mandatory_between p from (length m.tables) 0 m.tables) (no 10 1)
    (refuse (more_than 0 fs) (no 11 2)
    (go (topic_from (p + 1)) c))
