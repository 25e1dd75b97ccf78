-- What is proved of the check of a model: which bytes it calls good, and which record it calls the first bad one.
-- Proved in proofs/Model/ModelClaims.antt.
use Rattle.std.specs.Prelude.{ℕ, ◌≤◌, ◌<◌, ◌≡◌, true, false, List, [], ◌∷◌, ◌++◌, ◌↔◌, ltb, length}
use Rattle.meaning.specs.Bytes.{every}
use Rattle.meaning.specs.Cut.{Mark}
use Rattle.meaning.specs.Model.{records_from, target_of, Attribute, Table, Model, model_of}
use Rattle.meaning.specs.Check.{Seen, nothing_seen, see, keeps, follows, is_outside, good, bad, check_model}
use Rattle.meaning.specs.Check.{GoodModel}
use Rattle.meaning.specs.ModelBytes.{all_u16, record_bytes, records_of, placed}

-- ## Good exactly when

-- each is a byte
abbrev pub AreBytes : List ℕ → Type 0
AreBytes b = every (λ x. ltb x 256) b ≡ true

-- what the check calls good has all that a good model has
abbrev pub CheckedGood : Type 0
CheckedGood = (model : List ℕ) (m : Model) → check_model model ≡ good m → GoodModel m

-- these bytes are the records of a good model whose sizes are 16 bits, each attribute with the byte of its record
pub record IsModel (b : List ℕ) (m : Model) : Type 0 where
  pub short : length b ≤ 65536
  pub records : b ≡ records_of m
  pub rules : GoodModel m
  pub places : placed m ≡ m
  pub sizes : all_u16 m.tables ≡ true

-- bytes are called good exactly when they are the records of a good model, and at most 65,536
abbrev pub GoodExactly : Type 0
GoodExactly = (b : List ℕ) (m : Model) → AreBytes b → (check_model b ≡ good m) ↔ IsModel b m

-- the records of every good model pass, if they are not too long
abbrev pub GoodPasses : Type 0
GoodPasses = (m : Model) → GoodModel m → length (records_of m) ≤ 65536 → check_model (records_of m) ≡ good (placed m)

-- and they are bytes, where its sizes are u16
abbrev pub GoodBytes : Type 0
GoodBytes = (m : Model) → GoodModel m → all_u16 m.tables ≡ true → AreBytes (records_of m)

-- a good model's mark lies in 21 to 7E hex
abbrev pub GoodMark : Type 0
GoodMark = (model : List ℕ) (m : Model) → check_model model ≡ good m → Mark m.mark

-- ## The first bad record

-- bytes that are whole records, of which each may stand behind those before it and keeps the rules: the last of them is
-- of kind `last` (0 where there is none), and what is seen behind it
pub data GoodRecords : List ℕ → (last : ℕ) → Seen → Type 0 where
  none : GoodRecords [] 0 nothing_seen
  more : {f : List ℕ} {last : ℕ} {seen : Seen} (kind : ℕ) (p : List ℕ) → GoodRecords f last seen → length p < 65536
      → kind < 65536 → follows last kind ≡ true → keeps kind p seen ≡ true
      → GoodRecords (f ++ record_bytes kind p) kind (see kind p seen)

-- these bytes begin with a whole record
pub record Whole (b : List ℕ) : Type 0 where
  pub kind : ℕ
  pub payload : List ℕ
  pub others : List ℕ
  pub size : length payload < 65536
  pub kinds : kind < 65536
  pub is : b ≡ record_bytes kind payload ++ others

-- of these attributes of a topic's table, among all tables, the one whose record is at this byte is the first that
-- refers to no table of its topic
pub data FirstOutside (ts : List Table) (topic : ℕ) : List Attribute → (at : ℕ) → Type 0 where
  here : {a : Attribute} {others : List Attribute} → is_outside ts topic (target_of a.type) ≡ true
      → FirstOutside ts topic (a ∷ others) a.at
  later : {a : Attribute} {others : List Attribute} {at : ℕ} → is_outside ts topic (target_of a.type) ≡ false
      → FirstOutside ts topic others at → FirstOutside ts topic (a ∷ others) at

-- all of them refer to tables of their topic
abbrev pub AllInside : List Table → (topic : ℕ) → List Attribute → Type 0
AllInside ts topic [] = Unit {0}
AllInside ts topic (a ∷ others) =
    (is_outside ts topic (target_of a.type) ≡ false) × AllInside ts topic others

-- "References are judged last, in order": the tables from these on
pub data FirstOutsideOf (ts : List Table) : List Table → (at : ℕ) → Type 0 where
  here : {t : Table} {others : List Table} {at : ℕ} → FirstOutside ts t.topic t.attributes at
      → FirstOutsideOf ts (t ∷ others) at
  later : {t : Table} {others : List Table} {at : ℕ} → AllInside ts t.topic t.attributes
      → FirstOutsideOf ts others at → FirstOutsideOf ts (t ∷ others) at

-- "The first bad record is the first that overruns the model, has a kind not allowed there, or breaks a rule; a missing
-- record is at the model's end, bytes behind the end record are at the first of them. References are judged last, in
-- order. A model too long is bad at 0." The bytes b, whose first bad record is at this byte: behind f, which is fine.
-- What may follow and which rules a record keeps are the check's own (`follows`, `keeps`, `see`), and Models has rows
-- for them; where the record stands is said here
pub data FirstBad (b : List ℕ) : (at : ℕ) → Type 0 where
  too_long : 65536 < length b → FirstBad b 0
  missing : {last : ℕ} {seen : Seen} → length b ≤ 65536 → GoodRecords b last seen → (last ≡ 6 → ⊥)
      → FirstBad b (length b)
  overruns : {last : ℕ} {seen : Seen} (f r : List ℕ) → length b ≤ 65536 → GoodRecords f last seen → b ≡ f ++ r
      → 0 < length r → (Whole r → ⊥) → FirstBad b (length f)
  misplaced : {last : ℕ} {seen : Seen} (f r : List ℕ) → length b ≤ 65536 → GoodRecords f last seen → b ≡ f ++ r
      → (w : Whole r) → follows last w.kind ≡ false → FirstBad b (length f)
  breaks : {last : ℕ} {seen : Seen} (f r : List ℕ) → length b ≤ 65536 → GoodRecords f last seen → b ≡ f ++ r
      → (w : Whole r) → follows last w.kind ≡ true → keeps w.kind w.payload seen ≡ false
      → FirstBad b (length f)
  outside : {seen : Seen} {m : Model} {at : ℕ} → length b ≤ 65536 → GoodRecords b 6 seen
      → model_of (records_from 0 0 b) ≡ m → FirstOutsideOf m.tables m.tables at → FirstBad b at

-- a model is called bad exactly at its first bad record
abbrev pub BadExactly : Type 0
BadExactly = (b : List ℕ) (at : ℕ) → AreBytes b → (check_model b ≡ bad at) ↔ FirstBad b at

-- whose records all keep the rules, references aside, are the records of the model that they say, places and all: so
-- the byte of a reference is that of its record
abbrev pub RecordsSay : Type 0
RecordsSay =
    (b : List ℕ) (seen : Seen) (m : Model) → AreBytes b → GoodRecords b 6 seen → model_of (records_from 0 0 b) ≡ m
    → (b ≡ records_of m) × (placed m ≡ m)
