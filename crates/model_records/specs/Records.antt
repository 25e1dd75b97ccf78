-- The records of a model's bytes b from a byte on, and what stands at a byte.
use Rattle.std.specs.Prelude.{ℕ, ◌+◌, List, take, drop}
use Rattle.meaning.specs.Bytes.{u16_at}
use Rattle.meaning.specs.Model.{Records, records_from, Attribute, attributes_of, Model, model_of}
use Rattle.meaning.specs.Row.{Pair, pairs_of}

abbrev pub records_at : (b : List ℕ) (at : ℕ) → Records
records_at b at = records_from 0 at (drop at b)

-- the model that the bytes say, where they are good
abbrev pub model_at : (b : List ℕ) → Model
model_at b = model_of (records_at b 0)

-- the kind and the payload of the record at a byte, and the byte of the next record
abbrev pub kind_at : (b : List ℕ) (at : ℕ) → ℕ
kind_at b at = u16_at b (at + 2)

abbrev pub payload_at : (b : List ℕ) (at : ℕ) → List ℕ
payload_at b at = take (u16_at b at) (drop (at + 4) b)

abbrev pub next_at : (b : List ℕ) (at : ℕ) → ℕ
next_at b at = at + 4 + u16_at b at

-- the attributes of the attribute records from a byte on, and their pairs
abbrev pub attributes_at : (b : List ℕ) (at : ℕ) → List Attribute
attributes_at b at = attributes_of (records_at b at)

abbrev pub pairs_at : (b : List ℕ) (at : ℕ) → List Pair
pairs_at b at = pairs_of (attributes_at b at)
