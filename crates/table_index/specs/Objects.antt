-- The objects among which an identification is looked for: the first n rows of a table, with its cells and its text.
-- Short names: o an object's number, i an identification, ids the identification of each object.
use Rattle.std.specs.Prelude.{ℕ, zero, suc, ◌<◌, ◌≡◌, List, Bool, false, Option, None, Some, eqb, ℤ, get_or}
use Rattle.meaning.specs.Bytes.{choose}
use Rattle.meaning.specs.Model.{Found, found, missing}
use Rattle.meaning.specs.Value.{same_identification}
use Rattle.meaning.specs.Reading.{cell_at}
use Rattle.table.specs.Rows.{identification_of}

-- does object o have this identification?
abbrev pub is_named : (ids : ℕ → List ℕ) → List ℕ → ℕ → Bool
is_named ids i o = same_identification (ids o) i

-- the last number below n that passes the test
unfoldable pub last_of : (ℕ → Bool) → ℕ → Option ℕ
unfolding choose
last_of test zero = None
last_of test (suc n) = choose (test n) (Some n) (last_of test n)

-- the last of the first n objects that has this identification
abbrev pub last_named : (text rows : List ℕ) → List ℤ → List ℕ → ℕ → Option ℕ
last_named text rows cells i n = last_of (is_named (identification_of text rows cells) i) n

-- this object, if it is of table t
unfoldable pub in_table : List ℕ → List ℤ → (t : ℕ) → Option ℕ → Found
in_table rows cells t None = missing
in_table rows cells t (Some o) = choose (eqb (cell_at cells (get_or rows o 0)) t) (found o) missing

-- "identifications are unique in the file"
pub record Unique (ids : ℕ → List ℕ) (n : ℕ) : Type 0 where
  pub apart : (o p : ℕ) → o < p → p < n → same_identification (ids o) (ids p) ≡ false
