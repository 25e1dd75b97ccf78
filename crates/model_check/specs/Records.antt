-- Where the name of a record begins.
use Rattle.std.specs.Prelude.{ℕ, ◌+◌, List, eqb, drop}
use Rattle.meaning.specs.Bytes.{choose, byte_at}
use Rattle.meaning.specs.Model.{parameters_size}

-- where the name begins in the payload of a topic, a table or an attribute
unfoldable pub name_start : ℕ → List ℕ → ℕ
name_start kind p = choose (eqb kind 3) 0 (choose (eqb kind 4) 1 (2 + parameters_size (byte_at p 1) (drop 2 p)))
