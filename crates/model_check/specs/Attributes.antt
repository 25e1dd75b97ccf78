-- Names of attributes, as they are seen.
use Rattle.std.specs.Prelude.{ℕ, List, []}
use Rattle.meaning.specs.Check.{Seen}

-- names of attributes that were seen, and nothing else
abbrev pub attributes_seen : List (List ℕ) → Seen
attributes_seen ns = record { topics = []; tables = []; attributes = ns; table_count = 0 }
