-- A table as it is lent, and the judge of what is used of it.
use Rattle.std.specs.Prelude.{ℕ, Bool, List, [], ◌∷◌, length}
use Rattle.meaning.specs.Bytes.{all_of, every}
use Rattle.meaning.specs.Model.{Model}
use Rattle.meaning.specs.Reading.{Content}
use Rattle.meaning.specs.Judge.{is_mark, judge_tables, judge_rows}

-- the rules of a table whose counts fit
unfoldable pub judge_used : Model → (text : List ℕ) → Content → Bool
judge_used m text c = all_of
    (every is_mark c.marks
    ∷ judge_tables (length m.topics) c 0 m.tables
    ∷ judge_rows m text c 0 0 0 [] c.rows
    ∷ [])
