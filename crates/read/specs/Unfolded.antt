-- What is read of an exact unfolded text.
use Rattle.std.specs.Prelude.{ℕ, ◌+◌, List, ltb, length}
use Rattle.meaning.specs.Bytes.{refuse}
use Rattle.meaning.specs.Model.{Model}
use Rattle.meaning.specs.Reading.{start_of, Rooms}
use Rattle.meaning.specs.Lines.{read_lines}
use Rattle.meaning.specs.Table.{Result, refused_with, read_run}
use Rattle.read_text.specs.Text.{lines_of}

-- 6 where there are too few marks; else its lines and its references
abbrev pub unfolded_read : Model → Rooms → (text : List ℕ) → Result
unfolded_read m rooms text =
    refuse (ltb rooms.marks (length m.topics + length m.tables)) (refused_with rooms 6 0 0)
    (read_run m rooms text (read_lines m rooms text (start_of m) (lines_of text)))
