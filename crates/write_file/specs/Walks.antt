-- Walks over the rows of a lent table and over the topics and tables of its model, and the lines that they put.
-- Short names: m the model, c the content, s the lines' style, t a table's number, p a topic's.
use Rattle.std.specs.Prelude.{ℕ, ◌+◌, ◌-◌, ◌≤◌, ◌≡◌, List, [], ◌∷◌, ◌++◌, ℤ, length, take, drop, get_or}
use Rattle.meaning.specs.Model.{Table, Model, table_at}
use Rattle.meaning.specs.Field.{TABL, ETAB, TOPI, ETOP}
use Rattle.meaning.specs.Row.{pairs_of}
use Rattle.meaning.specs.Reading.{Content}
use Rattle.meaning.specs.Writing.{row_lines, rows_of_table, rows_behind_table, rows_behind_topic, table_lines}
use Rattle.meaning.specs.Writing.{topic_lines}
use Rattle.write_lines.specs.declared.Put.{Put}
use Rattle.write_lines.specs.Puts.{Puts}
use Rattle.write_lines.specs.declared.style.LineStyle.{LineStyle}
use Rattle.write_file.specs.declared.walk.RowsWritten.{RowsWritten}
use Rattle.write_file.specs.Styles.{cut_of}

-- ## Rows

-- from row number `row` on the rows before r are of table t, and r is of another
pub record TableEnd (t : ℕ) (cells : List ℤ) (rows : List ℕ) (row r : ℕ) : Type 0 where
  pub order : row ≤ r
  pub within : r ≤ length rows
  pub first : take (r - row) (drop row rows) ≡ rows_of_table t cells (drop row rows)
  pub rest : drop r rows ≡ rows_behind_table t cells (drop row rows)

-- from row number `row` on the rows before r are of tables of topic p, and r is not
pub record TopicEnd (ts : List Table) (p : ℕ) (cells : List ℤ) (rows : List ℕ) (row r : ℕ) : Type 0 where
  pub within : r ≤ length rows
  pub rest : drop r rows ≡ rows_behind_topic ts p cells (drop row rows)

-- ## Lines

-- the lines of table t, with these rows
abbrev pub lines_of_table : Model → (text : List ℕ) → Content → (t : ℕ) → (rows : List ℕ) → List (List (List ℕ))
lines_of_table m text c t rows =
    (TABL ∷ (table_at m.tables t).name ∷ [])
    ∷ (row_lines m text c (pairs_of (table_at m.tables t).attributes) rows ++ ((ETAB ∷ []) ∷ []))

-- the lines of topic p, with the first of these rows
abbrev pub lines_of_topic : Model → (text : List ℕ) → Content → (p : ℕ) → (rows : List ℕ) → List (List (List ℕ))
lines_of_topic m text c p rows =
    (TOPI ∷ get_or m.topics p [] ∷ []) ∷ (table_lines m text c p 0 m.tables rows ++ ((ETOP ∷ []) ∷ []))

-- table t is passed: of the lines of topic p's tables, those of this one are put
pub record TableTurn (m : Model) (text : List ℕ) (c : Content) (s : LineStyle) (p t row : ℕ)
    (before : Put) (entry exit : List ℕ) (w : RowsWritten) : Type 0 where
  pub lines : List (List (List ℕ))
  pub put : Puts (cut_of s lines) before entry exit w.put
  pub rest : table_lines m text c p t (drop t m.tables) (drop row c.rows)
      ≡ lines ++ table_lines m text c p (t + 1) (drop (t + 1) m.tables) (drop w.row c.rows)
  pub within : w.row ≤ length c.rows

-- topic p is passed: of the lines of the topics, those of this one are put
pub record TopicTurn (m : Model) (text : List ℕ) (c : Content) (s : LineStyle) (p row : ℕ)
    (before : Put) (entry exit : List ℕ) (w : RowsWritten) : Type 0 where
  pub lines : List (List (List ℕ))
  pub put : Puts (cut_of s lines) before entry exit w.put
  pub rest : topic_lines m text c p (drop p m.topics) (drop row c.rows)
      ≡ lines ++ topic_lines m text c (p + 1) (drop (p + 1) m.topics) (drop w.row c.rows)
  pub within : w.row ≤ length c.rows
