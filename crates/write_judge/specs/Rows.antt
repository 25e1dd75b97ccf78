-- What judging rows needs and answers. Short names: m the model, t the lent table, o an object's number, p the place of
-- its row.
use Rattle.std.specs.Prelude.{ℕ, ◌+◌, ◌*◌, ◌≤◌, ◌≡◌, Bool, false, not, ◌&&◌, List, [], ◌∷◌, eqb, pos, length}
use Rattle.std.specs.Prelude.{get_or, take, drop, Option, Some, None}
use Rattle.std.specs.Int.Signed.{lt_z}
use Rattle.meaning.specs.Bytes.{all_of}
use Rattle.meaning.specs.Model.{Model}
use Rattle.meaning.specs.Reading.{cell_at}
use Rattle.meaning.specs.Judge.{judge_stretch, judge_rows}
use Rattle.model_records.specs.declared.places.Shape.{Shape}
use Rattle.table_index.specs.Holds.{ObjectsKnown}
use Rattle.table.specs.declared.Table.{Table}
use Rattle.table.specs.Contents.{content}
use Rattle.write_judge.specs.declared.rows.Place.{Place}

-- the first three rules of a row: its table is no earlier than the one before, is one of the model's, and is delivered
unfoldable pub table_tests : Shape → Table → (least at : ℕ) → Bool
table_tests shape t least at = all_of
    (not (lt_z (get_or t.cells.now at (pos 0)) (pos least))
    ∷ lt_z (get_or t.cells.now at (pos 0)) (pos shape.tables)
    ∷ not (eqb (get_or t.marks.now (shape.topics + cell_at t.cells.now at) 0) 0)
    ∷ [])

-- the rules of its identification but that it is unique
unfoldable pub name_tests : Table → (u at : ℕ) → Bool
name_tests t u at =
    not (lt_z (get_or t.cells.now (at + 2) (pos 0)) (pos 1))
    && judge_stretch u t.text.now (get_or t.cells.now (at + 1) (pos 0)) (cell_at t.cells.now (at + 2))

-- the table's first n objects can be looked for
abbrev pub Known : (seed : ℕ) → Table → (index : List ℕ) (n : ℕ) → Type 0
Known seed t index n = ObjectsKnown seed t.text.now t.rows.now t.cells.now index n

-- the rows before object o are fine: they can be looked for, and its row may start at this place
pub record AtRow (seed : ℕ) (t : Table) (index : List ℕ) (o : ℕ) (p : Place) : Type 0 where
  pub known : Known seed t index o
  pub cells_fit : p.at ≤ length t.cells.now
  pub points_fit : 4 * p.points ≤ length t.points.now

-- the judge of the rows from that of object o on
unfoldable pub rows_from : Model → Table → (o : ℕ) → Place → Bool
rows_from m t o p =
    judge_rows m t.text.now (content t) p.least p.at p.points (take o t.rows.now) (drop o t.rows.now)

-- a row is fine, and the next one's place says what the row's place said; or it is not fine
abbrev pub RowTurn : (whole : Bool) (next : Place → Bool) (Holds : Place → Type 0) → Option Place → Type 0
RowTurn whole next Holds (Some p) = (next p ≡ whole) × Holds p
RowTurn whole next Holds None = false ≡ whole
