-- "Show that two outcomes allowed by it coincide": what `read` states leaves one answer and one content for each lent
-- buffer. Proved in proofs/Same.antt.
use Rattle.std.specs.Prelude.{ℕ, ◌≡◌, List, ℤ, replicate}
use Rattle.meaning.specs.Reading.{Rooms}
use Rattle.meaning.specs.Table.{read}
use Rattle.read_text.specs.Outcomes.{Answer, answer_of}

-- the outcome of a call: its answer, and what each lent buffer then holds
pub record Outcome : Type 0 where
  pub answer : Answer
  pub text : List ℕ
  pub marks : List ℕ
  pub rows : List ℕ
  pub cells : List ℤ
  pub points : List ℤ
  pub index : List ℕ

-- what `read` states of its outcome, for this model and file, in rooms of these sizes, with an index of so many words
pub record Allowed (model file : List ℕ) (rooms : Rooms) (words : ℕ) (o : Outcome) : Type 0 where
  pub answer_is : answer_of o.answer ≡ (read model file rooms).answer
  pub text_is : o.text ≡ (read model file rooms).text
  pub marks_are : o.marks ≡ (read model file rooms).marks
  pub rows_are : o.rows ≡ (read model file rooms).rows
  pub cells_are : o.cells ≡ (read model file rooms).cells
  pub points_are : o.points ≡ (read model file rooms).points
  pub index_is : o.index ≡ replicate words 0

-- two outcomes that are allowed for the same call coincide
abbrev pub OutcomesCoincide : Type 0
OutcomesCoincide = (model file : List ℕ) (rooms : Rooms) (words : ℕ) (o p : Outcome)
    → Allowed model file rooms words o → Allowed model file rooms words p → o ≡ p

-- the same answer and the same table
pub record SameTable (o p : Outcome) : Type 0 where
  pub answers : o.answer ≡ p.answer
  pub texts : o.text ≡ p.text
  pub marks_same : o.marks ≡ p.marks
  pub rows_same : o.rows ≡ p.rows
  pub cells_same : o.cells ≡ p.cells
  pub points_same : o.points ≡ p.points

-- the index, its size, the seed and what the rooms held before change nothing: two calls with the same model and file,
-- in rooms of the same sizes
abbrev pub CallsCoincide : Type 0
CallsCoincide = (model file : List ℕ) (rooms : Rooms) (words words' : ℕ) (o p : Outcome)
    → Allowed model file rooms words o → Allowed model file rooms words' p → SameTable o p
