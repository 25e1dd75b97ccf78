-- What is left in the lent buffers: a part cleared, a table accepted, a refusal. Assumes nothing.
use Prim.Native.Nat.{ℕ, ◌*◌, ◌-◌, ◌/◌, ◌≤◌}
use mathlib.Core.Path.{◌≡◌, refl, ◌∙◌}
use mathlib.Core.List.{List, ◌++◌, append-nil}
use native.Mathlib.Omega.{arith}
use lib.IntN.{ℤ}
use lib.ListN.{length, take, drop, replicate, length-drop, drop_of_length-le}
use lib.Seq.{length-take-le}
use Rattle.meaning.specs.Answer.{filled, accepted}
use Rattle.meaning.specs.Reading.{Rooms}
use Rattle.meaning.specs.Table.{Result, refused_with, accepted_with}
use Rattle.base.proofs.Fill.{to_end}
use Rattle.std.proofs.Common.{Ok, Err}
use Rattle.base.specs.Reasons.{number_of}
use Rattle.base.specs.declared.reasons.Refused.{Refused}
use Rattle.table.specs.declared.Used.{Used}
use Rattle.read_text.specs.Outcomes.{Answer, answer_of, Fits, Unfinished, ReadInto, Zeroed, Closed, Finished}

-- a room whose part from k on is cleared is filled behind its first k
pub cleared : {A : Type 0} (z : A) (k : ℕ) (xs : List A) → k ≤ length xs
    → take k xs ++ (replicate (length (take (length xs - k) (drop k xs))) z ++ drop (length xs - k) (drop k xs)) ≡ filled z (length xs) (take k xs)
cleared z k xs h =
    rw (to_end xs k, length-drop k xs, drop_of_length-le (drop k xs) {i = length xs - k} (omega (arith, length-drop k xs)), append-nil, length-take-le k xs h)

-- ## Reading, from the table read to the buffers

-- the answer and the buffers are the result's
pub record Left (r : Result) (text marks rows : List ℕ) (cells points : List ℤ) (a : Answer) : Type 0 where
  pub answer_is : answer_of a ≡ r.answer
  pub text_is : text ≡ r.text
  pub marks_are : marks ≡ r.marks
  pub rows_are : rows ≡ r.rows
  pub cells_are : cells ≡ r.cells
  pub points_are : points ≡ r.points

module _ (r : Result) (rooms : Rooms) (text marks rows : List ℕ) (cells points : List ℤ) (text' marks' rows' : List ℕ) (cells' points' : List ℤ)
    (lt : rooms.text ≡ length text) (lm : rooms.marks ≡ length marks) (lr : rooms.rows ≡ length rows) (lc : rooms.cells ≡ length cells) (lp : rooms.points ≡ length points) where
  left_refused : (f : Refused) → r ≡ refused_with rooms (number_of f.reason) f.first f.second → Zeroed text marks rows cells points text' marks' rows' cells' points'
      → Left r text' marks' rows' cells' points' (Err f)
  unfolding refused_with
  left_refused f e z =
      rw (e, lt, lm, lr, lc, lp)
      (record { answer_is = refl; text_is = z.text_is; marks_are = z.marks_are; rows_are = z.rows_are; cells_are = z.cells_are; points_are = z.points_are })

  left_accepted : (u : Used) → Unfinished r rooms text marks rows cells points u → Fits {E = Refused} rows cells points (Ok u)
      → Closed text marks rows cells points u text' marks' rows' cells' points' → Left r text' marks' rows' cells' points' (Ok u)
  unfolding accepted_with
  left_accepted u read f z =
      let four : length (take (4 * u.points) points) ≡ 4 * u.points = length-take-le (4 * u.points) points f.2 in
      rw read.is.is
      (record {
        answer_is = counts (length (take u.objects rows)) (length (take u.cells cells)) (length (take (4 * u.points) points)) (length-take-le u.objects rows f.0) (length-take-le u.cells cells f.1) four;
        text_is = z.text_is ∙ read.text_is;
        marks_are = z.marks_are ∙ read.is.marks_are;
        rows_are = rw lr z.rows_are;
        cells_are = rw lc z.cells_are;
        points_are = rw lp z.points_are;
      })
    where
      counts : (i j k : ℕ) → i ≡ u.objects → j ≡ u.cells → k ≡ 4 * u.points → accepted u.objects u.cells u.points ≡ accepted i j (k / 4)
      counts i j k a b e = let q : k / 4 ≡ u.points = omega arith in rw (a, b, q)

  pub left : (a : Answer) → ReadInto r rooms text marks rows cells points a → Fits rows cells points a
      → Finished text marks rows cells points text' marks' rows' cells' points' a → Left r text' marks' rows' cells' points' a
  left (Ok u) read f z = left_accepted u read f z
  left (Err g) e f z = left_refused g e z
