-- The judge of a whole table: its counts, then what is used of it. Assumes nothing.
use Prim.Native.Nat.{ℕ, ◌+◌, ◌*◌, ◌/◌, ◌≤◌}
use native.Mathlib.Omega.{arith}
use mathlib.Core.Path.{◌≡◌, refl, ap}
use mathlib.Core.Bool.{Bool, true, false, ◌&&◌, and-true, and_assoc}
use mathlib.Core.List.{List, [], ◌∷◌}
use lib.Dec.{leb}
use lib.ListN.{length, take}
use lib.Seq.{length-take-le}
use borrow.Author.Tests.{leb-true, leb-false, le-leb, lt-leb}
use Rattle.meaning.specs.Bytes.{all_of, every}
use Rattle.meaning.specs.Model.{Model}
use Rattle.meaning.specs.Reading.{Content}
use Rattle.meaning.specs.Writing.{Lent, counts_fit, content_of}
use Rattle.meaning.specs.Judge.{is_mark, judge_tables, judge_rows, judge}
use Rattle.meaning.proofs.Tests.Refuse.{holds}
use Rattle.model_records.specs.Records.{model_at}
use Rattle.model_records.specs.Places.{Placed}
use Rattle.model_records.specs.declared.places.Records.{Records}
use Rattle.table.specs.declared.Used.{Used}
use Rattle.table.specs.declared.Table.{Table}
use Rattle.table.specs.Contents.{content}
use Rattle.write_judge.specs.Marks.{Judging}
use Rattle.write_judge.specs.Tables.{judge_used}
use Rattle.meaning.specs.Writing.{lent_of}

-- ## Counts

-- a point is four cells
pub points_fit_lem : (n size : ℕ) → leb n (size / 4) ≡ leb (4 * n) size
points_fit_lem n size = go (leb n (size / 4)) refl
  where
    go : (x : Bool) → leb n (size / 4) ≡ x → leb n (size / 4) ≡ leb (4 * n) size
    go true e = let l = leb-true n (size / 4) e in rw (e, le-leb (4 * n) size (omega arith))
    go false e = let l = leb-false n (size / 4) e in rw (e, lt-leb (4 * n) size (omega arith))

last : (x : Bool) → x ≡ (x && true)
last true = refl
last false = refl

pub four_counts : (a b c d : Bool) → (a && b && c && d) ≡ all_of (a ∷ b ∷ c ∷ d ∷ [])
unfolding all_of
four_counts a b c d = simp (and-true, and_assoc)

-- ## What is used

module _ (m : Model) (text : List ℕ) (c : Content) where
  pub used_marks : every is_mark c.marks ≡ false → false ≡ judge_used m text c
  unfolding judge_used all_of
  used_marks h = rw h

  module _ (g : every is_mark c.marks ≡ true) where
    pub used_tables : judge_tables (length m.topics) c 0 m.tables ≡ false → false ≡ judge_used m text c
    unfolding judge_used all_of
    used_tables h = rw (g, h)

    pub used_rows : judge_tables (length m.topics) c 0 m.tables ≡ true → judge_rows m text c 0 0 0 [] c.rows ≡ judge_used m text c
    unfolding judge_used all_of
    used_rows h = rw (g, h) (last (judge_rows m text c 0 0 0 [] c.rows))

-- ## The whole

module _ (model : Records) (placed : Placed model) (t : Table) (used : Used) where
  abbrev m : Model
  m = model_at model.bytes.now

  abbrev count : ℕ
  count = model.shape.topics + model.shape.tables

  abbrev Fit : Bool
  Fit = all_of (leb count (length t.marks.now) ∷ leb used.objects (length t.rows.now) ∷ leb used.cells (length t.cells.now) ∷ leb (4 * used.points) (length t.points.now) ∷ [])

  abbrev lent : Lent
  lent = lent_of t.text.now t.marks.now t.rows.now t.cells.now t.points.now used.objects used.cells used.points

  fit_is : Fit ≡ counts_fit m lent
  unfolding counts_fit
  fit_is = rw (placed.topics, placed.tables)

  pub whole_none : Fit ≡ false → false ≡ judge m lent
  unfolding judge all_of
  whole_none h = rw (← fit_is, h)

  module _ (h : Fit ≡ true) where
    pub fit_counts : (count ≤ length t.marks.now) × (used.objects ≤ length t.rows.now) × (used.cells ≤ length t.cells.now) × (4 * used.points ≤ length t.points.now)
    fit_counts = (leb-true _ _ (holds _ 0 h), leb-true _ _ (holds _ 1 h), leb-true _ _ (holds _ 2 h), leb-true _ _ (holds _ 3 h))

    -- what is used of the table
    module _ (cut : Table) (et : cut.text.now ≡ t.text.now) (em : cut.marks.now ≡ take count t.marks.now) (er : cut.rows.now ≡ take used.objects t.rows.now)
        (ec : cut.cells.now ≡ take used.cells t.cells.now) (ep : cut.points.now ≡ take (4 * used.points) t.points.now) where
      pub whole_judging : Judging model cut
      whole_judging = record { placed = placed; marks_room = omega (arith, ap length em, length-take-le count t.marks.now fit_counts.0) }

      pub whole_used : judge_used m cut.text.now (content cut) ≡ judge m lent
      unfolding judge judge_used all_of content_of
      whole_used = rw (← fit_is, h, et, em, er, ec, ep, placed.topics, placed.tables)
