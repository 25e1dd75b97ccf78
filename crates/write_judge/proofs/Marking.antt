-- The marks of tables, by their numbers. Assumes nothing.
use Prim.Native.Nat.{ℕ, ◌+◌, ◌<◌}
use native.Mathlib.Omega.{arith}
use native.Mathlib.Numerals.{add-one}
use mathlib.Core.Path.{◌≡◌, refl, sym}
use mathlib.Core.Bool.{Bool, true, false, not, ◌&&◌, ◌||◌, true≢false, false≢true}
use mathlib.Core.List.{List, [], ◌∷◌}
use lib.Dec.{eqb}
use lib.ListN.{length, get_or, drop, drop_of_length-le}
use lib.Seq.{drop-cons}
use Rattle.meaning.specs.Bytes.{choose, all_of}
use Rattle.meaning.specs.Model as meaning
use Rattle.meaning.specs.Model.{no_table, table_at}
use Rattle.meaning.specs.Reading.{Content}
use Rattle.meaning.specs.Writing.{is_delivered}
use Rattle.meaning.specs.Judge.{judge_tables}
use Rattle.model_records.specs.Records.{model_at}
use Rattle.model_records.specs.Places.{topic_of}
use Rattle.model_records.specs.declared.places.Records.{Records}
use Rattle.table.specs.declared.Table.{Table}
use Rattle.table.specs.Contents.{content, marks_only}
use Rattle.write_judge.specs.Marks.{Judging, tables_from, is_fine}

-- ## The judge of tables

-- only the marks are looked at
by_marks : (topics : ℕ) (c d : Content) → c.marks ≡ d.marks → (n : ℕ) (ts : List meaning.Table) → judge_tables topics c n ts ≡ judge_tables topics d n ts
unfolding judge_tables
by_marks topics c d e n [] = refl
by_marks topics c d e n (t ∷ ts) = rw (by_marks topics c d e (n + 1) ts, e)

three : (x y z : Bool) → (x && (y && (z && true))) ≡ choose (x && y) z false
unfolding choose
three true true true = refl
three true true false = refl
three true false z = refl
three false y z = refl

module _ (topics : ℕ) (marks : List ℕ) (ts : List meaning.Table) (n : ℕ) where
  -- one table more
  table_turn : n < length ts → tables_from topics marks ts n
      ≡ choose (is_fine (is_delivered (marks_only marks) (topics + n)) (is_delivered (marks_only marks) (table_at ts n).topic) (table_at ts n).optional) (tables_from topics marks ts (n + 1)) false
  unfolding tables_from judge_tables all_of is_fine
  table_turn l =
      let split : drop n ts ≡ table_at ts n ∷ drop (n + 1) ts = rw (add-one n) (drop-cons ts n no_table l) in
      let a : Bool = is_delivered (marks_only marks) (topics + n) in
      let b : Bool = is_delivered (marks_only marks) (table_at ts n).topic in
      rw split (three (not a || b) (a || not b || (table_at ts n).optional) (judge_tables topics (marks_only marks) (n + 1) (drop (n + 1) ts)))

  pub tables_end : n ≡ length ts → true ≡ tables_from topics marks ts n
  unfolding tables_from judge_tables
  tables_end e = rw (drop_of_length-le ts {i = n} (omega arith))

-- the mark of a table of the model, and its topic's
module _ (model : Records) (t : Table) (judging : Judging model t) where
  abbrev topics : ℕ
  topics = model.shape.topics

  abbrev m : meaning.Model
  m = model_at model.bytes.now

  pub delivery_turn : (n : ℕ) → n < model.shape.tables
      → tables_from topics t.marks.now m.tables n
      ≡ choose (is_fine (not (eqb (get_or t.marks.now (topics + n) 0) 0)) (not (eqb (get_or t.marks.now (topic_of model.places n) 0) 0)) (table_at m.tables n).optional) (tables_from topics t.marks.now m.tables (n + 1)) false
  delivery_turn n l = rw (judging.placed.noted.owner n l) (table_turn topics t.marks.now m.tables n (omega (arith, judging.placed.tables)))

  pub all_tables : tables_from topics t.marks.now m.tables 0 ≡ judge_tables (length m.topics) (content t) 0 m.tables
  unfolding tables_from
  all_tables = rw judging.placed.topics (by_marks (length m.topics) (marks_only t.marks.now) (content t) refl 0 m.tables)

-- ## A test and what follows it

pub told_no : (r x y : Bool) → y ≡ choose r x false → not r ≡ true → false ≡ y
unfolding choose
told_no true x y e h = absurd (false≢true h)
told_no false x y e h = sym e

pub told_yes : (r x y : Bool) → y ≡ choose r x false → not r ≡ false → x ≡ y
unfolding choose
told_yes true x y e h = sym e
told_yes false x y e h = absurd (true≢false h)
