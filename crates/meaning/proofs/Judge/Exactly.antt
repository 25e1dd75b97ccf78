-- "writing: no lines read as this table" (01, refusal 19): the judge finds a lent table fine exactly when its own lines read as it. Assumes nothing.
use Prim.Native.Nat.{ℕ}
use mathlib.Core.Path.{◌≡◌, refl}
use mathlib.Core.Bool.{true}
use mathlib.Core.List.{List}
use lib.ListN.{length}
use Rattle.meaning.specs.Bytes.{all_of}
use Rattle.meaning.specs.Model.{Model}
use Rattle.meaning.specs.Check.{good, check_model, GoodModel}
use Rattle.meaning.specs.Writing.{Lent, counts_fit, content_of}
use Rattle.meaning.specs.Readback.{is_table}
use Rattle.meaning.specs.Judge.{judge}
use Rattle.meaning.proofs.Tests.Refuse.{holds, same_test}
use Rattle.meaning.proofs.Model.GoodModels.{checked_good}
use Rattle.meaning.proofs.Judge.Valid.{Valid}
use Rattle.meaning.proofs.Writing.Writable.{valid_reads}
use Rattle.meaning.proofs.Writing.LentCounts.{lent_counted}
use Rattle.meaning.proofs.Judge.Unwritable.{table_valid}
use Rattle.meaning.proofs.Judge.Rows.{all_judged, judged_all}
use Rattle.meaning.proofs.Judge.Marks.{all_tables_judged, judged_all_tables}
use Rattle.meaning.proofs.Judge.Tables.{rows_valid}
use Rattle.meaning.proofs.Judge.TablesBack.{valid_told}

module _ (m : Model) (g : GoodModel m) (t : Lent) where
  -- a table that the judge finds fine is fine
  pub judged_valid : judge m t ≡ true → Valid m t.text (content_of m t)
  unfolding judge
  judged_valid h =
      rows_valid m t.text (content_of m t) g (lent_counted m t (holds _ 0 h)).marks (holds _ 1 h)
      (all_tables_judged (content_of m t) (length m.topics) m.tables (holds _ 2 h))
      (all_judged m t.text (content_of m t) g (content_of m t).rows refl (holds _ 3 h))

  -- and the other way round, where it fits its counts
  pub valid_judged : counts_fit m t ≡ true → Valid m t.text (content_of m t) → judge m t ≡ true
  unfolding judge all_of
  valid_judged f v =
      let w = valid_told m t.text (content_of m t) g v in
      rw (f, w.are_marks, judged_all_tables (content_of m t) (length m.topics) m.tables w.tables, judged_all m t.text (content_of m t) refl w.rows)

  judged_fits : judge m t ≡ true → counts_fit m t ≡ true
  unfolding judge
  judged_fits h = holds _ 0 h

  judged_table : judge m t ≡ true → is_table m t ≡ true
  unfolding is_table all_of
  judged_table h = rw (judged_fits h, valid_reads m t.text (content_of m t) g (judged_valid h))

  table_judged : is_table m t ≡ true → judge m t ≡ true
  unfolding is_table
  table_judged h = valid_judged (holds _ 0 h) (table_valid m g t h)

-- the judge and the reading of a table's own lines say the same
pub judge_is_table : (m : Model) → GoodModel m → (t : Lent) → judge m t ≡ is_table m t
judge_is_table m g t = same_test (judge m t) (is_table m t) (judged_table m g t) (table_judged m g t)

-- under every good model
pub judged_exactly : (model : List ℕ) (m : Model) (t : Lent) → check_model model ≡ good m → judge m t ≡ is_table m t
judged_exactly model m t e = judge_is_table m (checked_good model m e) t
