-- What was written, read and written again gives the same bytes. Assumes nothing.
use Prim.Native.Nat.{ℕ, ◌*◌, ◌-◌}
use native.Mathlib.Omega.{arith}
use mathlib.Core.Path.{◌≡◌, sym, ap, subst, ◌∙◌}
use mathlib.Core.Bool.{true}
use mathlib.Core.List.{List}
use lib.Dec.{leb}
use lib.IntN.{ℤ, pos}
use lib.ListN.{length, take, replicate, length-append}
use lib.Seq.{take_at}
use borrow.Author.Tests.{le-leb}
use Rattle.meaning.specs.Bytes.{all_of}
use Rattle.meaning.specs.Model.{Model, mark_count}
use Rattle.meaning.specs.Check.{good, check_model, GoodModel}
use Rattle.meaning.specs.Answer.{accepted, filled}
use Rattle.meaning.specs.Reading.{Content, Rooms}
use Rattle.meaning.specs.Table.{Result, accepted_with, read}
use Rattle.meaning.specs.Writing.{Lent, counts_fit, content_of, lines_of}
use Rattle.meaning.specs.Readback.{is_table}
use Rattle.meaning.specs.Width.{write_checked, write}
use Rattle.meaning.specs.WritingClaims.{ObjectsInside, SameTable, Enough, resolved_table, lent_again}
use Rattle.meaning.proofs.Model.GoodModels.{checked_good}
use Rattle.meaning.proofs.Judge.Valid.{Valid}
use Rattle.meaning.proofs.Judge.SameTables.{same_exactly}
use Rattle.meaning.proofs.Judge.EqualTables.{valid_alike}
use Rattle.meaning.proofs.Writing.LentCounts.{Counted, alike_counted}
use Rattle.meaning.proofs.Writing.EqualLines.{lines_same}
use Rattle.meaning.proofs.Writing.LongerText.{longer_alike}
use Rattle.meaning.proofs.Writing.Writable.{valid_reads}
use Rattle.meaning.proofs.Judge.Unwritable.{table_reads, table_valid}
use Rattle.meaning.proofs.Writing.RoundTrip.{written_as, round_trip}

alike_back : (m : Model) (text : List ℕ) (c : Content) (text' : List ℕ) (c' : Content) → SameTable m text c text' c' → SameTable m text' c' text c
alike_back m text c text' c' s = record {
  marks = sym s.marks;
  rows = sym s.rows;
  cells = sym s.cells;
  objects = sym s.objects;
  inside = subst ObjectsInside s.objects s.inside;
  points = sym s.points;
}

-- tables with the same lines are written alike
written_alike : (model : List ℕ) (m : Model) (t t' : Lent) (width room : ℕ) → check_model model ≡ good m → is_table m t ≡ is_table m t'
    → lines_of m t.text (content_of m t) ≡ lines_of m t'.text (content_of m t') → write model t width room ≡ write model t' width room
unfolding write write_checked
written_alike model m t t' width room e b l = rw (e, b, l)

-- so many of a room's elements are the used ones
fits : {A : Type 0} (z : A) (room n : ℕ) (xs : List A) → length xs ≡ n → leb n (length (filled z room xs)) ≡ true
fits z room n xs e = le-leb n _ (rw (length-append xs (replicate (room - length xs) z)) (omega arith))

module _ (m : Model) (g : GoodModel m) (t : Lent) (counts : counts_fit m t ≡ true) (valid : Valid m t.text (content_of m t)) (rooms : Rooms) (text : List ℕ) (c : Content) (cs : List ℤ)
    (s : SameTable m text (resolved_table c cs) t.text (content_of m t)) where
  abbrev pub again : Lent
  again = lent_again (accepted_with rooms text c cs) t.objects t.cell_count t.point_count

  counted : Counted m t (resolved_table c cs)
  counted = alike_counted m t text (resolved_table c cs) counts s

  content_again : content_of m again ≡ resolved_table c cs
  unfolding content_of accepted_with
  content_again = rw (
    take_at c.marks (replicate (rooms.marks - length c.marks) 0) (mark_count m) counted.marks,
    take_at c.rows (replicate (rooms.rows - length c.rows) 0) t.objects counted.rows,
    take_at cs (replicate (rooms.cells - length cs) (pos 0)) t.cell_count counted.cells,
    take_at c.points (replicate (rooms.points - length c.points) (pos 0)) (4 * t.point_count) counted.points,
  )

  counts_again : counts_fit m again ≡ true
  unfolding counts_fit all_of accepted_with
  counts_again = rw (
    fits 0 rooms.marks (mark_count m) c.marks counted.marks,
    fits 0 rooms.rows t.objects c.rows counted.rows,
    fits (pos 0) rooms.cells t.cell_count cs counted.cells,
    fits (pos 0) rooms.points (4 * t.point_count) c.points counted.points,
  )

  abbrev longer : List ℕ
  longer = filled 0 rooms.text text

  valid_text : Valid m text (resolved_table c cs)
  valid_text = valid_alike m t.text (content_of m t) text (resolved_table c cs) (alike_back m text (resolved_table c cs) t.text (content_of m t) s) valid

  valid_again : Valid m longer (resolved_table c cs)
  valid_again = valid_alike m text (resolved_table c cs) longer (resolved_table c cs) (longer_alike text _ m (resolved_table c cs) valid_text) valid_text

  lines_again : lines_of m longer (content_of m again) ≡ lines_of m t.text (content_of m t)
  lines_again =
      ap (lines_of m longer) content_again
      ∙ (sym (lines_same m text (resolved_table c cs) longer (resolved_table c cs) (longer_alike text _ m (resolved_table c cs) valid_text) valid_text)
      ∙ sym (lines_same m t.text (content_of m t) text (resolved_table c cs) (alike_back m text (resolved_table c cs) t.text (content_of m t) s) valid))

  pub table_again : is_table m again ≡ true
  unfolding is_table all_of accepted_with
  table_again = rw (counts_again, content_again, valid_reads m longer (resolved_table c cs) g valid_again)

pub written_again : (model : List ℕ) (m : Model) (t : Lent) (width room n : ℕ) (rooms : Rooms) → check_model model ≡ good m → (write model t width room).answer ≡ accepted n 0 0
    → Enough m (lines_of m t.text (content_of m t)) (content_of m t) rooms → (width' room' : ℕ)
    → write model (lent_again (read model (take n (write model t width room).output) rooms) t.objects t.cell_count t.point_count) width' room' ≡ write model t width' room'
unfolding accepted_with
written_again model m t width room n rooms e h enough width' room' =
    let g : GoodModel m = checked_good model m e in
    let w = written_as model m t width room n e h in
    let own = table_reads m t w.table in
    let valid : Valid m t.text (content_of m t) = table_valid m g t w.table in
    let back = round_trip model m t width room n rooms e h enough in
    let s = (same_exactly m back.text (resolved_table back.content back.cells) t.text (content_of m t)).0 back.same in
    ap (λ (r : Result). write model (lent_again r t.objects t.cell_count t.point_count) width' room') back.is
    ∙ written_alike model m _ t width' room' e (table_again m g t own.fits valid rooms back.text back.content back.cells s ∙ sym w.table) (lines_again m g t own.fits valid rooms back.text back.content back.cells s)
