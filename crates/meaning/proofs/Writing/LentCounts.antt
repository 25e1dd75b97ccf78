-- The counts of a lent table are the lengths of its lists, and of those of a table that is alike. Assumes nothing.
use Prim.Native.Nat.{ℕ, ◌*◌}
use mathlib.Core.Path.{◌≡◌, ap, ◌∙◌}
use mathlib.Core.Bool.{true}
use mathlib.Core.List.{List}
use lib.ListN.{length}
use lib.Seq.{length-take-le}
use borrow.Author.Tests.{leb-true}
use Rattle.meaning.specs.Model.{Model, mark_count}
use Rattle.meaning.specs.Reading.{Content}
use Rattle.meaning.specs.Writing.{Lent, counts_fit, content_of}
use Rattle.meaning.specs.WritingClaims.{SameTable}
use Rattle.meaning.proofs.Tests.Refuse.{holds}

pub record Counted (m : Model) (t : Lent) (c : Content) : Type 0 where
  pub marks : length c.marks ≡ mark_count m
  pub rows : length c.rows ≡ t.objects
  pub cells : length c.cells ≡ t.cell_count
  pub points : length c.points ≡ 4 * t.point_count

pub lent_counted : (m : Model) (t : Lent) → counts_fit m t ≡ true → Counted m t (content_of m t)
unfolding counts_fit content_of
lent_counted m t h = record {
  marks = length-take-le (mark_count m) t.marks (leb-true (mark_count m) (length t.marks) (holds _ 0 h));
  rows = length-take-le t.objects t.rows (leb-true t.objects (length t.rows) (holds _ 1 h));
  cells = length-take-le t.cell_count t.cells (leb-true t.cell_count (length t.cells) (holds _ 2 h));
  points = length-take-le (4 * t.point_count) t.points (leb-true (4 * t.point_count) (length t.points) (holds _ 3 h));
}

pub alike_counted : (m : Model) (t : Lent) (text : List ℕ) (c : Content) → counts_fit m t ≡ true → SameTable m text c t.text (content_of m t) → Counted m t c
alike_counted m t text c h s =
    let lent = lent_counted m t h in
    record { marks = ap length s.marks ∙ lent.marks; rows = ap length s.rows ∙ lent.rows; cells = s.cells ∙ lent.cells; points = ap length s.points ∙ lent.points }
