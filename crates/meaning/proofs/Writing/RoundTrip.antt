-- What is written is read as the table that was lent. Assumes nothing.
use Prim.Native.Nat.{ℕ, ◌/◌, ◌≤◌}
use native.Mathlib.Omega.{arith}
use mathlib.Core.Path.{◌≡◌, refl, ap, ◌∙◌}
use mathlib.Core.Bool.{Bool, true, false}
use mathlib.Core.List.{List}
use lib.ListN.{length, take}
use lib.IntN.{ℤ}
use lib.Seq.{take-append_seam}
use borrow.Author.Tests.{le-ltb, not-false}
use Rattle.meaning.specs.Bytes.{refuse}
use Rattle.meaning.specs.Unfold.{unfolded_text}
use Rattle.meaning.specs.Cut.{Cut}
use Rattle.meaning.specs.Model.{Model, mark_count}
use Rattle.meaning.specs.Check.{good, check_model}
use Rattle.meaning.specs.Answer.{Answer, accepted}
use Rattle.meaning.specs.Reading.{Content, start_of, Rooms}
use Rattle.meaning.specs.Table.{read, Result, accepted_with, read_resolved, read_run, read_text}
use Rattle.meaning.specs.Writing.{Lent, counts_fit, content_of, lines_of}
use Rattle.meaning.specs.Readback.{same_table, is_table}
use Rattle.meaning.specs.Width.{Written, writing_refused, write_bytes, write_checked, write}
use Rattle.meaning.specs.WritingClaims.{file_of, Enough, resolved_table, ReadBack, RoomsAsLent}
use Rattle.meaning.proofs.Tests.Unequal.{not_accepted}
use Rattle.meaning.proofs.Tests.Refuse.{neither_less}
use Rattle.meaning.proofs.Model.GoodModels.{checked_good}
use Rattle.meaning.proofs.Reading.Rooms.{Wider, lines_wider}
use Rattle.meaning.proofs.Unfolding.Cuts.{cut_long}
use Rattle.meaning.proofs.Unfolding.Widths.{width_cuts}
use Rattle.meaning.proofs.Judge.SameTables.{same_exactly}
use Rattle.meaning.proofs.Writing.LentCounts.{lent_counted, alike_counted}
use Rattle.meaning.proofs.Judge.Unwritable.{rooms_of, ReadsTo, reads_to, table_reads, table_permitted}
use Rattle.meaning.proofs.Reading.Claims.{cut_reads_as_lines}

-- ## Room enough

pub reads_text : (m : Model) (ls : List (List ℕ)) (text : List ℕ) (c : Content) (rooms : Rooms) → Enough m ls c rooms → (r : ReadsTo m ls text c)
    → read_text m rooms ls ≡ accepted_with rooms (unfolded_text ls) r.state.content r.cells
unfolding read_text read_run read_resolved refuse
reads_text m ls text c rooms enough r =
    let wide : Wider (rooms_of c) rooms = record { rows = enough.rows; cells = enough.cells; points = enough.points } in
    rw (
      le-ltb rooms.text (length (unfolded_text ls)) enough.text,
      le-ltb rooms.marks (mark_count m) enough.marks,
      lines_wider m (rooms_of c) rooms (unfolded_text ls) wide ls (start_of m) r.state r.reads,
    ) (rw r.resolves)

-- ## Writing that succeeds

abbrev answer_of : Written → Answer
answer_of w = w.answer

-- a test whose refusal is not the answer did not refuse
went_on : (t : Bool) (room k at n : ℕ) (w : Written) → answer_of (refuse t (writing_refused room k at) w) ≡ accepted n 0 0 → (t ≡ false) × (answer_of w ≡ accepted n 0 0) × (refuse t (writing_refused room k at) w ≡ w)
unfolding refuse
went_on true room k at n w h = absurd (not_accepted k at 0 n 0 0 h)
went_on false room k at n w h = (refl, h, refl)

pub record WrittenAs (m : Model) (t : Lent) (width room n : ℕ) (w : Written) : Type 0 where
  pub wide : 16 ≤ width
  pub table : is_table m t ≡ true
  pub size : length (file_of m t width) ≡ n
  pub fits : n ≤ 16777216
  pub bytes : take n w.output ≡ file_of m t width

pub written_as : (model : List ℕ) (m : Model) (t : Lent) (width room n : ℕ) → check_model model ≡ good m → (write model t width room).answer ≡ accepted n 0 0 → WrittenAs m t width room n (write model t width room)
unfolding write write_checked write_bytes
written_as model m t width room n e h =
    let file : List ℕ = file_of m t width in
    let a = went_on _ room 20 0 n _ (rw e at h) in
    let b = went_on _ room 19 0 n _ a.1 in
    let d = went_on _ room 21 0 n _ b.1 in
    let size : length file ≡ n = cc d.1 in
    record {
      wide = ((neither_less width 16 _ width).0 a.0).0;
      table = not-false _ b.0;
      size = size;
      fits = omega (arith, ((neither_less room (length file) 16777216 (length file)).0 d.0).1);
      bytes = rw (e, ap (λ (w : Written). w.output) (a.2 ∙ (b.2 ∙ d.2)), ← size) (take-append_seam file _);
    }

-- what was written is a cut of the table's lines
pub written_is_cut : (model : List ℕ) (m : Model) (t : Lent) (width room n : ℕ) → check_model model ≡ good m → (write model t width room).answer ≡ accepted n 0 0
    → Cut m.mark (lines_of m t.text (content_of m t)) (take n (write model t width room).output)
written_is_cut model m t width room n e h =
    let w = written_as model m t width room n e h in
    rw w.bytes (width_cuts m.mark width (lines_of m t.text (content_of m t)) w.wide (table_permitted m (checked_good model m e) t w.table))

-- rooms for the bytes that were written and for the lent counts have enough
pub lent_is_enough : (model : List ℕ) (m : Model) (t : Lent) (width room n : ℕ) (rooms : Rooms) → check_model model ≡ good m → (write model t width room).answer ≡ accepted n 0 0 → RoomsAsLent m t n rooms
    → Enough m (lines_of m t.text (content_of m t)) (content_of m t) rooms
lent_is_enough model m t width room n rooms e h r =
    let w = written_as model m t width room n e h in
    let lent = lent_counted m t (table_reads m t w.table).fits in
    let long = cut_long (written_is_cut model m t width room n e h) in
    let size = ap length w.bytes ∙ w.size in
    record {
      text = omega (arith, r.text);
      marks = r.marks;
      rows = omega (arith, lent.rows, r.rows);
      cells = omega (arith, lent.cells, r.cells);
      points = omega (arith, lent.points, r.points);
    }

-- ## Round trip

-- a table that is alike is accepted with the lent counts
counts_back : (m : Model) (t : Lent) (rooms : Rooms) (text : List ℕ) (c : Content) (cs : List ℤ) → counts_fit m t ≡ true → same_table m text (resolved_table c cs) t.text (content_of m t) ≡ true
    → (accepted_with rooms text c cs).answer ≡ accepted t.objects t.cell_count t.point_count
unfolding accepted_with
counts_back m t rooms text c cs fits same =
    let s = alike_counted m t text (resolved_table c cs) fits ((same_exactly m text (resolved_table c cs) t.text (content_of m t)).0 same) in
    let points : length c.points / 4 ≡ t.point_count = omega (arith, s.points) in
    rw (s.rows, s.cells, points)

-- the bytes that were written, read into rooms that have enough, give the lent table: its marks, rows, cells and points, its texts and identifications by their bytes
pub round_trip : (model : List ℕ) (m : Model) (t : Lent) (width room n : ℕ) (rooms : Rooms) → check_model model ≡ good m → (write model t width room).answer ≡ accepted n 0 0
    → Enough m (lines_of m t.text (content_of m t)) (content_of m t) rooms → ReadBack m t rooms (read model (take n (write model t width room).output) rooms)
round_trip model m t width room n rooms e h enough =
    let c : Content = content_of m t in
    let ls : List (List ℕ) = lines_of m t.text c in
    let bytes : List ℕ = take n (write model t width room).output in
    let w = written_as model m t width room n e h in
    let own = table_reads m t w.table in
    let r = reads_to m ls t.text c own.reads in
    let size : length bytes ≡ n = ap length w.bytes ∙ w.size in
    let fits = w.fits in
    let is : read model bytes rooms ≡ accepted_with rooms (unfolded_text ls) r.state.content r.cells =
    cut_reads_as_lines model m ls bytes rooms e (omega arith) (written_is_cut model m t width room n e h) ∙ reads_text m ls t.text c rooms enough r in
    record {
      text = unfolded_text ls;
      content = r.state.content;
      cells = r.cells;
      is = is;
      same = r.same;
      counts = ap (λ (x : Result). x.answer) is ∙ counts_back m t rooms (unfolded_text ls) r.state.content r.cells own.fits r.same;
    }
