-- "no lines read as this table" (01, refusal 19): lines that read as a lent table, lines that are right for it, and the test whether its own lines do. Assumes nothing.
use Prim.Native.Nat.{ℕ}
use native.Mathlib.Omega.{arith}
use mathlib.Core.Path.{◌≡◌, refl, sym, ap, subst, ◌∙◌}
use mathlib.Core.Logic.{◌↔◌}
use mathlib.Core.Bool.{Bool, true, false, false≢true, true≢false}
use mathlib.Core.List.{List}
use lib.IntN.{ℤ}
use lib.ListN.{length}
use Rattle.meaning.specs.Bytes.{all_of}
use Rattle.meaning.specs.Unfold.{unfolded_text}
use Rattle.meaning.specs.Cut.{Permitted}
use Rattle.meaning.specs.Model.{Model}
use Rattle.meaning.specs.Check.{good, check_model, GoodModel}
use Rattle.meaning.specs.Reading.{Content, State, start_of, Rooms}
use Rattle.meaning.specs.Lines.{Run, ran, stopped, read_lines}
use Rattle.meaning.specs.Table.{resolved, Resolved, unresolved, resolve}
use Rattle.meaning.specs.Right.{DeliveredTopic, table_of}
use Rattle.meaning.specs.Writing.{Lent, content_of, lines_of}
use Rattle.meaning.specs.Readback.{same_table, is_resolved_as, is_run_as, reads_as, is_table}
use Rattle.meaning.specs.WritingClaims.{RightAs, NoLines, ReadAs, NoLinesAtAll, resolved_table}
use Rattle.meaning.proofs.Tests.Refuse.{holds}
use Rattle.meaning.proofs.Model.GoodModels.{checked_good}
use Rattle.meaning.proofs.Judge.Valid.{Valid}
use Rattle.meaning.proofs.Writing.Writable.{valid_reads}
use Rattle.meaning.proofs.Reading.LinesRead.{read_valid}
use Rattle.meaning.proofs.Judge.SameTables.{same_exactly}
use Rattle.meaning.proofs.Judge.EqualTables.{valid_alike}
use Rattle.meaning.proofs.Writing.Permits.{valid_permits}
use Rattle.meaning.proofs.Right.Table.{room_for, right_run}
use Rattle.meaning.proofs.Right.Accepted.{right_read}

-- ## Lines that read as a table

-- the room for no more than a table has
abbrev pub rooms_of : Content → Rooms
rooms_of c = record { text = 0; marks = 0; rows = length c.rows; cells = length c.cells; points = length c.points }

pub record ReadsTo (m : Model) (ls : List (List ℕ)) (text : List ℕ) (c : Content) : Type 0 where
  pub state : State
  pub cells : List ℤ
  pub reads : read_lines m (rooms_of c) (unfolded_text ls) (start_of m) ls ≡ ran state
  pub resolves : resolve m (unfolded_text ls) state.content ≡ resolved cells
  pub same : same_table m (unfolded_text ls) (resolved_table state.content cells) text c ≡ true

pub reads_to : (m : Model) (ls : List (List ℕ)) (text : List ℕ) (c : Content) → reads_as m ls text c ≡ true → ReadsTo m ls text c
unfolding reads_as is_run_as is_resolved_as
reads_to m ls text c h = by_run (read_lines m (rooms_of c) (unfolded_text ls) (start_of m) ls) refl h
  where
    by_resolved : (s : State) → read_lines m (rooms_of c) (unfolded_text ls) (start_of m) ls ≡ ran s → (r : Resolved) → resolve m (unfolded_text ls) s.content ≡ r
        → is_resolved_as m (unfolded_text ls) s.content text c r ≡ true → ReadsTo m ls text c
    by_resolved s e (unresolved object field) p h = absurd (false≢true h)
    by_resolved s e (resolved cs) p h = record { state = s; cells = cs; reads = e; resolves = p; same = h }

    by_run : (r : Run) → read_lines m (rooms_of c) (unfolded_text ls) (start_of m) ls ≡ r → is_run_as m (unfolded_text ls) text c r ≡ true → ReadsTo m ls text c
    by_run (stopped number line field) e h = absurd (false≢true h)
    by_run (ran s) e h = by_resolved s e (resolve m (unfolded_text ls) s.content) refl h

-- a table that some lines read as is fine
pub reads_valid : (m : Model) → GoodModel m → (ls : List (List ℕ)) (text : List ℕ) (c : Content) → reads_as m ls text c ≡ true → Valid m text c
reads_valid m g ls text c h =
    let r = reads_to m ls text c h in
    valid_alike m (unfolded_text ls) _ text c ((same_exactly m (unfolded_text ls) _ text c).0 r.same) (read_valid m g (rooms_of c) ls r.state r.cells r.reads r.resolves)

-- where some lines read as a table, the table's own lines do
pub own_lines_read : (m : Model) → GoodModel m → (ls : List (List ℕ)) (text : List ℕ) (c : Content) → reads_as m ls text c ≡ true → reads_as m (lines_of m text c) text c ≡ true
own_lines_read m g ls text c h = valid_reads m text c g (reads_valid m g ls text c h)

pub table_reads : (m : Model) (t : Lent) → is_table m t ≡ true → ReadAs m t (lines_of m t.text (content_of m t))
unfolding is_table
table_reads m t h = record { fits = holds _ 0 h; reads = holds _ 1 h }

pub read_table : (m : Model) → GoodModel m → (t : Lent) (ls : List (List ℕ)) → ReadAs m t ls → is_table m t ≡ true
unfolding is_table all_of
read_table m g t ls r = rw (r.fits, own_lines_read m g ls t.text (content_of m t) r.reads)

-- a lent table that its own lines read as is fine, and these lines hold permitted bytes only
pub table_valid : (m : Model) → GoodModel m → (t : Lent) → is_table m t ≡ true → Valid m t.text (content_of m t)
table_valid m g t h = reads_valid m g _ t.text (content_of m t) (table_reads m t h).reads

pub table_permitted : (m : Model) → GoodModel m → (t : Lent) → is_table m t ≡ true → Permitted (lines_of m t.text (content_of m t))
table_permitted m g t h = valid_permits m g t.text (content_of m t) (table_valid m g t h)

-- ## Lines that are right

-- lines that read as a lent table are right, for objects whose table it is
pub read_right : (m : Model) (t : Lent) (ls : List (List ℕ)) → ReadAs m t ls → RightAs m t ls
read_right m t ls r =
    let c : Content = content_of m t in
    let to = reads_to m ls t.text c r.reads in
    let x = right_read m (rooms_of c) ls to.state to.cells to.reads to.resolves in
    record {
      fits = r.fits;
      delivered = x.file.ds;
      right = x.right;
      same = subst (λ (b : Content). same_table m (unfolded_text ls) b t.text c ≡ true) x.table to.same;
    }

-- and the other way round: equal tables are as long, so there is room
pub right_reads : (m : Model) → GoodModel m → (t : Lent) (ls : List (List ℕ)) → RightAs m t ls → ReadAs m t ls
unfolding reads_as is_run_as is_resolved_as
right_reads m g t ls r =
    let c : Content = content_of m t in
    let ds : List DeliveredTopic = r.delivered in
    let s = (same_exactly m (unfolded_text ls) (table_of m ds) t.text c).0 r.same in
    let rows = ap length s.rows in
    let cells = s.cells in
    let points = ap length s.points in
    let run = right_run m g (rooms_of c) ls ds r.right (room_for m (rooms_of c) ds (omega arith) (omega arith) (omega arith)) in
    record { fits = r.fits; reads = rw run.reads (rw run.resolves (rw run.table r.same)) }

-- ## No lines

pub no_table_lem : (m : Model) → GoodModel m → (t : Lent) → (is_table m t ≡ false) ↔ NoLines m t
no_table_lem m g t = (λ e ls permitted r. true≢false (sym (read_table m g t ls (right_reads m g t ls r)) ∙ e), λ none. by none (is_table m t) refl)
  where
    by : NoLines m t → (x : Bool) → is_table m t ≡ x → is_table m t ≡ false
    by none true e = absurd (none _ (table_permitted m g t e) (read_right m t _ (table_reads m t e)))
    by none false e = e

pub no_lines_either : (model : List ℕ) (m : Model) (t : Lent) → check_model model ≡ good m → NoLines m t ↔ NoLinesAtAll m t
no_lines_either model m t e =
    let g : GoodModel m = checked_good model m e in
    (λ none ls r. true≢false (sym (read_table m g t ls r) ∙ (no_table_lem m g t).1 none), λ none ls permitted r. none ls (right_reads m g t ls r))
