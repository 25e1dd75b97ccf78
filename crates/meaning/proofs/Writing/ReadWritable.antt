-- A table that was read can be written. Assumes nothing.
use Prim.Native.Nat.{ℕ, ◌*◌, ◌≤◌}
use native.Mathlib.Omega.{arith}
use mathlib.Core.Path.{◌≡◌, refl, sym, ap, subst, ◌∙◌}
use mathlib.Core.Bool.{Bool, true, false, true≢false}
use mathlib.Core.List.{List}
use lib.IntN.{ℤ}
use lib.ListN.{length}
use lib.Seq.{take_all, take-length}
use borrow.Author.Tests.{le-leb}
use Rattle.meaning.specs.Bytes.{refuse, all_of}
use Rattle.meaning.specs.Unfold.{Unfolded, lines, fault, unfold_file, unfolded_text}
use Rattle.meaning.specs.Model.{Model, mark_count}
use Rattle.meaning.specs.Check.{good, check_model, GoodModel}
use Rattle.meaning.specs.Answer.{accepted, refusal, too_long}
use Rattle.meaning.specs.Reading.{Content, State, start_of, Rooms, point_count}
use Rattle.meaning.specs.Lines.{Run, ran, stopped, read_lines}
use Rattle.meaning.specs.Table.{Resolved, resolved, unresolved, resolve, Result, refused_with, accepted_with, read_resolved, read_run, read_text, read_unfolded, read_checked, read}
use Rattle.meaning.specs.Writing.{Lent, counts_fit, content_of}
use Rattle.meaning.specs.Readback.{is_table}
use Rattle.meaning.specs.Width.{write}
use Rattle.meaning.specs.WritingClaims.{SameTable, resolved_table, lent_again}
use Rattle.meaning.proofs.Model.GoodModels.{checked_good}
use Rattle.meaning.proofs.Judge.Valid.{Valid}
use Rattle.meaning.proofs.Judge.Shown.{valid_inside}
use Rattle.meaning.proofs.Reading.Buffers.{Fits, Ran, lines_fit}
use Rattle.meaning.proofs.Reading.LinesRead.{read_valid}
use Rattle.meaning.proofs.Tests.Unequal.{not_accepted}
use Rattle.meaning.proofs.Judge.Unwritable.{no_table_lem}
use Rattle.meaning.proofs.Writing.Refusals.{unwritable}
use Rattle.meaning.proofs.Writing.WrittenAgain.{table_again}

-- the lines and the table behind a result that is accepted
record ReadInto (m : Model) (rooms : Rooms) (r : Result) : Type 0 where
  of : List (List ℕ)
  state : State
  cells : List ℤ
  reads : read_lines m rooms (unfolded_text of) (start_of m) of ≡ ran state
  resolves : resolve m (unfolded_text of) state.content ≡ resolved cells
  is : r ≡ accepted_with rooms (unfolded_text of) state.content cells

module _ (m : Model) (rooms : Rooms) (o c p : ℕ) where
  read_lines_lem : (ls : List (List ℕ)) (x : Run) → read_lines m rooms (unfolded_text ls) (start_of m) ls ≡ x → (read_run m rooms (unfolded_text ls) x).answer ≡ accepted o c p
      → ReadInto m rooms (read_run m rooms (unfolded_text ls) x)
  unfolding read_run refused_with read_resolved
  read_lines_lem ls (stopped number line field) e h = absurd (not_accepted number line field o c p h)
  read_lines_lem ls (ran s) e h = by (resolve m (unfolded_text ls) s.content) refl h
    where
      by : (x : Resolved) → resolve m (unfolded_text ls) s.content ≡ x → (read_resolved rooms (unfolded_text ls) s.content x).answer ≡ accepted o c p
          → ReadInto m rooms (read_resolved rooms (unfolded_text ls) s.content x)
      by (unresolved object field) q h = absurd (not_accepted 17 object field o c p h)
      by (resolved cs) q h = record { of = ls; state = s; cells = cs; reads = e; resolves = q; is = refl }

  -- a test that did not refuse
  went_on : (t : Bool) (number first second : ℕ) (r : Result) → (refuse t (refused_with rooms number first second) r).answer ≡ accepted o c p → (r.answer ≡ accepted o c p → ReadInto m rooms r)
      → ReadInto m rooms (refuse t (refused_with rooms number first second) r)
  unfolding refuse refused_with
  went_on true number first second r h f = absurd (not_accepted number first second o c p h)
  went_on false number first second r h f = f h

  unfolded_into : (u : Unfolded) → (read_unfolded m rooms u).answer ≡ accepted o c p → ReadInto m rooms (read_unfolded m rooms u)
  unfolding read_unfolded refused_with read_text
  unfolded_into (fault number line) h = absurd (not_accepted number line 0 o c p h)
  unfolded_into (lines ls) h = went_on _ 6 0 0 (read_run m rooms (unfolded_text ls) (read_lines m rooms (unfolded_text ls) (start_of m) ls)) h (λ g. read_lines_lem ls (read_lines m rooms (unfolded_text ls) (start_of m) ls) refl g)

  read_into : (model file : List ℕ) → check_model model ≡ good m → (read model file rooms).answer ≡ accepted o c p → ReadInto m rooms (read model file rooms)
  unfolding read read_checked
  read_into model file e h =
      subst (λ (x : _). ReadInto m rooms (refuse (too_long file) (refused_with rooms 1 0 0) (read_checked file rooms x))) (sym e)
      (went_on (too_long file) 1 0 0 (read_unfolded m rooms (unfold_file m.mark file))
      (subst (λ (x : _). (refuse (too_long file) (refused_with rooms 1 0 0) (read_checked file rooms x)).answer ≡ accepted o c p) e h) (λ g. unfolded_into (unfold_file m.mark file) g))

-- ## The table of a reading is one

module _ (m : Model) (g : GoodModel m) (rooms : Rooms) (r : Result) (i : ReadInto m rooms r) where
  abbrev own : List ℕ
  own = unfolded_text i.of

  abbrev content : Content
  content = i.state.content

  fits : Fits m rooms content
  unfolding Ran
  fits = subst (λ (x : Run). Ran m rooms own x) i.reads (lines_fit m rooms own i.of)

  -- the same table, lent in rooms of its own size
  abbrev exact : Lent
  exact = record { text = own; marks = content.marks; rows = content.rows; cells = i.cells; points = content.points; objects = length content.rows; cell_count = length i.cells; point_count = point_count content }

  counts : counts_fit m exact ≡ true
  unfolding counts_fit all_of
  counts =
      let marks = fits.marks in
      let fours = fits.fours in
      rw (
        le-leb (mark_count m) (length content.marks) (omega arith),
        le-leb (length content.rows) (length content.rows) (omega arith),
        le-leb (length i.cells) (length i.cells) (omega arith),
        le-leb (4 * point_count content) (length content.points) (omega arith),
      )

  content_exact : content_of m exact ≡ resolved_table content i.cells
  unfolding content_of
  content_exact =
      let marks = fits.marks in
      let fours = fits.fours in
      rw (
        take_all (mark_count m) content.marks (omega arith),
        take-length content.rows,
        take-length i.cells,
        take_all (4 * point_count content) content.points (omega arith),
      )

  valid : Valid m own (resolved_table content i.cells)
  valid = read_valid m g rooms i.of i.state i.cells i.reads i.resolves

  itself : SameTable m own (resolved_table content i.cells) own (resolved_table content i.cells)
  itself = record { marks = refl; rows = refl; cells = refl; objects = refl; inside = valid_inside m own (resolved_table content i.cells) valid; points = refl }

  is_table_lem : is_table m (lent_again (accepted_with rooms own content i.cells) (length content.rows) (length i.cells) (point_count content)) ≡ true
  is_table_lem =
      table_again m g exact counts
      (subst (λ (x : Content). Valid m own x) (sym content_exact) valid)
      rooms own content i.cells
      (subst (λ (x : Content). SameTable m own (resolved_table content i.cells) own x) (sym content_exact) itself)

  lent_table : (o c p : ℕ) → r.answer ≡ accepted o c p → is_table m (lent_again r o c p) ≡ true
  unfolding accepted_with
  lent_table o c p h =
      let a : accepted (length content.rows) (length i.cells) (point_count content) ≡ accepted o c p = sym (ap (λ (x : Result). x.answer) i.is) ∙ h in
      let eo : length content.rows ≡ o = cc in
      let ec : length i.cells ≡ c = cc in
      let ep : point_count content ≡ p = cc in
      rw (i.is, ← eo, ← ec, ← ep) is_table_lem

pub read_is_writable : (model file : List ℕ) (m : Model) (rooms : Rooms) (objects cells points width room : ℕ) → check_model model ≡ good m → (read model file rooms).answer ≡ accepted objects cells points
    → 16 ≤ width → width ≤ 65535 → (write model (lent_again (read model file rooms) objects cells points) width room).answer ≡ refusal 19 0 0 → ⊥
read_is_writable model file m rooms o c p width room e h low high q =
    let g : GoodModel m = checked_good model m e in
    let t : Lent = lent_again (read model file rooms) o c p in
    true≢false (sym (lent_table m g rooms (read model file rooms) (read_into m rooms o c p model file e h) o c p h) ∙ (no_table_lem m g t).1 ((unwritable model m t width room e (low, high)).0 q))
