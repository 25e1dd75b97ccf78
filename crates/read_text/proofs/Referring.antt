-- The table of a text whose lines are all read, and its references. Assumes nothing.
use Prim.Native.Nat.{ℕ, ◌*◌, ◌≤◌}
use mathlib.Core.Path.{◌≡◌, sym, ap, subst, ◌∙◌}
use mathlib.Core.List.{List, ◌++◌}
use lib.IntN.{ℤ}
use lib.ListN.{length, take, drop}
use lib.Seq.{take_at, take-length, length-take-le, length_front}
use Rattle.meaning.specs.Model.{Model}
use Rattle.meaning.specs.Reading.{Rooms, objects_of}
use Rattle.meaning.specs.Lines.{Run, stopped}
use Rattle.meaning.specs.Table.{Resolved, resolved, unresolved, resolve_rows, resolve, Result, refused_with, accepted_with, read_resolved, read_run}
use Rattle.model_records.specs.Records.{model_at}
use Rattle.read_state.specs.declared.State.{State}
use Rattle.base.specs.declared.reasons.Refused.{Refused}
use Rattle.read_text.specs.Outcomes.{AllRead, Answer, Fits, used_of, TableRead}
use Rattle.std.proofs.Common.{Ok}

-- ## References

module _ (m : Model) (rooms : Rooms) (text marks rows : List ℕ) (cells points : List ℤ) (o c p : ℕ) where
  -- the cells that count stand, resolved, before those behind them
  pub resolved_read : (lent : List ℤ) → length lent ≡ length (take c cells) → c ≤ length cells
      → resolved lent ≡ resolve_rows text (objects_of text (take c cells) (take o rows)) m.tables 0 (take o rows) (take c cells)
      → TableRead (read_resolved rooms text (used_of marks rows cells points o c p) (resolve m text (used_of marks rows cells points o c p))) rooms text marks rows (lent ++ drop c cells) points (Ok (record { objects = o; cells = c; points = p }))
  unfolding resolve read_resolved accepted_with
  resolved_read lent l h e =
      ap (λ (q : Resolved). read_resolved rooms text (used_of marks rows cells points o c p) q) (sym e)
      ∙ rw (take_at lent (drop c cells) c (l ∙ length-take-le c cells h))

  pub unresolved_read : (object field : ℕ)
      → unresolved object field ≡ resolve_rows text (objects_of text (take c cells) (take o rows)) m.tables 0 (take o rows) (take c cells)
      → read_resolved rooms text (used_of marks rows cells points o c p) (resolve m text (used_of marks rows cells points o c p)) ≡ refused_with rooms 17 object field
  unfolding resolve read_resolved
  unresolved_read object field e = ap (λ (q : Resolved). read_resolved rooms text (used_of marks rows cells points o c p) q) (sym e)

pub resolved_fits : (rows : List ℕ) (cells lent points : List ℤ) (o c p : ℕ) → o ≤ length rows → c ≤ length cells → 4 * p ≤ length points → length lent ≡ length (take c cells)
    → Fits {E = Refused} rows (lent ++ drop c cells) points (Ok (record { objects = o; cells = c; points = p }))
resolved_fits rows cells lent points o c p ho hc hp l = (ho, rw (length_front cells lent c l) hc, hp)

-- ## The lines, then the references

pub stopped_read : (m : Model) (rooms : Rooms) (text : List ℕ) (run : Run) (number line field : ℕ) → run ≡ stopped number line field → read_run m rooms text run ≡ refused_with rooms number line field
unfolding read_run
stopped_read m rooms text run number line field e = ap (read_run m rooms text) e

module _ (b text : List ℕ) (seed : ℕ) (marks rows : List ℕ) (cells points : List ℤ) (index : List ℕ) (run : Run) where
  module _ (rooms : Rooms) (s : State) (h : AllRead b text seed marks rows cells points index run s) where
    lines_read : read_run (model_at b) rooms text run ≡ read_resolved rooms text (used_of marks rows cells points s.rows s.cells s.points) (resolve (model_at b) text (used_of marks rows cells points s.rows s.cells s.points))
    unfolding read_run
    lines_read = ap (read_run (model_at b) rooms text) h.runs ∙ rw (take-length marks)

    pub all_read : (cells' : List ℤ) (a : Answer)
        → TableRead (read_resolved rooms text (used_of marks rows cells points s.rows s.cells s.points) (resolve (model_at b) text (used_of marks rows cells points s.rows s.cells s.points))) rooms text marks rows cells' points a
        → TableRead (read_run (model_at b) rooms text run) rooms text marks rows cells' points a
    all_read cells' a t = subst (λ (q : Result). TableRead q rooms text marks rows cells' points a) (sym lines_read) t
