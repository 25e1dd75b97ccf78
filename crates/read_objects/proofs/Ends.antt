-- The end of a row: no attribute is left, or two undefined bytes cover the rest. Assumes nothing.
use Prim.Native.Nat.{ℕ, ◌+◌, ◌*◌, ◌-◌, ◌≤◌}
use native.Mathlib.Nat.{add-zero}
use native.Mathlib.Omega.{arith}
use mathlib.Core.Path.{◌≡◌, refl, sym, ap, ◌∙◌}
use mathlib.Core.Bool.{true, false}
use mathlib.Core.List.{List, [], ◌++◌}
use lib.IntN.{ℤ}
use lib.ListN.{length, drop, length-append}
use lib.Seq.{sets}
use Rattle.meaning.specs.Bytes.{refuse}
use Rattle.meaning.specs.Model.{Model}
use Rattle.meaning.specs.Field.{fields_of}
use Rattle.meaning.specs.Row.{Pair, Cells, cells, refused, has_mandatory, pair_cells}
use Rattle.base.specs.Fields.{NextField}
use Rattle.base.specs.declared.parts.Part.{Part}
use Rattle.std.specs.Option.{is_some}
use Rattle.std.proofs.lemmas.Bool.{false≢true}
use Rattle.model_records.specs.Records.{kind_at, next_at, pairs_at}
use Rattle.model_records.specs.AtRecord.{AttributesHere}
use Rattle.read_fields.specs.RowProgress.{zeros, prefixed, covered_cells, covered, going, going_over, covering, RowFilled, Fills}
use Rattle.read_objects.specs.Fields.{record_pairs, Ends, EndsHere}
use Rattle.read_fields.specs.declared.filling.RowCursor.{RowCursor}
use Rattle.read_fields.specs.declared.filling.RowProgress.TheVariants.{On, RestUndefined}
use Rattle.std.specs.Prelude.{Option, Some, None, Result, Ok, Err}
use Rattle.base.specs.declared.reasons.Refusal.{Refusal}
use Rattle.base.specs.Reasons.{number_of}
use Rattle.read_fields.proofs.Stores.{sets_append, length_zeros}
use Rattle.read_fields.proofs.RowFilled.{none, both, wider, renamed, before, refuses}
use Rattle.read_objects.proofs.Records.{pairs_next, no_record}

-- ## BehindRow the last attribute

module _ (rest : List ℕ) (s : RowCursor) where
  pub field_left : (x : Option Part) → is_some x ≡ true → NextField (drop s.at rest) x → (u start : ℕ) → going u start rest s [] ≡ refused 11 s.place
  unfolding pair_cells
  field_left (Some part) h f u start = rw (f.first (start + s.at))
  field_left None h f u start = absurd (false≢true h)

  pub nothing_left : (x : Option Part) → is_some x ≡ false → NextField (drop s.at rest) x → (u start : ℕ) → going u start rest s [] ≡ cells []
  unfolding pair_cells
  nothing_left None h e u start = rw (e (start + s.at))
  nothing_left (Some part) h e u start = absurd (false≢true (sym h))

-- ## Two undefined bytes

module _ (rest : List ℕ) (s : RowCursor) (count : ℕ) (ps : List Pair) where
  pub covers_mandatory : has_mandatory ps ≡ true → (start : ℕ) → covering start rest s count ps ≡ refused 12 s.place
  unfolding covered refuse
  covers_mandatory e start = rw e

  pub covers_field : has_mandatory ps ≡ false → (x : Option Part) → is_some x ≡ true → NextField (drop s.at rest) x → (start : ℕ) → covering start rest s count ps ≡ refused 11 (s.place + 1)
  unfolding covered refuse covered_cells
  covers_field e (Some part) h f start = rw (e, f.first (start + s.at))
  covers_field e None h f start = absurd (false≢true h)

  covers_all : has_mandatory ps ≡ false → (x : Option Part) → is_some x ≡ false → NextField (drop s.at rest) x → (start : ℕ) → covering start rest s count ps ≡ cells (zeros (count + length ps))
  unfolding covered refuse covered_cells
  covers_all e None h f start = rw (e, f (start + s.at))
  covers_all e (Some part) h f start = absurd (false≢true (sym h))

  pub zeros_end : (most n : ℕ) (entry exit : List ℤ) → has_mandatory ps ≡ false → (x : Option Part) → is_some x ≡ false → NextField (drop s.at rest) x → n ≡ length ps → s.used + 2 * (count + n) ≤ most
      → exit ≡ sets entry s.used (zeros (count + n)) → (start : ℕ) → Ends (covering start rest s count ps) most s.used entry exit (Ok (s.used + 2 * (count + n)))
  zeros_end most n entry exit e y g f k h x start = record {
    values = zeros (count + n);
    meaning = covers_all e y g f start ∙ rw k;
    size = omega (arith, length_zeros (count + n));
    few = h;
    stored = x;
  }

-- ## A row filled, and its end

module _ {rest : List ℕ} {m : ℕ} {whole after : Cells} {s t : RowCursor} {entry between : List ℤ} (a : RowFilled rest m (λ ps. whole) (λ ps. after) s t entry between) where
  pub then_ends : (most : ℕ) (exit : List ℤ) (r : Result ℕ Refusal) → Ends after most t.used between exit r → Ends whole most s.used entry exit r
  unfolding prefixed
  then_ends most exit (Ok n) e = record {
    values = a.values ++ e.values;
    meaning = a.meant [] ∙ ap (prefixed a.values) e.meaning;
    size = omega (arith, e.size, a.used, length-append a.values e.values);
    few = e.few;
    stored = e.stored ∙ rw (a.stored, a.used) (sets_append a.values e.values entry s.used);
  }
  then_ends most exit (Err f) e = a.meant [] ∙ ap (prefixed a.values) e

ends_here : (u start : ℕ) (rest : List ℕ) (s : RowCursor) (most : ℕ) (l : List ℤ) → s.used ≤ most → (r : Result ℕ Refusal) → EndsHere rest s r → Ends (going u start rest s []) most s.used l l r
ends_here u start rest s most l h (Ok n) e = record { values = []; meaning = e.1 u start; size = omega (arith, e.0); few = omega (arith, e.0); stored = refl }
ends_here u start rest s most l h (Err f) e = e u start

-- ## A turn of the row

-- what is left of a row, at an attribute record
abbrev pub from_record : (u start : ℕ) (rest b : List ℕ) (here : ℕ) → RowCursor → List Pair → Cells
from_record u start rest b here s ps = going u start rest s (pairs_at b here)

module _ (u start : ℕ) (rest b : List ℕ) (here : ℕ) {m : Model} (from : AttributesHere m b here) {most : ℕ} {whole : Cells} {s₀ s : RowCursor} {entry cells : List ℤ}
    (now : RowFilled rest most (λ ps. whole) (from_record u start rest b here s) s₀ s entry cells) where
  pub row_end_lem : (limit : ℕ) → (kind_at b here ≡ 5 → ⊥) → s.used ≤ limit → (r : Result ℕ Refusal) → EndsHere rest s r → Ends whole limit s₀.used entry cells r
  row_end_lem limit n h r e =
      let g : pairs_at b here ≡ [] = no_record b here from n in
      then_ends now limit cells r (rw g (ends_here u start rest s limit cells h r e))

  module _ (e : kind_at b here ≡ 5) (between : List ℤ) where
    record_due : (ps : List Pair) → from_record u start rest b here s ps ≡ going_over u start rest (record_pairs b here) s (pairs_at b (next_at b here))
    record_due ps = rw (pairs_next b here from e)

    pub row_on : (t : RowCursor) → Fills u start rest 6 (going_over u start rest (record_pairs b here) s) s cells between (Ok (On t))
        → RowFilled rest (most + 6) (λ ps. whole) (from_record u start rest b (next_at b here) t) s₀ t entry between
    row_on t f = both now (renamed (from_record u start rest b here s) (from_record u start rest b (next_at b here) t) record_due (λ ps. refl) (before (λ ps. pairs_at b (next_at b here)) f))

    pub row_rest : (t : RowCursor) (n : ℕ) → Fills u start rest 6 (going_over u start rest (record_pairs b here) s) s cells between (Ok (RestUndefined t n))
        → (limit : ℕ) (exit : List ℤ) (r : Result ℕ Refusal) → Ends (covering start rest t n (pairs_at b (next_at b here))) limit t.used between exit r → Ends whole limit s₀.used entry exit r
    row_rest t n f limit exit r g =
        then_ends (both now (renamed (from_record u start rest b here s) (λ ps. covering start rest t n (pairs_at b (next_at b here))) record_due (λ ps. refl) (before (λ ps. pairs_at b (next_at b here)) f.1))) limit exit r g

    pub row_no : (g : Refusal) → Fills u start rest 6 (going_over u start rest (record_pairs b here) s) s cells between (Err g) → whole ≡ refused (number_of g.reason) g.field
    unfolding prefixed
    row_no g f = refuses (refused (number_of g.reason) g.field) (λ ps. record_due ps ∙ f (pairs_at b (next_at b here))) (λ vs. refl) now []

-- before the first attribute
pub row_start : (u start : ℕ) (rest b : List ℕ) (at : ℕ) (l : List ℤ) (s : RowCursor) → s ≡ record { at = 0; place = 3; used = 0; before = true }
    → RowFilled rest (2 * (at - at)) (λ ps. pair_cells u true 3 (pairs_at b at) (fields_of start rest)) (from_record u start rest b at s) s s l l
row_start u start rest b at l s e =
    wider (2 * (at - at)) (omega arith) (renamed (λ ps. pair_cells u true 3 (pairs_at b at) (fields_of start rest)) (from_record u start rest b at s)
    (λ ps. rw e (rw (add-zero start))) (λ ps. refl) (none rest (from_record u start rest b at s) s l (rw e (omega arith)) (rw e (omega arith))))
