-- The fields and lines of an object that are right are read. Assumes nothing.
use Prim.Native.Nat.{ℕ, ◌+◌, ◌*◌, ◌-◌, ◌/◌, ◌≤◌}
use native.Mathlib.Omega.{arith}
use mathlib.Core.Path.{◌≡◌, refl, sym, ap, ap₂, subst, ◌∙◌}
use mathlib.Core.Bool.{Bool, true, false, true≢false}
use mathlib.Core.List.{List, [], ◌∷◌, ◌++◌, append_assoc, append-nil}
use lib.IntN.{ℤ, pos}
use lib.ListN.{length, length-append}
use borrow.Author.Tests.{le-ltb}
use Rattle.meaning.specs.Bytes.{refuse}
use Rattle.meaning.specs.Model.{AttributeType, Model}
use Rattle.meaning.specs.Field.{Field}
use Rattle.meaning.specs.Value.{text_of, reference_of, stretch_of, value_of}
use Rattle.meaning.specs.Row.{Pair, has_mandatory, cells, put_pair, undefined_cells, undefined_rest, pair_cells}
use Rattle.meaning.specs.Reading.{reached, unstarted, LineAttribute, line_attributes, object_of, line_of, due_lines, Content, point_count, with_line, Rooms}
use Rattle.meaning.specs.Lines.{go}
use Rattle.meaning.specs.Right.{Point, Entry, Undefined, OfValue, Line, Means, number, date, enumeration, text, reference, Drawn, entry_points, cells_of_points}
use Rattle.meaning.specs.Reasons.{of_attribute, of_component}
use Rattle.meaning.proofs.Reading.PairCells.{FieldRead, field_is}
use Rattle.meaning.proofs.Writing.Attributes.{set_pair, moved, moved_length, with_cells}
use Rattle.meaning.proofs.Right.Steps.{steps, step_on, steps_on}
use Rattle.meaning.proofs.Right.Content.{early_cells, late_cells, points_length, points_append}
use Rattle.meaning.proofs.Right.Points as points
use Rattle.meaning.proofs.Right.PairEntries.{Before, was_defined, was_undefined, covered, is_covered, PairEntries, done, defined, undefined, cover, under, also_defined, also_undefined, also_cover, also_under, undrawn, along}

-- ## Fields

means_put : {type : AttributeType} {f : Field} {e : Entry} → Means type f e → (place : ℕ) (es : List Entry) → put_pair place (value_of type f) (cells (early_cells es)) ≡ cells (early_cells (e ∷ es))
unfolding value_of text_of reference_of stretch_of refuse put_pair early_cells
means_put (number h) place es = rw h
means_put (date h) place es = rw h
means_put (enumeration h) place es = rw h
means_put (text {longest = longest} {f = f} h l) place es = rw (h, le-ltb longest (length f.bytes) l)
means_put (reference h) place es = rw h

-- what two undefined bytes cover is optional
record Covered (ps : List Pair) (es : List Entry) : Type 0 where
  optional : has_mandatory ps ≡ false
  cells : undefined_cells ps ≡ early_cells es

covered_cells_lem : {u : ℕ} {ps : List Pair} {ls : List Line} {es : List Entry} → PairEntries u covered ps [] ls es → Covered ps es
unfolding has_mandatory undefined_cells early_cells
covered_cells_lem done = record { optional = refl; cells = refl }
covered_cells_lem (under r) = let c = covered_cells_lem r in record { optional = c.optional; cells = rw c.cells }
covered_cells_lem (also_under r) = let c = covered_cells_lem r in record { optional = c.optional; cells = rw c.cells }
covered_cells_lem (undrawn h r) = let c = covered_cells_lem r in record { optional = c.optional; cells = rw c.cells }
covered_cells_lem (along d r) = let c = covered_cells_lem r in record { optional = c.optional; cells = rw c.cells }

unfoldable pub flag_of : Before → Bool
flag_of was_defined = true
flag_of was_undefined = false
flag_of covered = false

pub entries_cells : {u : ℕ} {b : Before} {ps : List Pair} {fs : List Field} {ls : List Line} {es : List Entry} → PairEntries u b ps fs ls es → is_covered b ≡ false → (place : ℕ)
    → pair_cells u (flag_of b) place ps fs ≡ cells (early_cells es)
unfolding pair_cells put_pair undefined_rest undefined_cells early_cells flag_of is_covered
entries_cells done h place = refl
entries_cells (defined {es = es} d n r) h place = field_is of_attribute (FieldRead.defined d tt) ∙ rw (entries_cells r refl (place + 1)) (means_put n place es)
entries_cells (undefined e r) h place = field_is of_attribute (FieldRead.undefined e refl) ∙ rw (entries_cells r refl (place + 1))
entries_cells (cover e r) h place = let c = covered_cells_lem r in field_is of_attribute (FieldRead.twice e refl c.optional) ∙ rw c.cells
entries_cells (under r) h place = absurd (true≢false h)
entries_cells (also_defined {es = es} d n r) h place = field_is of_component (FieldRead.defined d refl) ∙ rw (entries_cells r refl (place + 1)) (means_put (number n) place es)
entries_cells (also_undefined e r) h place = field_is of_component (FieldRead.undefined e refl) ∙ rw (entries_cells r refl (place + 1))
entries_cells (also_cover e r) h place = let c = covered_cells_lem r in field_is of_component (FieldRead.twice e refl c.optional) ∙ rw c.cells
entries_cells (also_under r) h place = absurd (true≢false h)
entries_cells (undrawn l r) h place = rw (entries_cells r h place)
entries_cells (along d r) h place = rw (entries_cells r h place)

-- ## Lines

-- an entry of no line
pub record Kept (e : Entry) : Type 0 where
  pub a : ℤ
  pub b : ℤ
  pub early : (es : List Entry) → early_cells (e ∷ es) ≡ a ∷ b ∷ early_cells es
  pub late : (k : ℕ) (es : List Entry) → late_cells k (e ∷ es) ≡ a ∷ b ∷ late_cells k es
  pub points : (es : List Entry) → entry_points (e ∷ es) ≡ entry_points es

unfoldable pub undefined_kept : Kept Undefined
unfolding early_cells late_cells entry_points
undefined_kept = record { a = pos 0; b = pos 0; early = λ es. refl; late = λ k es. refl; points = λ es. refl }

unfoldable pub value_kept : (v : ℤ) → Kept (OfValue v)
unfolding early_cells late_cells entry_points
value_kept v = record { a = pos 1; b = v; early = λ es. refl; late = λ k es. refl; points = λ es. refl }

pub means_kept : {type : AttributeType} {f : Field} {e : Entry} → Means type f e → Kept e
unfolding early_cells late_cells entry_points
means_kept (number {v = v} h) = value_kept v
means_kept (date {v = v} h) = value_kept v
means_kept (enumeration {v = v} h) = value_kept v
means_kept (text {f = f} h l) = record { a = pos (1 + length f.bytes); b = pos f.start; early = λ es. refl; late = λ k es. refl; points = λ es. refl }
means_kept (reference {f = f} h) = record { a = pos (1 + length f.bytes); b = pos f.start; early = λ es. refl; late = λ k es. refl; points = λ es. refl }

-- the table with these entries behind its first cells
abbrev pub with_entries : Content → List ℤ → ℕ → List Entry → Content
with_entries c front k es = with_cells c (front ++ late_cells k es) (c.points ++ cells_of_points (entry_points es))

pub kept_entries : (c : Content) (front : List ℤ) (k : ℕ) (e : Entry) (es : List Entry) → (q : Kept e) → with_entries c (front ++ (q.a ∷ q.b ∷ [])) k es ≡ with_entries c front k (e ∷ es)
kept_entries c front k e es q = rw (q.points es, q.late k es, moved front q.a q.b (late_cells k es))

module _ (m : Model) (rooms : Rooms) (own : List ℕ) (t : ℕ) where
  kept_on : (ls : List Line) (ps : List Pair) (es : List Entry) (e : Entry) (q : Kept e) (k : ℕ) (front : List ℤ) (c : Content)
      → c.cells ≡ front ++ early_cells (e ∷ es)
      → (c.cells ≡ (front ++ (q.a ∷ q.b ∷ [])) ++ early_cells es
      → steps m rooms own (due_lines t k (line_attributes (length (front ++ (q.a ∷ q.b ∷ []))) ps)) c ls ≡ go (object_of t) (with_entries c (front ++ (q.a ∷ q.b ∷ [])) k es))
      → steps m rooms own (due_lines t k (line_attributes (length front + 2) ps)) c ls ≡ go (object_of t) (with_entries c front k (e ∷ es))
  kept_on ls ps es e q k front c h ih =
      let there : c.cells ≡ (front ++ (q.a ∷ q.b ∷ [])) ++ early_cells es = h ∙ (ap (λ (l : List ℤ). front ++ l) (q.early es) ∙ sym (moved front q.a q.b (early_cells es))) in
      (rw (moved_length front q.a q.b []) at (ih there)) ∙ ap (λ (x : Content). go (object_of t) x) (kept_entries c front k e es q)

  -- what a line leaves: its pair
  pub line_cells_lem : (front : List ℤ) (a b : ℤ) (rest : List ℤ) (n k : ℕ) (c : Content) (at : LineAttribute) (others : List LineAttribute) (ps : List Point)
      → c.cells ≡ front ++ (a ∷ b ∷ rest) → 4 * k ≡ length c.points → at.cell ≡ length front → n ≡ length ps
      → (point_count (points.with_points ps c) ≡ k + n)
      × (with_line (points.under m rooms own t k at others reached) (points.with_points ps c) ≡ with_cells c (front ++ (pos (1 + n) ∷ pos k ∷ rest)) (c.points ++ cells_of_points ps))
  unfolding with_line
  line_cells_lem front a b rest n k c at others ps h count cell size =
      let long : length (c.points ++ cells_of_points ps) ≡ 4 * (k + n) = (let x = length-append c.points (cells_of_points ps) in let y = points_length ps in omega arith) in
      let counted : length (c.points ++ cells_of_points ps) / 4 ≡ k + n = omega arith in
      let less : k + n - k ≡ n = omega arith in
      (counted, rw (counted, less, cell, h, set_pair front a b rest (pos (1 + n)) (pos k)))

  pub entries_lines : {u : ℕ} {b : Before} {ps : List Pair} {fs : List Field} {ls : List Line} {es : List Entry} → PairEntries u b ps fs ls es → u ≡ m.undefined
      → (k : ℕ) (front : List ℤ) (c : Content) → c.cells ≡ front ++ early_cells es → 4 * k ≡ length c.points → length c.points + 4 * length (entry_points es) ≤ rooms.points
      → steps m rooms own (due_lines t k (line_attributes (length front) ps)) c ls ≡ go (object_of t) (with_entries c front k es)
  unfolding due_lines line_attributes steps entry_points cells_of_points late_cells early_cells undefined_kept value_kept
  entries_lines done w k front c h count room =
      ap₂ (λ (l : List ℤ) (p : List ℤ). go (object_of t) (with_cells c l p)) h (sym (append-nil c.points))
  entries_lines (defined {ps = ps} {ls = ls} {e = e} {es = es} d n r) w k front c h count room =
      let q = means_kept n in
      kept_on ls ps es e q k front c h (λ there. entries_lines r w k (front ++ (q.a ∷ q.b ∷ [])) c there count (rw (q.points _) at room))
  entries_lines (undefined {ps = ps} {ls = ls} {es = es} e r) w k front c h count room = kept_on ls ps es Undefined undefined_kept k front c h (λ there. entries_lines r w k (front ++ (pos 0 ∷ pos 0 ∷ [])) c there count room)
  entries_lines (cover {ps = ps} {ls = ls} {es = es} e r) w k front c h count room = kept_on ls ps es Undefined undefined_kept k front c h (λ there. entries_lines r w k (front ++ (pos 0 ∷ pos 0 ∷ [])) c there count room)
  entries_lines (under {ps = ps} {ls = ls} {es = es} r) w k front c h count room = kept_on ls ps es Undefined undefined_kept k front c h (λ there. entries_lines r w k (front ++ (pos 0 ∷ pos 0 ∷ [])) c there count room)
  entries_lines (also_defined {ps = ps} {ls = ls} {v = v} {es = es} d n r) w k front c h count room = kept_on ls ps es (OfValue v) (value_kept v) k front c h (λ there. entries_lines r w k (front ++ (pos 1 ∷ v ∷ [])) c there count room)
  entries_lines (also_undefined {ps = ps} {ls = ls} {es = es} e r) w k front c h count room = kept_on ls ps es Undefined undefined_kept k front c h (λ there. entries_lines r w k (front ++ (pos 0 ∷ pos 0 ∷ [])) c there count room)
  entries_lines (also_cover {ps = ps} {ls = ls} {es = es} e r) w k front c h count room = kept_on ls ps es Undefined undefined_kept k front c h (λ there. entries_lines r w k (front ++ (pos 0 ∷ pos 0 ∷ [])) c there count room)
  entries_lines (also_under {ps = ps} {ls = ls} {es = es} r) w k front c h count room = kept_on ls ps es Undefined undefined_kept k front c h (λ there. entries_lines r w k (front ++ (pos 0 ∷ pos 0 ∷ [])) c there count room)
  entries_lines (undrawn {forms = forms} {cs = cs} {ps = ps} {l = l} {ls = ls} {es = es} e r) w k front c h count room =
      let at : LineAttribute = record { cell = length front; optional = true; forms = forms; components = cs } in
      step_on m rooms own _ (due_lines t k (line_attributes (length front + 2) ps)) c c l ls _ (points.undrawn_step m rooms own t k at (line_attributes (length front + 2) ps) l c e refl)
      (kept_on ls ps es Undefined undefined_kept k front c h (λ there. entries_lines r w k (front ++ (pos 0 ∷ pos 0 ∷ [])) c there count room))
  entries_lines (along {o = o} {forms = forms} {cs = cs} {ps = ps} {these = these} {ls = ls} {points = pts} {es = es} d r) w k front c h count room =
      let at : LineAttribute = record { cell = length front; optional = o; forms = forms; components = cs } in
      let others : List LineAttribute = line_attributes (length front + 2) ps in
      let n : ℕ = length pts in
      let all : length c.points + 4 * (n + length (entry_points es)) ≤ rooms.points = omega (arith, length-append pts (entry_points es)) in
      let line = line_cells_lem front (pos 0) (pos 0) (early_cells es) n k c at others pts h count refl refl in
      let front' : List ℤ = front ++ (pos (1 + n) ∷ pos k ∷ []) in
      let c' : Content = with_cells c (front ++ (pos (1 + n) ∷ pos k ∷ early_cells es)) (c.points ++ cells_of_points pts) in
      let ran' : steps m rooms own (line_of (points.under m rooms own t k at others unstarted)) c these ≡ go (due_lines t (k + n) others) c' =
      points.drawn_run m rooms own t k at others (subst (λ (x : ℕ). Drawn x forms cs these pts) w d) c (omega arith)
      ∙ ap₂ (λ (x : ℕ) (y : Content). go (due_lines t x others) y) line.0 line.1 in
      let long : length (c.points ++ cells_of_points pts) ≡ 4 * (k + n) = (let x = length-append c.points (cells_of_points pts) in let y = points_length pts in omega arith) in
      let more : steps m rooms own (due_lines t (k + n) others) c' ls ≡ go (object_of t) (with_entries c' front' (k + n) es) =
      rw (moved_length front (pos (1 + n)) (pos k) []) at (entries_lines r w (k + n) front' c' (sym (moved front (pos (1 + n)) (pos k) (early_cells es))) (sym long) (omega arith)) in
      let end : with_entries c' front' (k + n) es ≡ with_cells c (front ++ (pos (1 + n) ∷ pos k ∷ late_cells (k + n) es)) (c.points ++ cells_of_points (pts ++ entry_points es)) =
      rw (moved front (pos (1 + n)) (pos k) (late_cells (k + n) es), points_append pts (entry_points es), append_assoc c.points (cells_of_points pts) (cells_of_points (entry_points es))) in
      steps_on m rooms own these _ (due_lines t (k + n) others) c c' ls _ ran' (more ∙ ap (λ (x : Content). go (object_of t) x) end)
