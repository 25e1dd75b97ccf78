-- Every cell, and every cell of a point, that reading leaves is a signed 64-bit number. Assumes nothing.
use Prim.Native.Nat.{ℕ, zero, suc, ◌+◌, ◌-◌, ◌^◌, ◌≤◌, ◌<◌}
use native.Mathlib.Omega.{arith}
use mathlib.Core.Path.{◌≡◌, refl, sym, ap, subst, ◌∙◌}
use mathlib.Core.Bool.{Bool, true, false}
use mathlib.Core.List.{List, [], ◌∷◌, ◌++◌}
use lib.Dec.{ltb}
use lib.IntN.{ℤ, pos, negsuc, nat_abs}
use lib.ListN.{length, take, replicate, length-append}
use borrow.Author.Tests.{lt-ltb, le-ltb, ltb-true, ltb-false}
use Rattle.meaning.specs.Bytes.{digit, every}
use Rattle.meaning.specs.Unfold.{unfolded_text}
use Rattle.meaning.specs.Model.{Component, AttributeType, Found, found, missing, Model}
use Rattle.meaning.specs.Check.{Checked, good, bad, check_model, GoodModel}
use Rattle.meaning.specs.Answer.{Answer, accepted, refusal, filled}
use Rattle.meaning.specs.Field.{Field}
use Rattle.meaning.specs.Shapes as shapes
use Rattle.meaning.specs.Shapes.{place_value, Signed, Decimals, Numeral, Shape}
use Rattle.meaning.specs.Row.{Pair, point_cells}
use Rattle.meaning.specs.Reading.{Rooms, stretch}
use Rattle.meaning.specs.Table.{find_object, Result, refused_with, accepted_with, read}
use Rattle.meaning.specs.Right.{Point, Entry, Undefined, OfValue, OfPoints, Delivered, DeliveredTopic, objects_of_topics, Line, with_starts, IsNumber, Means, Values, Segment, Segments, Drawn, PointLine, File, Unique, Right, names_of, number_cell, entry_cells, entry_points, points_of, cells_of_points, rows_cells, table_of}
use Rattle.meaning.specs.Right as right
use Rattle.meaning.specs.RightClaims.{identifications_of}
use Rattle.meaning.specs.RoomClaims.{IsCell, AreCells, CellsFit}
use Rattle.meaning.proofs.Tests.Unequal.{not_accepted}
use Rattle.meaning.proofs.Unfolding.Cuts.{cut_long}
use Rattle.meaning.proofs.Model.GoodModels.{checked_good}
use Rattle.meaning.proofs.Values.Digits.{every_append}
use Rattle.meaning.proofs.Values.Counts.{below_18}
use Rattle.meaning.proofs.Values.Shapes.{place_value_lem}
use Rattle.meaning.proofs.Values.ValueClaims.{number_exactly, date_exactly, enumeration_exactly}
use Rattle.meaning.proofs.Judge.Cells.{solid_size, stretch_lies}
use Rattle.meaning.proofs.Reading.Claims.{refusal_zeroes, bad_model_reads}
use Rattle.meaning.proofs.Reading.Fields.{Solid}
use Rattle.meaning.proofs.Reading.FieldsRead.{AllAre}
use Rattle.meaning.proofs.Reading.Stretches.{AllStand, stretch_pos}
use Rattle.meaning.proofs.Right.Content.{points_length, points_append}
use Rattle.meaning.proofs.Right.PairEntries.{Before, PairEntries, done, defined, undefined, cover, under, also_defined, also_undefined, also_cover, also_under, undrawn, along}
use Rattle.meaning.proofs.Right.References.{found_at}
use Rattle.meaning.proofs.Right.Objects.{lines_stand, AllRead}
use Rattle.meaning.proofs.Right.Topics.{file_read}
use Rattle.meaning.proofs.Right.Complete.{complete_reached}
use Rattle.meaning.proofs.Right.Lengths.{bytes_text}
use Rattle.meaning.proofs.Right.Spends.{reached_spends}
use Rattle.meaning.proofs.Right.First.{read_large}
use Rattle.meaning.proofs.Right.Claims.{accepted_with_its_table, accepted_exactly_when_right}

-- ## Signed 64-bit numbers

small_cell : (v : ℤ) → nat_abs v < 10 ^ 18 → IsCell v
small_cell (pos n) h = (lt-ltb n (2 ^ 63) (omega arith), refl)
small_cell (negsuc n) h = (refl, le-ltb (2 ^ 63 - 1) n (omega arith))

-- a count or a place: a file has 16,777,216 bytes at most
count_cell : (n : ℕ) → n ≤ 16777217 → IsCell (pos n)
count_cell n h = small_cell (pos n) (omega arith)

cells_append : (vs ws : List ℤ) → AreCells vs → AreCells ws → AreCells (vs ++ ws)
cells_append [] ws h k = k
cells_append (v ∷ vs) ws h k = (h.0, cells_append vs ws h.1 k)

cells_take : (n : ℕ) (vs : List ℤ) → AreCells vs → AreCells (take n vs)
cells_take zero vs h = tt
cells_take (suc n) [] h = tt
cells_take (suc n) (v ∷ vs) h = (h.0, cells_take n vs h.1)

cells_zero : (n : ℕ) → AreCells (replicate n (pos 0))
cells_zero zero = tt
cells_zero (suc n) = (count_cell 0 (omega arith), cells_zero n)

cells_filled : (room : ℕ) (vs : List ℤ) → AreCells vs → AreCells (filled (pos 0) room vs)
cells_filled room vs h = cells_append vs _ h (cells_zero (room - length vs))

-- ## Values: a number, a date and a leaf have 18 digits at most

digits_small : (s : List ℕ) → every digit s ≡ true → length s ≤ 18 → place_value s < 10 ^ 18
digits_small s h l = rw (place_value_lem s) (below_18 s 0 0 h (omega arith) (omega arith))

signed_abs : {sign : List ℕ} {n : ℕ} {v : ℤ} → Signed sign n v → nat_abs v ≡ n
signed_abs shapes.unsigned = refl
signed_abs shapes.plus = refl
signed_abs (shapes.minus {n = zero}) = refl
signed_abs (shapes.minus {n = suc n}) = refl

fraction_digits : {d : ℕ} {behind fraction : List ℕ} → Decimals d behind fraction → (every digit fraction ≡ true) × (length fraction ≡ d)
unfolding every
fraction_digits shapes.none = (refl, refl)
fraction_digits (shapes.some r) = (r.digits, omega (arith, r.at_least, r.at_most))

numeral_cell : {d : ℕ} {s : List ℕ} {v : ℤ} → Numeral d s v → IsCell v
numeral_cell {v = v} n =
    let f = fraction_digits n.point in
    small_cell v (rw (signed_abs n.value)
    (digits_small (n.whole ++ n.fraction) (every_append digit n.whole n.fraction n.digits.digits f.0) (omega (arith, length-append n.whole n.fraction, n.few, f.1))))

shape_cell : {type : AttributeType} {s : List ℕ} {v : ℤ} → Shape type s v → length s ≤ 16777216 → IsCell v
shape_cell (shapes.number n) l = numeral_cell n
shape_cell (shapes.date {s = s} d) l = small_cell (pos (place_value s)) (digits_small s d.digits (omega (arith, d.at_most)))
shape_cell (shapes.enumeration {s = s} d) l = small_cell (pos (place_value s)) (digits_small s d.digits (omega (arith, d.at_most)))
shape_cell (shapes.text {s = s} e) l = count_cell (length s) (omega arith)
shape_cell (shapes.reference {s = s} e) l = count_cell (length s) (omega arith)

number_cell_lem : (c : Component) (f : Field) (v : ℤ) → IsNumber c f v → IsCell v
number_cell_lem c f v h = numeral_cell ((number_exactly c f.bytes v).0 h).0

-- ## Points

values_fit : {u : ℕ} {cs : List Component} {fs : List Field} {vs : List ℤ} → Values u cs fs vs → AreCells vs
values_fit right.Values.none = tt
values_fit (right.Values.one {c = c} {f = f} {v = v} d n r) = (number_cell_lem c f v n, values_fit r)

-- one point before others
point_fits : {u : ℕ} {cs : List Component} {code : List ℕ} {l : Line} {vs : List ℤ} (kind : ℕ) (ps : List Point) → kind ≤ 2 → PointLine u cs code l vs → AreCells (cells_of_points ps)
    → AreCells (cells_of_points (record { kind = kind; values = vs } ∷ ps))
unfolding cells_of_points point_cells
point_fits {vs = vs} kind ps h p k =
    cells_append (point_cells kind vs) (cells_of_points ps) (count_cell kind (omega arith), cells_take 3 (vs ++ replicate 3 (pos 0)) (cells_append vs (replicate 3 (pos 0)) (values_fit p.values) (cells_zero 3))) k

segment_fits : {u forms : ℕ} {cs : List Component} {ls : List Line} {ps : List Point} → Segment u forms cs ls ps → AreCells (cells_of_points ps)
unfolding cells_of_points
segment_fits (right.Segment.straight f p) = point_fits 1 [] (omega arith) p tt
segment_fits (right.Segment.arc {ws = ws} f p q) = point_fits 2 (record { kind = 1; values = ws } ∷ []) (omega arith) p (point_fits 1 [] (omega arith) q tt)

segments_fit : {u forms : ℕ} {cs : List Component} {ls : List Line} {ps : List Point} → Segments u forms cs ls ps → AreCells (cells_of_points ps)
segments_fit (right.Segments.last s) = segment_fits s
segments_fit (right.Segments.more {ps = ps} {qs = qs} s r) = rw (points_append ps qs) (cells_append (cells_of_points ps) (cells_of_points qs) (segment_fits s) (segments_fit r))

drawn_fits : {u forms : ℕ} {cs : List Component} {ls : List Line} {ps : List Point} → Drawn u forms cs ls ps → AreCells (cells_of_points ps)
drawn_fits (right.Drawn.drawn {ps = ps} p s e) = point_fits 0 ps (omega arith) p (segments_fit s)

-- ## Entries and rows

-- a field ends in the text
field_ends : (own : List ℕ) (f : Field) → stretch own f.start (length f.bytes) ≡ f.bytes → Solid f.bytes → f.start + length f.bytes ≤ length own
field_ends own f st s = (stretch_lies own (pos f.start) (length f.bytes) (ap length (stretch_pos own f.start (length f.bytes) ∙ st)) (solid_size f.bytes s)).1

module _ (own : List ℕ) (short : length own ≤ 16777216) (all : List Delivered) (few : length all ≤ 16777216) where
  -- these entries make cells, behind k points, and their points do
  abbrev EntriesFit : List Entry → Type 0
  EntriesFit es = ((k : ℕ) → k + length (entry_points es) ≤ 16777216 → AreCells (entry_cells (names_of all) k es)) × AreCells (cells_of_points (entry_points es))

  undefined_fits : (es : List Entry) → EntriesFit es → EntriesFit (Undefined ∷ es)
  unfolding entry_cells entry_points
  undefined_fits es h = (λ k l. (count_cell 0 (omega arith), (count_cell 0 (omega arith), h.0 k l)), h.1)

  value_fits : (v : ℤ) (es : List Entry) → IsCell v → EntriesFit es → EntriesFit (OfValue v ∷ es)
  unfolding entry_cells entry_points
  value_fits v es c h = (λ k l. (count_cell 1 (omega arith), (c, h.0 k l)), h.1)

  object_cell : (target : ℕ) (b : List ℕ) (n : Found) → find_object target 0 b (names_of all) ≡ n → IsCell (number_cell n)
  unfolding number_cell
  object_cell target b missing e = count_cell 0 (omega arith)
  object_cell target b (found n) e = let r = found_at target 0 n b all e in count_cell n (omega (arith, r.1, r.2))

  means_fits : {type : AttributeType} {f : Field} {e : Entry} (es : List Entry) → Means type f e → f.start + length f.bytes ≤ length own → EntriesFit es → EntriesFit (e ∷ es)
  unfolding entry_cells entry_points
  means_fits es (right.Means.number {c = c} {f = f} {v = v} n) l h = value_fits v es (number_cell_lem c f v n) h
  means_fits es (right.Means.date {f = f} {v = v} n) l h = value_fits v es (shape_cell ((date_exactly f.bytes v).0 n).0 (omega arith)) h
  means_fits es (right.Means.enumeration {leaves = leaves} {f = f} {v = v} n) l h = value_fits v es (shape_cell ((enumeration_exactly leaves f.bytes v).0 n).0 (omega arith)) h
  means_fits es (right.Means.text {f = f} t b) l h = (λ k r. (count_cell (1 + length f.bytes) (omega arith), (count_cell f.start (omega arith), h.0 k r)), h.1)
  means_fits es (right.Means.reference {target = target} {f = f} i) l h = (λ k r. (count_cell 1 (omega arith), (object_cell target f.bytes _ refl, h.0 k r)), h.1)

  line_fits : {u forms : ℕ} {cs : List Component} {ls : List Line} {ps : List Point} (es : List Entry) → Drawn u forms cs ls ps → EntriesFit es → EntriesFit (OfPoints ps ∷ es)
  unfolding entry_cells entry_points
  line_fits {ps = ps} es d h =
      let size = length-append ps (entry_points es) in (
        λ k l. (count_cell (1 + length ps) (omega arith), (count_cell k (omega arith), h.0 (k + length ps) (omega arith))),
        rw (points_append ps (entry_points es)) (cells_append (cells_of_points ps) (cells_of_points (entry_points es)) (drawn_fits d) h.1),
      )

  entries_fit : {u : ℕ} {b : Before} {ps : List Pair} {fs : List Field} {ls : List Line} {es : List Entry} → PairEntries u b ps fs ls es → AllStand own fs → AllAre fs → EntriesFit es
  unfolding entry_cells entry_points cells_of_points
  entries_fit done st are = (λ k l. tt, tt)
  entries_fit (defined {f = f} {es = es} d n r) st are = means_fits es n (field_ends own f st.0 are.0) (entries_fit r st.1 are.1)
  entries_fit (undefined {es = es} e r) st are = undefined_fits es (entries_fit r st.1 are.1)
  entries_fit (cover {es = es} e r) st are = undefined_fits es (entries_fit r tt tt)
  entries_fit (under {es = es} r) st are = undefined_fits es (entries_fit r tt tt)
  entries_fit (also_defined {c = c} {f = f} {v = v} {es = es} d n r) st are = value_fits v es (number_cell_lem c f v n) (entries_fit r st.1 are.1)
  entries_fit (also_undefined {es = es} e r) st are = undefined_fits es (entries_fit r st.1 are.1)
  entries_fit (also_cover {es = es} e r) st are = undefined_fits es (entries_fit r tt tt)
  entries_fit (also_under {es = es} r) st are = undefined_fits es (entries_fit r tt tt)
  entries_fit (undrawn {es = es} e r) st are = undefined_fits es (entries_fit r st are)
  entries_fit (along {es = es} d r) st are = line_fits es d (entries_fit r st are)

  rows_fit : (m : Model) → length m.tables ≤ 512 → (os : List Delivered) → AllRead m own os
      → ((k : ℕ) → k + length (points_of os) ≤ 16777216 → AreCells (rows_cells (names_of all) k os)) × AreCells (cells_of_points (points_of os))
  unfolding rows_cells points_of cells_of_points
  rows_fit m limit [] h = (λ k l. tt, tt)
  rows_fit m limit (o ∷ os) h =
      let r = h.0 in
      let ends = field_ends own o.identification r.stands r.solid in
      let within = r.within in
      let es = entries_fit r.entries r.fields_stand r.fields_are in
      let ih = rows_fit m limit os h.1 in
      let size = length-append (entry_points o.entries) (points_of os) in (
        λ k l.
            let others = cells_append (entry_cells (names_of all) k o.entries) _ (es.0 k (omega arith)) (ih.0 (k + length (entry_points o.entries)) (omega arith)) in
            (count_cell o.table (omega arith), (count_cell o.identification.start (omega arith), (count_cell (length o.identification.bytes) (omega arith), others))),
        rw (points_append (entry_points o.entries) (points_of os)) (cells_append (cells_of_points (entry_points o.entries)) (cells_of_points (points_of os)) es.1 ih.1),
      )

-- ## A file

identifications_length : (os : List Delivered) → length (identifications_of os) ≡ length os
unfolding identifications_of
identifications_length [] = refl
identifications_length (o ∷ os) = ap suc (identifications_length os)

-- objects and points take bytes of the text
few_delivered : (m : Model) → GoodModel m → (ls : List (List ℕ)) (ds : List DeliveredTopic) → File m (with_starts 0 ls) ds → Unique (objects_of_topics ds)
    → (length (objects_of_topics ds) ≤ length (unfolded_text ls)) × (length (points_of (objects_of_topics ds)) ≤ length (unfolded_text ls))
unfolding table_of
few_delivered m g ls ds f unique =
    let os : List Delivered = objects_of_topics ds in
    let s = (reached_spends g (complete_reached m ls g _ _ _ (record { delivered = ds; file = f; unique = unique; identifications = refl; cell_count = refl; point_cells = refl }))).spends in
    let rows = s.for_rows in
    let fours = s.fours in
    let points = s.for_points in
    let size = bytes_text 0 ls in
    let names = identifications_length os in
    let four = points_length (points_of os) in
    (omega arith, omega arith)

abbrev Fit : Result → Type 0
Fit r = AreCells r.cells × AreCells r.points

right_fits : (m : Model) → GoodModel m → (ls : List (List ℕ)) (ds : List DeliveredTopic) (rooms : Rooms) → length (unfolded_text ls) ≤ 16777216 → Right m ls ds
    → Fit (accepted_with rooms (unfolded_text ls) (table_of m ds) (table_of m ds).cells)
unfolding accepted_with table_of
right_fits m g ls ds rooms short r =
    let os : List Delivered = objects_of_topics ds in
    let own : List ℕ = unfolded_text ls in
    let few = few_delivered m g ls ds r.file r.unique in
    let objects = few.0 in
    let points = few.1 in
    let fit = rows_fit own short os (omega arith) m g.table_limit os (file_read m own r.file (lines_stand own 0 ls refl)) in
    (cells_filled rooms.cells (rows_cells (names_of os) 0 os) (fit.0 0 (omega arith)), cells_filled rooms.points (cells_of_points (points_of os)) fit.1)

pub cells_fit : CellsFit
unfolding refused_with
cells_fit model file rooms = by (ltb 16777216 (length file)) refl (check_model model) refl (read model file rooms).answer refl
  where
    none : (number first second a b c : ℕ) → read model file rooms ≡ refused_with rooms number first second → (read model file rooms).answer ≡ accepted a b c → ⊥
    none number first second a b c h e = not_accepted number first second a b c (sym (ap (λ (r : Result). r.answer) h) ∙ e)

    by : (t : Bool) → ltb 16777216 (length file) ≡ t → (c : Checked) → check_model model ≡ c → (a : Answer) → (read model file rooms).answer ≡ a → Fit (read model file rooms)
    by t p c q (refusal number first second) e = let z = refusal_zeroes model file rooms number first second e in rw (z.cells, z.points) (cells_zero rooms.cells, cells_zero rooms.points)
    by true p c q (accepted x y z) e = absurd (none 1 0 0 x y z (read_large model file rooms (ltb-true 16777216 (length file) p)) e)
    by false p (bad at) q (accepted x y z) e = absurd (none 2 at 0 x y z (bad_model_reads model at file rooms q (ltb-false 16777216 (length file) p)) e)
    by false p (good m) q (accepted x y z) e =
        let short = ltb-false 16777216 (length file) p in
        let f = (accepted_exactly_when_right model file m rooms q short).0 (record { first = x; second = y; third = z; is = e }) in
        subst Fit (sym (accepted_with_its_table model file m rooms q short f))
        (right_fits m (checked_good model m q) f.of f.within.delivered rooms (omega (arith, short, cut_long f.cut)) f.within.right)
