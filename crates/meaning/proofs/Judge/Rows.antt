-- Rows that the judge finds fine are fine, and the other way round; and what the number of an object says of its identification. Assumes nothing.
use Prim.Native.Nat.{ℕ, zero, suc, ◌+◌, ◌*◌, ◌-◌, ◌≤◌, ◌<◌}
use native.Mathlib.Omega.{arith}
use mathlib.Core.Path.{◌≡◌, refl, sym, ap, subst, ◌∙◌}
use mathlib.Core.Bool.{Bool, true, false, not, ◌&&◌, false≢true, and-false}
use mathlib.Core.List.{List, [], ◌∷◌, ◌++◌}
use lib.Dec.{eqb}
use lib.IntN.{ℤ, pos, nat_abs}
use lib.Signed.{lt_z}
use lib.ListN.{length, drop, get_or, length-drop}
use borrow.Author.Tests.{ltb-true, lt-ltb, leb-true, le-leb, eqb-true, eq-eqb, not-true}
use Rattle.meaning.specs.Bytes.{choose, all_of}
use Rattle.meaning.specs.Model.{Found, found, missing, Model, table_at}
use Rattle.meaning.specs.Check.{GoodModel}
use Rattle.meaning.specs.Value.{is_identification, same_identification}
use Rattle.meaning.specs.Row.{pairs_of}
use Rattle.meaning.specs.Reading.{Content, cell_at, is_used}
use Rattle.meaning.specs.Table.{find_object}
use Rattle.meaning.specs.Writing.{identification_bytes, is_delivered}
use Rattle.meaning.specs.Judge.{judge_stretch, judge_reference, after_found, judge_pairs, lent_objects, pairs_at, row_end, judge_row, judge_rows}
use Rattle.meaning.proofs.Tests.Unequal.{no_found, same_found}
use Rattle.meaning.proofs.Tests.Refuse.{both, neither, holds}
use Rattle.meaning.proofs.Tests.Same.{same_refl}
use Rattle.meaning.proofs.Judge.Valid.{IdentificationOk, ObjectOk}
use Rattle.meaning.proofs.Model.GoodPairs.{pairs_good}
use Rattle.meaning.proofs.Judge.Cells.{cell_is_lem, is_cell, at_least, no_less, solid_size, stretch_judged, judged_stretch}
use Rattle.meaning.proofs.Judge.Pairs.{ReferenceOk, pairs_judged, judged_pairs}

-- ## Rows that are fine

-- these rows, of table `least` or later ones, behind these rows, from this cell and point on
pub data RowsOk (m : Model) (text : List ℕ) (c : Content) : (least : ℕ) (before : List ℕ) (at k : ℕ) (rows : List ℕ) → Type 0 where
  stop : {least at k : ℕ} {before : List ℕ} → at ≡ length c.cells → 4 * k ≡ length c.points → RowsOk m text c least before at k []
  next : {least at k k' t : ℕ} {before rows : List ℕ} → least ≤ t → t < length m.tables → is_delivered c (length m.topics + t) ≡ true → ObjectOk m text c t before at k k'
      → RowsOk m text c t (before ++ (at ∷ [])) (at + (3 + 2 * length (pairs_of (table_at m.tables t).attributes))) k' rows → RowsOk m text c least before at k (at ∷ rows)

-- ## Objects by their numbers

-- these rows have identifications that differ from each other and from those of the rows before
data Distinct (u : ℕ) (text : List ℕ) (cs : List ℤ) : (before rows : List ℕ) → Type 0 where
  none : {before : List ℕ} → Distinct u text cs before []
  one : {row : ℕ} {before rows : List ℕ} → IdentificationOk u (identification_bytes text cs row) → is_used (identification_bytes text cs row) (lent_objects text cs before) ≡ false
      → Distinct u text cs (before ++ (row ∷ [])) rows → Distinct u text cs before (row ∷ rows)

module _ (text : List ℕ) (cs : List ℤ) where
  -- an identification that is used neither before nor by one row more
  used_more : (i : List ℕ) (before : List ℕ) (row : ℕ) → is_used i (lent_objects text cs (before ++ (row ∷ []))) ≡ false
      → (is_used i (lent_objects text cs before) ≡ false) × (same_identification (identification_bytes text cs row) i ≡ false)
  unfolding is_used lent_objects
  used_more i [] row h = (refl, (neither (same_identification (identification_bytes text cs row) i) false h).0)
  used_more i (b ∷ before) row h =
      let q = neither (same_identification (identification_bytes text cs b) i) _ h in
      let r = used_more i before row q.1 in
      (rw q.0 r.0, r.1)

  -- the object of a number and table is found by its identification
  found_table : (t n : ℕ) (i : List ℕ) (rows : List ℕ) (k : ℕ) → find_object t n i (lent_objects text cs rows) ≡ found k → (n ≤ k) × (k - n < length rows) × (cell_at cs (get_or rows (k - n) 0) ≡ t)
  unfolding find_object lent_objects choose
  found_table t n i [] k e = absurd (no_found k e)
  found_table t n i (row ∷ rows) k e = by _ refl e (found_table t (n + 1) i rows k)
    where
      by : (x : Bool) → (eqb (cell_at cs row) t && same_identification (identification_bytes text cs row) i) ≡ x
          → choose x (found n) (find_object t (n + 1) i (lent_objects text cs rows)) ≡ found k
          → (find_object t (n + 1) i (lent_objects text cs rows) ≡ found k → (n + 1 ≤ k) × (k - (n + 1) < length rows) × (cell_at cs (get_or rows (k - (n + 1)) 0) ≡ t))
          → (n ≤ k) × (k - n < length (row ∷ rows)) × (cell_at cs (get_or (row ∷ rows) (k - n) 0) ≡ t)
      by true p e ih =
          let q : n ≡ k = same_found n k e in
          let z : k - n ≡ 0 = omega arith in
          (omega arith, omega arith, rw z (eqb-true (cell_at cs row) t (both (eqb (cell_at cs row) t) _ p).0))
      by false p e ih =
          let r = ih e in
          let low = r.0 in
          let few = r.1 in
          let z : k - n ≡ suc (k - (n + 1)) = omega arith in
          (omega arith, omega arith, rw z r.2)

  module _ (u : ℕ) where
    unused_at : {before rows : List ℕ} (j : ℕ) → Distinct u text cs before rows → j < length rows → is_used (identification_bytes text cs (get_or rows j 0)) (lent_objects text cs before) ≡ false
    unused_at j none l = absurd (omega arith)
    unused_at zero (one i f d) l = f
    unused_at (suc j) (one {row = row} {before = before} {rows = rows} i f d) l = (used_more (identification_bytes text cs (get_or rows j 0)) before row (unused_at j d (omega arith))).0

    identification_at_lem : {before rows : List ℕ} (j : ℕ) → Distinct u text cs before rows → j < length rows → IdentificationOk u (identification_bytes text cs (get_or rows j 0))
    identification_at_lem j none l = absurd (omega arith)
    identification_at_lem zero (one i f d) l = i
    identification_at_lem (suc j) (one i f d) l = identification_at_lem j d (omega arith)

    find_it : {before rows : List ℕ} (t n j : ℕ) → Distinct u text cs before rows → j < length rows → cell_at cs (get_or rows j 0) ≡ t
        → find_object t n (identification_bytes text cs (get_or rows j 0)) (lent_objects text cs rows) ≡ found (n + j)
    unfolding find_object lent_objects choose same_identification
    find_it t n j none l e = absurd (omega arith)
    find_it t n zero (one {row = row} i f d) l e = let z : n ≡ n + 0 = omega arith in rw (eq-eqb (cell_at cs row) t e, same_refl (identification_bytes text cs row)) (ap found z)
    find_it t n (suc j) (one {row = row} {before = before} {rows = rows} i f d) l e =
        let apart : same_identification (identification_bytes text cs row) (identification_bytes text cs (get_or rows j 0)) ≡ false =
        (used_more (identification_bytes text cs (get_or rows j 0)) before row (unused_at j d (omega arith))).1 in
        let z : n + 1 + j ≡ n + suc j = omega arith in
        rw (apart, and-false (eqb (cell_at cs row) t)) (find_it t (n + 1) j d (omega arith) e ∙ ap found z)

-- ## Judged rows are fine

-- what the judge says of a row
record RowJudged (m : Model) (text : List ℕ) (c : Content) (least at : ℕ) (before : List ℕ) : Type 0 where
  table : get_or c.cells at (pos 0) ≡ pos (cell_at c.cells at)
  low : least ≤ cell_at c.cells at
  high : cell_at c.cells at < length m.tables
  delivered : is_delivered c (length m.topics + cell_at c.cells at) ≡ true
  room : row_end m c.cells at ≤ length c.cells
  size : get_or c.cells (at + 2) (pos 0) ≡ pos (length (identification_bytes text c.cells at))
  identification : IdentificationOk m.undefined (identification_bytes text c.cells at)
  fresh : is_used (identification_bytes text c.cells at) (lent_objects text c.cells before) ≡ false

below_cell : (a : ℤ) (n : ℕ) → a ≡ pos (nat_abs a) → lt_z a (pos n) ≡ true → nat_abs a < n
below_cell a n e h = ltb-true (nat_abs a) n (rw e at h)

row_judged : (m : Model) (text : List ℕ) (c : Content) (least at : ℕ) (before : List ℕ) → judge_row m text c least at before ≡ true → RowJudged m text c least at before
unfolding judge_row identification_bytes is_identification
row_judged m text c least at before h =
    let a = at_least (get_or c.cells at (pos 0)) least (holds _ 0 h) in
    let s = at_least (get_or c.cells (at + 2) (pos 0)) 1 (holds _ 4 h) in
    let o = stretch_judged m.undefined text (get_or c.cells (at + 1) (pos 0)) (cell_at c.cells (at + 2)) s.low (holds _ 5 h) in
    record {
      table = a.is;
      low = a.low;
      high = below_cell (get_or c.cells at (pos 0)) (length m.tables) a.is (holds _ 1 h);
      delivered = holds _ 2 h;
      room = leb-true _ _ (holds _ 3 h);
      size = s.is ∙ ap pos (sym o.whole);
      identification = record { field = o.field; shape = o.bytes };
      fresh = not-true _ (holds _ 6 h);
    }

module _ (m : Model) (text : List ℕ) (c : Content) where
  -- what follows a row, behind its pairs
  abbrev Others : (at : ℕ) (before rows : List ℕ) → ℕ → Bool
  Others at before rows k' = judge_rows m text c (cell_at c.cells at) (row_end m c.cells at) k' (before ++ (at ∷ [])) rows

  judged_distinct : (least at k : ℕ) (before rows : List ℕ) → judge_rows m text c least at k before rows ≡ true → Distinct m.undefined text c.cells before rows
  unfolding judge_rows
  judged_distinct least at k before [] h = none
  judged_distinct least at k before (row ∷ rows) h =
      let j = row_judged m text c least at before (holds _ 1 h) in
      rw (eqb-true row at (holds _ 0 h))
      (one j.identification j.fresh
      (by (judge_pairs m.undefined text c true k (pairs_at m c.cells at) (drop (at + 3) c.cells)) (holds _ 2 h)
      (λ k'. judged_distinct (cell_at c.cells at) (row_end m c.cells at) k' (before ++ (at ∷ [])) rows)))
    where
      by : (x : Found) → after_found x false (Others at before rows) ≡ true → ((k' : ℕ) → Others at before rows k' ≡ true → Distinct m.undefined text c.cells (before ++ (at ∷ [])) rows)
          → Distinct m.undefined text c.cells (before ++ (at ∷ [])) rows
      by missing e ih = absurd (false≢true e)
      by (found k') e ih = ih k' e

  refers : Distinct m.undefined text c.cells [] c.rows → (target n : ℕ) → judge_reference c target (pos n) ≡ true → ReferenceOk m.undefined text c target n
  unfolding judge_reference
  refers d target n h =
      let l : n < length c.rows = ltb-true n (length c.rows) (holds _ 1 h) in
      let t : cell_at c.cells (get_or c.rows n 0) ≡ target = ap nat_abs (cell_is_lem _ target (holds _ 3 h)) in
      let i = identification_at_lem text c.cells m.undefined n d l in
      let z : 0 + n ≡ n = omega arith in
      record { field = i.field; shape = i.shape; found' = find_it text c.cells m.undefined target 0 n d l t ∙ ap found z }

  module _ (good : GoodModel m) (refer : (target n : ℕ) → judge_reference c target (pos n) ≡ true → ReferenceOk m.undefined text c target n) where
    rows_judged : (least at k : ℕ) (before rows : List ℕ) → judge_rows m text c least at k before rows ≡ true → RowsOk m text c least before at k rows
    unfolding judge_rows
    rows_judged least at k before [] h = stop (eqb-true _ _ (holds _ 0 h)) (eqb-true _ _ (holds _ 1 h))
    rows_judged least at k before (row ∷ rows) h =
        rw (eqb-true row at (holds _ 0 h))
        (by (judge_pairs m.undefined text c true k (pairs_at m c.cells at) (drop (at + 3) c.cells)) refl (holds _ 2 h)
        (λ k'. rows_judged (cell_at c.cells at) (row_end m c.cells at) k' (before ++ (at ∷ [])) rows))
      where
        j : RowJudged m text c least at before
        j = row_judged m text c least at before (holds _ 1 h)

        long : 2 * length (pairs_at m c.cells at) ≤ length (drop (at + 3) c.cells)
        long = let r = j.room in rw (length-drop (at + 3) c.cells) (omega arith)

        by : (x : Found) → judge_pairs m.undefined text c true k (pairs_at m c.cells at) (drop (at + 3) c.cells) ≡ x → after_found x false (Others at before rows) ≡ true
            → ((k' : ℕ) → Others at before rows k' ≡ true → RowsOk m text c (cell_at c.cells at) (before ++ (at ∷ [])) (row_end m c.cells at) k' rows)
            → RowsOk m text c least before at k (at ∷ rows)
        by missing p e ih = absurd (false≢true e)
        by (found k') p e ih =
            next {t = cell_at c.cells at} j.low j.high j.delivered
            (record {
              table = j.table;
              size = j.size;
              identification = j.identification;
              fresh = j.fresh;
              row = pairs_judged m.undefined text c good.undefined refer true k k' (pairs_at m c.cells at) (drop (at + 3) c.cells) (pairs_good m good (cell_at c.cells at)) long p;
              room = j.room;
            })
            (ih k' e)

  pub all_judged : GoodModel m → (rows : List ℕ) → rows ≡ c.rows → judge_rows m text c 0 0 0 [] rows ≡ true → RowsOk m text c 0 [] 0 0 rows
  all_judged good rows e h =
      rows_judged good (refers (subst (λ (l : List ℕ). Distinct m.undefined text c.cells [] l) e (judged_distinct 0 0 0 [] rows h))) 0 0 0 [] rows h

-- ## Fine rows are judged fine

module _ (m : Model) (text : List ℕ) (c : Content) where
  -- a row within the cells that says its table
  record RowIn (row : ℕ) : Type 0 where
    inside : row < length c.cells
    table : get_or c.cells row (pos 0) ≡ pos (cell_at c.cells row)

  row_in : {least at k : ℕ} {before rows : List ℕ} (j : ℕ) → RowsOk m text c least before at k rows → j < length rows → RowIn (get_or rows j 0)
  row_in j (stop a b) l = absurd (omega arith)
  row_in zero (next a b d o r) l = record { inside = (let e = o.room in omega arith); table = o.table ∙ ap pos (sym (ap nat_abs o.table)) }
  row_in (suc j) (next a b d o r) l = row_in j r (omega arith)

  refers_back : {rows : List ℕ} → RowsOk m text c 0 [] 0 0 rows → rows ≡ c.rows → (target n : ℕ) (f : List ℕ) → find_object target 0 f (lent_objects text c.cells c.rows) ≡ found n → judge_reference c target (pos n) ≡ true
  unfolding judge_reference all_of
  refers_back o same target n f e =
      let r = found_table text c.cells target 0 f c.rows n e in
      let few = r.1 in
      let z : n - 0 ≡ n = omega arith in
      let l : n < length c.rows = omega arith in
      let i : RowIn (get_or c.rows n 0) = subst (λ (x : List ℕ). RowIn (get_or x n 0)) same (row_in n o (rw same l)) in
      let t : cell_at c.cells (get_or c.rows n 0) ≡ target = rw z at r.2 in
      let w : get_or c.cells (get_or c.rows n 0) (pos 0) ≡ pos target = i.table ∙ ap pos t in
      rw (no_less n 0 (omega arith), lt-ltb n (length c.rows) l, lt-ltb (get_or c.rows n 0) (length c.cells) i.inside, w, is_cell target)

  stretch_judges : (t at k k' : ℕ) (before : List ℕ) → ObjectOk m text c t before at k k' → judge_stretch m.undefined text (get_or c.cells (at + 1) (pos 0)) (cell_at c.cells (at + 2)) ≡ true
  unfolding identification_bytes is_identification
  stretch_judges t at k k' before o =
      judged_stretch m.undefined text (get_or c.cells (at + 1) (pos 0)) (cell_at c.cells (at + 2))
      (record { whole = sym (ap nat_abs o.size); field = o.identification.field; bytes = o.identification.shape })

  row_judges : (least t at k k' : ℕ) (before : List ℕ) → least ≤ t → t < length m.tables → is_delivered c (length m.topics + t) ≡ true → ObjectOk m text c t before at k k'
      → judge_row m text c least at before ≡ true
  unfolding judge_row all_of
  row_judges least t at k k' before low high d o =
      let some : not (lt_z (get_or c.cells (at + 2) (pos 0)) (pos 1)) ≡ true = rw o.size (no_less _ 1 (solid_size (identification_bytes text c.cells at) o.identification.field.solid)) in
      rw (o.table, no_less t least low, lt-ltb t (length m.tables) high, d, le-leb _ _ o.room, some, stretch_judges t at k k' before o, o.fresh)

  judged_rows : {least at k : ℕ} {before rows : List ℕ} → ((target n : ℕ) (f : List ℕ) → find_object target 0 f (lent_objects text c.cells c.rows) ≡ found n → judge_reference c target (pos n) ≡ true)
      → RowsOk m text c least before at k rows → judge_rows m text c least at k before rows ≡ true
  unfolding judge_rows all_of
  judged_rows refer (stop a b) = rw (eq-eqb _ _ a, eq-eqb _ _ b)
  judged_rows refer (next {least = least} {at = at} {k = k} {k' = k'} {t = t} {before = before} low high d o r) =
      rw (eq-eqb at at refl, row_judges least t at k k' before low high d o, o.table, judged_pairs m.undefined text c refer o.row, judged_rows refer r)

  pub judged_all : {rows : List ℕ} → rows ≡ c.rows → RowsOk m text c 0 [] 0 0 rows → judge_rows m text c 0 0 0 [] rows ≡ true
  judged_all e o = judged_rows (refers_back o e) o
