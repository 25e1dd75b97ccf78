-- Reading the lines that are written of a table that is fine. Assumes nothing.
use Prim.Native.Nat.{ℕ, ◌+◌, ◌*◌, ◌≤◌}
use native.Mathlib.Omega.{arith}
use mathlib.Core.Path.{◌≡◌, refl, ap, subst}
use mathlib.Core.Bool.{true, false, ◌&&◌}
use mathlib.Core.List.{List, [], ◌∷◌, ◌++◌, append_assoc}
use lib.Dec.{eqb}
use lib.IntN.{ℤ, nat_abs}
use lib.ListN.{length, length-append}
use lib.Seq.{take_all}
use borrow.Author.Tests.{eq-eqb}
use Rattle.meaning.specs.Bytes.{choose}
use Rattle.meaning.specs.Model.{Table, Model, table_at}
use Rattle.meaning.specs.Field.{TOPI, TABL, ETAB, ETOP, EMOD, ENDE}
use Rattle.meaning.specs.Row.{pairs_of}
use Rattle.meaning.specs.Reading.{Due, opening, topic_from, table_from, object_of, Content, nothing_read, Rooms, cell_at}
use Rattle.meaning.specs.Writing.{object_lines, row_lines, rows_of_table, rows_behind_table, rows_behind_topic, is_delivered, table_lines, topic_lines, field_lines}
use Rattle.meaning.proofs.Reading.Fields.{Solid}
use Rattle.meaning.proofs.Judge.Valid.{Place, topics_from, tables_from, objects, Rest, finished, topic_out, topic_in, topic_end, table_out, table_in, object, table_end, Valid}
use Rattle.meaning.proofs.Writing.OwnLines.{Reads, reads_opening, reads_slashes, reads_transfer, reads_model, reads_end, reads_topic, reads_topic_end, reads_table, reads_table_end}
use Rattle.meaning.proofs.Writing.Objects.{RowsLike, stop, row_points, read_so_far, object_read}

-- what is due at a place
unfoldable pub due_at : Place → Due
due_at (topics_from from p names) = topic_from from
due_at (tables_from p from n ts names) = table_from p from
due_at (objects p t ts names) = object_of t

module _ (m : Model) (text : List ℕ) (c : Content) where
  abbrev pub last_lines : List (List (List ℕ))
  last_lines = (EMOD ∷ []) ∷ (ENDE ∷ []) ∷ []

  -- behind topic p
  unfoldable pub topics_behind : (p : ℕ) (names : List (List ℕ)) (rows : List ℕ) → List (List (List ℕ))
  topics_behind p names rows = (ETOP ∷ []) ∷ (topic_lines m text c (p + 1) names (rows_behind_topic m.tables p c.cells rows) ++ last_lines)

  -- the lines from a place on, where these rows are left
  unfoldable pub lines_at : Place → List ℕ → List (List (List ℕ))
  lines_at (topics_from from p names) rows = topic_lines m text c p names rows ++ last_lines
  lines_at (tables_from p from n ts names) rows = table_lines m text c p n ts rows ++ topics_behind p names rows
  lines_at (objects p t ts names) rows =
      row_lines m text c (pairs_of (table_at m.tables t).attributes) (rows_of_table t c.cells rows)
      ++ ((ETAB ∷ []) ∷ (table_lines m text c p (t + 1) ts (rows_behind_table t c.cells rows) ++ topics_behind p names rows))

  -- what is read in the end
  pub record AllRead (own : List ℕ) (d : Content) : Type 0 where
    pub marks : d.marks ≡ c.marks
    pub rows : d.rows ≡ c.rows
    pub points : d.points ≡ c.points
    pub like : RowsLike m text c own 0 c.rows d.cells (length c.cells)

  -- ## The lines, place by place

  pub last_lines_lem : (from p : ℕ) → last_lines ≡ lines_at (topics_from from p []) []
  unfolding lines_at topic_lines
  last_lines_lem from p = refl

  pub topic_out_lines : (from p : ℕ) (name : List ℕ) (names : List (List ℕ)) (rows : List ℕ) → is_delivered c p ≡ false
      → lines_at (topics_from from p (name ∷ names)) rows ≡ lines_at (topics_from from (p + 1) names) rows
  unfolding lines_at topic_lines choose
  topic_out_lines from p name names rows e = rw e

  pub topic_in_lines : (from p : ℕ) (name : List ℕ) (names : List (List ℕ)) (rows : List ℕ) → is_delivered c p ≡ true
      → lines_at (topics_from from p (name ∷ names)) rows ≡ (TOPI ∷ name ∷ []) ∷ lines_at (tables_from p 0 0 m.tables names) rows
  unfolding lines_at topic_lines choose topics_behind
  topic_in_lines from p name names rows e = rw e (ap (λ (l : List (List (List ℕ))). (TOPI ∷ name ∷ []) ∷ l) (append_assoc (table_lines m text c p 0 m.tables rows) _ last_lines))

  pub topic_end_lines : (p from n : ℕ) (names : List (List ℕ)) (rows : List ℕ) → rows_behind_topic m.tables p c.cells rows ≡ rows
      → lines_at (tables_from p from n [] names) rows ≡ (ETOP ∷ []) ∷ lines_at (topics_from (p + 1) (p + 1) names) rows
  unfolding lines_at table_lines topics_behind
  topic_end_lines p from n names rows e = rw e

  pub table_out_lines : (p from n : ℕ) (table : Table) (ts : List Table) (names : List (List ℕ)) (rows : List ℕ) → (eqb table.topic p && is_delivered c (length m.topics + n)) ≡ false
      → lines_at (tables_from p from n (table ∷ ts) names) rows ≡ lines_at (tables_from p from (n + 1) ts names) rows
  unfolding lines_at table_lines choose
  table_out_lines p from n table ts names rows e = rw e

  pub table_in_lines : (p from n : ℕ) (table : Table) (ts : List Table) (names : List (List ℕ)) (rows : List ℕ) → (eqb table.topic p && is_delivered c (length m.topics + n)) ≡ true
      → table_at m.tables n ≡ table
      → lines_at (tables_from p from n (table ∷ ts) names) rows ≡ (TABL ∷ table.name ∷ []) ∷ lines_at (objects p n ts names) rows
  unfolding lines_at table_lines choose
  table_in_lines p from n table ts names rows e here =
      rw (e, here) (ap (λ (l : List (List (List ℕ))). (TABL ∷ table.name ∷ []) ∷ l)
      (append_assoc (row_lines m text c (pairs_of table.attributes) (rows_of_table n c.cells rows)) _ (topics_behind p names rows)))

  pub object_lines_lem : (p t : ℕ) (ts : List Table) (names : List (List ℕ)) (at : ℕ) (rows : List ℕ) → cell_at c.cells at ≡ t → (table_at m.tables t).topic ≡ p
      → lines_at (objects p t ts names) (at ∷ rows) ≡ object_lines m text c (pairs_of (table_at m.tables t).attributes) at ++ lines_at (objects p t ts names) rows
  unfolding lines_at rows_of_table rows_behind_table row_lines choose topics_behind rows_behind_topic
  object_lines_lem p t ts names at rows e topic =
      rw (e, eq-eqb t t refl, topic, eq-eqb p p refl) (append_assoc (object_lines m text c (pairs_of (table_at m.tables t).attributes) at) _ _)

  pub table_end_lines : (p t : ℕ) (ts : List Table) (names : List (List ℕ)) (rows : List ℕ) → rows_of_table t c.cells rows ≡ [] → rows_behind_table t c.cells rows ≡ rows
      → lines_at (objects p t ts names) rows ≡ (ETAB ∷ []) ∷ lines_at (tables_from p (t + 1) (t + 1) ts names) rows
  unfolding lines_at row_lines
  table_end_lines p t ts names rows none behind = rw (none, behind)

  -- ## Reading them

  module _ (rooms : Rooms) (own : List ℕ) (su : Solid (m.undefined ∷ [])) (room_cell : length c.cells ≤ rooms.cells) (room_point : length c.points ≤ rooms.points) where
    pub rest_read : {place : Place} {marks before : List ℕ} {at k : ℕ} {rows : List ℕ} → Rest m text c place marks before at k rows → (zs : List ℤ) → RowsLike m text c own 0 before zs at
        → 4 * k ≤ length c.points → length before + length rows ≤ rooms.rows → Reads m rooms own (AllRead own) (due_at place) (read_so_far c marks before zs k) (lines_at place rows)
    unfolding due_at
    rest_read (finished {from = from} {p = p} {at = at} {k = k} {marks = marks} {before = before} e₁ e₂ e₃ e₄) zs like room room_row =
        subst (λ (l : List (List (List ℕ))). Reads m rooms own (AllRead own) (topic_from from) (read_so_far c marks before zs k) l) (last_lines_lem from p)
        (reads_end m rooms own (AllRead own) (read_so_far c marks before zs k) from
        (record {
          marks = e₁;
          rows = e₂;
          points = take_all (4 * k) c.points (omega arith);
          like =
              subst (λ (rows : List ℕ). RowsLike m text c own 0 rows zs (length c.cells)) e₂ (subst (λ (n : ℕ). RowsLike m text c own 0 before zs n) e₃ like);
        }))
    rest_read (topic_out {from = from} {p = p} {name = name} {names = names} {rows = rows} e r) zs like room room_row =
        rw (topic_out_lines from p name names rows e) (rest_read r zs like room room_row)
    rest_read (topic_in {from = from} {p = p} {name = name} {names = names} {rows = rows} e s f r) zs like room room_row =
        rw (topic_in_lines from p name names rows e) (reads_topic m rooms own (AllRead own) from p name _ _ s f (rest_read r zs like room room_row))
    rest_read (topic_end {p = p} {from = from} {n = n} {names = names} {rows = rows} g e r) zs like room room_row =
        rw (topic_end_lines p from n names rows e) (reads_topic_end m rooms own (AllRead own) p from _ _ g (rest_read r zs like room room_row))
    rest_read (table_out {p = p} {from = from} {n = n} {table = table} {ts = ts} {names = names} {rows = rows} e r) zs like room room_row =
        rw (table_out_lines p from n table ts names rows e) (rest_read r zs like room room_row)
    rest_read (table_in {p = p} {from = from} {n = n} {table = table} {ts = ts} {names = names} {rows = rows} e here s f g r) zs like room room_row =
        rw (table_in_lines p from n table ts names rows e here) (reads_table m rooms own (AllRead own) p from n table.name _ _ s f g (rest_read r zs like room room_row))
    rest_read (object {p = p} {t = t} {at = at} {k = k} {k' = k'} {ts = ts} {names = names} {marks = marks} {before = before} {rows = rows} o topic r) zs like room room_row =
        rw (object_lines_lem p t ts names at rows (ap nat_abs o.table) topic)
        (object_read m rooms text c own (AllRead own) su t k k' at before marks zs _ like o (omega arith) room_cell room_point room
        (λ zs' like'. rest_read r zs' like' (row_points o.row room) (rw (length-append before (at ∷ [])) (omega arith))))
    rest_read (table_end {p = p} {t = t} {ts = ts} {names = names} {rows = rows} topic none behind r) zs like room room_row =
        rw (table_end_lines p t ts names rows none behind) (reads_table_end m rooms own (AllRead own) t _ _ (rw topic (rest_read r zs like room room_row)))

    -- the lines of a table that is fine are read to their end
    pub table_reads : Solid m.transfer → Solid m.name → length c.rows ≤ rooms.rows → Valid m text c → Reads m rooms own (AllRead own) opening (nothing_read m) (field_lines m text c)
    unfolding field_lines nothing_read lines_at due_at
    table_reads transfer name room_row valid =
        reads_opening m rooms own (AllRead own) _ _ (reads_slashes m rooms own (AllRead own) _ _ (reads_transfer m rooms own (AllRead own) _ _ transfer (reads_model m rooms own (AllRead own) _ _ name
        (rest_read valid [] stop (omega arith) (omega arith)))))
