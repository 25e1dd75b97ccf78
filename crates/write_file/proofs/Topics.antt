-- Walks over the topics of a model, and the topics of its tables. Assumes nothing.
use Prim.Native.Nat.{ℕ, ◌+◌, ◌-◌, ◌≤◌, ◌<◌}
use native.Mathlib.Omega.{arith}
use native.Mathlib.Numerals.{add-one}
use mathlib.Core.Path.{◌≡◌, refl, sym, ap, ◌∙◌}
use mathlib.Core.Bool.{true, false}
use mathlib.Core.List.{List, [], ◌∷◌, ◌++◌, append_assoc}
use lib.Dec.{eqb}
use lib.IntN.{ℤ}
use lib.ListN.{length, take, drop, get_or, drop_of_length-le}
use lib.Seq.{drop-cons}
use borrow.Author.Tests.{ne_eqb, eq-eqb}
use Rattle.meaning.specs.Bytes.{choose}
use Rattle.meaning.specs.Model.{Table, Model, table_at}
use Rattle.meaning.specs.Field.{SCNT, slashes, MTID, MODL, TOPI, ETOP, EMOD, ENDE}
use Rattle.meaning.specs.Reading.{Content, cell_at}
use Rattle.meaning.specs.Writing.{rows_behind_topic, table_lines, topic_lines, field_lines, lines_bytes, lines_of}
use Rattle.model_records.specs.declared.places.Shape.{Shape}
use Rattle.model_records.specs.declared.places.Places.{Places}
use Rattle.model_records.specs.Records.{next_at, model_at}
use Rattle.model_records.specs.Places.{topic_place, TopicRecord, RecordsPlaced}
use Rattle.model_records.proofs.Types.{payload_part}
use Rattle.write_lines.specs.declared.Put.{Put}
use Rattle.write_lines.specs.Puts.{Puts}
use Rattle.write_lines.specs.declared.style.LineStyle.{LineStyle}
use Rattle.write_file.specs.declared.walk.RowsWritten.{RowsWritten}
use Rattle.write_file.specs.Styles.{cut_of}
use Rattle.write_file.specs.Walks.{lines_of_topic, TopicEnd, TopicTurn}
use Rattle.write_objects.proofs.Joined.{cut_lines_append}
use Rattle.write_file.proofs.Frames.{no_lines, put_none}
use Rattle.meaning.proofs.Lists.{drop_next}

-- ## Rows

-- the rows from `row` to i are of tables of topic p
pub record TopicRun (ts : List Table) (p : ℕ) (cells : List ℤ) (rows : List ℕ) (row i : ℕ) : Type 0 where
  pub within : i ≤ length rows
  pub rest : rows_behind_topic ts p cells (drop i rows) ≡ rows_behind_topic ts p cells (drop row rows)

module _ (ts : List Table) (p : ℕ) (cells : List ℤ) (rows : List ℕ) (row : ℕ) where
  module _ (i : ℕ) (r : TopicRun ts p cells rows row i) (h : i < length rows) where
    pub topic_on : (table_at ts (cell_at cells (get_or rows i 0))).topic ≡ p → TopicRun ts p cells rows row (i + 1)
    unfolding rows_behind_topic choose
    topic_on e =
        let same : eqb (table_at ts (cell_at cells (get_or rows i 0))).topic p ≡ true = eq-eqb _ _ e in
        let behind : rows_behind_topic ts p cells (drop i rows) ≡ rows_behind_topic ts p cells (drop (i + 1) rows) = rw (drop_next rows i 0 h, same) in
        record { within = omega arith; rest = sym behind ∙ r.rest }

    pub topic_stop : ((table_at ts (cell_at cells (get_or rows i 0))).topic ≡ p → ⊥) → TopicEnd ts p cells rows row i
    unfolding rows_behind_topic choose
    topic_stop n =
        let other : eqb (table_at ts (cell_at cells (get_or rows i 0))).topic p ≡ false = ne_eqb _ _ n in
        let stays : drop i rows ≡ rows_behind_topic ts p cells (drop i rows) = rw (drop_next rows i 0 h, other) in
        record { within = r.within; rest = stays ∙ r.rest }

  pub topic_end_lem : (i : ℕ) → TopicRun ts p cells rows row i → length rows ≤ i → TopicEnd ts p cells rows row (length rows)
  unfolding rows_behind_topic
  topic_end_lem i r h =
      let no_row : drop i rows ≡ [] = drop_of_length-le rows {i = i} h in
      let end : length rows ≡ i = omega (arith, r.within) in
      rw end record { within = r.within; rest = no_row ∙ (rw no_row at r.rest) }

-- ## Topics

-- the record of topic p is at this byte, the next record at that one
module _ (b : List ℕ) (shape : Shape) (places : Places) (h : RecordsPlaced b shape places) (p : ℕ) (l : p < shape.topics) (at : ℕ) (e : at ≡ topic_place places p) where
  record_of : TopicRecord (model_at b) b p at
  record_of = rw e (h.noted.topic p l)

  module _ (next : ℕ) (n : next ≡ next_at b at) where
    pub topic_name : take (next - (at + 4)) (drop (at + 4) b) ≡ get_or (model_at b).topics p []
    topic_name = rw n (payload_part b at 0 (at + 4) (omega arith) ∙ record_of.name)

-- topic p is passed: the test is whether it is delivered
module _ (m : Model) (text : List ℕ) (c : Content) (s : LineStyle) (p row : ℕ) (put : Put) (e : List ℕ) (l : p < length m.topics) where
  topic_next_lem : drop p m.topics ≡ get_or m.topics p [] ∷ drop (p + 1) m.topics
  topic_next_lem = drop-cons m.topics p [] l ∙ ap (λ (n : ℕ). get_or m.topics p [] ∷ drop n m.topics) (sym (add-one p))

  pub topic_over : get_or c.marks p 0 ≡ 0 → row ≤ length c.rows → (q : Put) → Puts [] put e e q → TopicTurn m text c s p row put e e (record { put = q; row = row })
  unfolding choose topic_lines
  topic_over n w q none = record {
    lines = [];
    put = put_none s.mark s.width put q e none;
    rest = rw (topic_next_lem, n) refl;
    within = w;
  }

  pub topic_begun : (get_or c.marks p 0 ≡ 0 → ⊥) → (to : ℕ) → TopicEnd m.tables p c.cells c.rows row to → {e' : List ℕ} {q : Put}
      → Puts (cut_of s (lines_of_topic m text c p (drop row c.rows))) put e e' q → TopicTurn m text c s p row put e e' (record { put = q; row = to })
  unfolding choose topic_lines
  topic_begun y to end f = record {
    lines = lines_of_topic m text c p (drop row c.rows);
    put = f;
    rest = rw (topic_next_lem, ne_eqb (get_or c.marks p 0) 0 y, end.rest)
        (ap (λ (ls : List (List (List ℕ))). (TOPI ∷ get_or m.topics p [] ∷ []) ∷ ls)
        (sym (append_assoc (table_lines m text c p 0 m.tables (drop row c.rows)) ((ETOP ∷ []) ∷ []) _)));
    within = end.within;
  }

-- the lines that are left behind the topic, and behind the last one
pub topics_on : (m : Model) (text : List ℕ) (c : Content) (s : LineStyle) (p row : ℕ) (put : Put) (e e' : List ℕ) (w : RowsWritten) (turn : TopicTurn m text c s p row put e e' w)
    → cut_of s (topic_lines m text c p (drop p m.topics) (drop row c.rows))
    ≡ cut_of s turn.lines ++ cut_of s (topic_lines m text c (p + 1) (drop (p + 1) m.topics) (drop w.row c.rows))
topics_on m text c s p row put e e' w turn =
    ap (cut_of s) turn.rest ∙ cut_lines_append s.mark s.width turn.lines (topic_lines m text c (p + 1) (drop (p + 1) m.topics) (drop w.row c.rows))

pub topics_end : (m : Model) (text : List ℕ) (c : Content) (s : LineStyle) (p : ℕ) (rs : List ℕ) → length m.topics ≤ p
    → cut_of s (topic_lines m text c p (drop p m.topics) rs) ≡ []
unfolding topic_lines
topics_end m text c s p rs h =
    let none : drop p m.topics ≡ [] = drop_of_length-le m.topics {i = p} h in
    rw none (no_lines s.mark s.width)

-- ## The whole file

-- its lines by their groups
pub whole_file : (m : Model) (text : List ℕ) (c : Content)
    → lines_bytes (((SCNT ∷ []) ∷ (slashes ∷ []) ∷ (MTID ∷ m.transfer ∷ []) ∷ (MODL ∷ m.name ∷ []) ∷ []) ++ (topic_lines m text c 0 m.topics c.rows ++ (((EMOD ∷ []) ∷ []) ++ ((ENDE ∷ []) ∷ [])))) ≡ lines_of m text c
unfolding lines_of field_lines
whole_file m text c = refl
