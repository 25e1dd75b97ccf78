-- Reading (01, "Lines and fields" and "Refusal numbers"): the step over one logical line, and the lines in order.
-- Short names: m the model, c the table so far, s the state, l a line, fs its fields, p a topic's number, t a table's,
-- i an identification's field.
use Rattle.std.specs.Prelude.{ℕ, ◌+◌, true, not, ◌||◌, List, [], ◌∷◌, leb, ltb, ℤ, pos, length, drop}
use Rattle.meaning.specs.Bytes.{choose, refuse, same, prefix}
use Rattle.meaning.specs.Model.{Found, found, missing, Model, table_at}
use Rattle.meaning.specs.Field.{Field, fields_of, field_at, more_than, has_code, SCNT, slashes, MTID, MOTR, MODL}
use Rattle.meaning.specs.Field.{TOPI, TABL, OBJE, ETAB, ETOP, EMOD, ENDE}
use Rattle.meaning.specs.Value.{is_identification, is_undefined, is_undefined_twice}
use Rattle.meaning.specs.Row.{pairs_of, Cells, cells, refused, pair_cells, component_values, point_cells}
use Rattle.meaning.specs.Reading.{line_code_of, Move, unexpected, undefined_line, ended, point, move, is_forbidden}
use Rattle.meaning.specs.Reading.{line_attributes, Underway, Due, opening, description, transfer, model_name}
use Rattle.meaning.specs.Reading.{topic_from, table_from, object_of, line_of, closing, nothing, is_complete, due_lines}
use Rattle.meaning.specs.Reading.{with_state, Content, State, behind, with_mark, with_row, with_point, point_count}
use Rattle.meaning.specs.Reading.{with_line, Rooms, find_topic, find_table, mandatory_between, objects_of, is_used}

-- ## What a line makes of the state

-- what is due behind it, and the table with what it adds; or a refusal and its field
pub data Step : Type 0 where
  go : Due → Content → Step
  no : (number field : ℕ) → Step

abbrev pub after_found : Found → Step → (ℕ → Step) → Step
after_found (found n) refusal next = next n
after_found missing refusal next = refusal

-- a line that is its code alone
unfoldable pub bare : List Field → Step → Step
bare fs next = refuse (more_than 1 fs) (no 11 2) next

-- a line of a code and this name
unfoldable pub named : List ℕ → List Field → Step → Step
named name fs next =
    refuse (not (more_than 1 fs)) (no 11 2)
    (refuse (not (same (field_at 2 fs).bytes name)) (no 9 2)
    (refuse (more_than 2 fs) (no 11 3)
    next))

-- under the model m, with these rooms and this unfolded text
module _ (m : Model) (rooms : Rooms) (text : List ℕ) where
  -- SCNT
  unfoldable pub opening_line : List Field → Content → Step
  opening_line fs c =
      refuse (not (has_code SCNT fs)) (no 7 1)
      (bare fs
      (go description c))

  -- "description lines up to the first line beginning with ////, which must be that field alone"
  unfoldable pub description_line : List ℕ → List Field → Content → Step
  description_line l fs c =
      choose (not (prefix slashes l)) (go description c)
      (refuse (not (has_code slashes fs)) (no 7 1)
      (bare fs
      (go transfer c)))

  -- "MTID with the transfer name"; 8: "MOTR in place of MTID"
  unfoldable pub transfer_line : List Field → Content → Step
  transfer_line fs c =
      refuse (has_code MOTR fs) (no 8 1)
      (refuse (not (has_code MTID fs)) (no 7 1)
      (named m.transfer fs
      (go model_name c)))

  -- "MODL with the model name"
  unfoldable pub model_line : List Field → Content → Step
  model_line fs c =
      refuse (not (has_code MODL fs)) (no 7 1)
      (named m.name fs
      (go (topic_from 0) c))

  -- TOPI of topic `from` or a later one, or EMOD
  unfoldable pub topic_line : (from : ℕ) → List Field → Content → Step
  topic_line from fs c =
      choose (has_code EMOD fs) (bare fs (go closing c))
      (refuse (not (has_code TOPI fs)) (no 7 1)
      (refuse (not (more_than 1 fs)) (no 11 2)
      (after_found (find_topic from 0 (field_at 2 fs).bytes m.topics) (no 9 2) (λ p.
      refuse (more_than 2 fs) (no 11 3)
      (go (table_from p 0) (with_mark p c))))))

  -- ETOP; 10: "mandatory table skipped"
  unfoldable pub topic_end : (p from : ℕ) → List Field → Content → Step
  topic_end p from fs c =
      refuse (mandatory_between p from (length m.tables) 0 m.tables) (no 10 1)
      (bare fs
      (go (topic_from (p + 1)) c))

  -- TABL of a table of topic p, table `from` or a later one, or ETOP
  unfoldable pub table_line : (p from : ℕ) → List Field → Content → Step
  table_line p from fs c =
      choose (has_code ETOP fs) (topic_end p from fs c)
      (refuse (not (has_code TABL fs)) (no 7 1)
      (refuse (not (more_than 1 fs)) (no 11 2)
      (after_found (find_table p from 0 (field_at 2 fs).bytes m.tables) (no 9 2) (λ t.
      refuse (mandatory_between p from t 0 m.tables) (no 10 2)
      (refuse (more_than 2 fs) (no 11 3)
      (go (object_of t) (with_mark (length m.topics + t) c)))))))

  -- a row's pairs join the table, behind its table t and its identification i; 16: "no room for a row, its cells"
  unfoldable pub store_row : (t : ℕ) (i : Field) → Content → Cells → Step
  store_row t i c (refused number field) = no number field
  store_row t i c (cells pairs) =
      let row : List ℤ = pos t ∷ pos i.start ∷ pos (length i.bytes) ∷ pairs in
      let due : Due =
      due_lines t (point_count c)
      (line_attributes (length c.cells + 3) (pairs_of (table_at m.tables t).attributes)) in
      refuse (leb rooms.rows (length c.rows) || ltb rooms.cells (length c.cells + length row)) (no 16 0)
      (go due (with_row row c))

  -- "OBJE: identification, then the fields of all attributes but lines", "with 15 after the identification's shape"
  unfoldable pub object_fields : (t : ℕ) → List Field → Content → Step
  object_fields t fs c =
      let u : ℕ = m.undefined in
      let i : Field = field_at 2 fs in
      refuse (not (more_than 1 fs)) (no 11 2)
      (refuse (is_undefined u i || is_undefined_twice u i) (no 12 2)
      (refuse (not (is_identification i.bytes)) (no 13 2)
      (refuse (is_used i.bytes (objects_of text c.cells c.rows)) (no 15 2)
      (store_row t i c (pair_cells u true 3 (pairs_of (table_at m.tables t).attributes) (drop 2 fs))))))

  -- what may follow the objects of table t: ETAB
  unfoldable pub behind_objects : (t : ℕ) → List Field → Content → Step
  behind_objects t fs c =
      refuse (not (has_code ETAB fs)) (no 7 1)
      (bare fs
      (go (table_from (table_at m.tables t).topic (t + 1)) c))

  -- OBJE of table t, or what may follow its objects
  unfoldable pub object_line : (t : ℕ) → List Field → Content → Step
  object_line t fs c = choose (has_code OBJE fs) (object_fields t fs c) (behind_objects t fs c)

  -- a point joins the table; 16: "no room for .. a point"
  unfoldable pub store_point : (kind : ℕ) → Underway → Content → Cells → Step
  store_point kind w c (refused number field) = no number field
  store_point kind w c (cells values) =
      refuse (ltb rooms.points (length c.points + 4)) (no 16 0)
      (go (line_of w) (with_point (point_cells kind values) c))

  -- a line of the line attribute under way, by what its code makes of the line state
  unfoldable pub attribute_line : Underway → List Field → Content → Move → Step
  attribute_line w fs c unexpected = no 7 1
  attribute_line w fs c undefined_line =
      refuse (not w.attribute.optional) (no 12 1)
      (bare fs
      (go (due_lines w.table w.first w.others) c))
  attribute_line w fs c ended =
      bare fs
      (go (due_lines w.table (point_count c) w.others) (with_line w c))
  attribute_line w fs c (point kind state) =
      refuse (is_forbidden w.attribute.forms w.state (line_code_of fs)) (no 18 1)
      (store_point kind (with_state state w) c (component_values m.undefined 2 w.attribute.components (drop 1 fs)))

  -- ENDE
  unfoldable pub closing_line : List Field → Content → Step
  closing_line fs c =
      refuse (not (has_code ENDE fs)) (no 7 1)
      (bare fs
      (go nothing c))

  -- one line, by what is due
  unfoldable pub line_due : Due → List ℕ → List Field → Content → Step
  line_due opening l fs c = opening_line fs c
  line_due description l fs c = description_line l fs c
  line_due transfer l fs c = transfer_line fs c
  line_due model_name l fs c = model_line fs c
  line_due (topic_from from) l fs c = topic_line from fs c
  line_due (table_from p from) l fs c = table_line p from fs c
  line_due (object_of t) l fs c = object_line t fs c
  line_due (line_of w) l fs c = attribute_line w fs c (move w.state (line_code_of fs))
  line_due closing l fs c = closing_line fs c
  line_due nothing l fs c = no 7 1

  unfoldable pub step_of : List ℕ → State → Step
  step_of l s = line_due s.due l (fields_of s.start l) s.content

-- ## The lines in order

-- behind some lines: the state, or the first refusal, its line and its field
pub data Run : Type 0 where
  ran : State → Run
  stopped : (number line field : ℕ) → Run

abbrev pub after_step : Step → List ℕ → State → (State → Run) → Run
after_step (go due c) l s next = next (behind l due c s)
after_step (no number field) l s next = stopped number s.line field

abbrev pub after_run : Run → (State → Run) → Run
after_run (ran s) next = next s
after_run (stopped number line field) next = stopped number line field

unfoldable pub run : Model → Rooms → (text : List ℕ) → State → List (List ℕ) → Run
run m rooms text s [] = ran s
run m rooms text s (l ∷ ls) = after_step (step_of m rooms text l s) l s (λ s'. run m rooms text s' ls)

-- behind the last line: 7 where a line is still due, "no line left (one past the last)"
unfoldable pub at_end : State → Run
at_end s = refuse (not (is_complete s.due)) (stopped 7 s.line 1) (ran s)

unfoldable pub read_lines : Model → Rooms → (text : List ℕ) → State → List (List ℕ) → Run
read_lines m rooms text s ls = after_run (run m rooms text s ls) (λ s'. at_end s')
