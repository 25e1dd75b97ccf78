-- What a step says of a line, by the place that a file has come to: it may follow and goes on, or it is refused for its reason or for want of room. Assumes nothing.
use Prim.Native.Nat.{ℕ, suc, ◌+◌}
use native.Mathlib.Omega.{arith}
use mathlib.Core.Path.{◌≡◌, refl, sym, ap, subst, ◌∙◌}
use mathlib.Core.Bool.{Bool, true, false, not, ◌||◌, true≢false}
use mathlib.Core.List.{List, [], ◌∷◌}
use lib.Dec.{eqb, leb, ltb}
use lib.ListN.{length, drop, length-append}
use borrow.Author.Tests.{not-true, not-false, leb-true, leb-false, ltb-true, ltb-false, eqb-true, eqb-false}
use Rattle.meaning.specs.Bytes.{choose, refuse, same}
use Rattle.meaning.specs.Model.{Component, Found, found, missing, Model, table_at}
use Rattle.meaning.specs.Field.{Field, fields_of, field_at, more_than, has_code, SCNT, slashes, MTID, MOTR, MODL, TOPI, TABL, OBJE, STPT, LIPT, ARCP, ELIN, ETAB, ETOP, EMOD, ENDE}
use Rattle.meaning.specs.Value.{is_undefined, is_undefined_twice, is_identification}
use Rattle.meaning.specs.Row.{Pair, OfAttribute, OfComponent, OfLine, Cells, pair_cells, component_values, point_cells}
use Rattle.meaning.specs.Reading.{LineState, unstarted, started, in_arc, reached, LineCode, stpt, lipt, arcp, elin, other, line_code_of, point, move, is_in_arc, is_forbidden, line_attributes, Underway, Due, opening, description, transfer, model_name, topic_from, table_from, object_of, line_of, closing, due_lines, with_state, Content, with_mark, point_count, with_line, Rooms, find_topic, find_table, mandatory_between, objects_of, is_used}
use Rattle.meaning.specs.Lines.{Step, go, no, after_found, bare, named, opening_line, description_line, transfer_line, model_line, topic_line, topic_end, table_line, store_row, object_fields, behind_objects, object_line, store_point, attribute_line, closing_line, line_due}
use Rattle.meaning.specs.Right.{Line, Coded, Defined, Identification}
use Rattle.meaning.specs.Reasons.{Place, start, in_description, before_transfer, before_model, topics_from, tables_from, objects_in, line_in, before_end, end, behind_pair, Bare, Titled, Drawing, behind_start, behind_point, Pointed, Gain, object, pairs_in, Used, Follows, codes_at, NoneOf, NeedsField, Reason, used_with, cells_with, points_with, Within}
use Rattle.meaning.proofs.Tests.Refuse.{neither, refuse_by, choose_keeps}
use Rattle.meaning.proofs.Tests.Same.{same_refl, same_is}
use Rattle.meaning.proofs.Tests.Unequal.{no_go}
use Rattle.meaning.proofs.Reading.PointsRead.{told_of}
use Rattle.meaning.proofs.Right.Steps.{step_at}
use Rattle.meaning.proofs.Right.Places.{At, UsedIn, Effect, Full, Went, Refused}
use Rattle.meaning.proofs.Reading.Buffers.{point_length}
use Rattle.meaning.proofs.Right.Names.{optional_passes, passes_optional}
use Rattle.meaning.proofs.Right.BackLines.{coded_by, alone_of, second_of, identified, third_of}
use Rattle.meaning.proofs.Right.BackPoints.{CodeOf, is_stpt, is_lipt, is_arcp, is_elin, is_other, code_of}
use Rattle.meaning.proofs.Right.StepFields.{FieldsJudged, fields_judged, not_defined, PointJudged, point_judged}
use Rattle.meaning.proofs.Right.StepNames.{topic_of_lem, no_topic_lem, table_of, no_table_lem, used_before, not_before, used_length}

-- what a step says of a line at a place
pub data Said (m : Model) (rooms : Rooms) (own : List ℕ) (used : List (List ℕ)) (due : Due) (c : Content) (x : Place) (l : Line) : Step → Type 0 where
  goes : {d : Due} {b : Content} → Went m rooms own used due c x l d b → Said m rooms own used due c x l (go d b)
  stops : {n k : ℕ} → Refused m rooms own used due c x l n k → Said m rooms own used due c x l (no n k)

-- ## Codes

-- a line of a code has it
pub coded_has : (code : List ℕ) (l : Line) (others : List Field) → Coded code l others → has_code code (fields_of l.start l.bytes) ≡ true
unfolding has_code
coded_has code l others k = rw (k.fields, k.reads) (same_refl code)

pub not_coded : (code : List ℕ) (l : Line) → has_code code (fields_of l.start l.bytes) ≡ false → (others : List Field) → Coded code l others → ⊥
not_coded code l h others k = true≢false (sym (coded_has code l others k) ∙ h)

abbrev is_description : Place → Bool
is_description start = false
is_description in_description = true
is_description before_transfer = false
is_description before_model = false
is_description (topics_from p) = false
is_description (tables_from p t) = false
is_description (objects_in t) = false
is_description (line_in t s o forms cs ps) = false
is_description before_end = false
is_description end = false

-- the codes of the lines of a line attribute differ
abbrev rank : LineCode → ℕ
rank stpt = 0
rank lipt = 1
rank arcp = 2
rank elin = 3
rank other = 4

abbrev code_bytes : LineCode → List ℕ
code_bytes stpt = STPT
code_bytes lipt = LIPT
code_bytes arcp = ARCP
code_bytes elin = ELIN
code_bytes other = []

code_is : (code : LineCode) (l : Line) (others : List Field) → Coded (code_bytes code) l others → line_code_of (fields_of l.start l.bytes) ≡ code
unfolding line_code_of has_code same choose
code_is stpt l others k = rw (k.fields, k.reads)
code_is lipt l others k = rw (k.fields, k.reads)
code_is arcp l others k = rw (k.fields, k.reads)
code_is elin l others k = rw (k.fields, k.reads)
code_is other l others k = rw (k.fields, k.reads)

-- a line of one of them has no other
no_code : (l : Line) (code another : LineCode) → line_code_of (fields_of l.start l.bytes) ≡ code → eqb (rank code) (rank another) ≡ false → (others : List Field) → Coded (code_bytes another) l others → ⊥
no_code l code another e h others k = eqb-false (rank code) (rank another) h (ap rank (sym e ∙ code_is another l others k))

-- ## The place behind the fields of an object or a line attribute

pub at_lines : (t k cell : ℕ) (ps : List Pair) → At (due_lines t k (line_attributes cell ps)) (behind_pair t ps)
unfolding due_lines line_attributes behind_pair
at_lines t k cell [] = At.at_objects
at_lines t k cell (OfAttribute o type ∷ ps) = at_lines t k (cell + 2) ps
at_lines t k cell (OfComponent c ∷ ps) = at_lines t k (cell + 2) ps
at_lines t k cell (OfLine o forms cs ∷ ps) = At.at_line _ (cell + 2) ps refl

-- ## Lines

module _ (m : Model) (rooms : Rooms) (own : List ℕ) (used : List (List ℕ)) (due : Due) (c : Content) (l : Line) (uses : UsedIn own c used)
    (room : Within rooms used (length c.cells) (length c.points)) where
  abbrev fs : List Field
  fs = fields_of l.start l.bytes

  abbrev Says : Place → Step → Type 0
  Says x s = Said m rooms own used due c x l s

  because : (x : Place) (n k : ℕ) → Reason m used x l n k → Says x (no n k)
  because x n k r = Said.stops (Refused.reason r)

  -- a line that adds nothing goes on
  goes_on : (x y : Place) (d : Due) (b : Content) → Follows m used x l y Gain.nothing → At d y → Effect Gain.nothing c b → Says x (go d b)
  unfolding used_with cells_with points_with
  goes_on x y d b f a e = Said.goes (record { place = y; gain = Gain.nothing; follows = f; at = a; effect = e; room = room })

  unchanged : Effect Gain.nothing c c
  unchanged = Effect.marked refl refl refl

  another : (x : Place) → is_description x ≡ false → NoneOf (codes_at x) l → Says x (no 7 1)
  another x h n = because x 7 1 (Reason.other_code (λ e. true≢false (sym (ap is_description e) ∙ h)) n)

  without : (code : List ℕ) → not (has_code code fs) ≡ true → (others : List Field) → Coded code l others → ⊥
  without code h = not_coded code l (not-true _ h)

  -- a line that has to be its code alone
  bare_says : (x y : Place) (code : List ℕ) (d : Due) (b : Content) → Bare m x code y → At d y → Effect Gain.nothing c b → has_code code fs ≡ true → Says x (bare fs (go d b))
  unfolding bare
  bare_says x y code d b w a e has = refuse_by (Says x) _ _ _ (λ more. because x 11 2 (Reason.behind_code w (identified code l fs refl has more).coded)) (λ none.
      goes_on x y d b (Follows.bare w (alone_of code l fs refl has none)) a e)

  -- a line that has to be its code and a name, which is right
  titled_says : (x y : Place) (code : List ℕ) (d : Due) (b : Content) → Titled m x code (field_at 2 fs).bytes y → At d y → Effect Gain.nothing c b → has_code code fs ≡ true → more_than 1 fs ≡ true
      → Says x (refuse (more_than 2 fs) (no 11 3) (go d b))
  titled_says x y code d b w a e has more = refuse_by (Says x) _ _ _ (λ two. let s = third_of code l fs refl has two in because x 11 3 (Reason.behind_name (rw s.at at w) s.coded)) (λ two.
      let s = second_of code l fs refl has more two in
      goes_on x y d b (Follows.titled (rw s.at at w) s.coded) a e)

  -- a line without the field that its code needs
  needs : (x : Place) (code : List ℕ) → NeedsField x code → has_code code fs ≡ true → not (more_than 1 fs) ≡ true → Says x (no 11 2)
  needs x code n has h = because x 11 2 (Reason.no_field n (alone_of code l fs refl has (not-true _ h)))

  named_says : (x y : Place) (code name : List ℕ) (d : Due) → Titled m x code name y → NeedsField x code → At d y
      → ((f : Field) (others : List Field) → Coded code l (f ∷ others) → (f.bytes ≡ name → ⊥) → Reason m used x l 9 2) → has_code code fs ≡ true → Says x (named name fs (go d c))
  unfolding named
  named_says x y code name d w n a wrong has = refuse_by (Says x) _ _ _ (needs x code n has) (λ none.
      let more = not-false _ none in
      let s = identified code l fs refl has more in
      refuse_by (Says x) _ _ _ (λ h. because x 9 2 (wrong s.field s.others s.coded (λ e. differs s.field s.at e (not-true _ h)))) (λ h.
      titled_says x y code d c (subst (λ (i : List ℕ). Titled m x code i y) (sym (same_is (field_at 2 fs).bytes name (not-false _ h))) w) a unchanged has more))
    where
      differs : (f : Field) → field_at 2 fs ≡ f → f.bytes ≡ name → same (field_at 2 fs).bytes name ≡ false → ⊥
      differs f e p h = true≢false (sym (rw (e, p) (same_refl name)) ∙ h)

  -- ## The frame

  opening_says : Says start (opening_line m rooms own fs c)
  unfolding opening_line codes_at
  opening_says = refuse_by (Says start) _ _ _ (λ h. another start refl (without SCNT h, tt)) (λ h. bare_says start in_description SCNT description c Bare.scnt At.at_description unchanged (not-false _ h))

  description_says : Says in_description (description_line m rooms own l.bytes fs c)
  unfolding description_line bare
  description_says = choose_keeps (Says in_description) _ _ _ (λ h. goes_on in_description in_description description c (Follows.described (not-true _ h)) At.at_description unchanged) (λ h.
      let p = not-false _ h in
      refuse_by (Says in_description) _ _ _ (λ h. because in_description 7 1 (Reason.other_division p (without slashes h))) (λ h.
      let has = not-false _ h in
      refuse_by (Says in_description) _ _ _ (λ more. because in_description 11 2 (Reason.behind_division p (identified slashes l fs refl has more).coded)) (λ none.
      goes_on in_description before_transfer transfer c (Follows.divided p (alone_of slashes l fs refl has none)) At.at_transfer unchanged)))

  transfer_says : Says before_transfer (transfer_line m rooms own fs c)
  unfolding transfer_line codes_at
  transfer_says = refuse_by (Says before_transfer) _ _ _ (λ h. because before_transfer 8 1 (Reason.motr (coded_by MOTR l fs refl h).coded)) (λ motr.
      refuse_by (Says before_transfer) _ _ _ (λ h. another before_transfer refl (without MTID h, (not_coded MOTR l motr, tt))) (λ h.
      named_says before_transfer before_model MTID m.transfer model_name Titled.mtid NeedsField.mtid At.at_model (λ f others k e. Reason.other_transfer k e) (not-false _ h)))

  model_says : Says before_model (model_line m rooms own fs c)
  unfolding model_line codes_at
  model_says = refuse_by (Says before_model) _ _ _ (λ h. another before_model refl (without MODL h, tt)) (λ h.
      named_says before_model (topics_from 0) MODL m.name (topic_from 0) Titled.modl NeedsField.modl At.at_topics (λ f others k e. Reason.other_model k e) (not-false _ h))

  closing_says : Says before_end (closing_line m rooms own fs c)
  unfolding closing_line codes_at
  closing_says = refuse_by (Says before_end) _ _ _ (λ h. another before_end refl (without ENDE h, tt)) (λ h. bare_says before_end end ENDE Due.nothing c Bare.ende At.at_nothing unchanged (not-false _ h))

  -- ## Topics and tables

  topic_says : (from : ℕ) → Says (topics_from from) (topic_line m rooms own from fs c)
  unfolding topic_line codes_at
  topic_says from = choose_keeps (Says x) _ _ _ (λ h. bare_says x before_end EMOD closing c Bare.emod At.at_closing unchanged h) (λ emod.
      refuse_by (Says x) _ _ _ (λ h. another x refl (without TOPI h, (not_coded EMOD l emod, tt))) (λ h.
      let has = not-false _ h in
      refuse_by (Says x) _ _ _ (needs x TOPI NeedsField.topi has) (λ none.
      by (find_topic from 0 (field_at 2 fs).bytes m.topics) refl has (not-false _ none))))
    where
      x : Place
      x = topics_from from

      by : (f : Found) → find_topic from 0 (field_at 2 fs).bytes m.topics ≡ f → has_code TOPI fs ≡ true → more_than 1 fs ≡ true
          → Says (topics_from from) (after_found f (no 9 2) (λ p. refuse (more_than 2 fs) (no 11 3) (go (table_from p 0) (with_mark p c))))
      by missing e has more = let s = identified TOPI l fs refl has more in because (topics_from from) 9 2 (Reason.no_topic s.coded (no_topic_lem m from s.field.bytes (rw s.at at e)))
      by (found p) e has more = titled_says (topics_from from) (tables_from p 0) TOPI (table_from p 0) (with_mark p c) (Titled.topi (topic_of_lem m from _ p e)) At.at_tables (Effect.marked refl refl refl) has more

  table_says : (p from : ℕ) → Says (tables_from p from) (table_line m rooms own p from fs c)
  unfolding table_line topic_end codes_at
  table_says p from = choose_keeps (Says (tables_from p from)) _ _ _ (λ has.
      refuse_by (Says (tables_from p from)) _ _ _ (λ h. because (tables_from p from) 10 1 (Reason.skipped_last (coded_by ETOP l fs refl has).coded (λ o. true≢false (sym h ∙ optional_passes m p from (length m.tables) o)))) (λ h.
      bare_says (tables_from p from) (topics_from (p + 1)) ETOP (topic_from (p + 1)) c (Bare.etop (passes_optional m p from (length m.tables) h)) At.at_topics unchanged has)) (λ etop.
      refuse_by (Says (tables_from p from)) _ _ _ (λ h. another (tables_from p from) refl (without TABL h, (not_coded ETOP l etop, tt))) (λ h.
      let has = not-false _ h in
      refuse_by (Says (tables_from p from)) _ _ _ (needs (tables_from p from) TABL NeedsField.tabl has) (λ none.
      by (find_table p from 0 (field_at 2 fs).bytes m.tables) refl has (not-false _ none))))
    where
      by : (f : Found) → find_table p from 0 (field_at 2 fs).bytes m.tables ≡ f → has_code TABL fs ≡ true → more_than 1 fs ≡ true
          → Says (tables_from p from) (after_found f (no 9 2) (λ t. refuse (mandatory_between p from t 0 m.tables) (no 10 2) (refuse (more_than 2 fs) (no 11 3) (go (object_of t) (with_mark (length m.topics + t) c)))))
      by missing e has more = let s = identified TABL l fs refl has more in because (tables_from p from) 9 2 (Reason.no_table s.coded (no_table_lem m p from s.field.bytes (rw s.at at e)))
      by (found t) e has more =
          let s = identified TABL l fs refl has more in
          refuse_by (Says (tables_from p from)) _ _ _ (λ h.
          because (tables_from p from) 10 2 (Reason.skipped s.coded (table_of m p from s.field.bytes t (rw s.at at e)) (λ o. true≢false (sym h ∙ optional_passes m p from t o)))) (λ h.
          titled_says (tables_from p from) (objects_in t) TABL (object_of t) (with_mark (length m.topics + t) c) (Titled.tabl (table_of m p from _ t e) (passes_optional m p from t h)) At.at_objects (Effect.marked refl refl refl) has more)

  -- ## Objects

  -- room for an object's row, or none
  row_room : (i : List ℕ) (n : ℕ) → (leb rooms.rows (length c.rows) || ltb rooms.cells (length c.cells + n)) ≡ false
      → Within rooms (used_with (object i n) used) (cells_with (object i n) (length c.cells)) (points_with (object i n) (length c.points))
  unfolding used_with cells_with points_with
  row_room i n h =
      let r = neither (leb rooms.rows (length c.rows)) _ h in
      let rows = leb-false rooms.rows (length c.rows) r.0 in
      let size = length-append used (i ∷ []) in
      let count = used_length own c used uses in
      record { for_rows = omega arith; for_cells = ltb-false rooms.cells (length c.cells + n) r.1; for_points = room.for_points }

  row_full : (i : List ℕ) (n : ℕ) → (leb rooms.rows (length c.rows) || ltb rooms.cells (length c.cells + n)) ≡ true → Full rooms c used (object i n)
  unfolding used_with cells_with points_with
  row_full i n h w = by (leb rooms.rows (length c.rows)) refl h
    where
      by : (x : Bool) → leb rooms.rows (length c.rows) ≡ x → (x || ltb rooms.cells (length c.cells + n)) ≡ true → ⊥
      by true e h =
          let rows = w.for_rows in
          let size = length-append used (i ∷ []) in
          let count = used_length own c used uses in
          let low = leb-true rooms.rows (length c.rows) e in
          omega arith
      by false e h =
          let cells' = w.for_cells in
          let high = ltb-true rooms.cells (length c.cells + n) h in
          omega arith

  store_says : (t : ℕ) (i : Field) (others : List Field) → Coded OBJE l (i ∷ others) → Identification m.undefined i → (Used i.bytes used → ⊥)
      → (k : Cells) → FieldsJudged m.undefined true 3 (pairs_in m t) others k → Says (objects_in t) (store_row m rooms own t i c k)
  unfolding store_row
  store_says t i others coded d fresh _ (FieldsJudged.because {n = n} {k = k} r) = because (objects_in t) n k (Reason.of_fields coded d fresh r)
  store_says t i others coded d fresh _ (FieldsJudged.right {xs = xs} r long) = refuse_by (Says (objects_in t)) _ _ _ (λ h. Said.stops (Refused.full follows (row_full i.bytes (3 + length xs) (rw three at h)))) (λ h.
      Said.goes (record { place = behind_pair t (pairs_in m t); gain = object i.bytes (3 + length xs); follows = follows; at = at_lines t (point_count c) _ (pairs_in m t); effect = Effect.stored t i xs; room = row_room i.bytes (3 + length xs) (rw three at h) }))
    where
      three : suc (suc (suc (length xs))) ≡ 3 + length xs
      three = omega arith

      follows : Follows m used (objects_in t) l (behind_pair t (pairs_in m t)) (object i.bytes (3 + length xs))
      follows = rw long (Follows.obje coded d fresh r)

  object_says : (t : ℕ) → Says (objects_in t) (object_line m rooms own t fs c)
  unfolding object_line object_fields behind_objects codes_at
  object_says t = choose_keeps (Says (objects_in t)) _ _ _ (λ has.
      refuse_by (Says (objects_in t)) _ _ _ (needs (objects_in t) OBJE NeedsField.obje has) (λ none.
      let s = identified OBJE l fs refl has (not-false _ none) in
      rw (s.at, s.behind) (by s.field s.others s.coded))) (λ obje.
      refuse_by (Says (objects_in t)) _ _ _ (λ h. another (objects_in t) refl (not_coded OBJE l obje, (without ETAB h, tt))) (λ h.
      bare_says (objects_in t) (tables_from (table_at m.tables t).topic (t + 1)) ETAB (table_from (table_at m.tables t).topic (t + 1)) c Bare.etab At.at_tables unchanged (not-false _ h)))
    where
      by : (i : Field) (others : List Field) → Coded OBJE l (i ∷ others)
          → Says (objects_in t) (refuse (is_undefined m.undefined i || is_undefined_twice m.undefined i) (no 12 2) (refuse (not (is_identification i.bytes)) (no 13 2)
          (refuse (is_used i.bytes (objects_of own c.cells c.rows)) (no 15 2) (store_row m rooms own t i c (pair_cells m.undefined true 3 (pairs_in m t) others)))))
      by i others coded = refuse_by (Says (objects_in t)) _ _ _ (λ h. because (objects_in t) 12 2 (Reason.undefined_identification coded (not_defined m.undefined i h))) (λ h.
          let n = neither (is_undefined m.undefined i) _ h in
          let d : Defined m.undefined i = record { one = n.0; two = n.1 } in
          refuse_by (Says (objects_in t)) _ _ _ (λ h. because (objects_in t) 13 2 (Reason.no_identification coded d (not-true _ h))) (λ h.
          let e : Identification m.undefined i = record { defined = d; shape = not-false _ h } in
          refuse_by (Says (objects_in t)) _ _ _ (λ h. because (objects_in t) 15 2 (Reason.used_twice coded e (used_before own c used uses i.bytes h))) (λ h.
          store_says t i others coded e (not_before own c used uses i.bytes h) _ (fields_judged m.undefined (pairs_in m t) others true 3))))

  -- ## The lines of a line attribute

  point_room_lem : ltb rooms.points (length c.points + 4) ≡ false → Within rooms (used_with Gain.point used) (cells_with Gain.point (length c.cells)) (points_with Gain.point (length c.points))
  unfolding used_with cells_with points_with
  point_room_lem h = record { for_rows = room.for_rows; for_cells = room.for_cells; for_points = ltb-false rooms.points (length c.points + 4) h }

  point_full : ltb rooms.points (length c.points + 4) ≡ true → Full rooms c used Gain.point
  unfolding used_with cells_with points_with
  point_full h w = omega (arith, ltb-true rooms.points (length c.points + 4) h, w.for_points)

  -- a line of a point
  point_says : (x y : Place) (code : List ℕ) (cs : List Component) (kind : ℕ) (w : Underway) → Pointed x code cs y → At (line_of w) y → has_code code fs ≡ true
      → Says x (store_point m rooms own kind w c (component_values m.undefined 2 cs (drop 1 fs)))
  unfolding store_point
  point_says x y code cs kind w p a has =
      let b = coded_by code l fs refl has in
      rw b.behind (by b.others b.coded _ (point_judged m.undefined cs b.others 2))
    where
      by : (others : List Field) → Coded code l others → (k : Cells) → PointJudged m.undefined 2 cs others k → Says x (store_point m rooms own kind w c k)
      by others coded _ (PointJudged.because {n = n} {k = k} r) = because x n k (Reason.of_point p coded r)
      by others coded _ (PointJudged.right {vs = vs} v) =
          let follows = Follows.pointed p (record { others = others; coded = coded; values = v }) in
          refuse_by (Says x) _ _ _ (λ h. Said.stops (Refused.full follows (point_full h))) (λ h.
          Said.goes (record { place = y; gain = Gain.point; follows = follows; at = a; effect = Effect.pointed (point_cells kind vs) (point_length kind vs); room = point_room_lem h }))

  module _ (w : Underway) (cell : ℕ) (ps : List Pair) (others : w.others ≡ line_attributes cell ps) where
    abbrev at : LineState → Place
    at state = line_in w.table state w.attribute.optional w.attribute.forms w.attribute.components ps

    at_way : (state : LineState) → At (line_of (with_state state w)) (at state)
    at_way state = At.at_line (with_state state w) cell ps others

    at_behind : (k : ℕ) → At (due_lines w.table k w.others) (behind_pair w.table ps)
    at_behind k = rw others (at_lines w.table k cell ps)

    -- LIPT or ARCP where a segment may begin
    straight_says : (state : LineState) → Drawing state → is_in_arc state ≡ false → line_code_of fs ≡ lipt → has_code LIPT fs ≡ true → Says (at state) (attribute_line m rooms own (with_state state w) fs c (point 1 reached))
    unfolding attribute_line is_forbidden
    straight_says state d out is has =
        rw (is, out) (refuse_by (Says (at state)) _ _ _ (λ h. because (at state) 18 1 (rw (eqb-true w.attribute.forms 2 h) (Reason.no_straights d (coded_by LIPT l fs refl has).coded))) (λ h.
        point_says (at state) (at reached) LIPT w.attribute.components 1 (with_state reached w) (Pointed.straight d (eqb-false w.attribute.forms 2 h)) (at_way reached) has))

    arc_says : (state : LineState) → Drawing state → line_code_of fs ≡ arcp → has_code ARCP fs ≡ true → Says (at state) (attribute_line m rooms own (with_state state w) fs c (point 2 in_arc))
    unfolding attribute_line is_forbidden
    arc_says state d is has =
        rw is (refuse_by (Says (at state)) _ _ _ (λ h. because (at state) 18 1 (rw (eqb-true w.attribute.forms 1 h) (Reason.no_arcs d (coded_by ARCP l fs refl has).coded))) (λ h.
        point_says (at state) (at in_arc) ARCP w.attribute.components 2 (with_state in_arc w) (Pointed.arc d (eqb-false w.attribute.forms 1 h)) (at_way in_arc) has))

    -- ELIN before STPT
    undrawn_says : has_code ELIN fs ≡ true → Says (at unstarted) (refuse (not w.attribute.optional) (no 12 1) (bare fs (go (due_lines w.table w.first w.others) c)))
    undrawn_says has = refuse_by (Says (at unstarted)) _ _ _ (λ h. because (at unstarted) 12 1 (rw (not-true w.attribute.optional h) (Reason.undrawn (coded_by ELIN l fs refl has).coded))) (λ h.
        bare_says (at unstarted) (behind_pair w.table ps) ELIN _ c (rw (not-false w.attribute.optional h) Bare.undrawn) (at_behind w.first) unchanged has)

    seven : (state : LineState) → NoneOf (codes_at (at state)) l → Says (at state) (no 7 1)
    seven state n = another (at state) refl n

    by_code : (state : LineState) (code : LineCode) → line_code_of fs ≡ code → CodeOf fs code → Says (at state) (attribute_line m rooms own (with_state state w) fs c (move state code))
    unfolding move attribute_line codes_at is_forbidden is_in_arc refuse
    by_code unstarted _ e (is_stpt has) = rw e (point_says (at unstarted) (at started) STPT w.attribute.components 0 (with_state started w) Pointed.stpt (at_way started) has)
    by_code unstarted _ e (is_lipt has) = seven unstarted (no_code l _ stpt e refl, (no_code l _ elin e refl, tt))
    by_code unstarted _ e (is_arcp has) = seven unstarted (no_code l _ stpt e refl, (no_code l _ elin e refl, tt))
    by_code unstarted _ e (is_elin has) = undrawn_says has
    by_code unstarted _ e is_other = seven unstarted (no_code l _ stpt e refl, (no_code l _ elin e refl, tt))
    by_code started _ e (is_stpt has) = seven started (no_code l _ lipt e refl, (no_code l _ arcp e refl, tt))
    by_code started _ e (is_lipt has) = straight_says started behind_start refl e has
    by_code started _ e (is_arcp has) = arc_says started behind_start e has
    by_code started _ e (is_elin has) = seven started (no_code l _ lipt e refl, (no_code l _ arcp e refl, tt))
    by_code started _ e is_other = seven started (no_code l _ lipt e refl, (no_code l _ arcp e refl, tt))
    by_code in_arc _ e (is_stpt has) = seven in_arc (no_code l _ lipt e refl, tt)
    by_code in_arc _ e (is_lipt has) = rw e (point_says (at in_arc) (at reached) LIPT w.attribute.components 1 (with_state reached w) Pointed.arc_end (at_way reached) has)
    by_code in_arc _ e (is_arcp has) = seven in_arc (no_code l _ lipt e refl, tt)
    by_code in_arc _ e (is_elin has) = seven in_arc (no_code l _ lipt e refl, tt)
    by_code in_arc _ e is_other = seven in_arc (no_code l _ lipt e refl, tt)
    by_code reached _ e (is_stpt has) = seven reached (no_code l _ lipt e refl, (no_code l _ arcp e refl, (no_code l _ elin e refl, tt)))
    by_code reached _ e (is_lipt has) = straight_says reached behind_point refl e has
    by_code reached _ e (is_arcp has) = arc_says reached behind_point e has
    by_code reached _ e (is_elin has) = bare_says (at reached) (behind_pair w.table ps) ELIN _ (with_line (with_state reached w) c) Bare.elin (at_behind (point_count c)) (Effect.drawn (with_state reached w)) has
    by_code reached _ e is_other = seven reached (no_code l _ lipt e refl, (no_code l _ arcp e refl, (no_code l _ elin e refl, tt)))

    line_says : Says (at w.state) (attribute_line m rooms own w fs c (move w.state (line_code_of fs)))
    line_says = by_code w.state (line_code_of fs) refl (code_of fs)

-- ## Every line

pub said : (m : Model) (rooms : Rooms) (own : List ℕ) (used : List (List ℕ)) (due : Due) (c : Content) (x : Place) (l : Line) → At due x → UsedIn own c used
    → Within rooms used (length c.cells) (length c.points) → Said m rooms own used due c x l (step_at m rooms own due c l)
unfolding line_due codes_at
said m rooms own used _ c _ l At.at_start uses room = opening_says m rooms own used opening c l uses room
said m rooms own used _ c _ l At.at_description uses room = description_says m rooms own used description c l uses room
said m rooms own used _ c _ l At.at_transfer uses room = transfer_says m rooms own used transfer c l uses room
said m rooms own used _ c _ l At.at_model uses room = model_says m rooms own used model_name c l uses room
said m rooms own used _ c _ l (At.at_topics {p = p}) uses room = topic_says m rooms own used (topic_from p) c l uses room p
said m rooms own used _ c _ l (At.at_tables {p = p} {t = t}) uses room = table_says m rooms own used (table_from p t) c l uses room p t
said m rooms own used _ c _ l (At.at_objects {t = t}) uses room = object_says m rooms own used (object_of t) c l uses room t
said m rooms own used _ c _ l (At.at_line w cell ps others) uses room = line_says m rooms own used (line_of w) c l uses room w cell ps others
said m rooms own used _ c _ l At.at_closing uses room = closing_says m rooms own used closing c l uses room
said m rooms own used _ c _ l At.at_nothing uses room = another m rooms own used Due.nothing c l uses room end refl tt

-- a line that goes on may follow
pub went : (m : Model) (rooms : Rooms) (own : List ℕ) (used : List (List ℕ)) (due : Due) (c : Content) (x : Place) (l : Line) → At due x → UsedIn own c used
    → Within rooms used (length c.cells) (length c.points) → (d : Due) (b : Content) → step_at m rooms own due c l ≡ go d b → Went m rooms own used due c x l d b
went m rooms own used due c x l at uses room d b e = by _ (said m rooms own used due c x l at uses room) e
  where
    by : (s : Step) → Said m rooms own used due c x l s → s ≡ go d b → Went m rooms own used due c x l d b
    by _ (Said.goes w) e = told_of (Went m rooms own used due c x l) _ d _ b e w
    by _ (Said.stops r) e = absurd (no_go _ _ d b e)

-- a line that is refused is refused for its reason, or for want of room
pub refused : (m : Model) (rooms : Rooms) (own : List ℕ) (used : List (List ℕ)) (due : Due) (c : Content) (x : Place) (l : Line) → At due x → UsedIn own c used
    → Within rooms used (length c.cells) (length c.points) → (n k : ℕ) → step_at m rooms own due c l ≡ no n k → Refused m rooms own used due c x l n k
refused m rooms own used due c x l at uses room n k e = by _ (said m rooms own used due c x l at uses room) e
  where
    by : (s : Step) → Said m rooms own used due c x l s → s ≡ no n k → Refused m rooms own used due c x l n k
    by _ (Said.goes w) e = absurd (no_go n k _ _ (sym e))
    by _ (Said.stops {n = n'} {k = k'} r) e =
        let p : n' ≡ n = cc in
        let q : k' ≡ k = cc in
        subst (λ (y : ℕ). Refused m rooms own used due c x l n y) q (subst (λ (y : ℕ). Refused m rooms own used due c x l y k') p r)
