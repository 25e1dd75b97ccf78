-- What a line that was not refused is: its code, its fields, and what it does. Assumes nothing.
use Prim.Native.Nat.{ℕ, ◌+◌}
use native.Mathlib.Omega.{arith}
use mathlib.Core.Path.{◌≡◌, refl, sym, ap, subst, ◌∙◌}
use mathlib.Core.Bool.{Bool, true, false, not, false≢true}
use mathlib.Core.List.{List, [], ◌∷◌}
use lib.IntN.{ℤ, pos}
use lib.ListN.{length, drop}
use borrow.Author.Tests.{not-false, ltb-true, ltb-false}
use Rattle.meaning.specs.Bytes.{choose, refuse, prefix}
use Rattle.meaning.specs.Model.{Found, found, missing, Model, table_at}
use Rattle.meaning.specs.Field.{Field, fields_of, field_at, more_than, has_code, SCNT, slashes, MTID, MODL, TOPI, TABL, OBJE, ETAB, ETOP, EMOD, ENDE}
use Rattle.meaning.specs.Value.{is_undefined}
use Rattle.meaning.specs.Row.{pairs_of, Cells, cells, refused, pair_cells}
use Rattle.meaning.specs.Reading.{line_attributes, Due, opening, description, transfer, model_name, topic_from, table_from, object_of, closing, nothing, due_lines, Content, with_mark, with_row, point_count, Rooms, find_topic, find_table, mandatory_between, objects_of, is_used}
use Rattle.meaning.specs.Lines.{go, no, after_found, bare, named, opening_line, description_line, transfer_line, model_line, topic_line, topic_end, table_line, store_row, object_fields, behind_objects, object_line, closing_line, line_due}
use Rattle.meaning.specs.Right.{Line, Coded, Alone, Identification}
use Rattle.meaning.proofs.Tests.Unequal.{no_go}
use Rattle.meaning.proofs.Tests.Refuse.{passed, neither}
use Rattle.meaning.proofs.Tests.Same.{same_is}
use Rattle.meaning.proofs.Reading.PointsRead.{told_of}
use Rattle.meaning.proofs.Right.Steps.{step_at}

-- ## Fields of a line

pub record CodedBy (code : List ℕ) (l : Line) (fs : List Field) : Type 0 where
  pub others : List Field
  pub coded : Coded code l others
  pub behind : drop 1 fs ≡ others

pub coded_by : (code : List ℕ) (l : Line) (fs : List Field) → fields_of l.start l.bytes ≡ fs → has_code code fs ≡ true → CodedBy code l fs
unfolding has_code
coded_by code l [] e h = absurd (false≢true h)
coded_by code l (f ∷ fs) e h = record { others = fs; coded = record { first = f; fields = e; reads = sym (same_is code f.bytes h) }; behind = refl }

pub alone_of : (code : List ℕ) (l : Line) (fs : List Field) → fields_of l.start l.bytes ≡ fs → has_code code fs ≡ true → more_than 1 fs ≡ false → Alone code l
unfolding has_code
alone_of code l [] e h more = absurd (false≢true h)
alone_of code l (f ∷ []) e h more = record { first = f; fields = e; reads = sym (same_is code f.bytes h) }
alone_of code l (f ∷ (g ∷ fs)) e h more = absurd (omega (arith, ltb-false 1 (length (f ∷ (g ∷ fs))) more))

-- a code and one field
pub record Second (code : List ℕ) (l : Line) (fs : List Field) : Type 0 where
  pub field : Field
  pub coded : Coded code l (field ∷ [])
  pub at : field_at 2 fs ≡ field

pub second_of : (code : List ℕ) (l : Line) (fs : List Field) → fields_of l.start l.bytes ≡ fs → has_code code fs ≡ true → more_than 1 fs ≡ true → more_than 2 fs ≡ false → Second code l fs
unfolding has_code
second_of code l [] e h one two = absurd (false≢true h)
second_of code l (f ∷ []) e h one two = absurd (omega (arith, ltb-true 1 (length (f ∷ [])) one))
second_of code l (f ∷ (g ∷ [])) e h one two = record { field = g; coded = record { first = f; fields = e; reads = sym (same_is code f.bytes h) }; at = refl }
second_of code l (f ∷ (g ∷ (h' ∷ fs))) e h one two = absurd (omega (arith, ltb-false 2 (length (f ∷ (g ∷ (h' ∷ fs)))) two))

-- a code, an identification and other fields
pub record Identified (code : List ℕ) (l : Line) (fs : List Field) : Type 0 where
  pub field : Field
  pub others : List Field
  pub coded : Coded code l (field ∷ others)
  pub at : field_at 2 fs ≡ field
  pub behind : drop 2 fs ≡ others

pub identified : (code : List ℕ) (l : Line) (fs : List Field) → fields_of l.start l.bytes ≡ fs → has_code code fs ≡ true → more_than 1 fs ≡ true → Identified code l fs
unfolding has_code
identified code l [] e h one = absurd (false≢true h)
identified code l (f ∷ []) e h one = absurd (omega (arith, ltb-true 1 (length (f ∷ [])) one))
identified code l (f ∷ (g ∷ fs)) e h one = record { field = g; others = fs; coded = record { first = f; fields = e; reads = sym (same_is code f.bytes h) }; at = refl; behind = refl }

-- a code, and two fields or more
pub record Third (code : List ℕ) (l : Line) (fs : List Field) : Type 0 where
  pub field : Field
  pub next : Field
  pub others : List Field
  pub coded : Coded code l (field ∷ next ∷ others)
  pub at : field_at 2 fs ≡ field

pub third_of : (code : List ℕ) (l : Line) (fs : List Field) → fields_of l.start l.bytes ≡ fs → has_code code fs ≡ true → more_than 2 fs ≡ true → Third code l fs
unfolding has_code
third_of code l [] e h two = absurd (false≢true h)
third_of code l (f ∷ []) e h two = absurd (omega (arith, ltb-true 2 (length (f ∷ [])) two))
third_of code l (f ∷ (g ∷ [])) e h two = absurd (omega (arith, ltb-true 2 (length (f ∷ (g ∷ []))) two))
third_of code l (f ∷ (g ∷ (h' ∷ fs))) e h two = record { field = g; next = h'; others = fs; coded = record { first = f; fields = e; reads = sym (same_is code f.bytes h) }; at = refl }

-- ## What a line did

pub data FrameStep (m : Model) (l : Line) (c : Content) : Due → Due → Content → Type 0 where
  scnt : Alone SCNT l → FrameStep m l c opening description c
  described : prefix slashes l.bytes ≡ false → FrameStep m l c description description c
  ends : prefix slashes l.bytes ≡ true → Alone slashes l → FrameStep m l c description transfer c
  mtid : (f : Field) → Coded MTID l (f ∷ []) → f.bytes ≡ m.transfer → FrameStep m l c transfer model_name c
  modl : (f : Field) → Coded MODL l (f ∷ []) → f.bytes ≡ m.name → FrameStep m l c model_name (topic_from 0) c
  ende : Alone ENDE l → FrameStep m l c closing nothing c

pub data TopicStep (m : Model) (from : ℕ) (l : Line) (c : Content) : Due → Content → Type 0 where
  emod : Alone EMOD l → TopicStep m from l c closing c
  topi : (p : ℕ) (f : Field) → Coded TOPI l (f ∷ []) → find_topic from 0 f.bytes m.topics ≡ found p → TopicStep m from l c (table_from p 0) (with_mark p c)

pub data TableStep (m : Model) (p from : ℕ) (l : Line) (c : Content) : Due → Content → Type 0 where
  etop : Alone ETOP l → mandatory_between p from (length m.tables) 0 m.tables ≡ false → TableStep m p from l c (topic_from (p + 1)) c
  tabl : (t : ℕ) (f : Field) → Coded TABL l (f ∷ []) → find_table p from 0 f.bytes m.tables ≡ found t → mandatory_between p from t 0 m.tables ≡ false
      → TableStep m p from l c (object_of t) (with_mark (length m.topics + t) c)

pub data ObjectStep (m : Model) (own : List ℕ) (t : ℕ) (l : Line) (c : Content) : Due → Content → Type 0 where
  etab : Alone ETAB l → ObjectStep m own t l c (table_from (table_at m.tables t).topic (t + 1)) c
  obje : (i : Field) (fs : List Field) (xs : List ℤ) → Coded OBJE l (i ∷ fs) → Identification m.undefined i → is_used i.bytes (objects_of own c.cells c.rows) ≡ false
      → pair_cells m.undefined true 3 (pairs_of (table_at m.tables t).attributes) fs ≡ cells xs
      → ObjectStep m own t l c (due_lines t (point_count c) (line_attributes (length c.cells + 3) (pairs_of (table_at m.tables t).attributes)))
      (with_row (pos t ∷ pos i.start ∷ pos (length i.bytes) ∷ xs) c)

module _ (m : Model) (rooms : Rooms) (own : List ℕ) (l : Line) (c : Content) (due : Due) (x : Content) where
  abbrev fs : List Field
  fs = fields_of l.start l.bytes

  -- a bare line of a code
  pub bare_step : (P : Due → Content → Type 0) (code : List ℕ) (d : Due) (y : Content) → refuse (not (has_code code fs)) (no 7 1) (bare fs (go d y)) ≡ go due x → (Alone code l → P d y) → P due x
  unfolding bare
  bare_step P code d y e h =
      let a = passed _ _ _ _ (no_go 7 1 due x) e in
      let b = passed _ _ _ _ (no_go 11 2 due x) a.1 in
      told_of P d due y x b.1 (h (alone_of code l fs refl (not-false _ a.0) b.0))

  named_step : (P : Due → Content → Type 0) (code name : List ℕ) (d : Due) (y : Content) → has_code code fs ≡ true → named name fs (go d y) ≡ go due x
      → ((f : Field) → Coded code l (f ∷ []) → f.bytes ≡ name → P d y) → P due x
  unfolding named
  named_step P code name d y has e h =
      let b = passed _ _ _ _ (no_go 11 2 due x) e in
      let n = passed _ _ _ _ (no_go 9 2 due x) b.1 in
      let t = passed _ _ _ _ (no_go 11 3 due x) n.1 in
      let s = second_of code l fs refl has (not-false _ b.0) t.0 in
      told_of P d due y x t.1 (h s.field s.coded (ap (λ (f : Field). f.bytes) (sym s.at) ∙ same_is (field_at 2 fs).bytes name (not-false _ n.0)))

  pub opening_step : step_at m rooms own opening c l ≡ go due x → FrameStep m l c opening due x
  unfolding line_due opening_line
  opening_step e = bare_step (FrameStep m l c opening) SCNT description c e (λ h. scnt h)

  pub description_step : step_at m rooms own description c l ≡ go due x → FrameStep m l c description due x
  unfolding line_due description_line choose
  description_step e = by (prefix slashes l.bytes) refl e
    where
      by : (b : Bool) → prefix slashes l.bytes ≡ b → choose (not b) (go description c) (refuse (not (has_code slashes fs)) (no 7 1) (bare fs (go transfer c))) ≡ go due x → FrameStep m l c description due x
      by false h e = told_of (FrameStep m l c description) description due c x e (described h)
      by true h e = bare_step (FrameStep m l c description) slashes transfer c e (λ a. ends h a)

  pub transfer_step : step_at m rooms own transfer c l ≡ go due x → FrameStep m l c transfer due x
  unfolding line_due transfer_line
  transfer_step e =
      let a = passed _ _ _ _ (no_go 8 1 due x) e in
      let b = passed _ _ _ _ (no_go 7 1 due x) a.1 in
      named_step (FrameStep m l c transfer) MTID m.transfer model_name c (not-false _ b.0) b.1 (λ f h n. mtid f h n)

  pub model_step : step_at m rooms own model_name c l ≡ go due x → FrameStep m l c model_name due x
  unfolding line_due model_line
  model_step e =
      let b = passed _ _ _ _ (no_go 7 1 due x) e in
      named_step (FrameStep m l c model_name) MODL m.name (topic_from 0) c (not-false _ b.0) b.1 (λ f h n. modl f h n)

  pub closing_step : step_at m rooms own closing c l ≡ go due x → FrameStep m l c closing due x
  unfolding line_due closing_line
  closing_step e = bare_step (FrameStep m l c closing) ENDE nothing c e (λ h. ende h)

  pub topic_step : (from : ℕ) → step_at m rooms own (topic_from from) c l ≡ go due x → TopicStep m from l c due x
  unfolding line_due topic_line choose bare
  topic_step from e = by (has_code EMOD fs) refl e
    where
      found_one : (f : Found) → find_topic from 0 (field_at 2 fs).bytes m.topics ≡ f → has_code TOPI fs ≡ true → more_than 1 fs ≡ true
          → after_found f (no 9 2) (λ p. refuse (more_than 2 fs) (no 11 3) (go (table_from p 0) (with_mark p c))) ≡ go due x → TopicStep m from l c due x
      found_one missing g has more e = absurd (no_go 9 2 due x e)
      found_one (found p) g has more e =
          let t = passed _ _ _ _ (no_go 11 3 due x) e in
          let s = second_of TOPI l fs refl has more t.0 in
          told_of (TopicStep m from l c) (table_from p 0) due (with_mark p c) x t.1 (topi p s.field s.coded (subst (λ (f : Field). find_topic from 0 f.bytes m.topics ≡ found p) s.at g))

      by : (b : Bool) → has_code EMOD fs ≡ b → choose b (refuse (more_than 1 fs) (no 11 2) (go closing c)) (refuse (not (has_code TOPI fs)) (no 7 1) (refuse (not (more_than 1 fs)) (no 11 2)
          (after_found (find_topic from 0 (field_at 2 fs).bytes m.topics) (no 9 2) (λ p. refuse (more_than 2 fs) (no 11 3) (go (table_from p 0) (with_mark p c)))))) ≡ go due x → TopicStep m from l c due x
      by true h e = let a = passed _ _ _ _ (no_go 11 2 due x) e in told_of (TopicStep m from l c) closing due c x a.1 (emod (alone_of EMOD l fs refl h a.0))
      by false h e =
          let a = passed _ _ _ _ (no_go 7 1 due x) e in
          let b = passed _ _ _ _ (no_go 11 2 due x) a.1 in
          found_one _ refl (not-false _ a.0) (not-false _ b.0) b.1

  pub table_step : (p from : ℕ) → step_at m rooms own (table_from p from) c l ≡ go due x → TableStep m p from l c due x
  unfolding line_due table_line topic_end choose bare
  table_step p from e = by (has_code ETOP fs) refl e
    where
      found_one : (f : Found) → find_table p from 0 (field_at 2 fs).bytes m.tables ≡ f → has_code TABL fs ≡ true → more_than 1 fs ≡ true
          → after_found f (no 9 2) (λ t. refuse (mandatory_between p from t 0 m.tables) (no 10 2) (refuse (more_than 2 fs) (no 11 3) (go (object_of t) (with_mark (length m.topics + t) c)))) ≡ go due x
          → TableStep m p from l c due x
      found_one missing g has more e = absurd (no_go 9 2 due x e)
      found_one (found t) g has more e =
          let o = passed _ _ _ _ (no_go 10 2 due x) e in
          let z = passed _ _ _ _ (no_go 11 3 due x) o.1 in
          let s = second_of TABL l fs refl has more z.0 in
          told_of (TableStep m p from l c) (object_of t) due (with_mark (length m.topics + t) c) x z.1
          (tabl t s.field s.coded (subst (λ (f : Field). find_table p from 0 f.bytes m.tables ≡ found t) s.at g) o.0)

      by : (b : Bool) → has_code ETOP fs ≡ b → choose b (refuse (mandatory_between p from (length m.tables) 0 m.tables) (no 10 1) (refuse (more_than 1 fs) (no 11 2) (go (topic_from (p + 1)) c)))
          (refuse (not (has_code TABL fs)) (no 7 1) (refuse (not (more_than 1 fs)) (no 11 2)
          (after_found (find_table p from 0 (field_at 2 fs).bytes m.tables) (no 9 2)
          (λ t. refuse (mandatory_between p from t 0 m.tables) (no 10 2) (refuse (more_than 2 fs) (no 11 3) (go (object_of t) (with_mark (length m.topics + t) c))))))) ≡ go due x
          → TableStep m p from l c due x
      by true h e =
          let o = passed _ _ _ _ (no_go 10 1 due x) e in
          let a = passed _ _ _ _ (no_go 11 2 due x) o.1 in
          told_of (TableStep m p from l c) (topic_from (p + 1)) due c x a.1 (etop (alone_of ETOP l fs refl h a.0) o.0)
      by false h e =
          let a = passed _ _ _ _ (no_go 7 1 due x) e in
          let b = passed _ _ _ _ (no_go 11 2 due x) a.1 in
          found_one _ refl (not-false _ a.0) (not-false _ b.0) b.1

  pub object_step : (t : ℕ) → step_at m rooms own (object_of t) c l ≡ go due x → ObjectStep m own t l c due x
  unfolding line_due object_line object_fields behind_objects choose store_row
  object_step t e = by (has_code OBJE fs) refl e
    where
      stored : (s : Identified OBJE l fs) → Identification m.undefined s.field → is_used s.field.bytes (objects_of own c.cells c.rows) ≡ false
          → (k : Cells) → pair_cells m.undefined true 3 (pairs_of (table_at m.tables t).attributes) s.others ≡ k → store_row m rooms own t s.field c k ≡ go due x → ObjectStep m own t l c due x
      stored s d fresh (refused n f) g e = absurd (no_go n f due x e)
      stored s d fresh (cells xs) g e = told_of (ObjectStep m own t l c) _ due _ x (passed _ _ _ _ (no_go 16 0 due x) e).1 (obje s.field s.others xs s.coded d fresh g)

      known : (s : Identified OBJE l fs) → Identification m.undefined (field_at 2 fs) → is_used (field_at 2 fs).bytes (objects_of own c.cells c.rows) ≡ false
          → store_row m rooms own t (field_at 2 fs) c (pair_cells m.undefined true 3 (pairs_of (table_at m.tables t).attributes) (drop 2 fs)) ≡ go due x → ObjectStep m own t l c due x
      known s d fresh e = stored s (rw s.at at d) (rw s.at at fresh) _ refl (rw (s.at, s.behind) at e)

      by : (b : Bool) → has_code OBJE fs ≡ b → choose b (object_fields m rooms own t fs c) (behind_objects m rooms own t fs c) ≡ go due x → ObjectStep m own t l c due x
      by true h e =
          let a = passed _ _ _ _ (no_go 11 2 due x) e in
          let b = passed _ _ _ _ (no_go 12 2 due x) a.1 in
          let d = passed _ _ _ _ (no_go 13 2 due x) b.1 in
          let f = passed _ _ _ _ (no_go 15 2 due x) d.1 in
          let n = neither (is_undefined m.undefined (field_at 2 fs)) _ b.0 in
          let s = identified OBJE l fs refl h (not-false _ a.0) in
          let here : Identification m.undefined (field_at 2 fs) = record { defined = record { one = n.0; two = n.1 }; shape = not-false _ d.0 } in
          known s here f.0 f.1
      by false h e = bare_step (ObjectStep m own t l c) ETAB (table_from (table_at m.tables t).topic (t + 1)) c e (λ a. etab a)
