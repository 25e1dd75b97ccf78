-- The fields of an OBJE line: the identification, 15, and the row. Assumes nothing.
use Prim.Native.Nat.{ℕ, ◌+◌, ◌-◌, ◌≤◌}
use native.Mathlib.Omega.{arith}
use mathlib.Core.Path.{◌≡◌, refl, sym, ap, subst, ◌∙◌}
use mathlib.Core.Bool.{true, false}
use mathlib.Core.List.{List, [], ◌∷◌}
use lib.IntN.{ℤ}
use lib.ListN.{length, take, drop, length-drop}
use lib.Seq.{take-take, drop-drop, length-take-le}
use Rattle.meaning.specs.Bytes.{refuse}
use Rattle.meaning.specs.Model.{Model, table_at}
use Rattle.meaning.specs.Field.{Field, fields_of, field_at}
use Rattle.meaning.specs.Row.{pairs_of, pair_cells}
use Rattle.meaning.specs.Reading.{stretch, objects_of, is_used, Content, Rooms}
use Rattle.meaning.specs.Lines.{Step, no, store_row, object_fields}
use Rattle.model_records.specs.Records.{model_at, pairs_at}
use Rattle.value_read.specs.Meant.{field_of}
use Rattle.table_index.specs.Holds.{IndexedTable}
use Rattle.read_objects.specs.declared.OpenTable.{OpenTable}
use Rattle.read_state.specs.declared.State.{State}
use Rattle.std.specs.Prelude.{Result, Ok, Err}
use Rattle.base.specs.declared.parts.Part.{Part}
use Rattle.base.specs.declared.reasons.Reason.{Reason}
use Rattle.base.specs.declared.reasons.Reason.TheVariants.{IdentificationTwice}
use Rattle.base.specs.declared.reasons.Refusal.{Refusal}
use Rattle.base.specs.Reasons.{number_of}
use Rattle.read_objects.specs.Tables.{TableHolds}
use Rattle.read_frame.proofs.Moves.{behind_more, behind_at}
use Rattle.read_objects.specs.Names.{identify_in, IdentifiedAt, Identifies}
use Rattle.read_objects.specs.Rows.{RowAdds}
use Rattle.meaning.proofs.Lists.{drop-take}

-- ## Parts of the text

-- the part from a later byte on
pub part_behind : (text : List ℕ) (at end k : ℕ) → drop k (stretch text at (end - at)) ≡ stretch text (at + k) (end - (at + k))
part_behind text at end k =
    let e : end - at - k ≡ end - (at + k) = omega arith in
    drop-take k (end - at) (drop at text) ∙ rw (drop-drop k at text, e)

-- the first bytes of the part from a later byte on
part_first : (text : List ℕ) (from end a size : ℕ) → a + size ≤ end - from → take size (drop a (stretch text from (end - from))) ≡ stretch text (from + a) size
part_first text from end a size h = ap (take size) (part_behind text from end a) ∙ take-take size (end - (from + a)) (drop (from + a) text) (omega arith)

pub part_size : (text : List ℕ) (from end : ℕ) → from ≤ end → end ≤ length text → length (stretch text from (end - from)) ≡ end - from
part_size text from end l h = length-take-le (end - from) (drop from text) (omega (arith, length-drop from text))

pub identified : (u : ℕ) (rest : List ℕ) (r : Result Part Reason) (part : Part) → r ≡ Ok part → Identifies u rest r → IdentifiedAt u rest part.start part.len
identified u rest r part e i = subst (Identifies u rest) e i

pub named_within : (text : List ℕ) (from end u a size : ℕ) → IdentifiedAt u (stretch text from (end - from)) a size → from ≤ end → end ≤ length text → from + a + size ≤ end
named_within text from end u a size i within in_text = omega (arith, i.first.within, part_size text from end within in_text)

-- ## What the line means

-- behind the identification's shape: 15, and the row
abbrev behind_shape : Model → Rooms → (text : List ℕ) (t : ℕ) → Field → List Field → Content → Step
behind_shape m rooms text t i fs c = refuse (is_used i.bytes (objects_of text c.cells c.rows)) (no 15 2) (store_row m rooms text t i c (pair_cells m.undefined true 3 (pairs_of (table_at m.tables t).attributes) fs))

two_behind : (fs : List Field) → drop 2 fs ≡ drop 1 (drop 1 fs)
two_behind [] = refl
two_behind (f ∷ fs) = refl

object_is : (m : Model) (rooms : Rooms) (text : List ℕ) (t : ℕ) (fs : List Field) (c : Content) → 1 ≤ length fs
    → object_fields m rooms text t fs c ≡ identify_in m.undefined (drop 1 fs) (behind_shape m rooms text t (field_at 1 (drop 1 fs)) (drop 1 (drop 1 fs)) c)
unfolding object_fields identify_in
object_is m rooms text t fs c h = rw (behind_more fs 0 h, behind_at fs h, two_behind fs)

-- ## The line

module _ (b text : List ℕ) (seed : ℕ) (here : OpenTable) (s : State) (at end behind u : ℕ) (rows rows' : List ℕ) (cs cs' : List ℤ) (index index' : List ℕ)
    (undefined : u ≡ (model_at b).undefined) (some : 1 ≤ length (fields_of at (stretch text at (end - at))))
    (others : drop 1 (fields_of at (stretch text at (end - at))) ≡ fields_of (at + behind) (drop behind (stretch text at (end - at)))) where
  abbrev whole : Rooms → Content → Step
  whole = λ rooms c. object_fields (model_at b) rooms text here.table (fields_of at (stretch text at (end - at))) c

  rest_fields : drop 1 (fields_of at (stretch text at (end - at))) ≡ fields_of (at + behind) (stretch text (at + behind) (end - (at + behind)))
  rest_fields = others ∙ ap (fields_of (at + behind)) (part_behind text at end behind)

  whole_is : (rooms : Rooms) (c : Content) → whole rooms c ≡ identify_in u (fields_of (at + behind) (stretch text (at + behind) (end - (at + behind))))
      (behind_shape (model_at b) rooms text here.table (field_at 1 (fields_of (at + behind) (stretch text (at + behind) (end - (at + behind))))) (drop 1 (fields_of (at + behind) (stretch text (at + behind) (end - (at + behind))))) c)
  whole_is rooms c =
      object_is (model_at b) rooms text here.table (fields_of at (stretch text at (end - at))) c some
      ∙ ap (λ (fs : List Field). identify_in (model_at b).undefined fs (behind_shape (model_at b) rooms text here.table (field_at 1 fs) (drop 1 fs) c)) rest_fields
      ∙ ap (λ (v : ℕ). identify_in v (fields_of (at + behind) (stretch text (at + behind) (end - (at + behind)))) (behind_shape (model_at b) rooms text here.table (field_at 1 (fields_of (at + behind) (stretch text (at + behind) (end - (at + behind))))) (drop 1 (fields_of (at + behind) (stretch text (at + behind) (end - (at + behind))))) c)) (sym undefined)

  pub unnamed : (f : Refusal) (r : Result Part Reason) → r ≡ Err f.reason → f.field ≡ 2 → Identifies u (stretch text (at + behind) (end - (at + behind))) r → RowAdds b text seed s whole rows rows' cs cs' index index' (Err f)
  unnamed f r e g i =
      let h : (p : ℕ) (next : Step) → identify_in u (fields_of p (stretch text (at + behind) (end - (at + behind)))) next ≡ no (number_of f.reason) 2 = subst (Identifies u (stretch text (at + behind) (end - (at + behind)))) e i in
      record { step = λ j rooms marks points x y z. rw g (sym (whole_is rooms _ ∙ h (at + behind) _)); holds = λ marks points held. tt }

  -- what `add_object` does
  abbrev adding : (a size : ℕ) → Rooms → Content → Step
  adding a size = λ rooms c. refuse (is_used (stretch text (at + behind + a) size) (objects_of text c.cells c.rows)) (no 15 2) (store_row (model_at b) rooms text here.table (field_of (at + behind + a) (stretch text (at + behind + a) size)) c (pair_cells u true 3 (pairs_at b here.at) (fields_of (at + behind + a + size) (stretch text (at + behind + a + size) (end - (at + behind + a + size))))))

  module _ (a size : ℕ) (i : IdentifiedAt u (stretch text (at + behind) (end - (at + behind))) a size) (within : at + behind ≤ end) (in_text : end ≤ length text) where
    rest_is : fields_of (at + behind) (stretch text (at + behind) (end - (at + behind))) ≡ field_of (at + behind + a) (stretch text (at + behind + a) size) ∷ fields_of (at + behind + a + size) (stretch text (at + behind + a + size) (end - (at + behind + a + size)))
    rest_is =
        let e : at + behind + (a + size) ≡ at + behind + a + size = omega arith in
        i.first.first (at + behind)
        ∙ rw (part_first text (at + behind) end a size (omega (arith, named_within text (at + behind) end u a size i within in_text)), part_behind text (at + behind) end (a + size), e)

    adding_is : TableHolds (model_at b) b here → (rooms : Rooms) (c : Content) → adding a size rooms c ≡ whole rooms c
    adding_is t rooms c = sym (whole_is rooms c ∙ i.goes_on (at + behind) _ ∙ rw (rest_is, ← undefined, ← t.attributes))

    pub named : TableHolds (model_at b) b here → (r : Result State Refusal) → RowAdds b text seed s (adding a size) rows rows' cs cs' index index' r → RowAdds b text seed s whole rows rows' cs cs' index index' r
    named t r d = record { step = λ j rooms marks points x y z. d.step j rooms marks points x y z ∙ adding_is t rooms _; holds = d.holds }

-- ## 15

module _ (b text : List ℕ) (seed : ℕ) (s : State) (i : List ℕ) (rows : List ℕ) (cs : List ℤ) (index : List ℕ) (held : IndexedTable seed text s.rows s.cells rows cs index)
    (next : Rooms → Content → Step) (rows' : List ℕ) (cs' : List ℤ) (index' : List ℕ) where
  abbrev judged : Rooms → Content → Step
  judged = λ rooms c. refuse (is_used i (objects_of text c.cells c.rows)) (no 15 2) (next rooms c)

  pub used_before : is_used i (objects_of text (take s.cells cs) (take s.rows rows)) ≡ true → RowAdds b text seed s judged rows rows' cs cs' index index' (Err (record { reason = IdentificationTwice; field = 2 }))
  unfolding refuse
  used_before e = record { step = λ j rooms marks points x y z. rw e; holds = λ marks points h. tt }

  pub unused : (r : Result State Refusal) → is_used i (objects_of text (take s.cells cs) (take s.rows rows)) ≡ false → RowAdds b text seed s next rows rows' cs cs' index index' r → RowAdds b text seed s judged rows rows' cs cs' index index' r
  unfolding refuse
  unused r e d = record { step = λ j rooms marks points x y z. rw e (d.step j rooms marks points x y z); holds = d.holds }
