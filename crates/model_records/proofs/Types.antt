-- Parameters of a type: where they lie, and that what is decoded of them means the type. Assumes nothing.
use Prim.Native.Nat.{ℕ, zero, suc, ◌+◌, ◌*◌, ◌-◌, ◌≤◌, ◌<◌}
use native.Mathlib.Omega.{arith}
use mathlib.Core.Path.{◌≡◌, refl, sym, ap, ◌∙◌}
use mathlib.Core.Bool.{Bool, true, false, false≢true}
use mathlib.Core.List.{List, [], ◌∷◌}
use mathlib.Core.Logic.{◌⊎◌, ⊎_elim}
use lib.Dec.{eqb}
use lib.ListN.{length, take, drop, length-take, length-drop}
use lib.Seq.{get_or-take, get_or-drop, drop-drop}
use borrow.Author.Tests.{leb-true, eqb-true}
use Rattle.meaning.specs.Bytes.{choose, letter, byte_at, u16_at}
use Rattle.meaning.specs.Model as meaning
use Rattle.meaning.specs.Model.{AttributeType, attribute_of}
use Rattle.model_records.specs.Components.{component_of, components_of}
use Rattle.model_records.specs.declared.attributes.Components.{Components}
use Rattle.model_records.specs.declared.attributes.Kind.{Kind}
use Rattle.model_records.specs.declared.attributes.Kind.TheVariants as kind
use Rattle.meaning.specs.Check.{is_name, is_type, is_dimension}
use Rattle.model_records.specs.declared.attributes.Attribute.{Attribute}
use Rattle.model_records.specs.Records.{payload_at, next_at}
use Rattle.model_records.specs.Attributes.{of_kind, ParametersFit, PayloadAttribute, RecordAttribute}
use Rattle.model_records.specs.AtRecord.{AttributeHere}
use Rattle.meaning.proofs.Tests.Refuse.{holds}
use Rattle.meaning.proofs.Lists.{drop-take}

-- ## A part of a payload

-- the model's bytes from a byte of a payload on to the next record
pub payload_part : (b : List ℕ) (at k start : ℕ) → start ≡ at + 4 + k → take (next_at b at - start) (drop start b) ≡ drop k (payload_at b at)
payload_part b at k start e =
    let n : next_at b at - start ≡ u16_at b at - k = omega arith in
    sym (drop-take k (u16_at b at) (drop (at + 4) b) ∙ rw (drop-drop k (at + 4) b, ← e, ← n) refl)

-- some bytes of a record's payload are bytes of the record
pub payload_room : (b : List ℕ) (at n : ℕ) → n ≤ length (payload_at b at) → at + 4 + n ≤ next_at b at
payload_room b at n h = let e = length-take (u16_at b at) (drop (at + 4) b) in omega arith

-- a byte of the payload is a byte of the model
pub payload_byte : (b : List ℕ) (at k : ℕ) → at + 4 + k < next_at b at → byte_at (payload_at b at) k ≡ byte_at b (at + 4 + k)
payload_byte b at k h = get_or-take (u16_at b at) (drop (at + 4) b) k 0 (omega arith) ∙ get_or-drop (at + 4) b k 0

nil-cons : {A : Type 0} (x : A) (l : List A) → [] ≡ x ∷ l → ⊥
nil-cons x l e = let z : 0 ≡ suc (length l) = ap length e in omega arith

-- ## The parameters

-- a name is not empty
named : (longest : ℕ) (n : List ℕ) → is_name longest n ≡ true → 1 ≤ length n
unfolding is_name letter
named longest [] h = absurd (false≢true h)
named longest (b ∷ n) h = omega arith

-- the type of a good attribute record is one of 1 to 8, and its parameters are all there
pub sized : (b : List ℕ) (at : ℕ) → AttributeHere b at → ParametersFit (byte_at (payload_at b at) 1) (drop 2 (payload_at b at))
unfolding meaning.attribute_of is_type
sized b at h =
    let p : List ℕ = payload_at b at in
    let t : ℕ = byte_at p 1 in
    let l = named 24 _ h.name in
    let d = length-drop (2 + meaning.parameters_size t (drop 2 p)) p in
    let e = length-drop 2 p in
    record { least = leb-true 1 t (holds _ 0 h.type); most = leb-true t 8 (holds _ 1 h.type); room = omega arith }

-- where its parts lie among the model's bytes
module _ (b : List ℕ) (at : ℕ) (h : AttributeHere b at) where
  pub payload_least : 2 ≤ length (payload_at b at)
  unfolding meaning.attribute_of
  payload_least =
      let p : List ℕ = payload_at b at in
      let l = named 24 _ h.name in
      let d = length-drop (2 + meaning.parameters_size (byte_at p 1) (drop 2 p)) p in
      omega arith

  pub parts_room : at + 6 ≤ next_at b at
  parts_room = omega (arith, payload_room b at 2 payload_least)

  pub type_at : byte_at b (at + 5) ≡ byte_at (payload_at b at) 1
  type_at = let e : at + 4 + 1 ≡ at + 5 = omega arith in sym (rw e at (payload_byte b at 1 (omega (arith, parts_room))))

  pub payload_at_lem : (next : ℕ) → next ≡ next_at b at → take (next - (at + 4)) (drop (at + 4) b) ≡ payload_at b at
  payload_at_lem next e = rw e (payload_part b at 0 (at + 4) (omega arith))

module _ (q : List ℕ) where
  -- a number or a word is there
  pub word_size : (t : ℕ) → (t ≡ 1) ⊎ ((t ≡ 5) ⊎ (t ≡ 7)) → ParametersFit t q → 2 ≤ length q
  unfolding meaning.parameters_size choose
  word_size t e s = ⊎_elim (λ o. rw o at s.room) (λ f. ⊎_elim (λ o. rw o at s.room) (λ o. rw o at s.room) f) e

  pub line_size : (t : ℕ) → t ≡ 8 → ParametersFit t q → 2 + 17 * meaning.dimension_of q ≤ length q
  unfolding meaning.parameters_size choose
  line_size t e s = rw e at s.room

  -- three components or two, or one, are there
  pub coordinate_size : (t : ℕ) → (2 ≤ t) × (t ≤ 3) → ParametersFit t q → 17 * t ≤ length q
  unfolding meaning.parameters_size choose
  coordinate_size zero e s = absurd (omega arith)
  coordinate_size (suc zero) e s = absurd (omega arith)
  coordinate_size (suc (suc zero)) e s = omega (arith, s.room)
  coordinate_size (suc (suc (suc zero))) e s = omega (arith, s.room)
  coordinate_size (suc (suc (suc (suc n)))) e s = absurd (omega arith)

  pub number_size : (t : ℕ) → t ≡ 4 → ParametersFit t q → 17 ≤ length q
  unfolding meaning.parameters_size choose
  number_size t e s = rw e at s.room

  pub coordinate_is : (t : ℕ) → (2 ≤ t) × (t ≤ 3) → meaning.Coordinate (meaning.components_of t q) ≡ meaning.type_of t q
  unfolding meaning.type_of choose
  coordinate_is zero e = absurd (omega arith)
  coordinate_is (suc zero) e = absurd (omega arith)
  coordinate_is (suc (suc zero)) e = refl
  coordinate_is (suc (suc (suc zero))) e = refl
  coordinate_is (suc (suc (suc (suc n)))) e = absurd (omega arith)

  -- a line's count of components
  pub dimension_is : meaning.dimension_of q ≡ choose (eqb (byte_at q 1) 3) 3 2
  unfolding meaning.dimension_of
  dimension_is = refl

  pub dimension_fits : (2 ≤ choose (eqb (byte_at q 1) 3) 3 2) × (choose (eqb (byte_at q 1) 3) 3 2 ≤ 3)
  unfolding choose
  dimension_fits = of (eqb (byte_at q 1) 3)
    where
      of : (x : Bool) → (2 ≤ choose x 3 2) × (choose x 3 2 ≤ 3)
      of true = (omega arith, omega arith)
      of false = (omega arith, omega arith)

  pub line_is : (n : ℕ) (cs : List meaning.Component) → n ≡ choose (eqb (byte_at q 1) 3) 3 2 → cs ≡ meaning.components_of n (drop 2 q)
      → meaning.Line (byte_at q 0) cs ≡ meaning.type_of 8 q
  unfolding meaning.type_of meaning.dimension_of choose
  line_is n cs e c = rw (c, e)

-- the attribute of a record, from that of its payload
pub decoded : (b : List ℕ) (at : ℕ) (a : Attribute) → AttributeHere b at → PayloadAttribute (payload_at b at) a → RecordAttribute b at a
unfolding meaning.attribute_of is_type
decoded b at a h r = record { type = r.type; optional = r.optional; good = rw r.type (holds _ 3 h.type); counted = r.counted }

-- a line has two or three components
pub few_components : (n : ℕ) → is_dimension n ≡ true → (2 ≤ n) × (n ≤ 3)
unfolding is_dimension
few_components n h = go (eqb n 2) refl (eqb n 3) refl
  where
    go : (x : Bool) → eqb n 2 ≡ x → (y : Bool) → eqb n 3 ≡ y → (2 ≤ n) × (n ≤ 3)
    go true e y f = (omega (arith, eqb-true n 2 e), omega (arith, eqb-true n 2 e))
    go false e true f = (omega (arith, eqb-true n 3 f), omega (arith, eqb-true n 3 f))
    go false e false f = absurd (false≢true (rw (e, f) at h))

-- ## A line's type

is_line : AttributeType → Bool
is_line (meaning.Reference table) = false
is_line (meaning.Coordinate cs) = false
is_line (meaning.Number c) = false
is_line (meaning.Text longest) = false
is_line meaning.Date = false
is_line (meaning.Enumeration leaves) = false
is_line (meaning.Line forms cs) = true

not_line : (t : AttributeType) (forms : ℕ) (cs : List meaning.Component) → is_line t ≡ false → t ≡ meaning.Line forms cs → ⊥
unfolding is_line
not_line t forms cs f e = false≢true (sym f ∙ ap is_line e)

-- a type that is a line's is one by its constructor
pub line_kind : (k : Kind) (forms : ℕ) (cs : List meaning.Component) → of_kind k ≡ meaning.Line forms cs
    → ((g : ℕ) (ds : Components) → k ≡ kind.Line g ds → ⊥) → ⊥
unfolding is_line
line_kind (kind.Reference table) forms cs e n = not_line (meaning.Reference table) forms cs refl e
line_kind (kind.Coordinate ds) forms cs e n = not_line (meaning.Coordinate (components_of ds)) forms cs refl e
line_kind (kind.Number c) forms cs e n = not_line (meaning.Number (component_of c)) forms cs refl e
line_kind (kind.Text longest) forms cs e n = not_line (meaning.Text longest) forms cs refl e
line_kind kind.Date forms cs e n = not_line meaning.Date forms cs refl e
line_kind (kind.Enumeration leaves) forms cs e n = not_line (meaning.Enumeration leaves) forms cs refl e
line_kind (kind.Line g ds) forms cs e n = n g ds refl

-- the type of an attribute record whose type's number is 8
pub line_type : (b : List ℕ) (at : ℕ) → byte_at (payload_at b at) 1 ≡ 8
    → (attribute_of at (payload_at b at)).type ≡ meaning.Line (byte_at (drop 2 (payload_at b at)) 0) (meaning.components_of (meaning.dimension_of (drop 2 (payload_at b at))) (drop 2 (drop 2 (payload_at b at))))
unfolding attribute_of meaning.type_of choose
line_type b at e = rw e refl
