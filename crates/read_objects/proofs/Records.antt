-- The attribute records of a table and their pairs. Assumes nothing.
use Prim.Native.Nat.{ℕ, zero, suc, ◌+◌}
use native.Mathlib.Omega.{arith}
use mathlib.Core.Path.{◌≡◌, refl, sym, ap, ◌∙◌}
use mathlib.Core.Bool.{Bool, true, false, not, ◌&&◌, ◌||◌, or-false}
use mathlib.Core.List.{List, [], ◌∷◌, ◌++◌, append-nil}
use Rattle.std.proofs.lemmas.Bool.{false≢true}
use lib.Dec.{eqb}
use lib.ListN.{drop}
use Rattle.meaning.specs.Bytes.{all_of, byte_at, choose}
use Rattle.meaning.specs.Model.{Model, AttributeType, Component, Reference, Coordinate, Number, Text, Date, Enumeration, Line, attribute_of, components_of, flag_of}
use Rattle.meaning.specs.Model.{type_of as type_of_number}
use Rattle.meaning.specs.Check.{is_dimension, good_type}
use Rattle.meaning.specs.Row.{Pair, OfAttribute, OfComponent, OfLine, component_pairs, pairs_of_type, pairs_of, has_mandatory}
use Rattle.model_records.specs.declared.attributes.Attribute.{Attribute}
use Rattle.model_records.specs.declared.attributes.Components.{Components}
use Rattle.model_records.specs.declared.attributes.Kind.TheVariants as kind
use Rattle.model_records.specs.Records.{kind_at, payload_at, next_at, pairs_at}
use Rattle.model_records.specs.Attributes.{type_of, ParametersFit, RecordAttribute}
use Rattle.model_records.specs.AtRecord.{RecordFits, AttributeHere, AttributeNext, AttributesHere}
use Rattle.model_records.specs.AttributeRecords.{RecordGiven, NoRecord}
use Rattle.model_records.specs.declared.records.AttributeRecords.{AttributeRecords}
use Rattle.model_records.proofs.AtRecord as standing
use Rattle.model_records.proofs.Types.{line_kind, payload_byte, parts_room, type_at, sized}
use Rattle.model_records.proofs.Walking.{given_here, given_next, none_given}
use Rattle.read_fields.proofs.Coordinates.{mandatory_components}
use Rattle.read_objects.specs.Fields.{record_pairs}

-- ## Mandatory, and how many

mandatory_append : (ps qs : List Pair) → has_mandatory (ps ++ qs) ≡ (has_mandatory ps || has_mandatory qs)
unfolding has_mandatory
mandatory_append [] qs = refl
mandatory_append (OfAttribute true type ∷ ps) qs = mandatory_append ps qs
mandatory_append (OfAttribute false type ∷ ps) qs = refl
mandatory_append (OfComponent c ∷ ps) qs = mandatory_append ps qs
mandatory_append (OfLine o forms cs ∷ ps) qs = mandatory_append ps qs

-- an attribute's own pair is mandatory where the attribute is, and a coordinate's further components are what its first
-- one is
own_mandatory : (o : Bool) (type : AttributeType) → good_type type ≡ true → ((forms : ℕ) (cs : List Component) → type ≡ Line forms cs → ⊥) → not o ≡ has_mandatory (pairs_of_type o type)
unfolding has_mandatory pairs_of_type good_type all_of is_dimension
own_mandatory o (Reference table) g n = sym (or-false _)
own_mandatory o (Coordinate []) g n = absurd (false≢true g)
own_mandatory o (Coordinate (c ∷ cs)) g n = sym (ap (λ (x : Bool). not o || x) (ap has_mandatory (sym (append-nil (component_pairs cs))) ∙ mandatory_components cs []) ∙ or-false _)
own_mandatory o (Number c) g n = sym (or-false _)
own_mandatory o (Text longest) g n = sym (or-false _)
own_mandatory o Date g n = sym (or-false _)
own_mandatory o (Enumeration leaves) g n = sym (or-false _)
own_mandatory o (Line forms cs) g n = absurd (n forms cs refl)

module _ (b : List ℕ) (at : ℕ) (a : Attribute) (d : RecordAttribute b at a) where
  pub decoded_pairs : pairs_of_type a.optional (type_of a) ≡ record_pairs b at
  decoded_pairs = rw d.type (ap (λ (o : Bool). pairs_of_type o (attribute_of at (payload_at b at)).type) d.optional)

  pub line_mandatory : (forms : ℕ) (cs : Components) → a.kind ≡ kind.Line forms cs → false ≡ has_mandatory (record_pairs b at)
  unfolding has_mandatory pairs_of_type
  line_mandatory forms cs e = ap has_mandatory (rw e at decoded_pairs)

  pub other_mandatory : ((forms : ℕ) (cs : Components) → a.kind ≡ kind.Line forms cs → ⊥) → not a.optional ≡ has_mandatory (record_pairs b at)
  other_mandatory n = own_mandatory a.optional (type_of a) d.good (λ forms cs e. line_kind a.kind forms cs e n) ∙ ap has_mandatory decoded_pairs

-- by the type's number: 8 is a line
by_number : (o : Bool) (q : List ℕ) (t : ℕ) → ParametersFit t q → (not (eqb t 8) && not o) ≡ has_mandatory (pairs_of_type o (type_of_number t q))
unfolding has_mandatory pairs_of_type component_pairs type_of_number components_of choose
by_number o q zero s = absurd (omega (arith, s.least))
by_number o q (suc zero) s = sym (or-false _)
by_number o q (suc (suc zero)) s = sym (or-false _)
by_number o q (suc (suc (suc zero))) s = sym (or-false _)
by_number o q (suc (suc (suc (suc zero)))) s = sym (or-false _)
by_number o q (suc (suc (suc (suc (suc zero))))) s = sym (or-false _)
by_number o q (suc (suc (suc (suc (suc (suc zero)))))) s = sym (or-false _)
by_number o q (suc (suc (suc (suc (suc (suc (suc zero))))))) s = sym (or-false _)
by_number o q (suc (suc (suc (suc (suc (suc (suc (suc zero)))))))) s = refl
by_number o q (suc (suc (suc (suc (suc (suc (suc (suc (suc t))))))))) s = absurd (omega (arith, s.most))

-- the record's flag and its type's number, as they stand among the model's bytes
pub number_mandatory : (b : List ℕ) (at : ℕ) → AttributeHere b at
    → (not (eqb (byte_at b (at + 5)) 8) && not (eqb (byte_at b (at + 4)) 1)) ≡ has_mandatory (record_pairs b at)
unfolding attribute_of flag_of
number_mandatory b at h =
    let p = payload_at b at in
    let e : at + 4 + 0 ≡ at + 4 = omega arith in
    let f : byte_at p 0 ≡ byte_at b (at + 4) = payload_byte b at 0 (omega (arith, parts_room b at h)) ∙ ap (byte_at b) e in
    rw (type_at b at h, ← f) (by_number (eqb (byte_at p 0) 1) (drop 2 p) (byte_at p 1) (sized b at h))

-- ## Records

module _ {m : Model} (b : List ℕ) (at : ℕ) (from : AttributesHere m b at) where
  pub record_here : RecordFits b at
  record_here = standing.here m b at from.topics from.tables from.standing

  pub no_record : (kind_at b at ≡ 5 → ⊥) → pairs_at b at ≡ []
  unfolding pairs_of
  no_record n = rw (standing.no_attribute m b at from.topics from.tables from.standing n)

  module _ (e : kind_at b at ≡ 5) where
    turn : AttributeNext m b at from.topics from.tables
    turn = standing.attribute_here m b at from.topics from.tables from.standing e

    pub good_here : AttributeHere b at
    good_here = turn.good

    pub next_from : AttributesHere m b (next_at b at)
    next_from = record { topics = from.topics; tables = from.tables; standing = turn.next }

    pub pairs_next : pairs_at b at ≡ record_pairs b at ++ pairs_at b (next_at b at)
    unfolding pairs_of
    pairs_next = rw turn.attributes

-- ## The records that the walk over them gives

module _ (b : List ℕ) (s : AttributeRecords) (x : ℕ) (t : AttributeRecords) (e : s.model.now ≡ b) (g : RecordGiven s x t) where
  pub given_pairs : pairs_at b s.at ≡ record_pairs b x ++ pairs_at b t.at
  unfolding pairs_of
  given_pairs = rw (given_next b s x t e g, sym g.at, (given_here b s x t e g).attributes) refl

  mandatory_next : has_mandatory (pairs_at b s.at) ≡ (has_mandatory (record_pairs b x) || has_mandatory (pairs_at b t.at))
  mandatory_next = ap has_mandatory given_pairs ∙ mandatory_append (record_pairs b x) (pairs_at b t.at)

  module _ (r : Bool) (h : r ≡ has_mandatory (record_pairs b x)) where
    pub mandatory_found : r ≡ true → true ≡ has_mandatory (pairs_at b s.at)
    mandatory_found y = sym (mandatory_next ∙ rw (sym h ∙ y))

    pub mandatory_turn : r ≡ false → has_mandatory (pairs_at b t.at) ≡ has_mandatory (pairs_at b s.at)
    mandatory_turn n = sym (mandatory_next ∙ rw (sym h ∙ n))

pub mandatory_end : (b : List ℕ) (s : AttributeRecords) → s.model.now ≡ b → NoRecord s → false ≡ has_mandatory (pairs_at b s.at)
unfolding has_mandatory
mandatory_end b s e n = rw (none_given b s e n)
