-- What the struct Attribute means.
use Rattle.std.specs.Prelude.{ℕ, ◌≤◌, ◌≡◌, true, List, length, drop}
use Rattle.meaning.specs.Bytes.{byte_at}
use Rattle.meaning.specs.Model.{AttributeType, Reference, Coordinate, Number, Text, Date, Enumeration, Line}
use Rattle.meaning.specs.Model.{attribute_of, flag_of, parameters_size}
use Rattle.meaning.specs.Model as meaning
use Rattle.meaning.specs.Check.{good_type}
use Rattle.model_records.specs.Components.{component_of, components_of}
use Rattle.model_records.specs.declared.attributes.Kind.{Kind}
use Rattle.model_records.specs.declared.attributes.Kind.TheVariants as kind
use Rattle.model_records.specs.declared.attributes.Attribute.{Attribute}
use Rattle.model_records.specs.declared.attributes.LineAttribute.{LineAttribute}
use Rattle.model_records.specs.Records.{payload_at}

abbrev pub of_kind : Kind → AttributeType
of_kind (kind.Reference table) = Reference table
of_kind (kind.Coordinate components) = Coordinate (components_of components)
of_kind (kind.Number component) = Number (component_of component)
of_kind (kind.Text longest) = Text longest
of_kind kind.Date = Date
of_kind (kind.Enumeration leaves) = Enumeration leaves
of_kind (kind.Line forms components) = Line forms (components_of components)

abbrev pub type_of : Attribute → AttributeType
type_of a = of_kind a.kind

-- a coordinate and a line have two or three components
abbrev pub Counted : Kind → Type 0
Counted (kind.Reference table) = Unit {0}
Counted (kind.Coordinate components) = (2 ≤ components.count) × (components.count ≤ 3)
Counted (kind.Number component) = Unit {0}
Counted (kind.Text longest) = Unit {0}
Counted kind.Date = Unit {0}
Counted (kind.Enumeration leaves) = Unit {0}
Counted (kind.Line forms components) = (2 ≤ components.count) × (components.count ≤ 3)

-- ## The parameters q of a type of number t

-- the type is one of 1 to 8, and its parameters are all there
pub record ParametersFit (t : ℕ) (q : List ℕ) : Type 0 where
  pub least : 1 ≤ t
  pub most : t ≤ 8
  pub room : parameters_size t q ≤ length q

-- ## What is decoded

-- a is the attribute of the payload p
pub record PayloadAttribute (p : List ℕ) (a : Attribute) : Type 0 where
  pub type : type_of a ≡ meaning.type_of (byte_at p 1) (drop 2 p)
  pub optional : a.optional ≡ flag_of p
  pub counted : Counted a.kind

-- a is the attribute of the record at a byte, which is good
pub record RecordAttribute (b : List ℕ) (at : ℕ) (a : Attribute) : Type 0 where
  pub type : type_of a ≡ (attribute_of at (payload_at b at)).type
  pub optional : a.optional ≡ (attribute_of at (payload_at b at)).optional
  pub good : good_type (type_of a) ≡ true
  pub counted : Counted a.kind

-- a is the line attribute of the record at a byte
pub record RecordLine (b : List ℕ) (at : ℕ) (a : LineAttribute) : Type 0 where
  pub type : (attribute_of at (payload_at b at)).type ≡ Line a.forms (components_of a.components)
  pub optional : a.optional ≡ (attribute_of at (payload_at b at)).optional
  pub counted : (2 ≤ a.components.count) × (a.components.count ≤ 3)
