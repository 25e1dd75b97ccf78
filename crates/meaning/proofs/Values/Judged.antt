-- What a field's value says of it by the grammar: right, of a wrong shape (13) or outside its domain (14), for every type; one of the three and no other. Assumes nothing.
use Prim.Native.Nat.{ℕ}
use mathlib.Core.Path.{◌≡◌, refl, sym, subst, ◌∙◌}
use mathlib.Core.Bool.{Bool, true, false, true≢false}
use mathlib.Core.List.{List}
use lib.IntN.{ℤ}
use Rattle.meaning.specs.Bytes.{refuse}
use Rattle.meaning.specs.Model.{AttributeType, Reference, Coordinate, Number, Text, Date, Enumeration, Line}
use Rattle.meaning.specs.Field.{Field}
use Rattle.meaning.specs.Value.{Value, pair, wrong, number_of, date_of, enumeration_of, stretch_of, text_of, is_identification, reference_of, value_of}
use Rattle.meaning.specs.Shapes as shapes
use Rattle.meaning.specs.Shapes.{Shape, InDomain, WrongShape, OutsideDomain, RightValue}
use Rattle.meaning.specs.ValueClaims.{HasField}
use Rattle.meaning.proofs.Values.Shapes.{Judged, judge, number_judged, date_judged, leaf_judged, text_judged, reference_judged}

-- what a value says of these bytes
pub data ValueJudged (type : AttributeType) (s : List ℕ) : Value → Type 0 where
  right : {a b : ℤ} → RightValue type s → ValueJudged type s (pair a b)
  shape : WrongShape type s → ValueJudged type s (wrong 13)
  domain : OutsideDomain type s → ValueJudged type s (wrong 14)

-- ## Every value

by_tests : {type : AttributeType} {s : List ℕ} {value : ℤ} (bad far : Bool) → Judged type s bad far value → (a b : ℤ) → ValueJudged type s (judge bad far (pair a b))
unfolding refuse
by_tests true far j a b = shape (λ v h. true≢false (j.only v h).0)
by_tests {value = value} false true j a b = domain (record { value = value; shape = j.shaped refl; outside = λ d. true≢false (j.inside d) })
by_tests {value = value} false false j a b = right (record { value = value; shape = j.shaped refl; domain = j.domain refl })

-- coordinates and lines have no shape
has_field : {type : AttributeType} {s : List ℕ} {v : ℤ} → Shape type s v → HasField type
has_field (shapes.number n) = tt
has_field (shapes.date d) = tt
has_field (shapes.enumeration d) = tt
has_field (shapes.text e) = tt
has_field (shapes.reference e) = tt

pub value_judged : (type : AttributeType) (f : Field) → ValueJudged type f.bytes (value_of type f)
unfolding value_of number_of date_of enumeration_of text_of reference_of is_identification stretch_of refuse
value_judged (Reference t) f = by_tests _ _ (reference_judged t f.bytes) _ _
value_judged (Coordinate cs) f = shape (λ v h. has_field h)
value_judged (Number c) f = by_tests _ _ (number_judged c f.bytes) _ _
value_judged (Text longest) f = by_tests _ _ (text_judged longest f.bytes) _ _
value_judged Date f = by_tests _ _ (date_judged f.bytes) _ _
value_judged (Enumeration leaves) f = by_tests _ _ (leaf_judged leaves f.bytes) _ _
value_judged (Line forms cs) f = shape (λ v h. has_field h)

-- ## One of the three

-- a shape has one value
one_value : {type : AttributeType} {s : List ℕ} {bad far : Bool} {value : ℤ} → Judged type s bad far value → (v w : ℤ) → Shape type s v → Shape type s w → v ≡ w
one_value j v w h k = sym (j.only v h).1 ∙ (j.only w k).1

pub value_alone : (type : AttributeType) (s : List ℕ) (v w : ℤ) → Shape type s v → Shape type s w → v ≡ w
value_alone (Reference t) s = one_value (reference_judged t s)
value_alone (Coordinate cs) s = λ v w h k. absurd (has_field h)
value_alone (Number c) s = one_value (number_judged c s)
value_alone (Text longest) s = one_value (text_judged longest s)
value_alone Date s = one_value (date_judged s)
value_alone (Enumeration leaves) s = one_value (leaf_judged leaves s)
value_alone (Line forms cs) s = λ v w h k. absurd (has_field h)

pub right_not_shape : {type : AttributeType} {s : List ℕ} → RightValue type s → WrongShape type s → ⊥
right_not_shape r w = w r.value r.shape

pub domain_not_shape : {type : AttributeType} {s : List ℕ} → OutsideDomain type s → WrongShape type s → ⊥
domain_not_shape o w = w o.value o.shape

pub right_not_domain : {type : AttributeType} {s : List ℕ} → RightValue type s → OutsideDomain type s → ⊥
right_not_domain {type} {s} r o = o.outside (subst (InDomain type s) (value_alone type s r.value o.value r.shape o.shape) r.domain)

-- ## From the grammar to the value

pub record PairOf (type : AttributeType) (f : Field) : Type 0 where
  pub a : ℤ
  pub b : ℤ
  pub is : value_of type f ≡ pair a b

pub right_pair : (type : AttributeType) (f : Field) → RightValue type f.bytes → PairOf type f
right_pair type f r = by _ refl (value_judged type f)
  where
    by : (v : Value) → value_of type f ≡ v → ValueJudged type f.bytes v → PairOf type f
    by _ e (right {a = a} {b = b} q) = record { a = a; b = b; is = e }
    by _ e (shape q) = absurd (right_not_shape r q)
    by _ e (domain q) = absurd (right_not_domain r q)

pub shape_13 : (type : AttributeType) (f : Field) → WrongShape type f.bytes → value_of type f ≡ wrong 13
shape_13 type f w = by _ refl (value_judged type f)
  where
    by : (v : Value) → value_of type f ≡ v → ValueJudged type f.bytes v → value_of type f ≡ wrong 13
    by _ e (right q) = absurd (right_not_shape q w)
    by _ e (shape q) = e
    by _ e (domain q) = absurd (domain_not_shape q w)

pub domain_14 : (type : AttributeType) (f : Field) → OutsideDomain type f.bytes → value_of type f ≡ wrong 14
domain_14 type f o = by _ refl (value_judged type f)
  where
    by : (v : Value) → value_of type f ≡ v → ValueJudged type f.bytes v → value_of type f ≡ wrong 14
    by _ e (right q) = absurd (right_not_domain q o)
    by _ e (shape q) = absurd (domain_not_shape o q)
    by _ e (domain q) = e
