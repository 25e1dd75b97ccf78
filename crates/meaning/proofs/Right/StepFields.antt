-- The fields of an object and of a point as reading judges them: they are right, or refused for their reason. Assumes nothing.
use Prim.Native.Nat.{ℕ, ◌+◌, ◌*◌}
use native.Mathlib.Omega.{arith}
use mathlib.Core.Path.{◌≡◌, refl, sym, ap, ◌∙◌}
use mathlib.Core.Bool.{Bool, true, false, not, ◌||◌, true≢false, false≢true}
use mathlib.Core.List.{List, [], ◌∷◌}
use lib.IntN.{ℤ, pos}
use lib.ListN.{length}
use Rattle.meaning.specs.Bytes.{refuse}
use Rattle.meaning.specs.Model.{Component, AttributeType, Number}
use Rattle.meaning.specs.Field.{Field}
use Rattle.meaning.specs.Value.{Value, pair, number_of, value_of, is_undefined, is_undefined_twice}
use Rattle.meaning.specs.Row.{Pair, OfAttribute, OfComponent, OfLine, has_mandatory, Cells, cells, refused, put_pair, put_number, undefined_pair, undefined_cells, undefined_rest, pair_cells, component_values}
use Rattle.meaning.specs.Right.{Defined, Values}
use Rattle.meaning.specs.Reasons.{MayBeUndefined, MayBeDefined, FieldType, of_attribute, of_component, IsMandatory, RightFields, FieldReason, PointReason}
use Rattle.meaning.proofs.Tests.Refuse.{neither, or_right}
use Rattle.meaning.proofs.Values.Judged.{ValueJudged, value_judged}
use Rattle.meaning.proofs.Reading.PairCells.{FieldRead, field_read}
use Rattle.meaning.proofs.Reading.FieldsRead.{number_within}

-- ## Mandatory pairs

pub is_mandatory : (ps : List Pair) → has_mandatory ps ≡ true → IsMandatory ps
unfolding has_mandatory
is_mandatory [] h = absurd (false≢true h)
is_mandatory (OfAttribute true type ∷ ps) h = IsMandatory.later (is_mandatory ps h)
is_mandatory (OfAttribute false type ∷ ps) h = IsMandatory.here
is_mandatory (OfComponent c ∷ ps) h = IsMandatory.later (is_mandatory ps h)
is_mandatory (OfLine o forms cs ∷ ps) h = IsMandatory.later (is_mandatory ps h)

behind_mandatory : (p : Pair) (ps : List Pair) → has_mandatory ps ≡ true → has_mandatory (p ∷ ps) ≡ true
unfolding has_mandatory
behind_mandatory (OfAttribute o type) ps h = or_right (not o) (has_mandatory ps) h
behind_mandatory (OfComponent c) ps h = h
behind_mandatory (OfLine o forms cs) ps h = h

pub mandatory_is : {ps : List Pair} → IsMandatory ps → has_mandatory ps ≡ true
unfolding has_mandatory
mandatory_is IsMandatory.here = refl
mandatory_is (IsMandatory.later {p = p} {ps = ps} h) = behind_mandatory p ps (mandatory_is h)

none_mandatory : (ps : List Pair) → has_mandatory ps ≡ false → IsMandatory ps → ⊥
none_mandatory ps h k = true≢false (sym (mandatory_is k) ∙ h)

-- ## The fields of an object

-- what the cells of some fields say of them
pub data FieldsJudged (u : ℕ) (b : Bool) (place : ℕ) (ps : List Pair) (fs : List Field) : Cells → Type 0 where
  right : {xs : List ℤ} → RightFields u b ps fs → length xs ≡ 2 * length ps → FieldsJudged u b place ps fs (cells xs)
  because : {n k : ℕ} → FieldReason u b place ps fs n k → FieldsJudged u b place ps fs (refused n k)

undefined_length : (ps : List Pair) → length (undefined_cells ps) ≡ 2 * length ps
unfolding undefined_cells
undefined_length [] = refl
undefined_length (p ∷ ps) = omega (arith, undefined_length ps)

module _ (u : ℕ) (place : ℕ) (ps : List Pair) (f : Field) (fs : List Field) where
  module _ (b : Bool) (p : Pair) (type : AttributeType) (of : FieldType p type) where
    -- two undefined bytes that may stand here
    twice_judged : is_undefined_twice u f ≡ true → MayBeUndefined b p → (IsMandatory ps → ⊥) → FieldsJudged u b place (p ∷ ps) (f ∷ fs) (undefined_rest place (p ∷ ps) fs)
    unfolding undefined_rest
    twice_judged h may none = by fs
      where
        by : (fs : List Field) → FieldsJudged u b place (p ∷ ps) (f ∷ fs) (undefined_rest place (p ∷ ps) fs)
        by [] = right (RightFields.twice h may of none) (undefined_length (p ∷ ps))
        by (g ∷ gs) = because (FieldReason.behind_twice h of may none)

    -- an undefined field that may stand here
    undefined_judged : is_undefined u f ≡ true → MayBeUndefined b p → (k : Cells) → FieldsJudged u false (place + 1) ps fs k → FieldsJudged u b place (p ∷ ps) (f ∷ fs) (put_pair place undefined_pair k)
    unfolding put_pair
    undefined_judged h may _ (right {xs = xs} r long) = right {xs = pos 0 ∷ pos 0 ∷ xs} (RightFields.undefined h may of r) (omega (arith, long))
    undefined_judged h may _ (because r) = because (FieldReason.behind_undefined h may of r)

    -- a defined field that may stand here
    defined_judged : Defined u f → MayBeDefined b p → (v : Value) → ValueJudged type f.bytes v → (k : Cells) → FieldsJudged u true (place + 1) ps fs k → FieldsJudged u b place (p ∷ ps) (f ∷ fs) (put_pair place v k)
    unfolding put_pair
    defined_judged d may _ (ValueJudged.right {a = x} {b = y} v) _ (right {xs = xs} r long) = right {xs = x ∷ y ∷ xs} (RightFields.defined d may of v r) (omega (arith, long))
    defined_judged d may _ (ValueJudged.right v) _ (because r) = because (FieldReason.behind_defined d may of v r)
    defined_judged d may _ (ValueJudged.shape v) k r = because (FieldReason.shape d may of v)
    defined_judged d may _ (ValueJudged.domain v) k r = because (FieldReason.domain d may of v)

    field_judged : ((d : Bool) → FieldsJudged u d (place + 1) ps fs (pair_cells u d (place + 1) ps fs)) → (k : Cells) → FieldRead u b place p type ps f fs k → FieldsJudged u b place (p ∷ ps) (f ∷ fs) k
    field_judged next _ (FieldRead.defined d may) = defined_judged d may _ (value_judged type f) _ (next true)
    field_judged next _ (FieldRead.mixed d never) = because (FieldReason.mixed d of never)
    field_judged next _ (FieldRead.undefined h may) = undefined_judged h may _ (next false)
    field_judged next _ (FieldRead.mandatory h never) = because (FieldReason.undefined h of never)
    field_judged next _ (FieldRead.twice h may none) = twice_judged h may (none_mandatory ps none)
    field_judged next _ (FieldRead.covers h some) = because (FieldReason.covers h of (λ may. is_mandatory ps (some may)))

line_judged : (u place : ℕ) (b o : Bool) (forms : ℕ) (cs : List Component) (ps : List Pair) (fs : List Field) (k : Cells) → FieldsJudged u b place ps fs k
    → FieldsJudged u b place (OfLine o forms cs ∷ ps) fs (put_pair place undefined_pair k)
unfolding put_pair
line_judged u place b o forms cs ps fs _ (right {xs = xs} r long) = right {xs = pos 0 ∷ pos 0 ∷ xs} (RightFields.line r) (omega (arith, long))
line_judged u place b o forms cs ps fs _ (because r) = because (FieldReason.line r)

pub fields_judged : (u : ℕ) (ps : List Pair) (fs : List Field) (b : Bool) (place : ℕ) → FieldsJudged u b place ps fs (pair_cells u b place ps fs)
unfolding pair_cells
fields_judged u [] [] b place = right RightFields.done refl
fields_judged u [] (f ∷ fs) b place = because FieldReason.extra
fields_judged u (OfLine o forms cs ∷ ps) fs b place = line_judged u place b o forms cs ps fs _ (fields_judged u ps fs b place)
fields_judged u (OfAttribute o type ∷ ps) [] b place = because (FieldReason.missing of_attribute)
fields_judged u (OfAttribute o type ∷ ps) (f ∷ fs) b place = field_judged u place ps f fs b _ type of_attribute (λ d. fields_judged u ps fs d (place + 1)) _ (field_read of_attribute)
fields_judged u (OfComponent c ∷ ps) [] b place = because (FieldReason.missing of_component)
fields_judged u (OfComponent c ∷ ps) (f ∷ fs) b place = field_judged u place ps f fs b _ (Number c) of_component (λ d. fields_judged u ps fs d (place + 1)) _ (field_read of_component)

-- ## The fields of a point

pub data PointJudged (u place : ℕ) (cs : List Component) (fs : List Field) : Cells → Type 0 where
  right : {vs : List ℤ} → Values u cs fs vs → PointJudged u place cs fs (cells vs)
  because : {n k : ℕ} → PointReason u place cs fs n k → PointJudged u place cs fs (refused n k)

pub not_defined : (u : ℕ) (f : Field) → (is_undefined u f || is_undefined_twice u f) ≡ true → Defined u f → ⊥
not_defined u f h d = true≢false (sym h ∙ rw (d.one, d.two))

pub point_judged : (u : ℕ) (cs : List Component) (fs : List Field) (place : ℕ) → PointJudged u place cs fs (component_values u place cs fs)
unfolding component_values refuse put_number value_of
point_judged u [] [] place = right Values.none
point_judged u [] (f ∷ fs) place = because PointReason.extra
point_judged u (c ∷ cs) [] place = because PointReason.missing
point_judged u (c ∷ cs) (f ∷ fs) place = by (is_undefined u f || is_undefined_twice u f) refl (number_of c f.bytes) refl (value_judged (Number c) f) _ (point_judged u cs fs (place + 1))
  where
    number : Defined u f → (v : Value) → number_of c f.bytes ≡ v → ValueJudged (Number c) f.bytes v → (k : Cells) → PointJudged u (place + 1) cs fs k → PointJudged u place (c ∷ cs) (f ∷ fs) (put_number place v k)
    number d _ e (ValueJudged.right {a = a} {b = b} v) _ (right r) = right (Values.one d (e ∙ ap (λ (y : ℤ). pair y b) (number_within c f.bytes a b e).0) r)
    number d _ e (ValueJudged.right v) _ (because r) = because (PointReason.behind d v r)
    number d _ e (ValueJudged.shape v) k r = because (PointReason.shape d v)
    number d _ e (ValueJudged.domain v) k r = because (PointReason.domain d v)

    by : (t : Bool) → (is_undefined u f || is_undefined_twice u f) ≡ t → (v : Value) → number_of c f.bytes ≡ v → ValueJudged (Number c) f.bytes v → (k : Cells) → PointJudged u (place + 1) cs fs k
        → PointJudged u place (c ∷ cs) (f ∷ fs) (refuse t (refused 12 place) (put_number place v k))
    by true h v e j k r = because (PointReason.undefined (not_defined u f h))
    by false h v e j k r = let n = neither (is_undefined u f) _ h in number (record { one = n.0; two = n.1 }) v e j k r
