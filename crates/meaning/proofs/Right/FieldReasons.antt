-- What reasons say of the fields of an object and of a point, and the cells or the refusal that reading makes of them. Assumes nothing.
use Prim.Native.Nat.{ℕ, ◌+◌, ◌*◌}
use mathlib.Core.Path.{◌≡◌, refl, subst, ◌∙◌}
use mathlib.Core.Bool.{Bool, true, false, ◌||◌}
use mathlib.Core.List.{List, [], ◌∷◌}
use lib.IntN.{ℤ, pos}
use lib.ListN.{length}
use Rattle.meaning.specs.Bytes.{refuse}
use Rattle.meaning.specs.Model.{Component, Number}
use Rattle.meaning.specs.Field.{Field}
use Rattle.meaning.specs.Value.{pair, wrong, number_of, value_of, is_undefined, is_undefined_twice}
use Rattle.meaning.specs.Row.{Pair, has_mandatory, Cells, cells, refused, put_pair, put_number, undefined_rest, pair_cells, component_values}
use Rattle.meaning.specs.Shapes.{WrongShape, OutsideDomain, RightValue}
use Rattle.meaning.specs.Right.{Defined}
use Rattle.meaning.specs.Reasons.{of_attribute, of_component, IsMandatory, RightFields, FieldReason, PointReason}
use Rattle.meaning.specs.Reasons as reasons
use Rattle.meaning.proofs.Tests.Refuse.{no_true}
use Rattle.meaning.proofs.Values.Judged.{right_pair, shape_13, domain_14}
use Rattle.meaning.proofs.Reading.PairCells.{FieldRead, field_is}
use Rattle.meaning.proofs.Right.StepFields.{is_mandatory, mandatory_is, FieldsJudged, fields_judged}

-- ## Tests

-- a field that is not defined is one or two undefined bytes
pub not_defined : (u : ℕ) (f : Field) → (Defined u f → ⊥) → (is_undefined u f || is_undefined_twice u f) ≡ true
not_defined u f h = by (is_undefined u f) (is_undefined_twice u f) refl refl
  where
    by : (a b : Bool) → is_undefined u f ≡ a → is_undefined_twice u f ≡ b → (a || b) ≡ true
    by true b d e = refl
    by false true d e = refl
    by false false d e = absurd (h (record { one = d; two = e }))

-- ## What is mandatory

none_mandatory : (ps : List Pair) → (IsMandatory ps → ⊥) → has_mandatory ps ≡ false
none_mandatory ps h = no_true (has_mandatory ps) (λ e. h (is_mandatory ps e))

-- ## Numbers

number_13 : (c : Component) (f : Field) → WrongShape (Number c) f.bytes → number_of c f.bytes ≡ wrong 13
unfolding value_of
number_13 c f w = shape_13 (Number c) f w

number_14 : (c : Component) (f : Field) → OutsideDomain (Number c) f.bytes → number_of c f.bytes ≡ wrong 14
unfolding value_of
number_14 c f o = domain_14 (Number c) f o

number_pair : (c : Component) (f : Field) → (r : RightValue (Number c) f.bytes) → let p = right_pair (Number c) f r in number_of c f.bytes ≡ pair p.a p.b
unfolding value_of
number_pair c f r = (right_pair (Number c) f r).is

-- ## Fields of an object

pub record CellsOf (k : Cells) : Type 0 where
  pub values : List ℤ
  pub is : k ≡ cells values

pub right_cells : {u : ℕ} {b : Bool} {ps : List Pair} {fs : List Field} → RightFields u b ps fs → (place : ℕ) → CellsOf (pair_cells u b place ps fs)
unfolding pair_cells put_pair undefined_rest
right_cells reasons.RightFields.done place = record { values = []; is = refl }
right_cells (reasons.RightFields.line r) place = rw (right_cells r place).is (record { values = _; is = refl })
right_cells (reasons.RightFields.defined {type = type} {f = f} d may of v r) place =
    let w = right_pair type f v in
    let q = right_cells r (place + 1) in
    record { values = w.a ∷ w.b ∷ q.values; is = field_is of (FieldRead.defined d may) ∙ rw (w.is, q.is) }
right_cells (reasons.RightFields.undefined e may of r) place =
    let q = right_cells r (place + 1) in
    record { values = pos 0 ∷ pos 0 ∷ q.values; is = field_is of (FieldRead.undefined e may) ∙ rw q.is }
right_cells (reasons.RightFields.twice {ps = ps} e may of h) place = record { values = _; is = field_is of (FieldRead.twice e may (none_mandatory ps h)) }

-- two cells for each pair
pub cells_size : (u : ℕ) (ps : List Pair) (fs : List Field) (b : Bool) (place : ℕ) (xs : List ℤ) → pair_cells u b place ps fs ≡ cells xs → length xs ≡ 2 * length ps
cells_size u ps fs b place xs e = by (subst (FieldsJudged u b place ps fs) e (fields_judged u ps fs b place))
  where
    by : FieldsJudged u b place ps fs (cells xs) → length xs ≡ 2 * length ps
    by (FieldsJudged.right r h) = h

pub reason_cells : {u : ℕ} {b : Bool} {place : ℕ} {ps : List Pair} {fs : List Field} {n k : ℕ} → FieldReason u b place ps fs n k → pair_cells u b place ps fs ≡ refused n k
unfolding pair_cells put_pair undefined_rest
reason_cells (reasons.FieldReason.line r) = rw (reason_cells r)
reason_cells (reasons.FieldReason.missing of_attribute) = refl
reason_cells (reasons.FieldReason.missing of_component) = refl
reason_cells reasons.FieldReason.extra = refl
reason_cells (reasons.FieldReason.undefined e of h) = field_is of (FieldRead.mandatory e h)
reason_cells (reasons.FieldReason.mixed d of h) = field_is of (FieldRead.mixed d h)
reason_cells (reasons.FieldReason.covers e of h) = field_is of (FieldRead.covers e (λ may. mandatory_is (h may)))
reason_cells (reasons.FieldReason.behind_twice {ps = ps} e of may h) = field_is of (FieldRead.twice e may (none_mandatory ps h))
reason_cells (reasons.FieldReason.shape {type = type} {f = f} d may of w) = field_is of (FieldRead.defined d may) ∙ rw (shape_13 type f w)
reason_cells (reasons.FieldReason.domain {type = type} {f = f} d may of o) = field_is of (FieldRead.defined d may) ∙ rw (domain_14 type f o)
reason_cells (reasons.FieldReason.behind_defined {type = type} {f = f} d may of v r) = field_is of (FieldRead.defined d may) ∙ rw ((right_pair type f v).is, reason_cells r)
reason_cells (reasons.FieldReason.behind_undefined e may of r) = field_is of (FieldRead.undefined e may) ∙ rw (reason_cells r)

-- ## Fields of a point

pub reason_values : {u place : ℕ} {cs : List Component} {fs : List Field} {n k : ℕ} → PointReason u place cs fs n k → component_values u place cs fs ≡ refused n k
unfolding component_values refuse put_number
reason_values reasons.PointReason.missing = refl
reason_values reasons.PointReason.extra = refl
reason_values {u} (reasons.PointReason.undefined {f = f} h) = rw (not_defined u f h)
reason_values (reasons.PointReason.shape {c = c} {f = f} d w) = rw (d.one, d.two, number_13 c f w)
reason_values (reasons.PointReason.domain {c = c} {f = f} d o) = rw (d.one, d.two, number_14 c f o)
reason_values (reasons.PointReason.behind {c = c} {f = f} d v r) = rw (d.one, d.two, number_pair c f v, reason_values r)
