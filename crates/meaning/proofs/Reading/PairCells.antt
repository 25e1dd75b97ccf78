-- The cells of a pair from its field, one rule for each thing that the field may say. Assumes nothing.
use Prim.Native.Nat.{ℕ, ◌+◌}
use mathlib.Core.Path.{◌≡◌, refl, sym, ap, subst, ◌∙◌}
use mathlib.Core.Bool.{Bool, true, false, not, ◌||◌, true≢false, false≢true}
use mathlib.Core.List.{List, [], ◌∷◌}
use mathlib.Core.Logic.{◌↔◌}
use borrow.Author.Tests.{eq-eqb}
use Rattle.meaning.specs.Bytes.{choose, refuse, same}
use Rattle.meaning.specs.Model.{AttributeType}
use Rattle.meaning.specs.Field.{Field}
use Rattle.meaning.specs.Value.{value_of, is_undefined, is_undefined_twice}
use Rattle.meaning.specs.Row.{Pair, has_mandatory, Cells, refused, put_pair, undefined_pair, undefined_rest, value, nothing, nothing_on, said_by, is_value, may_be_defined, may_be_undefined, value_of_pair, field_cells, pair_cells}
use Rattle.meaning.specs.Right.{Defined}
use Rattle.meaning.specs.Reasons.{MayBeUndefined, MayBeDefined, FieldType, of_attribute, of_component}
use Rattle.meaning.proofs.Tests.Same.{same_refl, same_is}
use Rattle.meaning.proofs.Tests.Refuse.{no_true}

-- ## What a field says

pub undefined_field_lem : (u start : ℕ) → is_undefined u (record { start = start; bytes = u ∷ [] }) ≡ true
unfolding is_undefined
undefined_field_lem u start = same_refl (u ∷ [])

-- one undefined byte is not two
pub undefined_once : (u : ℕ) (f : Field) → is_undefined u f ≡ true → is_undefined_twice u f ≡ false
unfolding is_undefined is_undefined_twice same
undefined_once u f h = rw (same_is f.bytes (u ∷ []) h, eq-eqb u u refl)

module _ (u : ℕ) (f : Field) where
  says_value : Defined u f → said_by u f ≡ value
  unfolding said_by choose
  says_value d = rw (d.two, d.one)

  says_nothing : is_undefined u f ≡ true → said_by u f ≡ nothing
  unfolding said_by choose
  says_nothing e = rw (undefined_once u f e, e)

  says_on : is_undefined_twice u f ≡ true → said_by u f ≡ nothing_on
  unfolding said_by choose
  says_on e = rw e

-- ## A pair that has a field

-- the tests of the meaning, and the rules of the reasons
may_defined : {p : Pair} {type : AttributeType} → FieldType p type → (b : Bool) → (may_be_defined b p ≡ true) ↔ MayBeDefined b p
unfolding may_be_defined
may_defined of_attribute b = (λ _. tt, λ _. refl)
may_defined of_component b = (λ e. e, λ e. e)

may_undefined : {p : Pair} {type : AttributeType} → FieldType p type → (b : Bool) → (may_be_undefined b p ≡ true) ↔ MayBeUndefined b p
unfolding may_be_undefined
may_undefined of_attribute b = (λ e. e, λ e. e)
may_undefined of_component true = (λ e. absurd (false≢true e), λ e. absurd (true≢false e))
may_undefined of_component false = (λ _. refl, λ _. refl)

field_value : {p : Pair} {type : AttributeType} → FieldType p type → (f : Field) → value_of_pair p f ≡ value_of type f
unfolding value_of_pair value_of
field_value of_attribute f = refl
field_value of_component f = refl

field_cells_lem : {p : Pair} {type : AttributeType} → FieldType p type → (u : ℕ) (b : Bool) (place : ℕ) (ps : List Pair) (f : Field) (fs : List Field)
    → pair_cells u b place (p ∷ ps) (f ∷ fs) ≡ field_cells (said_by u f) b place p ps f fs (pair_cells u (is_value (said_by u f)) (place + 1) ps fs)
unfolding pair_cells
field_cells_lem of_attribute u b place ps f fs = refl
field_cells_lem of_component u b place ps f fs = refl

-- ## The rules

-- the cells of a pair from its field and of the pairs behind it, and why they are these
pub data FieldRead (u : ℕ) (b : Bool) (place : ℕ) (p : Pair) (type : AttributeType) (ps : List Pair) (f : Field) (fs : List Field) : Cells → Type 0 where
  defined : Defined u f → MayBeDefined b p → FieldRead u b place p type ps f fs (put_pair place (value_of type f) (pair_cells u true (place + 1) ps fs))
  mixed : Defined u f → (MayBeDefined b p → ⊥) → FieldRead u b place p type ps f fs (refused 12 place)
  undefined : is_undefined u f ≡ true → MayBeUndefined b p → FieldRead u b place p type ps f fs (put_pair place undefined_pair (pair_cells u false (place + 1) ps fs))
  mandatory : is_undefined u f ≡ true → (MayBeUndefined b p → ⊥) → FieldRead u b place p type ps f fs (refused 12 place)
  twice : is_undefined_twice u f ≡ true → MayBeUndefined b p → has_mandatory ps ≡ false → FieldRead u b place p type ps f fs (undefined_rest place (p ∷ ps) fs)
  covers : is_undefined_twice u f ≡ true → (MayBeUndefined b p → has_mandatory ps ≡ true) → FieldRead u b place p type ps f fs (refused 12 place)

-- two undefined bytes at a mandatory field or before one
covered_true : (may : Bool) (ps : List Pair) → (may ≡ true → has_mandatory ps ≡ true) → (not may || has_mandatory ps) ≡ true
covered_true true ps h = h refl
covered_true false ps h = refl

-- two undefined bytes are refused by this test
on_tested : (b : Bool) (place : ℕ) (p : Pair) (ps : List Pair) (f : Field) (fs : List Field) (others : Cells) (t : Bool) → (not (may_be_undefined b p) || has_mandatory ps) ≡ t
    → field_cells nothing_on b place p ps f fs others ≡ refuse t (refused 12 place) (undefined_rest place (p ∷ ps) fs)
unfolding field_cells
on_tested b place p ps f fs others t e = ap (λ (x : Bool). refuse x (refused 12 place) (undefined_rest place (p ∷ ps) fs)) e

-- by cases of a test that holds exactly when something is so
so_or_not : (t : Bool) {P C : Type 0} → (t ≡ true) ↔ P → (P → C) → ((P → ⊥) → C) → C
so_or_not true s h k = h (s.0 refl)
so_or_not false s h k = k (λ e. false≢true (s.1 e))

module _ {u : ℕ} {b : Bool} {place : ℕ} {p : Pair} {type : AttributeType} {ps : List Pair} {f : Field} {fs : List Field} (of : FieldType p type) where
  pub field_is : {k : Cells} → FieldRead u b place p type ps f fs k → pair_cells u b place (p ∷ ps) (f ∷ fs) ≡ k
  unfolding field_cells is_value refuse
  field_is (FieldRead.defined d may) = field_cells_lem of u b place ps f fs ∙ rw (says_value u f d, (may_defined of b).1 may, field_value of f)
  field_is (FieldRead.mixed d never) = field_cells_lem of u b place ps f fs ∙ rw (says_value u f d, no_true (may_be_defined b p) (λ e. never ((may_defined of b).0 e)))
  field_is (FieldRead.undefined h may) = field_cells_lem of u b place ps f fs ∙ rw (says_nothing u f h, (may_undefined of b).1 may)
  field_is (FieldRead.mandatory h never) = field_cells_lem of u b place ps f fs ∙ rw (says_nothing u f h, no_true (may_be_undefined b p) (λ e. never ((may_undefined of b).0 e)))
  field_is (FieldRead.twice h may none) = field_cells_lem of u b place ps f fs ∙ rw (says_on u f h) (on_tested b place p ps f fs (pair_cells u false (place + 1) ps fs) false (rw ((may_undefined of b).1 may, none)))
  field_is (FieldRead.covers h some) = field_cells_lem of u b place ps f fs ∙ rw (says_on u f h) (on_tested b place p ps f fs (pair_cells u false (place + 1) ps fs) true (covered_true (may_be_undefined b p) ps (λ e. some ((may_undefined of b).0 e))))

  by_rule : {k : Cells} → FieldRead u b place p type ps f fs k → FieldRead u b place p type ps f fs (pair_cells u b place (p ∷ ps) (f ∷ fs))
  by_rule r = subst (FieldRead u b place p type ps f fs) (sym (field_is r)) r

  -- the cells are by one of the rules
  pub field_read : FieldRead u b place p type ps f fs (pair_cells u b place (p ∷ ps) (f ∷ fs))
  field_read = by (is_undefined_twice u f) (is_undefined u f) (has_mandatory ps) refl refl refl
    where
      by : (two one some : Bool) → is_undefined_twice u f ≡ two → is_undefined u f ≡ one → has_mandatory ps ≡ some → FieldRead u b place p type ps f fs (pair_cells u b place (p ∷ ps) (f ∷ fs))
      by true one true h g m = by_rule (FieldRead.covers h (λ _. m))
      by true one false h g m = so_or_not (may_be_undefined b p) (may_undefined of b) (λ may. by_rule (FieldRead.twice h may m)) (λ never. by_rule (FieldRead.covers h (λ may. absurd (never may))))
      by false true some h g m = so_or_not (may_be_undefined b p) (may_undefined of b) (λ may. by_rule (FieldRead.undefined g may)) (λ never. by_rule (FieldRead.mandatory g never))
      by false false some h g m =
          let d : Defined u f = record { one = g; two = h } in
          so_or_not (may_be_defined b p) (may_defined of b) (λ may. by_rule (FieldRead.defined d may)) (λ never. by_rule (FieldRead.mixed d never))
