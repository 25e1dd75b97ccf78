-- What a row's pairs mean, field by field. Assumes nothing.
use Prim.Native.Nat.{ℕ, ◌+◌}
use native.Mathlib.Numerals.{one-add}
use mathlib.Core.Path.{◌≡◌, refl, sym, ap, ◌∙◌}
use mathlib.Core.Bool.{Bool, true, false, not, ◌&&◌, ◌||◌}
use mathlib.Core.List.{List, [], ◌∷◌, ◌++◌, append_assoc}
use lib.IntN.{ℤ, pos}
use lib.ListN.{length}
use Rattle.meaning.specs.Bytes.{choose, refuse}
use Rattle.meaning.specs.Model.{Component, AttributeType, Number}
use Rattle.meaning.specs.Field.{Field}
use Rattle.meaning.specs.Value.{pair, wrong, value_of, is_undefined, is_undefined_twice}
use Rattle.meaning.specs.Row.{Pair, OfAttribute, OfComponent, OfLine, Cells, cells, refused, put_pair, undefined_cells, undefined_rest, said_by, is_value, may_be_defined, may_be_undefined, value_of_pair, field_cells, pair_cells}
use Rattle.read_fields.specs.RowProgress.{zeros, prefixed, covered_cells, covered, defined_or, due_cells}

-- ## Cells before others

pub prefixed_none : (c : Cells) → prefixed [] c ≡ c
unfolding prefixed
prefixed_none (cells cs) = refl
prefixed_none (refused n f) = refl

pub prefixed_both : (vs ws : List ℤ) (c : Cells) → prefixed vs (prefixed ws c) ≡ prefixed (vs ++ ws) c
unfolding prefixed
prefixed_both vs ws (cells cs) = ap cells (sym (append_assoc vs ws cs))
prefixed_both vs ws (refused n f) = refl

pub put_prefixed : (place : ℕ) (a b : ℤ) (c : Cells) → put_pair place (pair a b) c ≡ prefixed (a ∷ b ∷ []) c
unfolding prefixed put_pair
put_prefixed place a b (cells cs) = refl
put_prefixed place a b (refused n f) = refl

-- ## Two undefined bytes

undefined_zeros : (ps : List Pair) → undefined_cells ps ≡ zeros (length ps)
unfolding undefined_cells zeros
undefined_zeros [] = refl
undefined_zeros (p ∷ ps) = rw (undefined_zeros ps)

rest_covered : (place : ℕ) (p : Pair) (ps : List Pair) (fs : List Field) → undefined_rest place (p ∷ ps) fs ≡ covered_cells place (1 + length ps) fs
unfolding undefined_rest covered_cells
rest_covered place p ps [] = ap cells (undefined_zeros (p ∷ ps) ∙ ap zeros (sym (one-add (length ps))))
rest_covered place p ps (f ∷ fs) = refl

-- ## The pairs of an attribute

needed_alone : (needed forbidden : Bool) → (needed && true || forbidden && false) ≡ needed
needed_alone true forbidden = refl
needed_alone false true = refl
needed_alone false false = refl

forbidden_alone : (needed forbidden : Bool) → (needed && false || forbidden && true) ≡ forbidden
forbidden_alone true true = refl
forbidden_alone true false = refl
forbidden_alone false true = refl
forbidden_alone false false = refl

-- a pair's field is due as the pair may be
field_due : (u : ℕ) (before : Bool) (place : ℕ) (p : Pair) (type : AttributeType) (ps : List Pair) (f : Field) (fs : List Field) → value_of_pair p f ≡ value_of type f
    → field_cells (said_by u f) before place p ps f fs (pair_cells u (is_value (said_by u f)) (place + 1) ps fs) ≡ due_cells u (not (may_be_undefined before p)) (not (may_be_defined before p)) place type ps (f ∷ fs)
unfolding said_by is_value field_cells due_cells choose defined_or
field_due u before place p type ps f fs v = by (is_undefined_twice u f) (is_undefined u f) refl refl
  where
    by : (two one : Bool) → is_undefined_twice u f ≡ two → is_undefined u f ≡ one
        → field_cells (said_by u f) before place p ps f fs (pair_cells u (is_value (said_by u f)) (place + 1) ps fs) ≡ due_cells u (not (may_be_undefined before p)) (not (may_be_defined before p)) place type ps (f ∷ fs)
    by true one h g = rw (h, rest_covered place p ps fs)
    by false true h g = rw (h, g, needed_alone (not (may_be_undefined before p)) (not (may_be_defined before p)))
    by false false h g = rw (h, g, v, forbidden_alone (not (may_be_undefined before p)) (not (may_be_defined before p)))

-- an attribute's own field
pub own : (u : ℕ) (before : Bool) (place : ℕ) (o : Bool) (type : AttributeType) (ps : List Pair) (fs : List Field)
    → pair_cells u before place (OfAttribute o type ∷ ps) fs ≡ due_cells u (not o) false place type ps fs
unfolding pair_cells due_cells may_be_defined may_be_undefined value_of_pair
own u before place o type ps [] = refl
own u before place o type ps (f ∷ fs) = field_due u before place (OfAttribute o type) type ps f fs refl

-- a coordinate's further component
pub further : (u : ℕ) (before : Bool) (place : ℕ) (c : Component) (ps : List Pair) (fs : List Field)
    → pair_cells u before place (OfComponent c ∷ ps) fs ≡ due_cells u before (not before) place (Number c) ps fs
unfolding pair_cells due_cells may_be_defined may_be_undefined value_of_pair value_of
further u before place c ps [] = refl
further u true place c ps (f ∷ fs) = field_due u true place (OfComponent c) (Number c) ps f fs refl
further u false place c ps (f ∷ fs) = field_due u false place (OfComponent c) (Number c) ps f fs refl

-- a line attribute has no field here
pub of_line : (u : ℕ) (before : Bool) (place : ℕ) (o : Bool) (forms : ℕ) (cs : List Component) (ps : List Pair) (fs : List Field)
    → pair_cells u before place (OfLine o forms cs ∷ ps) fs ≡ prefixed (pos 0 ∷ pos 0 ∷ []) (pair_cells u before place ps fs)
unfolding pair_cells
of_line u before place o forms cs ps [] = put_prefixed place _ _ _
of_line u before place o forms cs ps (f ∷ fs) = put_prefixed place _ _ _

-- ## A field that is due

module _ (u : ℕ) (place : ℕ) (type : AttributeType) (ps : List Pair) where
  pub due_missing : (needed forbidden : Bool) → due_cells u needed forbidden place type ps [] ≡ refused 11 place
  unfolding due_cells
  due_missing needed forbidden = refl

  module _ (f : Field) (fs : List Field) where
    pub due_covered : (forbidden : Bool) → is_undefined_twice u f ≡ true → due_cells u false forbidden place type ps (f ∷ fs) ≡ covered place 1 ps fs
    unfolding due_cells covered choose
    due_covered forbidden e = rw e

    pub due_covered_needed : (forbidden : Bool) → is_undefined_twice u f ≡ true → due_cells u true forbidden place type ps (f ∷ fs) ≡ refused 12 place
    unfolding due_cells choose refuse
    due_covered_needed forbidden e = rw e

    pub due_undefined : (forbidden : Bool) → is_undefined_twice u f ≡ false → is_undefined u f ≡ true
        → due_cells u false forbidden place type ps (f ∷ fs) ≡ prefixed (pos 0 ∷ pos 0 ∷ []) (pair_cells u false (place + 1) ps fs)
    unfolding due_cells choose refuse defined_or
    due_undefined true e d = rw (e, d) (put_prefixed place _ _ _)
    due_undefined false e d = rw (e, d) (put_prefixed place _ _ _)

    pub due_undefined_needed : (forbidden : Bool) → is_undefined_twice u f ≡ false → is_undefined u f ≡ true → due_cells u true forbidden place type ps (f ∷ fs) ≡ refused 12 place
    unfolding due_cells choose refuse
    due_undefined_needed forbidden e d = rw (e, d)

    pub due_forbidden : (needed : Bool) → is_undefined_twice u f ≡ false → is_undefined u f ≡ false → due_cells u needed true place type ps (f ∷ fs) ≡ refused 12 place
    unfolding due_cells choose refuse
    due_forbidden true e d = rw (e, d)
    due_forbidden false e d = rw (e, d)

    pub due_wrong : (needed : Bool) (n : ℕ) → is_undefined_twice u f ≡ false → is_undefined u f ≡ false → value_of type f ≡ wrong n
        → due_cells u needed false place type ps (f ∷ fs) ≡ refused n place
    unfolding due_cells choose refuse defined_or put_pair
    due_wrong true n e d v = rw (e, d, v)
    due_wrong false n e d v = rw (e, d, v)

    pub due_defined : (needed : Bool) (a b : ℤ) → is_undefined_twice u f ≡ false → is_undefined u f ≡ false → value_of type f ≡ pair a b
        → due_cells u needed false place type ps (f ∷ fs) ≡ prefixed (a ∷ b ∷ []) (pair_cells u true (place + 1) ps fs)
    unfolding due_cells choose refuse defined_or
    due_defined true a b e d v = rw (e, d, v) (put_prefixed place _ _ _)
    due_defined false a b e d v = rw (e, d, v) (put_prefixed place _ _ _)
