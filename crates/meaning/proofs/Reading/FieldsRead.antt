-- What the fields of a line that was not refused say: the pairs of a row, and the values of a point. Assumes nothing.
use Prim.Native.Nat.{ℕ, ◌+◌}
use mathlib.Core.Path.{◌≡◌, refl}
use mathlib.Core.Bool.{Bool, true, false, not, ◌||◌, true≢false}
use mathlib.Core.List.{List, [], ◌∷◌}
use lib.IntN.{ℤ, pos}
use lib.ListN.{length}
use borrow.Author.Tests.{not-false}
use Rattle.meaning.specs.Bytes.{refuse, separator, every}
use Rattle.meaning.specs.Model.{Component, AttributeType}
use Rattle.meaning.specs.Field.{Field, goes_on, add_to_fields, fields_of}
use Rattle.meaning.specs.Value.{Value, pair, wrong, unsigned, is_number, within, number_of, value_of, is_undefined, is_undefined_twice}
use Rattle.meaning.specs.Row.{Pair, OfAttribute, OfComponent, OfLine, has_mandatory, Cells, cells, refused, put_pair, put_number, undefined_cells, undefined_rest, pair_cells, component_values}
use Rattle.meaning.specs.Reading.{stretch}
use Rattle.meaning.specs.Right.{Defined}
use Rattle.meaning.specs.Reasons.{MayBeUndefined, MayBeDefined, FieldType, of_attribute, of_component}
use Rattle.meaning.proofs.Tests.Unequal.{no_cells, no_pair}
use Rattle.meaning.proofs.Tests.Refuse.{passed}
use Rattle.meaning.proofs.Reading.Fields.{solid, Solid}
use Rattle.meaning.proofs.Reading.Stretches.{AllStand}
use Rattle.meaning.proofs.Reading.PairCells.{FieldRead, field_read}

-- ## Fields

abbrev pub AllAre : List Field → Type 0
AllAre [] = Unit {0}
AllAre (f ∷ fs) = Solid f.bytes × AllAre fs

more_solid : (b : ℕ) (s : List ℕ) → separator b ≡ false → Solid s → every solid (b ∷ s) ≡ true
unfolding every solid
more_solid b [] e h = rw e
more_solid b (a ∷ s) e h = rw e h

pub fields_are_lem : (start : ℕ) (l : List ℕ) → AllAre (fields_of start l)
unfolding fields_of add_to_fields every solid
fields_are_lem start [] = tt
fields_are_lem start (b ∷ l) = by (separator b) refl (goes_on l) (fields_of (start + 1) l) (fields_are_lem (start + 1) l)
  where
    by : (s : Bool) → separator b ≡ s → (g : Bool) (fs : List Field) → AllAre fs → AllAre (add_to_fields s g start b fs)
    by true p g fs h = h
    by false p false fs h = (rw p, h)
    by false p true [] h = (rw p, tt)
    by false p true (f ∷ fs) h = (more_solid b f.bytes p h.0, h.1)

-- ## What did not refuse

pub record Put (v : Value) (others : Cells) (xs : List ℤ) : Type 0 where
  pub a : ℤ
  pub b : ℤ
  pub ys : List ℤ
  pub value : v ≡ pair a b
  pub rest : others ≡ cells ys
  pub whole : xs ≡ a ∷ b ∷ ys

pub put_inv : (place : ℕ) (v : Value) (others : Cells) (xs : List ℤ) → put_pair place v others ≡ cells xs → Put v others xs
unfolding put_pair
put_inv place (wrong n) others xs e = absurd (no_cells n place xs e)
put_inv place (pair a b) (refused n f) xs e = absurd (no_cells n f xs e)
put_inv place (pair a b) (cells ys) xs e = record { a = a; b = b; ys = ys; value = refl; rest = refl; whole = cc }

-- a number is within its bounds
pub number_within : (c : Component) (s : List ℕ) (a b : ℤ) → number_of c s ≡ pair a b → (a ≡ pos 1) × (within c b ≡ true)
unfolding number_of
number_within c s a b e =
    let p = passed (not (is_number c.decimals (unsigned s))) _ _ _ (no_pair 13 a b) e in
    let q = passed _ _ _ _ (no_pair 14 a b) p.1 in
    let one : a ≡ pos 1 = cc q.1 in
    (one, inside _ q.0 q.1)
  where
    inside : (v : ℤ) → not (within c v) ≡ false → pair (pos 1) v ≡ pair a b → within c b ≡ true
    inside v h e = let z : v ≡ b = cc in rw z at (not-false (within c v) h)

-- ## A row's pairs

pub data Given (u : ℕ) (text : List ℕ) : Bool → List Pair → List ℤ → Type 0 where
  done : {before : Bool} → Given u text before [] []
  absent : {before : Bool} {type : AttributeType} {ps : List Pair} {xs : List ℤ} → Given u text false ps xs → Given u text before (OfAttribute true type ∷ ps) (pos 0 ∷ pos 0 ∷ xs)
  present : {before o : Bool} {type : AttributeType} {ps : List Pair} {a b : ℤ} {xs : List ℤ} (f : Field) → is_undefined u f ≡ false → is_undefined_twice u f ≡ false → Solid f.bytes
      → stretch text f.start (length f.bytes) ≡ f.bytes → value_of type f ≡ pair a b → Given u text true ps xs → Given u text before (OfAttribute o type ∷ ps) (a ∷ b ∷ xs)
  without : {x : Component} {ps : List Pair} {xs : List ℤ} → Given u text false ps xs → Given u text false (OfComponent x ∷ ps) (pos 0 ∷ pos 0 ∷ xs)
  along : {x : Component} {ps : List Pair} {b : ℤ} {xs : List ℤ} → within x b ≡ true → Given u text true ps xs → Given u text true (OfComponent x ∷ ps) (pos 1 ∷ b ∷ xs)
  line : {before o : Bool} {forms : ℕ} {ks : List Component} {ps : List Pair} {xs : List ℤ} → Given u text before ps xs → Given u text before (OfLine o forms ks ∷ ps) (pos 0 ∷ pos 0 ∷ xs)

zeros : (u : ℕ) (text : List ℕ) (ps : List Pair) → has_mandatory ps ≡ false → Given u text false ps (undefined_cells ps)
unfolding has_mandatory undefined_cells
zeros u text [] h = done
zeros u text (OfAttribute true type ∷ ps) h = absent (zeros u text ps h)
zeros u text (OfAttribute false type ∷ ps) h = absurd (true≢false h)
zeros u text (OfComponent x ∷ ps) h = without (zeros u text ps h)
zeros u text (OfLine o forms ks ∷ ps) h = line (zeros u text ps h)

rest_inv : (place : ℕ) (ps : List Pair) (fs : List Field) (xs : List ℤ) → undefined_rest place ps fs ≡ cells xs → xs ≡ undefined_cells ps
unfolding undefined_rest
rest_inv place ps [] xs e = cc
rest_inv place ps (f ∷ fs) xs e = absurd (no_cells 11 (place + 1) xs e)

module _ {u : ℕ} {text : List ℕ} {b : Bool} {ps : List Pair} where
  -- a pair that may be undefined, and is
  none_given : {p : Pair} {type : AttributeType} {ys : List ℤ} → FieldType p type → MayBeUndefined b p → Given u text false ps ys → Given u text b (p ∷ ps) (pos 0 ∷ pos 0 ∷ ys)
  none_given of_attribute may r = rw may (absent r)
  none_given of_component may r = rw may (without r)

  module _ (f : Field) (sound : Solid f.bytes) (stands : stretch text f.start (length f.bytes) ≡ f.bytes) where
    value_given : {p : Pair} {type : AttributeType} {x y : ℤ} {ys : List ℤ} → FieldType p type → Defined u f → MayBeDefined b p → value_of type f ≡ pair x y → Given u text true ps ys
        → Given u text b (p ∷ ps) (x ∷ y ∷ ys)
    unfolding value_of
    value_given of_attribute d may e r = present f d.one d.two sound stands e r
    value_given {x = x} {y = y} (of_component {c = c}) d may e r = let w = number_within c f.bytes x y e in rw (may, w.0) (along w.1 r)

    field_given : {p : Pair} {type : AttributeType} (place : ℕ) (fs : List Field) (xs : List ℤ) → FieldType p type
        → ((d : Bool) (ys : List ℤ) → pair_cells u d (place + 1) ps fs ≡ cells ys → Given u text d ps ys)
        → (k : Cells) → FieldRead u b place p type ps f fs k → k ≡ cells xs → Given u text b (p ∷ ps) xs
    unfolding undefined_cells
    field_given place fs xs of next _ (FieldRead.defined d may) e = let q = put_inv place _ _ xs e in rw q.whole (value_given of d may q.value (next true q.ys q.rest))
    field_given place fs xs of next _ (FieldRead.undefined h may) e =
        let q = put_inv place _ _ xs e in
        let z : xs ≡ pos 0 ∷ pos 0 ∷ q.ys = cc (q.value, q.whole) in
        rw z (none_given of may (next false q.ys q.rest))
    field_given {p} place fs xs of next _ (FieldRead.twice h may none) e = rw (rest_inv place (p ∷ ps) fs xs e) (none_given of may (zeros u text ps none))
    field_given place fs xs of next _ (FieldRead.mixed d never) e = absurd (no_cells 12 place xs e)
    field_given place fs xs of next _ (FieldRead.mandatory h never) e = absurd (no_cells 12 place xs e)
    field_given place fs xs of next _ (FieldRead.covers h some) e = absurd (no_cells 12 place xs e)

pub pairs_given : (u : ℕ) (text : List ℕ) (before : Bool) (place : ℕ) (ps : List Pair) (fs : List Field) (xs : List ℤ) → AllAre fs → AllStand text fs
    → pair_cells u before place ps fs ≡ cells xs → Given u text before ps xs
unfolding pair_cells
pairs_given u text before place [] [] xs are st e = let z : xs ≡ [] = cc in rw z done
pairs_given u text before place [] (f ∷ fs) xs are st e = absurd (no_cells 11 place xs e)
pairs_given u text before place (OfLine o forms ks ∷ ps) fs xs are st e =
    let p = put_inv place _ _ xs e in
    let q = pairs_given u text before place ps fs p.ys are st p.rest in
    let z : xs ≡ pos 0 ∷ pos 0 ∷ p.ys = cc (p.value, p.whole) in
    rw z (line q)
pairs_given u text before place (OfAttribute o type ∷ ps) [] xs are st e = absurd (no_cells 11 place xs e)
pairs_given u text before place (OfAttribute o type ∷ ps) (f ∷ fs) xs are st e =
    field_given f are.0 st.0 place fs xs of_attribute (λ d ys. pairs_given u text d (place + 1) ps fs ys are.1 st.1) _ (field_read of_attribute) e
pairs_given u text before place (OfComponent c ∷ ps) [] xs are st e = absurd (no_cells 11 place xs e)
pairs_given u text before place (OfComponent c ∷ ps) (f ∷ fs) xs are st e =
    field_given f are.0 st.0 place fs xs of_component (λ d ys. pairs_given u text d (place + 1) ps fs ys are.1 st.1) _ (field_read of_component) e

-- ## A point's values

pub data WithinAll : List Component → List ℤ → Type 0 where
  none : WithinAll [] []
  one : {c : Component} {cs : List Component} {v : ℤ} {vs : List ℤ} → within c v ≡ true → WithinAll cs vs → WithinAll (c ∷ cs) (v ∷ vs)

pub values_within : (u place : ℕ) (cs : List Component) (fs : List Field) (vs : List ℤ) → component_values u place cs fs ≡ cells vs → WithinAll cs vs
unfolding component_values refuse put_number
values_within u place [] [] vs e = let z : vs ≡ [] = cc in rw z none
values_within u place [] (f ∷ fs) vs e = absurd (no_cells 11 place vs e)
values_within u place (c ∷ cs) [] vs e = absurd (no_cells 11 place vs e)
values_within u place (c ∷ cs) (f ∷ fs) vs e = by (is_undefined u f || is_undefined_twice u f) (number_of c f.bytes) refl _ refl (values_within u (place + 1) cs fs) e
  where
    by : (t : Bool) (v : Value) → number_of c f.bytes ≡ v → (others : Cells) → component_values u (place + 1) cs fs ≡ others
        → ((ys : List ℤ) → component_values u (place + 1) cs fs ≡ cells ys → WithinAll cs ys)
        → refuse t (refused 12 place) (put_number place v others) ≡ cells vs → WithinAll (c ∷ cs) vs
    by true v p others q ih e = absurd (no_cells 12 place vs e)
    by false (wrong n) p others q ih e = absurd (no_cells n place vs e)
    by false (pair a b) p (refused n k) q ih e = absurd (no_cells n k vs e)
    by false (pair a b) p (cells ys) q ih e =
        let z : vs ≡ b ∷ ys = cc in
        rw z (one (number_within c f.bytes a b p).1 (ih ys q))
