-- An object's entries by the pairs of its row, as they are read; the grammar says them by attributes, and both say the same. Assumes nothing.
use Prim.Native.Nat.{ℕ, zero, suc, ◌+◌, ◌≤◌}
use native.Mathlib.Omega.{arith}
use mathlib.Core.Path.{◌≡◌, refl, sym, ap, subst, ◌∙◌}
use mathlib.Core.Bool.{Bool, true, false, true≢false}
use mathlib.Core.List.{List, [], ◌∷◌, ◌++◌}
use lib.IntN.{ℤ}
use lib.ListN.{length, replicate}
use Rattle.meaning.specs.Model.{Component, AttributeType, Reference, Coordinate, Number, Text, Date, Enumeration, Attribute}
use Rattle.meaning.specs.Model as model
use Rattle.meaning.specs.Field.{Field, ELIN}
use Rattle.meaning.specs.Value.{is_undefined, is_undefined_twice}
use Rattle.meaning.specs.Row.{Pair, OfAttribute, OfComponent, OfLine, component_pairs, pairs_of_type, pairs_of}
use Rattle.meaning.specs.Right.{Point, Entry, Undefined, OfValue, OfPoints, Line, Alone, Defined, IsNumber, Means, number, date, enumeration, text, reference, Values, none, one, Drawn, field_count, undefined_field, StandFor, themselves, remaining, AllUndefined, value_entries, AttributeEntries, value, coordinate, Entries, fields}
use Rattle.meaning.specs.Right as right
use Rattle.meaning.proofs.Reading.PairCells.{undefined_field_lem, undefined_once}

-- ## By pairs

-- the field before was defined, was undefined, or was two undefined bytes, which cover all remaining fields
pub data Before : Type 0 where
  was_defined was_undefined covered : Before

unfoldable pub is_covered : Before → Bool
is_covered was_defined = false
is_covered was_undefined = false
is_covered covered = true

-- the entries of the pairs that are left, from the fields that are left on the OBJE line and the lines that follow it
pub data PairEntries (u : ℕ) : Before → List Pair → List Field → List Line → List Entry → Type 0 where
  -- no field is missing and none is extra
  done : {b : Before} → PairEntries u b [] [] [] []
  -- an attribute's field, which is undefined only where the attribute is optional
  defined : {b : Before} {o : Bool} {type : AttributeType} {ps : List Pair} {f : Field} {fs : List Field} {ls : List Line} {e : Entry} {es : List Entry}
      → Defined u f → Means type f e → PairEntries u was_defined ps fs ls es → PairEntries u b (OfAttribute o type ∷ ps) (f ∷ fs) ls (e ∷ es)
  undefined : {b : Before} {type : AttributeType} {ps : List Pair} {f : Field} {fs : List Field} {ls : List Line} {es : List Entry}
      → is_undefined u f ≡ true → PairEntries u was_undefined ps fs ls es → PairEntries u b (OfAttribute true type ∷ ps) (f ∷ fs) ls (Undefined ∷ es)
  -- two undefined bytes are the last field, and all that they cover is optional
  cover : {b : Before} {type : AttributeType} {ps : List Pair} {f : Field} {ls : List Line} {es : List Entry}
      → is_undefined_twice u f ≡ true → PairEntries u covered ps [] ls es → PairEntries u b (OfAttribute true type ∷ ps) (f ∷ []) ls (Undefined ∷ es)
  under : {type : AttributeType} {ps : List Pair} {ls : List Line} {es : List Entry}
      → PairEntries u covered ps [] ls es → PairEntries u covered (OfAttribute true type ∷ ps) [] ls (Undefined ∷ es)
  -- a coordinate's further component is undefined exactly where the first one is
  also_defined : {c : Component} {ps : List Pair} {f : Field} {fs : List Field} {ls : List Line} {v : ℤ} {es : List Entry}
      → Defined u f → IsNumber c f v → PairEntries u was_defined ps fs ls es → PairEntries u was_defined (OfComponent c ∷ ps) (f ∷ fs) ls (OfValue v ∷ es)
  also_undefined : {c : Component} {ps : List Pair} {f : Field} {fs : List Field} {ls : List Line} {es : List Entry}
      → is_undefined u f ≡ true → PairEntries u was_undefined ps fs ls es → PairEntries u was_undefined (OfComponent c ∷ ps) (f ∷ fs) ls (Undefined ∷ es)
  also_cover : {c : Component} {ps : List Pair} {f : Field} {ls : List Line} {es : List Entry}
      → is_undefined_twice u f ≡ true → PairEntries u covered ps [] ls es → PairEntries u was_undefined (OfComponent c ∷ ps) (f ∷ []) ls (Undefined ∷ es)
  also_under : {c : Component} {ps : List Pair} {ls : List Line} {es : List Entry}
      → PairEntries u covered ps [] ls es → PairEntries u covered (OfComponent c ∷ ps) [] ls (Undefined ∷ es)
  -- a line attribute has no field, but lines
  undrawn : {b : Before} {forms : ℕ} {cs : List Component} {ps : List Pair} {fs : List Field} {l : Line} {ls : List Line} {es : List Entry}
      → Alone ELIN l → PairEntries u b ps fs ls es → PairEntries u b (OfLine true forms cs ∷ ps) fs (l ∷ ls) (Undefined ∷ es)
  along : {b : Before} {o : Bool} {forms : ℕ} {cs : List Component} {ps : List Pair} {fs : List Field} {these ls : List Line} {points : List Point} {es : List Entry}
      → Drawn u forms cs these points → PairEntries u b ps fs ls es → PairEntries u b (OfLine o forms cs ∷ ps) fs (these ++ ls) (OfPoints points ∷ es)

-- ## Undefined fields

-- no field is two undefined bytes
abbrev NoneTwice : (u : ℕ) → List Field → Type 0
NoneTwice u [] = Unit {0}
NoneTwice u (f ∷ fs) = (is_undefined_twice u f ≡ false) × NoneTwice u fs

none_twice : (u n : ℕ) → NoneTwice u (replicate n (undefined_field u))
none_twice u zero = tt
none_twice u (suc n) = (undefined_once u (undefined_field u) (undefined_field_lem u 0), none_twice u n)

all_undefined : (u n : ℕ) → AllUndefined u (replicate n (undefined_field u))
all_undefined u zero = tt
all_undefined u (suc n) = (undefined_field_lem u 0, all_undefined u n)

one_more : (u n : ℕ) → replicate (1 + n) (undefined_field u) ≡ undefined_field u ∷ replicate n (undefined_field u)
one_more u n = let e : 1 + n ≡ suc n = omega arith in ap (λ (k : ℕ). replicate k (undefined_field u)) e

-- ## What the fields of a line stand for, by pairs

stand_more : {u : ℕ} {fs gs : List Field} (f : Field) → StandFor u fs gs → StandFor u (f ∷ fs) (f ∷ gs)
stand_more f themselves = themselves
stand_more f (remaining fs g more h) = remaining (f ∷ fs) g more h

stand_last : (u : ℕ) (f : Field) (n : ℕ) → is_undefined_twice u f ≡ true → StandFor u (f ∷ []) (replicate (suc n) (undefined_field u))
stand_last u f n h = subst (StandFor u (f ∷ [])) (one_more u n) (remaining [] f n h)

-- an undefined field for each field that is covered
record Uncovered (u : ℕ) (ps : List Pair) (ls : List Line) (es : List Entry) : Type 0 where
  more : ℕ
  entries : PairEntries u was_undefined ps (replicate more (undefined_field u)) ls es

uncovered : {u : ℕ} {ps : List Pair} {ls : List Line} {es : List Entry} → PairEntries u covered ps [] ls es → Uncovered u ps ls es
uncovered done = record { more = 0; entries = done }
uncovered {u} (under r) = let x = uncovered r in record { more = suc x.more; entries = undefined (undefined_field_lem u 0) x.entries }
uncovered {u} (also_under r) = let x = uncovered r in record { more = suc x.more; entries = also_undefined (undefined_field_lem u 0) x.entries }
uncovered (undrawn l r) = let x = uncovered r in record { more = x.more; entries = undrawn l x.entries }
uncovered (along d r) = let x = uncovered r in record { more = x.more; entries = along d x.entries }

-- the fields that these stand for, none of which covers others
record Meant (u : ℕ) (b : Before) (ps : List Pair) (fs : List Field) (ls : List Line) (es : List Entry) : Type 0 where
  gs : List Field
  stand : StandFor u fs gs
  entries : PairEntries u b ps gs ls es
  once : NoneTwice u gs

meant : {u : ℕ} {b : Before} {ps : List Pair} {fs : List Field} {ls : List Line} {es : List Entry} → PairEntries u b ps fs ls es → is_covered b ≡ false → Meant u b ps fs ls es
unfolding is_covered
meant done h = record { gs = []; stand = themselves; entries = done; once = tt }
meant (defined {f = f} d n r) h = let x = meant r refl in record { gs = f ∷ x.gs; stand = stand_more f x.stand; entries = defined d n x.entries; once = (d.two, x.once) }
meant {u} (undefined {f = f} e r) h =
    let x = meant r refl in
    record { gs = f ∷ x.gs; stand = stand_more f x.stand; entries = undefined e x.entries; once = (undefined_once u f e, x.once) }
meant {u} (cover {f = f} e r) h =
    let x = uncovered r in
    record { gs = replicate (suc x.more) (undefined_field u); stand = stand_last u f x.more e; entries = undefined (undefined_field_lem u 0) x.entries; once = none_twice u (suc x.more) }
meant (under r) h = absurd (true≢false h)
meant (also_defined {f = f} d n r) h = let x = meant r refl in record { gs = f ∷ x.gs; stand = stand_more f x.stand; entries = also_defined d n x.entries; once = (d.two, x.once) }
meant {u} (also_undefined {f = f} e r) h =
    let x = meant r refl in
    record { gs = f ∷ x.gs; stand = stand_more f x.stand; entries = also_undefined e x.entries; once = (undefined_once u f e, x.once) }
meant {u} (also_cover {f = f} e r) h =
    let x = uncovered r in
    record { gs = replicate (suc x.more) (undefined_field u); stand = stand_last u f x.more e; entries = also_undefined (undefined_field_lem u 0) x.entries; once = none_twice u (suc x.more) }
meant (also_under r) h = absurd (true≢false h)
meant (undrawn l r) h = let x = meant r h in record { gs = x.gs; stand = x.stand; entries = undrawn l x.entries; once = x.once }
meant (along d r) h = let x = meant r h in record { gs = x.gs; stand = x.stand; entries = along d x.entries; once = x.once }

-- what `remaining` says, field by field
data Ends (u : ℕ) : (written meant : List Field) → Type 0 where
  here : {f g : Field} {gs : List Field} → is_undefined_twice u f ≡ true → is_undefined u g ≡ true → AllUndefined u gs → Ends u (f ∷ []) (g ∷ gs)
  there : {f : Field} {fs gs : List Field} → Ends u fs gs → Ends u (f ∷ fs) (f ∷ gs)

ends : (u : ℕ) (fs : List Field) (f : Field) (n : ℕ) → is_undefined_twice u f ≡ true → Ends u (fs ++ (f ∷ [])) (fs ++ replicate (1 + n) (undefined_field u))
ends u [] f n h = rw (one_more u n) (here h (undefined_field_lem u 0) (all_undefined u n))
ends u (g ∷ fs) f n h = there (ends u fs f n h)

not_both : (u : ℕ) (f : Field) → is_undefined u f ≡ true → is_undefined_twice u f ≡ true → ⊥
not_both u f h k = true≢false (sym k ∙ undefined_once u f h)

-- undefined fields may be covered
all_covered : {u : ℕ} {b : Before} {ps : List Pair} {fs : List Field} {ls : List Line} {es : List Entry} → PairEntries u b ps fs ls es → AllUndefined u fs → PairEntries u covered ps [] ls es
all_covered done h = done
all_covered (defined d n r) h = absurd (true≢false (sym h.0 ∙ d.one))
all_covered (undefined e r) h = under (all_covered r h.1)
all_covered {u} (cover {f = f} e r) h = absurd (not_both u f h.0 e)
all_covered (under r) h = under r
all_covered (also_defined d n r) h = absurd (true≢false (sym h.0 ∙ d.one))
all_covered (also_undefined e r) h = also_under (all_covered r h.1)
all_covered {u} (also_cover {f = f} e r) h = absurd (not_both u f h.0 e)
all_covered (also_under r) h = also_under r
all_covered (undrawn l r) h = undrawn l (all_covered r h)
all_covered (along d r) h = along d (all_covered r h)

covered_end : {u : ℕ} {b : Before} {ps : List Pair} {fs gs : List Field} {ls : List Line} {es : List Entry} → PairEntries u b ps gs ls es → Ends u fs gs → PairEntries u b ps fs ls es
covered_end (defined d n r) (here h k all) = absurd (true≢false (sym k ∙ d.one))
covered_end (defined d n r) (there x) = defined d n (covered_end r x)
covered_end (undefined e r) (here h k all) = cover h (all_covered r all)
covered_end (undefined e r) (there x) = undefined e (covered_end r x)
covered_end {u} (cover {f = g} e r) (here h k all) = absurd (not_both u g k e)
covered_end (also_defined d n r) (here h k all) = absurd (true≢false (sym k ∙ d.one))
covered_end (also_defined d n r) (there x) = also_defined d n (covered_end r x)
covered_end (also_undefined e r) (here h k all) = also_cover h (all_covered r all)
covered_end (also_undefined e r) (there x) = also_undefined e (covered_end r x)
covered_end {u} (also_cover {f = g} e r) (here h k all) = absurd (not_both u g k e)
covered_end done x = elim x [ ]
covered_end (cover e r) (there x) = elim x [ ]
covered_end (under r) x = elim x [ ]
covered_end (also_cover e r) (there x) = elim x [ ]
covered_end (also_under r) x = elim x [ ]
covered_end (undrawn l r) x = undrawn l (covered_end r x)
covered_end (along d r) x = along d (covered_end r x)

-- and the fields that stand for them
written : {u : ℕ} {b : Before} {ps : List Pair} {fs gs : List Field} {ls : List Line} {es : List Entry} → StandFor u fs gs → PairEntries u b ps gs ls es → PairEntries u b ps fs ls es
written themselves r = r
written {u} (remaining fs f more h) r = covered_end r (ends u fs f more h)

-- ## From pairs to attributes

-- the fields of a coordinate's components come first, all defined
data ValuesFirst (u : ℕ) (cs : List Component) (qs : List Pair) (ls : List Line) : List Field → List Entry → Type 0 where
  values_first : {fs rest : List Field} {vs : List ℤ} {es : List Entry} → Values u cs fs vs → NoneTwice u rest → PairEntries u was_defined qs rest ls es
      → ValuesFirst u cs qs ls (fs ++ rest) (value_entries vs ++ es)

-- or all undefined
data UndefinedFirst (u n : ℕ) (qs : List Pair) (ls : List Line) : List Field → List Entry → Type 0 where
  undefined_first : (fs : List Field) {rest : List Field} {es : List Entry} → length fs ≡ n → AllUndefined u fs → NoneTwice u rest → PairEntries u was_undefined qs rest ls es
      → UndefinedFirst u n qs ls (fs ++ rest) (replicate (length fs) Undefined ++ es)

values_more : {u : ℕ} {c : Component} {cs : List Component} {qs : List Pair} {ls : List Line} {f : Field} {fs : List Field} {v : ℤ} {es : List Entry}
    → Defined u f → IsNumber c f v → ValuesFirst u cs qs ls fs es → ValuesFirst u (c ∷ cs) qs ls (f ∷ fs) (OfValue v ∷ es)
unfolding value_entries
values_more d n (values_first vs once r) = values_first (one d n vs) once r

undefined_more : {u n : ℕ} {qs : List Pair} {ls : List Line} {f : Field} {fs : List Field} {es : List Entry}
    → is_undefined u f ≡ true → UndefinedFirst u n qs ls fs es → UndefinedFirst u (suc n) qs ls (f ∷ fs) (Undefined ∷ es)
undefined_more {f = f} e (undefined_first fs size all once r) = undefined_first (f ∷ fs) (ap suc size) (e, all) once r

values_first_lem : {u : ℕ} (cs : List Component) {qs : List Pair} {fs : List Field} {ls : List Line} {es : List Entry}
    → PairEntries u was_defined (component_pairs cs ++ qs) fs ls es → NoneTwice u fs → ValuesFirst u cs qs ls fs es
unfolding component_pairs value_entries
values_first_lem [] r once = values_first none once r
values_first_lem (c ∷ cs) (also_defined d n r) once = values_more d n (values_first_lem cs r once.1)

undefined_first_lem : {u : ℕ} (cs : List Component) {qs : List Pair} {fs : List Field} {ls : List Line} {es : List Entry}
    → PairEntries u was_undefined (component_pairs cs ++ qs) fs ls es → NoneTwice u fs → UndefinedFirst u (length cs) qs ls fs es
unfolding component_pairs
undefined_first_lem [] r once = undefined_first [] refl tt once r
undefined_first_lem (c ∷ cs) (also_undefined e r) once = undefined_more e (undefined_first_lem cs r once.1)
undefined_first_lem (c ∷ cs) (also_cover e r) once = absurd (true≢false (sym e ∙ once.0))

-- an attribute's fields or lines, and what follows them
data AttributeFirst (u : ℕ) (o : Bool) (type : AttributeType) (qs : List Pair) : List Field → List Line → List Entry → Type 0 where
  by_fields : {b : Before} {fs rest : List Field} {ls : List Line} {mine es : List Entry} → AttributeEntries u o type fs mine → is_covered b ≡ false → NoneTwice u rest
      → PairEntries u b qs rest ls es → AttributeFirst u o type qs (fs ++ rest) ls (mine ++ es)
  by_no_line : {b : Before} {forms : ℕ} {cs : List Component} {fs : List Field} {l : Line} {ls : List Line} {es : List Entry} → type ≡ model.Line forms cs → o ≡ true → Alone ELIN l
      → is_covered b ≡ false → NoneTwice u fs → PairEntries u b qs fs ls es → AttributeFirst u o type qs fs (l ∷ ls) (Undefined ∷ es)
  by_line : {b : Before} {forms : ℕ} {cs : List Component} {fs : List Field} {these ls : List Line} {points : List Point} {es : List Entry} → type ≡ model.Line forms cs
      → Drawn u forms cs these points → is_covered b ≡ false → NoneTwice u fs → PairEntries u b qs fs ls es → AttributeFirst u o type qs fs (these ++ ls) (OfPoints points ∷ es)

-- an attribute of one field, a coordinate, a line
one_first : {u : ℕ} {b : Before} {o : Bool} {type : AttributeType} {qs : List Pair} {fs : List Field} {ls : List Line} {es : List Entry} → field_count type ≡ 1
    → PairEntries u b (OfAttribute o type ∷ qs) fs ls es → is_covered b ≡ false → NoneTwice u fs → AttributeFirst u o type qs fs ls es
unfolding is_covered
one_first size (defined d n r) h once = by_fields (value d n) refl once.1 r
one_first {type = type} size (undefined {f = f} e r) h once = by_fields (right.AttributeEntries.undefined {type = type} {fs = f ∷ []} (omega arith) (sym size) (e, tt)) refl once.1 r
one_first size (cover e r) h once = absurd (true≢false (sym e ∙ once.0))
one_first size (under r) h once = absurd (true≢false h)

values_attribute : {u : ℕ} {o : Bool} {cs : List Component} {qs : List Pair} {fs : List Field} {ls : List Line} {es : List Entry} → ValuesFirst u cs qs ls fs es → AttributeFirst u o (Coordinate cs) qs fs ls es
unfolding is_covered
values_attribute (values_first vs once r) = by_fields (coordinate vs) refl once r

undefined_attribute : {u : ℕ} (type : AttributeType) {qs : List Pair} {fs : List Field} {ls : List Line} {es : List Entry} → 1 ≤ field_count type → UndefinedFirst u (field_count type) qs ls fs es
    → AttributeFirst u true type qs fs ls es
unfolding is_covered
undefined_attribute type some (undefined_first fs size all once r) = by_fields (right.AttributeEntries.undefined {fs = fs} some size all) refl once r

coordinate_first : {u : ℕ} {b : Before} {o : Bool} (c : Component) (cs : List Component) {qs : List Pair} {fs : List Field} {ls : List Line} {es : List Entry}
    → PairEntries u b (OfAttribute o (Number c) ∷ (component_pairs cs ++ qs)) fs ls es → is_covered b ≡ false → NoneTwice u fs → AttributeFirst u o (Coordinate (c ∷ cs)) qs fs ls es
unfolding is_covered field_count
coordinate_first c cs (defined d (number n) r) h once = values_attribute (values_more d n (values_first_lem cs r once.1))
coordinate_first c cs (undefined e r) h once = undefined_attribute (Coordinate (c ∷ cs)) (omega arith) (undefined_more e (undefined_first_lem cs r once.1))
coordinate_first c cs (cover e r) h once = absurd (true≢false (sym e ∙ once.0))
coordinate_first c cs (under r) h once = absurd (true≢false h)

line_first : {u : ℕ} {b : Before} {o : Bool} {forms : ℕ} {cs : List Component} {qs : List Pair} {fs : List Field} {ls : List Line} {es : List Entry} → PairEntries u b (OfLine o forms cs ∷ qs) fs ls es
    → is_covered b ≡ false → NoneTwice u fs → AttributeFirst u o (model.Line forms cs) qs fs ls es
line_first (undrawn l r) h once = by_no_line refl refl l h once r
line_first (along d r) h once = by_line refl d h once r

attribute_first : {u : ℕ} {b : Before} (o : Bool) (type : AttributeType) {qs : List Pair} {fs : List Field} {ls : List Line} {es : List Entry} → PairEntries u b (pairs_of_type o type ++ qs) fs ls es
    → is_covered b ≡ false → NoneTwice u fs → AttributeFirst u o type qs fs ls es
unfolding pairs_of_type field_count value_entries
attribute_first o (Reference target) r h once = one_first refl r h once
attribute_first o (Coordinate []) r h once = by_fields (coordinate none) h once r
attribute_first o (Coordinate (c ∷ cs)) r h once = coordinate_first c cs r h once
attribute_first o (Number c) r h once = one_first refl r h once
attribute_first o (Text longest) r h once = one_first refl r h once
attribute_first o Date r h once = one_first refl r h once
attribute_first o (Enumeration leaves) r h once = one_first refl r h once
attribute_first o (model.Line forms cs) r h once = line_first r h once

-- pairs of attributes, none of whose fields covers others, are their attributes
by_attributes : {u : ℕ} {b : Before} (as' : List Attribute) {fs : List Field} {ls : List Line} {es : List Entry} → PairEntries u b (pairs_of as') fs ls es → is_covered b ≡ false → NoneTwice u fs
    → Entries u as' fs ls es
unfolding pairs_of
by_attributes [] done h once = right.Entries.done
by_attributes {u} (a ∷ others) r h once = by (attribute_first a.optional a.type r h once) (λ b fs ls es r h once. by_attributes others r h once)
  where
    by : {fs : List Field} {ls : List Line} {es : List Entry} → AttributeFirst u a.optional a.type (pairs_of others) fs ls es
        → ((b : Before) (fs : List Field) (ls : List Line) (es : List Entry) → PairEntries u b (pairs_of others) fs ls es → is_covered b ≡ false → NoneTwice u fs → Entries u others fs ls es)
        → Entries u (a ∷ others) fs ls es
    by (by_fields x h once r) ih = fields x (ih _ _ _ _ r h once)
    by (by_no_line t o l h once r) ih = right.Entries.undrawn t o l (ih _ _ _ _ r h once)
    by (by_line t d h once r) ih = right.Entries.along t d (ih _ _ _ _ r h once)

-- ## From attributes to pairs

-- these pairs, whatever was before
abbrev Pairs : (u : ℕ) → List Pair → List Field → List Line → List Entry → Type 0
Pairs u ps fs ls es = (b : Before) → PairEntries u b ps fs ls es

components_defined : {u : ℕ} {cs : List Component} {fs gs : List Field} {vs : List ℤ} {qs : List Pair} {ls : List Line} {es : List Entry} → Values u cs fs vs → Pairs u qs gs ls es
    → PairEntries u was_defined (component_pairs cs ++ qs) (fs ++ gs) ls (value_entries vs ++ es)
unfolding component_pairs value_entries
components_defined none r = r was_defined
components_defined (one d n vs) r = also_defined d n (components_defined vs r)

components_undefined : {u : ℕ} (cs : List Component) (fs : List Field) {gs : List Field} {qs : List Pair} {ls : List Line} {es : List Entry} → length fs ≡ length cs → AllUndefined u fs → Pairs u qs gs ls es
    → PairEntries u was_undefined (component_pairs cs ++ qs) (fs ++ gs) ls (replicate (length fs) Undefined ++ es)
unfolding component_pairs
components_undefined [] [] size all r = r was_undefined
components_undefined [] (f ∷ fs) size all r = absurd (omega arith)
components_undefined (c ∷ cs) [] size all r = absurd (omega arith)
components_undefined (c ∷ cs) (f ∷ fs) size all r = also_undefined all.0 (components_undefined cs fs (omega arith) all.1 r)

one_undefined : {u : ℕ} (type : AttributeType) (fs : List Field) {gs : List Field} {qs : List Pair} {ls : List Line} {es : List Entry} → length fs ≡ 1 → AllUndefined u fs → Pairs u qs gs ls es
    → Pairs u (OfAttribute true type ∷ qs) (fs ++ gs) ls (replicate (length fs) Undefined ++ es)
one_undefined type [] size all r b = absurd (omega arith)
one_undefined type (f ∷ []) size all r b = undefined all.0 (r was_undefined)
one_undefined type (f ∷ g ∷ fs) size all r b = absurd (omega arith)

undefined_pairs : {u : ℕ} (type : AttributeType) (fs : List Field) {gs : List Field} {qs : List Pair} {ls : List Line} {es : List Entry} → 1 ≤ field_count type → length fs ≡ field_count type
    → AllUndefined u fs → Pairs u qs gs ls es → Pairs u (pairs_of_type true type ++ qs) (fs ++ gs) ls (replicate (length fs) Undefined ++ es)
unfolding pairs_of_type field_count
undefined_pairs (Reference target) fs some size all r b = one_undefined (Reference target) fs size all r b
undefined_pairs (Coordinate []) fs some size all r b = absurd (omega arith)
undefined_pairs (Coordinate (c ∷ cs)) [] some size all r b = absurd (omega arith)
undefined_pairs (Coordinate (c ∷ cs)) (f ∷ fs) some size all r b = undefined all.0 (components_undefined cs fs (omega arith) all.1 r)
undefined_pairs (Number c) fs some size all r b = one_undefined (Number c) fs size all r b
undefined_pairs (Text longest) fs some size all r b = one_undefined (Text longest) fs size all r b
undefined_pairs Date fs some size all r b = one_undefined Date fs size all r b
undefined_pairs (Enumeration leaves) fs some size all r b = one_undefined (Enumeration leaves) fs size all r b
undefined_pairs (model.Line forms cs) fs some size all r b = absurd (omega arith)

-- only attributes of one pair have a meaning
one_pair : {type : AttributeType} {f : Field} {e : Entry} → Means type f e → (o : Bool) → pairs_of_type o type ≡ OfAttribute o type ∷ []
unfolding pairs_of_type
one_pair (number h) o = refl
one_pair (date h) o = refl
one_pair (enumeration h) o = refl
one_pair (text h l) o = refl
one_pair (reference h) o = refl

attribute_pairs : {u : ℕ} {o : Bool} {type : AttributeType} {fs gs : List Field} {mine es : List Entry} {qs : List Pair} {ls : List Line} → AttributeEntries u o type fs mine → Pairs u qs gs ls es
    → Pairs u (pairs_of_type o type ++ qs) (fs ++ gs) ls (mine ++ es)
unfolding pairs_of_type value_entries
attribute_pairs {o = o} (value d n) r b = rw (one_pair n o) (defined d n (r was_defined))
attribute_pairs (coordinate none) r b = r b
attribute_pairs (coordinate (one d n vs)) r b = defined d (number n) (components_defined vs r)
attribute_pairs (right.AttributeEntries.undefined {type = type} {fs = fs} some size all) r b = undefined_pairs type fs some size all r b

by_pairs : {u : ℕ} {as' : List Attribute} {fs : List Field} {ls : List Line} {es : List Entry} → Entries u as' fs ls es → Pairs u (pairs_of as') fs ls es
unfolding pairs_of pairs_of_type
by_pairs right.Entries.done b = done
by_pairs (fields x r) b = attribute_pairs x (λ b'. by_pairs r b') b
by_pairs (right.Entries.undrawn t o l r) b = rw (t, o) (undrawn l (by_pairs r b))
by_pairs (right.Entries.along t d r) b = rw t (along d (by_pairs r b))

-- ## Both say the same

-- the entries by attributes, of the fields that these stand for
pub record MeantEntries (u : ℕ) (as' : List Attribute) (fs : List Field) (ls : List Line) (es : List Entry) : Type 0 where
  pub gs : List Field
  pub stand : StandFor u fs gs
  pub entries : Entries u as' gs ls es

pub entries_of_pairs : (u : ℕ) (as' : List Attribute) (fs : List Field) (ls : List Line) (es : List Entry) → PairEntries u was_defined (pairs_of as') fs ls es → MeantEntries u as' fs ls es
unfolding is_covered
entries_of_pairs u as' fs ls es r = let x = meant r refl in record { gs = x.gs; stand = x.stand; entries = by_attributes as' x.entries refl x.once }

-- whatever was before: the first pair of an attribute does not ask
pub pairs_of_entries : (u : ℕ) (as' : List Attribute) (fs gs : List Field) (ls : List Line) (es : List Entry) → StandFor u fs gs → Entries u as' gs ls es → (b : Before)
    → PairEntries u b (pairs_of as') fs ls es
pairs_of_entries u as' fs gs ls es stand r b = written stand (by_pairs r b)
