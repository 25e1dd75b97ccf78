-- Fields by their attribute's type. Assumes nothing.
use Prim.Native.Nat.{ℕ, zero, suc, ◌+◌, ◌-◌, ◌≤◌, ◌<◌}
use native.Mathlib.Omega.{arith}
use mathlib.Core.Path.{◌≡◌, refl, sym, ap, ◌∙◌}
use mathlib.Core.Bool.{Bool, true, false}
use mathlib.Core.List.{List, [], ◌∷◌, append-nil}
use borrow.Author.Tests.{leb-true, ne_eqb}
use lib.IntN.{ℤ, pos, negsuc, nat_abs}
use mir.Syntax.{w64}
use mir.Val.{SFits, to_z, of_z}
use mir.ValLaws.{to_z-of_z}
use lib.Signed.{lt_z}
use lib.ListN.{length, take, drop, get_or}
use lib.Seq.{get_or-drop}
use Rattle.meaning.specs.Bytes.{choose}
use Rattle.meaning.specs.Model as meaning
use Rattle.meaning.specs.Model.{AttributeType, Coordinate, Line}
use Rattle.meaning.specs.Check.{good_component, good_components, good_type}
use Rattle.meaning.specs.Row.{OfAttribute, component_pairs, pairs_of_type}
use Rattle.meaning.specs.Reading.{Content}
use Rattle.meaning.specs.Writing.{stretch_bytes, identification_bytes, type_bytes, field_bytes, pair_fields, spaced}
use Rattle.meaning.proofs.Tests.Refuse.{both, holds}
use Rattle.model_records.specs.declared.attributes.Component.{Component}
use Rattle.model_records.specs.declared.attributes.Components.{Components}
use Rattle.model_records.specs.declared.attributes.Kind.{Kind}
use Rattle.model_records.specs.declared.attributes.Kind.TheVariants as kind
use Rattle.model_records.specs.Components.{component_of, list_of}
use Rattle.model_records.specs.Attributes.{of_kind}
use Rattle.table.specs.Stretches.{Cut}
use Rattle.write_objects.specs.Given.{component_fields}

-- ## Stretches

module _ (text : List ℕ) (start : ℤ) (size : ℕ) where
  pub stretch_before : lt_z start (pos 0) ≡ true → [] ≡ stretch_bytes text start size
  unfolding stretch_bytes choose
  stretch_before h = rw h

  pub stretch_cut : lt_z start (pos 0) ≡ false → (from len : ℕ) → Cut (length text) (nat_abs start) size from len → take (from + len - from) (drop from text) ≡ stretch_bytes text start size
  unfolding stretch_bytes choose
  stretch_cut h from len c = let e : from + len - from ≡ len = omega arith in rw (h, e) (c.same text refl)

pub identified : (text : List ℕ) (cs : List ℤ) (row : ℕ) → stretch_bytes text (get_or (drop row cs) 1 (pos 0)) (nat_abs (get_or (drop row cs) 2 (pos 0))) ≡ identification_bytes text cs row
unfolding identification_bytes
identified text cs row = rw (get_or-drop row cs 1 (pos 0), get_or-drop row cs 2 (pos 0))

-- ## Good components

decimals_good : (k : meaning.Component) → good_component k ≡ true → k.decimals ≤ 9
unfolding good_component
decimals_good k h = leb-true k.decimals 9 (holds _ 0 h)

pub listed_good : (l : List Component) (i n : ℕ) (d : Component) → i < n → n ≤ length l → good_components (list_of (take n l)) ≡ true → (get_or l i d).decimals ≤ 9
unfolding list_of good_components
listed_good l i zero d h g e = absurd (omega arith)
listed_good [] i (suc n) d h g e = absurd (omega arith)
listed_good (k ∷ l) zero (suc n) d h g e = decimals_good (component_of k) (both (good_component (component_of k)) _ e).0
listed_good (k ∷ l) (suc i) (suc n) d h g e = listed_good l i n d (omega arith) (omega arith) (both (good_component (component_of k)) _ e).1

pub number_good : (k : meaning.Component) → good_type (meaning.Number k) ≡ true → k.decimals ≤ 9
unfolding good_type
number_good k g = decimals_good k g

pub coordinate_good : (ks : List meaning.Component) → good_type (Coordinate ks) ≡ true → good_components ks ≡ true
unfolding good_type
coordinate_good ks g = holds _ 1 g

-- ## A field, defined or not

pub none_there : (a : ℤ) → SFits w64 a → of_z w64 a ≡ 0 → nat_abs a ≡ 0
none_there a h e = let z : a ≡ pos 0 = sym (to_z-of_z w64 a h) ∙ ap (to_z w64) e in ap nat_abs z

pub some_there : (a : ℤ) → (of_z w64 a ≡ 0 → ⊥) → nat_abs a ≡ 0 → ⊥
some_there (pos n) d e = let z : n ≡ 0 = e in d (rw z)
some_there (negsuc n) d e = absurd (omega arith)

pub field_undefined : (u : ℕ) (a : ℤ) (defined : List ℕ) → nat_abs a ≡ 0 → (0x20 ∷ u ∷ []) ≡ 0x20 ∷ field_bytes u a defined
unfolding field_bytes choose
field_undefined u a defined e = rw e

pub field_defined : (u : ℕ) (a : ℤ) (defined : List ℕ) → (nat_abs a ≡ 0 → ⊥) → (0x20 ∷ defined) ≡ 0x20 ∷ field_bytes u a defined
unfolding field_bytes choose
field_defined u a defined d = rw (ne_eqb (nat_abs a) 0 d)

-- ## The fields of an attribute's pairs

-- a kind that is neither a coordinate nor a line has one pair
pub own_pairs_lem : (o : Bool) (k : Kind) → ((ks : Components) → k ≡ kind.Coordinate ks → ⊥) → ((forms : ℕ) (ks : Components) → k ≡ kind.Line forms ks → ⊥)
    → pairs_of_type o (of_kind k) ≡ OfAttribute o (of_kind k) ∷ []
unfolding pairs_of_type
own_pairs_lem o (kind.Reference table) n m = refl
own_pairs_lem o (kind.Coordinate ks) n m = absurd (n ks refl)
own_pairs_lem o (kind.Number k) n m = refl
own_pairs_lem o (kind.Text longest) n m = refl
own_pairs_lem o kind.Date n m = refl
own_pairs_lem o (kind.Enumeration leaves) n m = refl
own_pairs_lem o (kind.Line forms ks) n m = absurd (m forms ks refl)

module _ (u : ℕ) (text : List ℕ) (c : Content) where
  further_fields : (ks : List meaning.Component) (cs : List ℤ) → component_fields u ks cs ≡ pair_fields u text c (component_pairs ks) cs
  unfolding component_fields pair_fields component_pairs
  further_fields [] cs = refl
  further_fields (k ∷ ks) cs = rw (further_fields ks (drop 2 cs))

  coordinate_fields : (o : Bool) (ks : List meaning.Component) (cs : List ℤ) → component_fields u ks cs ≡ pair_fields u text c (pairs_of_type o (Coordinate ks)) cs
  unfolding component_fields pair_fields pairs_of_type type_bytes
  coordinate_fields o [] cs = refl
  coordinate_fields o (k ∷ ks) cs = rw (further_fields ks (drop 2 cs))

  own_field : (o : Bool) (type : AttributeType) (cs : List ℤ) → pairs_of_type o type ≡ OfAttribute o type ∷ []
      → (0x20 ∷ field_bytes u (get_or cs 0 (pos 0)) (type_bytes text c type (get_or cs 0 (pos 0)) (get_or cs 1 (pos 0)))) ≡ spaced (pair_fields u text c (pairs_of_type o type) cs)
  unfolding spaced pair_fields
  own_field o type cs e = rw (e, append-nil)

  module _ (o : Bool) (cs : List ℤ) where
    pub attribute_coordinate : (ks : List meaning.Component) → spaced (component_fields u ks cs) ≡ spaced (pair_fields u text c (pairs_of_type o (Coordinate ks)) cs)
    attribute_coordinate ks = ap spaced (coordinate_fields o ks cs)

    pub attribute_own : (k : Kind) → ((ks : Components) → k ≡ kind.Coordinate ks → ⊥) → ((forms : ℕ) (ks : Components) → k ≡ kind.Line forms ks → ⊥)
        → (0x20 ∷ field_bytes u (get_or cs 0 (pos 0)) (type_bytes text c (of_kind k) (get_or cs 0 (pos 0)) (get_or cs 1 (pos 0)))) ≡ spaced (pair_fields u text c (pairs_of_type o (of_kind k)) cs)
    attribute_own k n m = own_field o (of_kind k) cs (own_pairs_lem o k n m)

    pub attribute_line_lem : (forms : ℕ) (ks : List meaning.Component) → [] ≡ spaced (pair_fields u text c (pairs_of_type o (Line forms ks)) cs)
    unfolding spaced pair_fields pairs_of_type
    attribute_line_lem forms ks = refl
