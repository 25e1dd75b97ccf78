-- An attribute written is the attribute read, and keeps the rules of its record. Assumes nothing.
use Prim.Native.Nat.{ℕ, suc, ◌+◌, ◌*◌, ◌-◌, ◌^◌, ◌≤◌, ◌<◌}
use native.Mathlib.Omega.{arith}
use mathlib.Core.Path.{◌≡◌, refl, sym, ap, ◌∙◌}
use mathlib.Core.Logic.{◌⊎◌, inl, inr}
use mathlib.Core.Bool.{Bool, true, false, not, ◌||◌}
use mathlib.Core.List.{List, [], ◌∷◌, ◌++◌, append_assoc}
use lib.Dec.{ltb, eqb}
use lib.IntN.{ℤ, pos, negsuc, nat_abs}
use lib.Signed.{lt_z}
use lib.ListN.{length, drop}
use lib.Seq.{drop-drop}
use borrow.Author.Tests.{ltb-true, lt-ltb, le-leb, eqb-true}
use Rattle.meaning.specs.Bytes.{choose, all_of, byte_at}
use Rattle.meaning.specs.Model.{Component, AttributeType, Reference, Coordinate, Number, Text, Date, Enumeration, Line, Attribute, flag_of, component_of, components_of, dimension_of, type_of, parameters_size, attribute_of}
use Rattle.meaning.specs.Check.{Seen, is_bound, good_component, good_components, is_dimension, good_type, is_name, is_flag, is_type, is_among, keeps_attribute}
use Rattle.meaning.specs.ModelBytes.{u16_bytes, bits_of, u64_bytes, component_bytes, components_bytes, type_parameters, flag_byte}
use Rattle.meaning.proofs.Tests.Refuse.{both, holds}
use Rattle.meaning.proofs.Model.RecordBytes.{u16_read, i64_read}

-- ## Components

pub bound_small : (v : ℤ) → is_bound v ≡ true → nat_abs v < 10 ^ 18
unfolding is_bound
bound_small (pos n) h = ltb-true n (10 ^ 18) (both (lt_z (negsuc (10 ^ 18 - 1)) (pos n)) _ h).1
bound_small (negsuc n) h = let l = ltb-true n (10 ^ 18 - 1) (both (ltb n (10 ^ 18 - 1)) _ h).0 in omega arith

component_read : (c : Component) (rest : List ℕ) → good_component c ≡ true → component_of (component_bytes c ++ rest) ≡ c
unfolding good_component component_of component_bytes u64_bytes
component_read c rest g =
    let l = i64_read c.least (u64_bytes (bits_of c.greatest) ++ rest) (bound_small _ (holds _ 1 g)) in
    let h = i64_read c.greatest rest (bound_small _ (holds _ 2 g)) in
    rw (l, h)

component_behind : (c : Component) (rest : List ℕ) → drop 17 (component_bytes c ++ rest) ≡ rest
unfolding component_bytes u64_bytes
component_behind c rest = refl

components_read : (cs : List Component) (rest : List ℕ) → good_components cs ≡ true → components_of (length cs) (components_bytes cs ++ rest) ≡ cs
unfolding good_components components_of components_bytes
components_read [] rest g = refl
components_read (c ∷ cs) rest g =
    let q = both (good_component c) _ g in
    rw (append_assoc (component_bytes c) (components_bytes cs) rest, component_read c (components_bytes cs ++ rest) q.0, component_behind c (components_bytes cs ++ rest), components_read cs rest q.1)

components_behind : (cs : List Component) (rest : List ℕ) → drop (17 * length cs) (components_bytes cs ++ rest) ≡ rest
unfolding components_bytes
components_behind [] rest = refl
components_behind (c ∷ cs) rest =
    let e : 17 * suc (length cs) ≡ 17 + 17 * length cs = omega arith in
    rw (append_assoc (component_bytes c) (components_bytes cs) rest, e)
    (sym (drop-drop (17 * length cs) 17 (component_bytes c ++ (components_bytes cs ++ rest))) ∙ ap (drop (17 * length cs)) (component_behind c (components_bytes cs ++ rest)) ∙ components_behind cs rest)

-- ## Types

-- two or three
pub dimensions : (n : ℕ) → is_dimension n ≡ true → (n ≡ 2) ⊎ (n ≡ 3)
unfolding is_dimension
dimensions n h = go (eqb n 2) refl
  where
    go : (x : Bool) → eqb n 2 ≡ x → (n ≡ 2) ⊎ (n ≡ 3)
    go true e = inl (eqb-true n 2 e)
    go false e = inr (eqb-true n 3 (rw e at h))

-- the type's number and the parameters with the name behind them say the type, and where the name begins
pub record TypeRead (type : AttributeType) (name : List ℕ) : Type 0 where
  pub is : type_of (byte_at (type_parameters type ++ name) 0) (drop 1 (type_parameters type ++ name)) ≡ type
  pub behind : drop (parameters_size (byte_at (type_parameters type ++ name) 0) (drop 1 (type_parameters type ++ name))) (drop 1 (type_parameters type ++ name)) ≡ name
  pub rules : is_type (byte_at (type_parameters type ++ name) 0) (drop 1 (type_parameters type ++ name)) ≡ true

-- a type's rules, from the type that is read
type_rules : (t : ℕ) (p : List ℕ) (type : AttributeType) → type_of t p ≡ type → good_type type ≡ true → 1 ≤ t → t ≤ 8 → (not (eqb t 8) || is_dimension (byte_at p 1)) ≡ true → is_type t p ≡ true
unfolding is_type all_of
type_rules t p type e g l h d = rw (le-leb 1 t l, le-leb t 8 h, d, e, g)

-- a coordinate's number is its count of components
coordinate_number : (n : ℕ) (p : List ℕ) → is_dimension n ≡ true
    → (type_of n p ≡ Coordinate (components_of n p)) × (parameters_size n p ≡ 17 * n) × (1 ≤ n) × (n ≤ 8) × ((not (eqb n 8) || is_dimension (byte_at p 1)) ≡ true)
unfolding type_of parameters_size choose
coordinate_number n p h = go (dimensions n h)
  where
    go : (n ≡ 2) ⊎ (n ≡ 3) → (type_of n p ≡ Coordinate (components_of n p)) × (parameters_size n p ≡ 17 * n) × (1 ≤ n) × (n ≤ 8) × ((not (eqb n 8) || is_dimension (byte_at p 1)) ≡ true)
    go (inl e) = (rw e, rw e, omega arith, omega arith, rw e)
    go (inr e) = (rw e, rw e, omega arith, omega arith, rw e)

-- a line's count of components
dimension_read : (forms n : ℕ) (rest : List ℕ) → is_dimension n ≡ true → dimension_of (forms ∷ n ∷ rest) ≡ n
unfolding dimension_of choose
dimension_read forms n rest h = go (dimensions n h)
  where
    go : (n ≡ 2) ⊎ (n ≡ 3) → dimension_of (forms ∷ n ∷ rest) ≡ n
    go (inl e) = rw e
    go (inr e) = rw e

number_behind : (n : ℕ) (rest : List ℕ) → drop 2 (u16_bytes n ++ rest) ≡ rest
unfolding u16_bytes
number_behind n rest = refl

pub type_read : (type : AttributeType) (name : List ℕ) → good_type type ≡ true → TypeRead type name
unfolding type_of parameters_size type_parameters choose good_type
type_read (Reference t) name g =
    let i = ap Reference (u16_read t name) in
    record { is = i; behind = number_behind t name; rules = type_rules 1 _ _ i g (omega arith) (omega arith) refl }
type_read (Coordinate cs) name g =
    let k = coordinate_number (length cs) (components_bytes cs ++ name) (holds _ 0 g) in
    let i = k.0 ∙ ap Coordinate (components_read cs name (holds _ 1 g)) in
    record { is = i; behind = rw k.1 (components_behind cs name); rules = type_rules (length cs) _ _ i g k.2 k.3 k.4 }
type_read (Number c) name g =
    let i = ap Number (component_read c name g) in
    record { is = i; behind = component_behind c name; rules = type_rules 4 _ _ i g (omega arith) (omega arith) refl }
type_read (Text longest) name g =
    let i = ap Text (u16_read longest name) in
    record { is = i; behind = number_behind longest name; rules = type_rules 5 _ _ i g (omega arith) (omega arith) refl }
type_read Date name g = record { is = refl; behind = refl; rules = type_rules 6 _ _ refl g (omega arith) (omega arith) refl }
type_read (Enumeration leaves) name g =
    let i = ap Enumeration (u16_read leaves name) in
    record { is = i; behind = number_behind leaves name; rules = type_rules 7 _ _ i g (omega arith) (omega arith) refl }
type_read (Line forms cs) name g =
    let d : dimension_of (forms ∷ length cs ∷ (components_bytes cs ++ name)) ≡ length cs = dimension_read forms (length cs) _ (holds _ 2 g) in
    let i : Line forms (components_of (dimension_of (forms ∷ length cs ∷ (components_bytes cs ++ name))) (components_bytes cs ++ name)) ≡ Line forms cs = rw d (ap (Line forms) (components_read cs name (holds _ 3 g))) in
    record { is = i; behind = rw d (sym (drop-drop (17 * length cs) 2 _) ∙ components_behind cs name); rules = type_rules 8 _ _ i g (omega arith) (omega arith) (holds _ 2 g) }

-- ## Attributes

-- the payload of an attribute's record
abbrev pub attribute_payload : Attribute → List ℕ
attribute_payload a = flag_byte a.optional ∷ (type_parameters a.type ++ a.name)

pub flag_read : (o : Bool) (p : List ℕ) → flag_of (flag_byte o ∷ p) ≡ o
unfolding flag_of flag_byte
flag_read true p = refl
flag_read false p = refl

pub is_flag_lem : (o : Bool) (p : List ℕ) → is_flag (flag_byte o ∷ p) ≡ true
unfolding is_flag flag_byte
is_flag_lem true p = rw (le-leb 1 (suc (length p)) (omega arith))
is_flag_lem false p = rw (le-leb 1 (suc (length p)) (omega arith))

module _ (a : Attribute) (g : good_type a.type ≡ true) where
  pub name_read : (at : ℕ) → (attribute_of at (attribute_payload a)).name ≡ a.name
  unfolding attribute_of
  name_read at = sym (drop-drop (parameters_size (byte_at (type_parameters a.type ++ a.name) 0) (drop 1 (type_parameters a.type ++ a.name))) 2 (attribute_payload a)) ∙ (type_read a.type a.name g).behind

  pub attribute_read : (at : ℕ) → attribute_of at (attribute_payload a) ≡ record { at = at; optional = a.optional; type = a.type; name = a.name }
  unfolding attribute_of
  attribute_read at = rw (flag_read a.optional (type_parameters a.type ++ a.name), (type_read a.type a.name g).is, name_read at)

  pub attribute_keeps : (seen : Seen) → is_name 24 a.name ≡ true → length seen.attributes < 64 → is_among a.name seen.attributes ≡ false → keeps_attribute (attribute_payload a) seen ≡ true
  unfolding keeps_attribute all_of
  attribute_keeps seen n l f =
      let e = name_read 0 in
      rw (is_flag_lem a.optional (type_parameters a.type ++ a.name), (type_read a.type a.name g).rules, e, n, lt-ltb (length seen.attributes) 64 l, f)
