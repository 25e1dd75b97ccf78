-- The records of a good model whose sizes are 16 bits are bytes. Assumes nothing.
use Prim.Native.Nat.{ℕ, ◌+◌, ◌*◌, ◌/◌, ◌%◌, ◌^◌, ◌≤◌, ◌<◌}
use native.Mathlib.Omega.{arith}
use mathlib.Core.Path.{◌≡◌, refl}
use mathlib.Core.Bool.{Bool, true, false, false≢true}
use mathlib.Core.List.{List, [], ◌∷◌, ◌++◌}
use mathlib.Core.Logic.{◌⊎◌, inl, inr}
use lib.Dec.{ltb}
use lib.IntN.{ℤ, pos, negsuc}
use lib.ListN.{length, length-append}
use borrow.Author.Tests.{ltb-true, ltb-false, lt-ltb, leb-true, le-leb, lt-leb, ne_eqb, not-true, not-false}
use Rattle.meaning.specs.Bytes.{permitted, every}
use Rattle.meaning.specs.Model.{Component, AttributeType, Reference, Coordinate, Number, Text, Date, Enumeration, Line, target_of, Attribute, Table}
use Rattle.meaning.specs.Check.{special, is_bound, is_name, good_component, good_components, is_dimension, good_type, is_outside, good_names, attribute_names, table_names, good_types}
use Rattle.meaning.specs.ModelBytes.{u16_bytes, bits_of, u64_bytes, is_u16, are_u16, all_u16, record_bytes, component_bytes, components_bytes, type_parameters, flag_byte, attribute_record, attribute_records, table_record, table_records, tables_in, topic_records, transfer_record, records_of}
use Rattle.meaning.specs.ModelClaims.{AreBytes, GoodBytes}
use Rattle.meaning.proofs.Tests.Refuse.{both, holds, no_false}
use Rattle.meaning.proofs.Values.Digits.{every_append, every_kind}
use Rattle.meaning.proofs.Writing.Permits.{name_permits}
use Rattle.meaning.proofs.Model.AttributeBytes.{bound_small, dimensions}
use Rattle.meaning.proofs.Model.Entries.{Each, GoodTable, each_good, each_in}
use Rattle.meaning.proofs.Model.Encoding.{names_of, names_in}
use Rattle.meaning.proofs.Model.Names.{name_length}

-- ## Numbers

none : AreBytes []
unfolding every
none = refl

more : (x : ℕ) (s : List ℕ) → x < 256 → AreBytes s → AreBytes (x ∷ s)
unfolding every
more x s l h = rw (lt-ltb x 256 l) h

lowest : (n : ℕ) → n % 256 < 256
lowest n = omega arith

u16_bytes_lem : (n : ℕ) → n < 65536 → AreBytes (u16_bytes n)
unfolding u16_bytes
u16_bytes_lem n l = more (n % 256) _ (lowest n) (more (n / 256) [] (omega arith) none)

u64_bytes_lem : (n : ℕ) → n < 2 ^ 64 → AreBytes (u64_bytes n)
unfolding u64_bytes
u64_bytes_lem n l =
    let highest : n / 256 ^ 7 < 256 = omega arith in
    more _ _ (lowest _) (more _ _ (lowest _) (more _ _ (lowest _) (more _ _ (lowest _) (more _ _ (lowest _) (more _ _ (lowest _) (more _ _ (lowest _) (more _ [] highest none)))))))

bits_bytes : (v : ℤ) → is_bound v ≡ true → AreBytes (u64_bytes (bits_of v))
unfolding bits_of
bits_bytes (pos n) h = let l = bound_small (pos n) h in u64_bytes_lem n (omega arith)
bits_bytes (negsuc n) h = u64_bytes_lem _ (omega arith)

-- ## Names and records

permitted_byte : (b : ℕ) → permitted b ≡ true → ltb b 256 ≡ true
unfolding permitted
permitted_byte b h = no_false (ltb b 256) (λ e.
    let l : 256 ≤ b = ltb-false b 256 e in
    false≢true (rw (ne_eqb b 0x09 (omega arith), lt-leb b 0x7e (omega arith), lt-leb b 0xff (omega arith), le-leb 0x20 b (omega arith), le-leb 0xa0 b (omega arith)) at h))

name_bytes : (longest : ℕ) (n : List ℕ) → is_name longest n ≡ true → AreBytes n
name_bytes longest n h = every_kind permitted _ permitted_byte n (name_permits longest n h)

record_bytes_lem : (kind : ℕ) (p : List ℕ) → kind < 65536 → length p < 65536 → AreBytes p → AreBytes (record_bytes kind p)
unfolding record_bytes
record_bytes_lem kind p k l h = every_append _ (u16_bytes (length p)) _ (u16_bytes_lem (length p) l) (every_append _ (u16_bytes kind) p (u16_bytes_lem kind k) h)

-- ## Components

component_bytes_lem : (c : Component) → good_component c ≡ true → AreBytes (component_bytes c)
unfolding component_bytes good_component
component_bytes_lem c g =
    let few : c.decimals ≤ 9 = leb-true c.decimals 9 (holds _ 0 g) in
    more c.decimals _ (omega arith) (every_append _ (u64_bytes (bits_of c.least)) _ (bits_bytes c.least (holds _ 1 g)) (bits_bytes c.greatest (holds _ 2 g)))

components_bytes_lem : (cs : List Component) → good_components cs ≡ true → AreBytes (components_bytes cs)
unfolding components_bytes good_components
components_bytes_lem [] g = none
components_bytes_lem (c ∷ cs) g = let q = both (good_component c) _ g in every_append _ (component_bytes c) _ (component_bytes_lem c q.0) (components_bytes_lem cs q.1)

component_length : (c : Component) → length (component_bytes c) ≡ 17
unfolding component_bytes u64_bytes
component_length c = refl

components_length : (cs : List Component) → length (components_bytes cs) ≡ 17 * length cs
unfolding components_bytes
components_length [] = refl
components_length (c ∷ cs) = omega (arith, length-append (component_bytes c) (components_bytes cs), component_length c, components_length cs)

dimension_few : (n : ℕ) → is_dimension n ≡ true → n ≤ 3
dimension_few n h = go (dimensions n h)
  where
    go : (n ≡ 2) ⊎ (n ≡ 3) → n ≤ 3
    go (inl e) = omega arith
    go (inr e) = omega arith

-- ## Types

-- bytes, at most 54: a line of three components
record Small (s : List ℕ) : Type 0 where
  are : AreBytes s
  few : length s ≤ 54

number_small : (type n : ℕ) → type ≤ 8 → n < 65536 → Small (type ∷ u16_bytes n)
unfolding u16_bytes
number_small type n t l = record { are = more type _ (omega arith) (u16_bytes_lem n l); few = omega arith }

module _ (ts : List Table) (topic : ℕ) (few : length ts ≤ 512) where
  -- a reference's table is one of at most 512
  target_below : (t : ℕ) → is_outside ts topic (target_of (Reference t)) ≡ false → t < 512
  unfolding is_outside target_of
  target_below t i = let l = ltb-true t (length ts) (both (ltb t (length ts)) _ (not-false _ i)).0 in omega arith

  type_small : (type : AttributeType) → good_type type ≡ true → is_u16 type ≡ true → is_outside ts topic (target_of type) ≡ false → Small (type_parameters type)
  unfolding type_parameters good_type is_u16
  type_small (Reference t) g u i = let l = target_below t i in number_small 1 t (omega arith) (omega arith)
  type_small (Coordinate cs) g u i =
      let n = dimension_few (length cs) (holds _ 0 g) in
      record { are = more (length cs) _ (omega arith) (components_bytes_lem cs (holds _ 1 g)); few = omega (arith, components_length cs) }
  type_small (Number c) g u i = record { are = more 4 _ (omega arith) (component_bytes_lem c g); few = omega (arith, component_length c) }
  type_small (Text longest) g u i = let l = leb-true longest 65535 u in number_small 5 longest (omega arith) (omega arith)
  type_small Date g u i = record { are = more 6 [] (omega arith) none; few = omega arith }
  type_small (Enumeration leaves) g u i = let l = leb-true leaves 65535 u in number_small 7 leaves (omega arith) (omega arith)
  type_small (Line forms cs) g u i =
      let n = dimension_few (length cs) (holds _ 2 g) in
      let f = leb-true forms 3 (holds _ 1 g) in
      record { are = more 8 _ (omega arith) (more forms _ (omega arith) (more (length cs) _ (omega arith) (components_bytes_lem cs (holds _ 3 g)))); few = omega (arith, components_length cs) }

-- ## Attributes, tables and topics

flag_small : (o : Bool) → flag_byte o < 256
unfolding flag_byte
flag_small true = omega arith
flag_small false = omega arith

-- each of these tables has sizes of 16 bits
abbrev Sized : List Table → Type 0
Sized ts = Each (λ t. are_u16 t.attributes ≡ true) ts

each_sized : (ts : List Table) → all_u16 ts ≡ true → Sized ts
unfolding all_u16
each_sized [] u = tt
each_sized (t ∷ others) u = let q = both (are_u16 t.attributes) _ u in (q.0, each_sized others q.1)

module _ (all : List Table) (few : length all ≤ 512) where
  attributes_bytes : (topic : ℕ) (as' : List Attribute) → good_names (attribute_names as') ≡ true → good_types all topic as' ≡ true → are_u16 as' ≡ true → AreBytes (attribute_records as')
  unfolding attribute_records attribute_record attribute_names good_names good_types are_u16
  attributes_bytes topic [] n g u = none
  attributes_bytes topic (a ∷ others) n g u =
      let q = both (is_u16 a.type) _ u in
      let t : Small (type_parameters a.type) = type_small all topic few a.type (holds _ 0 g) q.0 (not-true _ (holds _ 1 g)) in
      let name : is_name 24 a.name ≡ true = holds _ 0 n in
      let size : length (type_parameters a.type ++ a.name) ≤ 54 + 24 = omega (arith, length-append (type_parameters a.type) a.name, t.few, name_length 24 a.name name) in
      let payload : AreBytes (flag_byte a.optional ∷ (type_parameters a.type ++ a.name)) = more _ _ (flag_small a.optional) (every_append _ (type_parameters a.type) a.name t.are (name_bytes 24 a.name name)) in
      every_append _ (attribute_record a) _ (record_bytes_lem 5 _ (omega arith) (omega arith) payload) (attributes_bytes topic others (holds _ 2 n) (holds _ 2 g) q.1)

  tables_bytes : (ts : List Table) → good_names (names_of ts) ≡ true → Each (GoodTable all) ts → Sized ts → AreBytes (table_records ts)
  unfolding table_records table_record good_names
  tables_bytes [] n g u = none
  tables_bytes (t ∷ others) n g u =
      let name : is_name 24 t.name ≡ true = holds _ 0 n in
      let size = name_length 24 t.name name in
      every_append _ (table_record t) _ (record_bytes_lem 4 _ (omega arith) (omega arith) (more _ _ (flag_small t.optional) (name_bytes 24 t.name name)))
      (every_append _ (attribute_records t.attributes) _ (attributes_bytes t.topic t.attributes g.0.names g.0.types u.0) (tables_bytes others (holds _ 2 n) g.1 u.1))

  topics_bytes : (topic : ℕ) (names : List (List ℕ)) (ts : List Table) → good_names names ≡ true → ((j : ℕ) → good_names (table_names j ts) ≡ true) → Each (GoodTable all) ts → Sized ts → AreBytes (topic_records topic names ts)
  unfolding topic_records good_names
  topics_bytes topic [] ts n v g u = none
  topics_bytes topic (name ∷ names) ts n v g u =
      let own : is_name 24 name ≡ true = holds _ 0 n in
      let size = name_length 24 name own in
      every_append _ (record_bytes 3 name) _ (record_bytes_lem 3 name (omega arith) (omega arith) (name_bytes 24 name own))
      (every_append _ (table_records (tables_in topic ts)) _ (tables_bytes (tables_in topic ts) (rw (names_in topic ts) (v topic)) (each_in (GoodTable all) topic ts g) (each_in _ topic ts u))
      (topics_bytes (topic + 1) names ts (holds _ 2 n) v g u))

-- ## The model

special_byte : (b : ℕ) → special b ≡ true → b < 256
unfolding special
special_byte b h = let l = leb-true b 0x7e (holds _ 1 h) in omega arith

pub good_bytes : GoodBytes
unfolding records_of transfer_record
good_bytes m g u =
    let transfer = name_length 63 m.transfer g.transfer in
    let size = name_length 63 m.name g.name in
    let marks : AreBytes (m.blank ∷ m.undefined ∷ m.mark ∷ m.transfer) =
    more _ _ (special_byte m.blank g.blank) (more _ _ (special_byte m.undefined g.undefined) (more _ _ (special_byte m.mark g.mark) (name_bytes 63 m.transfer g.transfer))) in
    every_append _ (transfer_record m) _ (record_bytes_lem 1 _ (omega arith) (omega arith) marks)
    (every_append _ (record_bytes 2 m.name) _ (record_bytes_lem 2 m.name (omega arith) (omega arith) (name_bytes 63 m.name g.name))
    (every_append _ (topic_records 0 m.topics m.tables) _ (topics_bytes m.tables g.table_limit 0 m.topics m.tables g.topics g.names_in_topic (each_good (length m.topics) m.tables m.tables g.tables) (each_sized m.tables u))
    (record_bytes_lem 6 [] (omega arith) (omega arith) none)))
