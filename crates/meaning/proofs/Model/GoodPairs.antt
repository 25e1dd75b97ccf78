-- What a good model gives: pairs whose components are good, and names. Assumes nothing.
use Prim.Native.Nat.{ℕ, zero, suc, ◌<◌}
use native.Mathlib.Omega.{arith}
use mathlib.Core.Path.{◌≡◌, refl}
use mathlib.Core.Bool.{Bool, true, false}
use mathlib.Core.List.{List, [], ◌∷◌, ◌++◌}
use lib.Dec.{eqb}
use lib.ListN.{length, get_or}
use borrow.Author.Tests.{eq-eqb}
use Rattle.meaning.specs.Bytes.{choose}
use Rattle.meaning.specs.Model.{Component, AttributeType, Reference, Coordinate, Number, Text, Date, Enumeration, Line, Attribute, Table, Model, table_at}
use Rattle.meaning.specs.Check.{is_name, good_component, good_components, good_type, good_names, table_names, good_types, good_tables, GoodModel}
use Rattle.meaning.specs.Row.{Pair, OfAttribute, OfComponent, OfLine, component_pairs, pairs_of_type, pairs_of}
use Rattle.meaning.proofs.Tests.Refuse.{both, holds}
use Rattle.meaning.proofs.Reading.Fields.{Solid}
use Rattle.meaning.proofs.Writing.Writable.{name_solid}
use Rattle.meaning.proofs.Reading.RowsRead.{PairsGood}

-- ## Pairs

good_append : (ps qs : List Pair) → PairsGood ps → PairsGood qs → PairsGood (ps ++ qs)
good_append [] qs h k = k
good_append (OfAttribute o type ∷ ps) qs h k = (h.0, good_append ps qs h.1 k)
good_append (OfComponent x ∷ ps) qs h k = (h.0, good_append ps qs h.1 k)
good_append (OfLine o forms ks ∷ ps) qs h k = (h.0, good_append ps qs h.1 k)

components_good : (ks : List Component) → good_components ks ≡ true → PairsGood (component_pairs ks)
unfolding good_components component_pairs
components_good [] h = tt
components_good (k ∷ ks) h = let r = both (good_component k) _ h in (r.0, components_good ks r.1)

type_good : (o : Bool) (type : AttributeType) → good_type type ≡ true → PairsGood (pairs_of_type o type)
unfolding good_type pairs_of_type good_components
type_good o (Reference t) h = (tt, tt)
type_good o (Coordinate []) h = tt
type_good o (Coordinate (k ∷ ks)) h = let r = both (good_component k) _ (holds _ 1 h) in (r.0, components_good ks r.1)
type_good o (Number x) h = (h, tt)
type_good o (Text longest) h = (tt, tt)
type_good o Date h = (tt, tt)
type_good o (Enumeration leaves) h = (tt, tt)
type_good o (Line forms ks) h = ((holds _ 2 h, holds _ 3 h), tt)

attributes_good : (ts : List Table) (topic : ℕ) (attributes : List Attribute) → good_types ts topic attributes ≡ true → PairsGood (pairs_of attributes)
unfolding good_types pairs_of
attributes_good ts topic [] h = tt
attributes_good ts topic (a ∷ others) h =
    good_append (pairs_of_type a.optional a.type) (pairs_of others) (type_good a.optional a.type (holds _ 0 h)) (attributes_good ts topic others (holds _ 2 h))

tables_good : (topics : ℕ) (ts others : List Table) (n : ℕ) → good_tables topics ts others ≡ true → PairsGood (pairs_of (table_at others n).attributes)
unfolding good_tables pairs_of
tables_good topics ts [] n h = tt
tables_good topics ts (t ∷ others) zero h = attributes_good ts t.topic t.attributes (holds _ 4 h)
tables_good topics ts (t ∷ others) (suc n) h = tables_good topics ts others n (holds _ 5 h)

pub pairs_good : (m : Model) → GoodModel m → (t : ℕ) → PairsGood (pairs_of (table_at m.tables t).attributes)
pairs_good m good t = tables_good (length m.topics) m.tables m.tables t good.tables

-- ## Names

pub names_good : (names : List (List ℕ)) (n : ℕ) → good_names names ≡ true → n < length names → is_name 24 (get_or names n []) ≡ true
unfolding good_names
names_good [] n h l = absurd (omega arith)
names_good (name ∷ names) zero h l = holds _ 0 h
names_good (name ∷ names) (suc n) h l = names_good names n (holds _ 2 h) (omega arith)

pub topic_solid : (m : Model) → GoodModel m → (p : ℕ) → p < length m.topics → Solid (get_or m.topics p [])
topic_solid m good p l = name_solid 24 _ (names_good m.topics p good.topics l)

-- a table's name is among those of its topic
pub table_name : (ts : List Table) (n : ℕ) → n < length ts → good_names (table_names (table_at ts n).topic ts) ≡ true → is_name 24 (table_at ts n).name ≡ true
unfolding table_names choose good_names
table_name [] n l h = absurd (omega arith)
table_name (t ∷ ts) zero l h = holds _ 0 (rw (eq-eqb t.topic t.topic refl) at h)
table_name (t ∷ ts) (suc n) l h = by (eqb t.topic (table_at ts n).topic) h (table_name ts n (omega arith))
  where
    by : (x : Bool) → good_names (choose x (t.name ∷ table_names (table_at ts n).topic ts) (table_names (table_at ts n).topic ts)) ≡ true
        → (good_names (table_names (table_at ts n).topic ts) ≡ true → is_name 24 (table_at ts n).name ≡ true) → is_name 24 (table_at ts n).name ≡ true
    by true h ih = ih (holds _ 2 h)
    by false h ih = ih h

pub table_solid : (m : Model) → GoodModel m → (t : ℕ) → t < length m.tables → Solid (table_at m.tables t).name
table_solid m good t l = name_solid 24 _ (table_name m.tables t l (good.names_in_topic (table_at m.tables t).topic))
