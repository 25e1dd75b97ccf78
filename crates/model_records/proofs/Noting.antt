-- A good model's places: passing a record, and noting it. Assumes nothing.
use Prim.Native.Nat.{ℕ, ◌+◌, ◌-◌, ◌≤◌, ◌<◌}
use native.Mathlib.Omega.{arith}
use mathlib.Core.Path.{◌≡◌, refl, sym, ap, ◌∙◌}
use mathlib.Core.Bool.{Bool, true, false}
use mathlib.Core.List.{List}
use lib.Dec.{eqb}
use lib.ListN.{length, get_or, set, length-set}
use lib.Seq.{get_or-set_same, get_or-set_other}
use borrow.Author.Tests.{eqb-true, eqb-false}
use Rattle.meaning.specs.Bytes.{choose}
use Rattle.meaning.specs.Model.{Model, Table, table_at}
use Rattle.model_records.specs.Records.{kind_at, next_at}
use Rattle.model_records.specs.AtRecord.{AtRecord, RecordFits}
use Rattle.model_records.specs.Places.{noted_by, RecordPassed, TopicRecord, TableRecord, RecordsNoted}
use Rattle.model_records.specs.declared.places.RecordCursor.{RecordCursor}
use Rattle.model_records.specs.declared.places.TablePlace.{TablePlace}
use Rattle.model_records.specs.declared.places.Places.{Places}
use Rattle.model_records.proofs.AtRecord.{here, topic_here, table_here, attribute_here}

-- ## One record

-- a record of no other kind is an attribute
not_others_five : {b : List ℕ} (at : ℕ) → RecordFits b at → (kind_at b at ≡ 3 → ⊥) → (kind_at b at ≡ 4 → ⊥) → (kind_at b at ≡ 6 → ⊥) → kind_at b at ≡ 5
not_others_five at h x y z = omega (arith, h.least, h.most)

module _ (m : Model) (b : List ℕ) (s : RecordCursor) (h : AtRecord m b s.at s.topics s.tables) (next : ℕ) (e : next ≡ next_at b s.at) where
  pub pass_topic : kind_at b s.at ≡ 3 → RecordPassed m b s (record { topics = s.topics + 1; tables = s.tables; at = next })
  unfolding choose
  pass_topic k = record { standing = rw e (topic_here m b _ _ _ h k).next; at = e; topics = rw k; tables = rw k }

  pub pass_table : kind_at b s.at ≡ 4 → RecordPassed m b s (record { topics = s.topics; tables = s.tables + 1; at = next })
  unfolding choose
  pass_table k = record { standing = rw e (table_here m b _ _ _ h k).next; at = e; topics = rw k; tables = rw k }

  pub pass_attribute : (kind_at b s.at ≡ 3 → ⊥) → (kind_at b s.at ≡ 4 → ⊥) → (kind_at b s.at ≡ 6 → ⊥) → RecordPassed m b s (record { topics = s.topics; tables = s.tables; at = next })
  unfolding choose
  pass_attribute x y z =
      let k = not_others_five s.at (here m b _ _ _ h) x y z in
      record { standing = rw e (attribute_here m b _ _ _ h k).next; at = e; topics = rw k; tables = rw k }

-- ## Noting

module _ (m : Model) (b : List ℕ) (places : Places) (k n : ℕ) (old : RecordsNoted m b places k n) where
  pub noted_topic : (at : ℕ) → k < 64 → TopicRecord m b k at
      → RecordsNoted m b (record { topics = set places.topics k at; tables = places.tables }) (k + 1) n
  noted_topic at l q = record {
    topic_room = length-set places.topics k at ∙ old.topic_room;
    table_room = old.table_room;
    topic = λ p a. topic p a (eqb p k) refl;
    table = old.table;
    owner = old.owner;
  }
    where
      topic : (p : ℕ) → p < k + 1 → (x : Bool) → eqb p k ≡ x → TopicRecord m b p (get_or (set places.topics k at) p 0)
      topic p a true e = let same : p ≡ k = eqb-true p k e in rw (same, get_or-set_same places.topics k at 0 (omega (arith, old.topic_room))) q
      topic p a false e = let other : p ≡ k → ⊥ = eqb-false p k e in rw (get_or-set_other places.topics k p at 0 other) (old.topic p (omega (arith, other)))

  abbrev none : TablePlace
  none = record { at = 0; topic = 0 }

  pub noted_table : (entry : TablePlace) → n < 512 → TableRecord m b n entry.at → entry.topic ≡ (table_at m.tables n).topic
      → RecordsNoted m b (record { topics = places.topics; tables = set places.tables n entry }) k (n + 1)
  noted_table entry f q o = record {
    topic_room = old.topic_room;
    table_room = length-set places.tables n entry ∙ old.table_room;
    topic = old.topic;
    table = λ t a. table t a (eqb t n) refl;
    owner = λ t a. mine t a (eqb t n) refl;
  }
    where
      table : (t : ℕ) → t < n + 1 → (x : Bool) → eqb t n ≡ x → TableRecord m b t (get_or (set places.tables n entry) t none).at
      table t a true e = let same : t ≡ n = eqb-true t n e in rw (same, get_or-set_same places.tables n entry none (omega (arith, old.table_room))) q
      table t a false e =
          let other : t ≡ n → ⊥ = eqb-false t n e in
          rw (get_or-set_other places.tables n t entry none other) (old.table t (omega (arith, other)))

      mine : (t : ℕ) → t < n + 1 → (x : Bool) → eqb t n ≡ x → (get_or (set places.tables n entry) t none).topic ≡ (table_at m.tables t).topic
      mine t a true e = let same : t ≡ n = eqb-true t n e in rw (same, get_or-set_same places.tables n entry none (omega (arith, old.table_room))) o
      mine t a false e =
          let other : t ≡ n → ⊥ = eqb-false t n e in
          rw (get_or-set_other places.tables n t entry none other) (old.owner t (omega (arith, other)))

-- a topic's record, and a table's
topic_record : (m : Model) (b : List ℕ) (at k t : ℕ) → AtRecord m b at k t → kind_at b at ≡ 3 → TopicRecord m b k at
topic_record m b at k t s e = record { fits = (here m b at k t s).fits; name = sym (topic_here m b at k t s e).topic }

module _ (m : Model) (b : List ℕ) (at k t : ℕ) (s : AtRecord m b at k t) (e : kind_at b at ≡ 4) where
  owner_is : k - 1 ≡ (table_at m.tables t).topic
  owner_is = sym (ap (λ (x : Table). x.topic) (table_here m b at k t s e).table)

  table_record_lem : TableRecord m b t at
  table_record_lem =
      let h = table_here m b at k t s e in
      let topic : (table_at m.tables t).topic + 1 ≡ k = omega (arith, owner_is, h.begun) in
      record {
        fits = (here m b at k t s).fits;
        flag = h.flag;
        optional = sym (ap (λ (x : Table). x.optional) h.table);
        name = sym (ap (λ (x : Table). x.name) h.table);
        attributes = sym (ap (λ (x : Table). x.attributes) h.table);
        standing = rw topic h.next;
      }

-- the record at s has room among the places, and is noted
module _ (m : Model) (b : List ℕ) (s : RecordCursor) (h : AtRecord m b s.at s.topics s.tables)
    (topics : length m.topics ≤ 64) (tables : length m.tables ≤ 512) where
  pub topic_room_lem : kind_at b s.at ≡ 3 → s.topics < 64
  topic_room_lem e = omega (arith, (topic_here m b _ _ _ h e).inside)

  pub table_room_lem : kind_at b s.at ≡ 4 → (s.tables < 512) × (1 ≤ s.topics)
  table_room_lem e = let t = table_here m b _ _ _ h e in (omega (arith, t.inside), t.begun)

  pub noted_on : (places : Places) (r : RecordCursor) → RecordsNoted m b places s.topics s.tables → RecordPassed m b s r → RecordsNoted m b (noted_by (kind_at b s.at) s places) r.topics r.tables
  unfolding noted_by choose
  noted_on places r old p = go (eqb (kind_at b s.at) 3) refl (eqb (kind_at b s.at) 4) refl
    where
      go : (x : Bool) → eqb (kind_at b s.at) 3 ≡ x → (y : Bool) → eqb (kind_at b s.at) 4 ≡ y → RecordsNoted m b (noted_by (kind_at b s.at) s places) r.topics r.tables
      go true e y f =
          let k = eqb-true (kind_at b s.at) 3 e in
          let u : r.topics ≡ s.topics + 1 = rw k at p.topics in
          let v : r.tables ≡ s.tables = rw k at p.tables in
          rw (k, u, v) (noted_topic m b places s.topics s.tables old s.at (topic_room_lem k) (topic_record m b _ _ _ h k))
      go false e true f =
          let k = eqb-true (kind_at b s.at) 4 f in
          let u : r.topics ≡ s.topics = rw k at p.topics in
          let v : r.tables ≡ s.tables + 1 = rw k at p.tables in
          rw (k, u, v)
          (noted_table m b places s.topics s.tables old _ (table_room_lem k).0 (table_record_lem m b _ _ _ h k) (owner_is m b _ _ _ h k))
      go false e false f =
          let u : r.topics ≡ s.topics = rw e at p.topics in
          let v : r.tables ≡ s.tables = rw f at p.tables in
          rw (e, f, u, v) old
