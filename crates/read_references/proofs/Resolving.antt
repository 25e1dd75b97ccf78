-- Rows resolved one after the other: the objects stay the same, and what is left means what the whole meant. Assumes nothing.
use Prim.Native.Nat.{ℕ, zero, suc, ◌+◌, ◌*◌, ◌-◌, ◌≤◌, ◌<◌}
use native.Mathlib.Omega.{arith}
use native.Mathlib.Numerals.{add-one}
use mathlib.Core.Path.{◌≡◌, refl, sym, ap, ◌∙◌}
use mathlib.Core.Bool.{Bool, true, false}
use mathlib.Core.List.{List, [], ◌∷◌}
use lib.Dec.{eqb}
use lib.IntN.{ℤ, pos}
use lib.ListN.{length, get_or, take, drop, set, length-set, drop_of_length-le}
use lib.Seq.{get_or-take, drop-cons, length-take-le}
use Rattle.meaning.specs.Bytes.{choose, byte_at}
use Rattle.meaning.specs.Model.{Found, found, missing, target_of, Attribute, Table, Model, table_at, attribute_of}
use Rattle.meaning.specs.Row.{Pair, OfAttribute, OfComponent, OfLine, pairs_of}
use Rattle.meaning.specs.Reading.{Object, stretch, cell_at, object_at, objects_of}
use Rattle.meaning.specs.Table.{Resolved, resolved, unresolved, after_resolved, find_object, put_reference, resolve_pair, resolve_pairs, resolve_rows}
use Rattle.model_records.specs.Records.{kind_at, payload_at, next_at, attributes_at, pairs_at}
use Rattle.model_records.specs.Places.{attributes_place, table_place, TableRecord, RecordsNoted}
use Rattle.model_records.specs.declared.places.Places.{Places}
use Rattle.model_records.specs.AtRecord.{AttributeNext, AttributesHere}
use Rattle.model_records.proofs.AtRecord.{attribute_here, no_attribute}
use Rattle.table_index.proofs.Kept.{beside_in, held_pair, held_beside, objects_beside}
use Rattle.table.specs.Rows.{RowsLaidOut}
use Rattle.std.specs.Prelude.{Result, Ok, Err}
use Rattle.read_references.specs.declared.Unresolved.{Unresolved}
use Rattle.read_references.specs.Resolved.{resolved_of, Going, RowHere}
use Rattle.table.specs.Rows.{PairHere, PairsInRow}
use Rattle.model_records.specs.Counts.{fields_of, pair_count, CountsOf}
use Rattle.read_references.proofs.Attributes.{attribute_turn}
use Rattle.model_records.proofs.Counting.{pairs_more, field_most}
use Rattle.meaning.proofs.Tests.Unequal.{no_resolved}

-- ## Answers

pub same_cells_lem : (cs ds : List ℤ) → resolved cs ≡ resolved ds → cs ≡ ds
same_cells_lem cs ds e = cc

-- what a call answered, by its answer
module _ (r : Result Unit Unresolved) (ds : List ℤ) (x : Resolved) (e : resolved_of r ds ≡ x) where
  pub told_all : (u : Unit) → r ≡ Ok u → resolved ds ≡ x
  told_all u a = sym (ap (λ (q : Result Unit Unresolved). resolved_of q ds) a) ∙ e

  pub told_unresolved : (f : Unresolved) → r ≡ Err f → unresolved f.object f.field ≡ x
  told_unresolved f a = sym (ap (λ (q : Result Unit Unresolved). resolved_of q ds) a) ∙ e

-- ## Cells of a row

-- past the first j of so many pairs
in_row_on : (rows : List ℕ) (n o cell l size j k : ℕ) → l ≡ j + k → PairsInRow rows n o cell l size → PairsInRow rows n o (cell + 2 * j) k size
in_row_on rows n o cell l size j k e r = record {
  object = r.object;
  behind = omega (arith, r.behind);
  inside = omega (arith, r.inside);
  later = λ p a b. omega (arith, r.later p a b);
}

-- ## The objects stay the same

module _ (seed : ℕ) (text rows : List ℕ) (n : ℕ) (index : List ℕ) (cells₀ : List ℤ) where
  module _ (o cell k : ℕ) (some : 1 ≤ k) (cs : List ℤ) (g : Going seed text rows n index cells₀ cs) (r : PairsInRow rows n o cell k (length cells₀)) where
    pair_here : PairHere rows n cell cs
    pair_here = record {
      inside = omega (arith, r.inside, g.size);
      first = beside_in seed text n (length cells₀) rows cs index g.held o cell r.object r.behind (λ p a b. omega (arith, r.later p a b));
      second = beside_in seed text n (length cells₀) rows cs index g.held o (cell + 1) r.object (omega (arith, r.behind)) (λ p a b. omega (arith, r.later p a b));
    }

    going_set : (v w : ℤ) → Going seed text rows n index cells₀ (set (set cs cell v) (cell + 1) w)
    going_set v w =
        let p = pair_here in
        record {
          held = held_pair seed text n (length cells₀) rows cs index g.held cell v w p.first p.second;
          size = length-set (set cs cell v) (cell + 1) w ∙ length-set cs cell v ∙ g.size;
          objects = objects_beside seed text n (length cells₀) rows (set cs cell v) index (held_beside seed text n (length cells₀) rows cs index g.held cell v p.first) (cell + 1) w p.second
              ∙ objects_beside seed text n (length cells₀) rows cs index g.held cell v p.first
              ∙ g.objects;
        }

    going_put : (object field : ℕ) (f : Found) (ds : List ℤ) → put_reference object field cell cs f ≡ resolved ds → Going seed text rows n index cells₀ ds
    unfolding put_reference
    going_put object field (found i) ds e = rw (sym (same_cells_lem (set (set cs cell (pos 1)) (cell + 1) (pos i)) ds e)) (going_set (pos 1) (pos i))
    going_put object field missing ds e = absurd (no_resolved object field ds e)

    -- past a pair
    pair_going : (os : List Object) (object field : ℕ) (t : Found) (ds : List ℤ) → resolve_pair text os object field cell t cs ≡ resolved ds → Going seed text rows n index cells₀ ds
    unfolding resolve_pair choose
    pair_going os object field missing ds e = rw (sym (same_cells_lem cs ds e)) g
    pair_going os object field (found t) ds e = go (eqb (cell_at cs cell) 0) e
      where
        go : (x : Bool) → choose x (resolved cs) (put_reference object field cell cs (find_object t 0 (stretch text (cell_at cs (cell + 1)) (cell_at cs cell - 1)) os)) ≡ resolved ds → Going seed text rows n index cells₀ ds
        go true h = rw (sym (same_cells_lem cs ds h)) g
        go false h = going_put object field _ ds h

  -- past the pairs of a row
  pairs_going : (os : List Object) (object o : ℕ) (ps : List Pair) (field cell : ℕ) (cs ds : List ℤ) → Going seed text rows n index cells₀ cs → PairsInRow rows n o cell (length ps) (length cells₀)
      → resolve_pairs text os object field cell ps cs ≡ resolved ds → Going seed text rows n index cells₀ ds
  unfolding resolve_pairs
  pairs_going os object o [] field cell cs ds g r e = rw (sym (same_cells_lem cs ds e)) g
  pairs_going os object o (OfAttribute optional type ∷ ps) field cell cs ds g r e = go (resolve_pair text os object field cell (target_of type) cs) refl e (λ es h k. pairs_going os object o ps (field + 1) (cell + 2) es ds h (in_row_on rows n o cell (suc (length ps)) (length cells₀) 1 (length ps) (omega arith) r) k)
    where
      go : (x : Resolved) → resolve_pair text os object field cell (target_of type) cs ≡ x → after_resolved x (λ es. resolve_pairs text os object (field + 1) (cell + 2) ps es) ≡ resolved ds
          → ((es : List ℤ) → Going seed text rows n index cells₀ es → resolve_pairs text os object (field + 1) (cell + 2) ps es ≡ resolved ds → Going seed text rows n index cells₀ ds) → Going seed text rows n index cells₀ ds
      go (resolved es) h k next = next es (pair_going o cell (suc (length ps)) (omega arith) cs g r os object field (target_of type) es h) k
      go (unresolved i f) h k next = absurd (no_resolved i f ds k)
  pairs_going os object o (OfComponent c ∷ ps) field cell cs ds g r e = pairs_going os object o ps (field + 1) (cell + 2) cs ds g (in_row_on rows n o cell (suc (length ps)) (length cells₀) 1 (length ps) (omega arith) r) e
  pairs_going os object o (OfLine optional forms ks ∷ ps) field cell cs ds g r e = pairs_going os object o ps field (cell + 2) cs ds g (in_row_on rows n o cell (suc (length ps)) (length cells₀) 1 (length ps) (omega arith) r) e

-- an object among the objects
object_of : (text : List ℕ) (cs : List ℤ) (rows : List ℕ) (o : ℕ) (d : Object) → o < length rows → get_or (objects_of text cs rows) o d ≡ object_at text cs (get_or rows o 0)
unfolding objects_of
object_of text cs [] o d l = absurd (omega arith)
object_of text cs (row ∷ rows) zero d l = refl
object_of text cs (row ∷ rows) (suc o) d l = object_of text cs rows o d (omega arith)

-- so each row is of the same table
module _ (seed : ℕ) (text rows : List ℕ) (n : ℕ) (index : List ℕ) (cells₀ cs : List ℤ) (g : Going seed text rows n index cells₀ cs) where
  pub in_rows : n ≤ length rows
  in_rows = g.held.known.listed.in_rows

  object_at_lem : (o : ℕ) (d : Object) (es : List ℤ) → o < n → get_or (objects_of text es (take n rows)) o d ≡ object_at text es (get_or rows o 0)
  object_at_lem o d es l = object_of text es (take n rows) o d (rw (length-take-le n rows in_rows) l) ∙ ap (object_at text es) (get_or-take n rows o 0 l)

  table_kept : (o : ℕ) → o < n → cell_at cs (get_or rows o 0) ≡ cell_at cells₀ (get_or rows o 0)
  unfolding object_at
  table_kept o l =
      let d : Object = object_at text cells₀ 0 in
      ap (λ (x : Object). x.table) (sym (object_at_lem o d cs l) ∙ ap (λ (os : List Object). get_or os o d) g.objects ∙ object_at_lem o d cells₀ l)

-- ## The attributes of a row

-- resolved up to the attribute record at this byte: what is left means what the whole meant
pub record AttributesLeft (m : Model) (b : List ℕ) (seed : ℕ) (text rows : List ℕ) (n : ℕ) (index : List ℕ) (o first : ℕ) (cells₀ : List ℤ) (at field cell : ℕ) (cells : List ℤ) : Type 0 where
  pub attributes : AttributesHere m b at
  pub going : Going seed text rows n index cells₀ cells
  pub row : PairsInRow rows n o cell (length (pairs_at b at)) (length cells₀)
  pub fields : field ≤ cell
  pub same : resolve_pairs text (objects_of text cells₀ (take n rows)) o field cell (pairs_at b at) cells ≡ resolve_pairs text (objects_of text cells₀ (take n rows)) o 3 (get_or rows o 0 + 3) (pairs_at b first) cells₀

module _ (m : Model) (b : List ℕ) (seed : ℕ) (text rows : List ℕ) (n : ℕ) (index : List ℕ) (o first : ℕ) (cells₀ : List ℤ) where
  abbrev os : List Object
  os = objects_of text cells₀ (take n rows)

  abbrev whole : Resolved
  whole = resolve_pairs text os o 3 (get_or rows o 0 + 3) (pairs_at b first) cells₀

  module _ (at field cell : ℕ) (cs : List ℤ) (i : AttributesLeft m b seed text rows n index o first cells₀ at field cell cs) where
    -- no attribute record more
    pub attributes_end : (kind_at b at ≡ 5 → ⊥) → resolved cs ≡ whole
    unfolding resolve_pairs pairs_of
    attributes_end d = rw (no_attribute m b at i.attributes.topics i.attributes.tables i.attributes.standing d) at i.same

    module _ (e : kind_at b at ≡ 5) where
      abbrev a : AttributeNext m b at i.attributes.topics i.attributes.tables
      a = attribute_here m b at i.attributes.topics i.attributes.tables i.attributes.standing e

      pub attribute_pair : PairHere rows n cell cs
      attribute_pair =
          let c : CountsOf (byte_at b (at + 5)) (fields_of (byte_at b (at + 5))) (pair_count (byte_at b (at + 5))) = record { fields = refl; pairs = refl } in
          pair_here seed text rows n index cells₀ o cell (length (pairs_at b at))
          (omega (arith, pairs_more m b at i.attributes.topics i.attributes.tables a _ _ c, (field_most m b at i.attributes.topics i.attributes.tables a _ _ c).1))
          cs i.going i.row

    module _ (e : kind_at b at ≡ 5) (f p : ℕ) (c : CountsOf (byte_at b (at + 5)) f p) where
      more : length (pairs_at b at) ≡ p + length (pairs_at b (next_at b at))
      more = pairs_more m b at i.attributes.topics i.attributes.tables (a e) f p c

      few : (f ≤ p) × (1 ≤ p)
      few = field_most m b at i.attributes.topics i.attributes.tables (a e) f p c

      -- its fields and cells are there
      pub attribute_room_lem : (field + f ≤ length cells₀) × (cell + 2 * p ≤ length cells₀)
      attribute_room_lem = (omega (arith, i.fields, i.row.inside, more, few.0), omega (arith, i.row.inside, more))

      turned : resolve_pairs text os o field cell (pairs_at b at) cs
          ≡ after_resolved (resolve_pair text (objects_of text cs (take n rows)) o field cell (target_of (attribute_of at (payload_at b at)).type) cs) (λ ds. resolve_pairs text os o (field + f) (cell + 2 * p) (pairs_at b (next_at b at)) ds)
      turned = rw i.going.objects (attribute_turn m b at i.attributes.topics i.attributes.tables (a e) f p c text os o field cell cs)

      -- its pair is resolved
      pub attributes_on : (ds : List ℤ) → resolved ds ≡ resolve_pair text (objects_of text cs (take n rows)) o field cell (target_of (attribute_of at (payload_at b at)).type) cs
          → AttributesLeft m b seed text rows n index o first cells₀ (next_at b at) (field + f) (cell + 2 * p) ds
      attributes_on ds r = record {
        attributes = record { topics = i.attributes.topics; tables = i.attributes.tables; standing = (a e).next };
        going = pair_going seed text rows n index cells₀ o cell (length (pairs_at b at)) (omega (arith, more, few.1)) cs i.going i.row (objects_of text cs (take n rows)) o field (target_of (attribute_of at (payload_at b at)).type) ds (sym r);
        row = in_row_on rows n o cell (length (pairs_at b at)) (length cells₀) p (length (pairs_at b (next_at b at))) more i.row;
        fields = omega (arith, few.0, i.fields);
        same = ap (λ (x : Resolved). after_resolved x (λ es. resolve_pairs text os o (field + f) (cell + 2 * p) (pairs_at b (next_at b at)) es)) r ∙ sym turned ∙ i.same;
      }

      -- it names no object
      pub attributes_stop : (object place : ℕ) → unresolved object place ≡ resolve_pair text (objects_of text cs (take n rows)) o field cell (target_of (attribute_of at (payload_at b at)).type) cs → unresolved object place ≡ whole
      attributes_stop object place r = ap (λ (x : Resolved). after_resolved x (λ es. resolve_pairs text os o (field + f) (cell + 2 * p) (pairs_at b (next_at b at)) es)) r ∙ sym turned ∙ i.same

-- ## All rows

-- resolved up to the row of object o
pub record RowsLeft (ts : List Table) (seed : ℕ) (text rows : List ℕ) (n : ℕ) (index : List ℕ) (cells₀ : List ℤ) (o : ℕ) (cells : List ℤ) : Type 0 where
  pub going : Going seed text rows n index cells₀ cells
  pub same : resolve_rows text (objects_of text cells₀ (take n rows)) ts o (drop o (take n rows)) cells ≡ resolve_rows text (objects_of text cells₀ (take n rows)) ts 0 (take n rows) cells₀

module _ (m : Model) (b : List ℕ) (places : Places) (seed : ℕ) (text rows : List ℕ) (n : ℕ) (index : List ℕ) (cells₀ : List ℤ) where
  abbrev objects : List Object
  objects = objects_of text cells₀ (take n rows)

  abbrev answer : Resolved
  answer = resolve_rows text objects m.tables 0 (take n rows) cells₀

  module _ (o : ℕ) (cs : List ℤ) (i : RowsLeft m.tables seed text rows n index cells₀ o cs) where
    -- no row more
    pub rows_end : n ≤ o → resolved cs ≡ answer
    unfolding resolve_rows
    rows_end l =
        let e : drop o (take n rows) ≡ [] = drop_of_length-le (take n rows) {i = o} (omega (arith, length-take-le n rows (in_rows seed text rows n index cells₀ cs i.going))) in
        rw e at i.same

    module _ (l : o < n) (laid : RowsLaidOut m n (length cells₀) rows cells₀) {k : ℕ} (placed : RecordsNoted m b places k (length m.tables)) where
      kept : cell_at cs (get_or rows o 0) ≡ cell_at cells₀ (get_or rows o 0)
      kept = table_kept seed text rows n index cells₀ cs i.going o l

      pub table_in_lem : cell_at cs (get_or rows o 0) < length m.tables
      table_in_lem = omega (arith, kept, laid.table o l)

      place : TableRecord m b (cell_at cs (get_or rows o 0)) (table_place places (cell_at cs (get_or rows o 0)))
      place = placed.table (cell_at cs (get_or rows o 0)) table_in_lem

      attributes_are : (at : ℕ) → at ≡ attributes_place b places (cell_at cs (get_or rows o 0)) → attributes_at b at ≡ (table_at m.tables (cell_at cs (get_or rows o 0))).attributes
      attributes_are at e = rw e place.attributes

      pub row_here : (at : ℕ) → at ≡ attributes_place b places (cell_at cs (get_or rows o 0)) → RowHere m b rows n o at (length cs)
      row_here at e =
          let s : length (pairs_at b at) ≡ length (pairs_of (table_at m.tables (cell_at cells₀ (get_or rows o 0))).attributes) = ap (λ (l : List Attribute). length (pairs_of l)) (attributes_are at e) ∙ ap (λ (t : ℕ). length (pairs_of (table_at m.tables t).attributes)) kept in
          record {
            attributes = rw e (record { topics = (table_at m.tables (cell_at cs (get_or rows o 0))).topic + 1; tables = cell_at cs (get_or rows o 0) + 1; standing = place.standing });
            row = record {
              object = l;
              behind = omega arith;
              inside = omega (arith, laid.ends o l, i.going.size);
              later = λ q x y. omega (arith, laid.apart o q x y);
            };
          }

      row_turn : (at : ℕ) → at ≡ attributes_place b places (cell_at cs (get_or rows o 0)) → resolve_rows text objects m.tables o (drop o (take n rows)) cs
          ≡ after_resolved (resolve_pairs text (objects_of text cs (take n rows)) o 3 (get_or rows o 0 + 3) (pairs_at b at) cs) (λ ds. resolve_rows text objects m.tables (o + 1) (drop (o + 1) (take n rows)) ds)
      unfolding resolve_rows
      row_turn at e =
          let lt : o < length (take n rows) = rw (length-take-le n rows (in_rows seed text rows n index cells₀ cs i.going)) l in
          let split : drop o (take n rows) ≡ get_or rows o 0 ∷ drop (o + 1) (take n rows) = rw (add-one o) (drop-cons (take n rows) o 0 lt ∙ ap (λ (x : ℕ). x ∷ drop (suc o) (take n rows)) (get_or-take n rows o 0 l)) in
          ap (λ (r : List ℕ). resolve_rows text objects m.tables o r cs) split
          ∙ ap (λ (l : List Attribute). after_resolved (resolve_pairs text objects o 3 (get_or rows o 0 + 3) (pairs_of l) cs) (λ ds. resolve_rows text objects m.tables (o + 1) (drop (o + 1) (take n rows)) ds)) (sym (attributes_are at e))
          ∙ ap (λ (x : List Object). after_resolved (resolve_pairs text x o 3 (get_or rows o 0 + 3) (pairs_at b at) cs) (λ ds. resolve_rows text objects m.tables (o + 1) (drop (o + 1) (take n rows)) ds)) (sym i.going.objects)

      -- its row is resolved
      pub rows_on : (at : ℕ) → at ≡ attributes_place b places (cell_at cs (get_or rows o 0)) → (ds : List ℤ) → resolved ds ≡ resolve_pairs text (objects_of text cs (take n rows)) o 3 (get_or rows o 0 + 3) (pairs_at b at) cs
          → RowsLeft m.tables seed text rows n index cells₀ (o + 1) ds
      rows_on at e ds r = record {
        going = pairs_going seed text rows n index cells₀ _ o o (pairs_at b at) 3 (get_or rows o 0 + 3) cs ds i.going (rw i.going.size at (row_here at e).row) (sym r);
        same = ap (λ (x : Resolved). after_resolved x (λ es. resolve_rows text objects m.tables (o + 1) (drop (o + 1) (take n rows)) es)) r ∙ sym (row_turn at e) ∙ i.same;
      }

      -- a reference of it names no object
      pub rows_stop : (at : ℕ) → at ≡ attributes_place b places (cell_at cs (get_or rows o 0)) → (object field : ℕ) → unresolved object field ≡ resolve_pairs text (objects_of text cs (take n rows)) o 3 (get_or rows o 0 + 3) (pairs_at b at) cs
          → unresolved object field ≡ answer
      rows_stop at e object field r = ap (λ (x : Resolved). after_resolved x (λ es. resolve_rows text objects m.tables (o + 1) (drop (o + 1) (take n rows)) es)) r ∙ sym (row_turn at e) ∙ i.same
