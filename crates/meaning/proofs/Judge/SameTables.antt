-- The test of tables is equality of their objects, of which nothing lies outside the text. Assumes nothing.
use Prim.Native.Nat.{ℕ}
use native.Mathlib.Omega.{arith}
use mathlib.Core.Path.{◌≡◌, refl, ap, ap₂}
use mathlib.Core.Bool.{true, false, not, false≢true}
use mathlib.Core.List.{List, [], ◌∷◌}
use mathlib.Core.Logic.{◌↔◌}
use lib.IntN.{ℤ, pos, negsuc}
use lib.Signed.{lt_z}
use lib.ListN.{length}
use borrow.Author.Tests.{eqb-true, eq-eqb, not-true, ltb-false, le-ltb}
use Rattle.meaning.specs.Bytes.{all_of}
use Rattle.meaning.specs.Model.{Model}
use Rattle.meaning.specs.Reading.{Content}
use Rattle.meaning.specs.Readback.{Shown, of_cells, of_bytes, outside, ShownObject, shown_objects, same_cells, same_shown, same_pairs, same_objects, same_table}
use Rattle.meaning.specs.WritingClaims.{Inside, PairsInside, ObjectsInside, SameTable}
use Rattle.meaning.proofs.Tests.Refuse.{both, holds}
use Rattle.meaning.proofs.Tests.Same.{same_is, same_refl}

-- ## Cells

same_integer : (a b : ℤ) → not (lt_z a b) ≡ true → not (lt_z b a) ≡ true → a ≡ b
same_integer (pos a) (pos b) p q = ap pos (omega (arith, ltb-false a b (not-true _ p), ltb-false b a (not-true _ q)))
same_integer (pos a) (negsuc b) p q = absurd (false≢true q)
same_integer (negsuc a) (pos b) p q = absurd (false≢true p)
same_integer (negsuc a) (negsuc b) p q = ap negsuc (omega (arith, ltb-false b a (not-true _ p), ltb-false a b (not-true _ q)))

pub not_less : (a : ℤ) → lt_z a a ≡ false
not_less (pos n) = le-ltb n n (omega arith)
not_less (negsuc n) = le-ltb n n (omega arith)

cells_are : (l k : List ℤ) → same_cells l k ≡ true → l ≡ k
unfolding same_cells
cells_are [] [] h = refl
cells_are [] (b ∷ k) h = absurd (false≢true h)
cells_are (a ∷ l) [] h = absurd (false≢true h)
cells_are (a ∷ l) (b ∷ k) h = ap₂ (λ (x : ℤ) (y : List ℤ). x ∷ y) (same_integer a b (holds _ 0 h) (holds _ 1 h)) (cells_are l k (holds _ 2 h))

same_cells_lem : (l : List ℤ) → same_cells l l ≡ true
unfolding same_cells all_of
same_cells_lem [] = refl
same_cells_lem (a ∷ l) = rw (not_less a, same_cells_lem l)

-- ## What a table shows

shown_are : (x y : Shown) → same_shown x y ≡ true → (x ≡ y) × Inside x
unfolding same_shown
shown_are (of_cells a b) (of_cells a' b') h = let e = cells_are (a ∷ b ∷ []) (a' ∷ b' ∷ []) h in (cc, tt)
shown_are (of_cells a b) (of_bytes s) h = absurd (false≢true h)
shown_are (of_cells a b) outside h = absurd (false≢true h)
shown_are (of_bytes s) (of_cells a b) h = absurd (false≢true h)
shown_are (of_bytes s) (of_bytes s') h = (ap of_bytes (same_is s s' h), tt)
shown_are (of_bytes s) outside h = absurd (false≢true h)
shown_are outside y h = absurd (false≢true h)

same_shown_lem : (x : Shown) → Inside x → same_shown x x ≡ true
unfolding same_shown
same_shown_lem (of_cells a b) i = same_cells_lem (a ∷ b ∷ [])
same_shown_lem (of_bytes s) i = same_refl s
same_shown_lem outside i = absurd i

pairs_are : (xs ys : List Shown) → same_pairs xs ys ≡ true → (xs ≡ ys) × PairsInside xs
unfolding same_pairs
pairs_are [] [] h = (refl, tt)
pairs_are [] (y ∷ ys) h = absurd (false≢true h)
pairs_are (x ∷ xs) [] h = absurd (false≢true h)
pairs_are (x ∷ xs) (y ∷ ys) h =
    let t = both (same_shown x y) (same_pairs xs ys) h in
    let p = shown_are x y t.0 in
    let q = pairs_are xs ys t.1 in
    (ap₂ (λ (x : Shown) (xs : List Shown). x ∷ xs) p.0 q.0, (p.1, q.1))

same_pairs_lem : (xs : List Shown) → PairsInside xs → same_pairs xs xs ≡ true
unfolding same_pairs
same_pairs_lem [] i = refl
same_pairs_lem (x ∷ xs) i = rw (same_shown_lem x i.0, same_pairs_lem xs i.1)

objects_are : (xs ys : List ShownObject) → same_objects xs ys ≡ true → (xs ≡ ys) × ObjectsInside xs
unfolding same_objects
objects_are [] [] h = (refl, tt)
objects_are [] (y ∷ ys) h = absurd (false≢true h)
objects_are (x ∷ xs) [] h = absurd (false≢true h)
objects_are (x ∷ xs) (y ∷ ys) h =
    let table = cells_are (x.table ∷ []) (y.table ∷ []) (holds _ 0 h) in
    let t : x.table ≡ y.table = cc in
    let i = shown_are x.identification y.identification (holds _ 1 h) in
    let p = pairs_are x.pairs y.pairs (holds _ 2 h) in
    let q = objects_are xs ys (holds _ 3 h) in
    let one : x ≡ y = object_is x.table y.table x.identification y.identification x.pairs y.pairs t i.0 p.0 in
    (ap₂ (λ (x : ShownObject) (xs : List ShownObject). x ∷ xs) one q.0, (i.1, p.1, q.1))
  where
    object_is : (t t' : ℤ) (i i' : Shown) (ps ps' : List Shown) → t ≡ t' → i ≡ i' → ps ≡ ps'
        → ◌≡◌ {A = ShownObject} (record { table = t; identification = i; pairs = ps }) (record { table = t'; identification = i'; pairs = ps' })
    object_is t t' i i' ps ps' e f g = rw (e, f, g)

same_objects_lem : (xs : List ShownObject) → ObjectsInside xs → same_objects xs xs ≡ true
unfolding same_objects all_of
same_objects_lem [] i = refl
same_objects_lem (x ∷ xs) i = rw (same_cells_lem (x.table ∷ []), same_shown_lem x.identification i.0, same_pairs_lem x.pairs i.1, same_objects_lem xs i.2)

-- ## Tables

module _ (m : Model) (text : List ℕ) (c : Content) (text' : List ℕ) (c' : Content) where
  tables_are : same_table m text c text' c' ≡ true → SameTable m text c text' c'
  unfolding same_table
  tables_are h =
      let objects = objects_are _ _ (holds _ 3 h) in
      record {
        marks = same_is c.marks c'.marks (holds _ 0 h);
        rows = same_is c.rows c'.rows (holds _ 1 h);
        cells = eqb-true (length c.cells) (length c'.cells) (holds _ 2 h);
        objects = objects.0;
        inside = objects.1;
        points = cells_are c.points c'.points (holds _ 4 h);
      }

  same_tables : SameTable m text c text' c' → same_table m text c text' c' ≡ true
  unfolding same_table all_of
  same_tables s =
      rw (
        ← s.objects,
        ← s.marks,
        ← s.rows,
        ← s.points,
        same_refl c.marks,
        same_refl c.rows,
        eq-eqb (length c.cells) (length c'.cells) s.cells,
        same_objects_lem (shown_objects m text c.cells c.rows) s.inside,
        same_cells_lem c.points,
      )

  -- the test holds exactly of tables that are the same
  pub same_exactly : (same_table m text c text' c' ≡ true) ↔ SameTable m text c text' c'
  same_exactly = (tables_are, same_tables)
