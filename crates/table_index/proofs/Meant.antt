-- What the last object with an identification says of the objects: whether it is used (15), and what a reference names (17).
-- Assumes nothing.
use Prim.Native.Nat.{ℕ, zero, suc, ◌+◌, ◌≤◌, ◌<◌}
use mathlib.Core.Path.{◌≡◌, refl, sym, ap, ◌∙◌}
use mathlib.Core.Bool.{Bool, true, false, ◌&&◌, ◌||◌, or_assoc, or-false, or-true, and-true, and-false}
use mathlib.Core.List.{List, [], ◌∷◌, ◌++◌}
use native.Mathlib.Omega.{arith}
use lib.Dec.{eqb}
use lib.IntN.{ℤ}
use lib.ListN.{length, get_or, take}
use lib.Seq.{length-take-le, take-suc}
use borrow.Author.Tests.{eq-eqb, ne_eqb}
use Rattle.std.specs.Prelude.{Option, None, Some, IfSome}
use Rattle.std.specs.Option.{is_some}
use Rattle.meaning.specs.Bytes.{choose}
use Rattle.meaning.specs.Model.{Found, found, missing}
use Rattle.meaning.specs.Value.{same_identification}
use Rattle.meaning.specs.Reading.{Object, cell_at, object_at, objects_of, is_used}
use Rattle.meaning.specs.Table.{find_object}
use Rattle.meaning.proofs.Tests.Same.{identification_alike}
use Rattle.table_index.specs.Objects.{is_named, last_of, last_named, in_table, Unique}
use Rattle.table.specs.Rows.{identification_of}
use Rattle.table_index.proofs.Last.{upto, last_le, last_passes, last_none}

-- ## Objects in a row

pub objects_append : (text : List ℕ) (cells : List ℤ) (a b : List ℕ) → objects_of text cells (a ++ b) ≡ objects_of text cells a ++ objects_of text cells b
unfolding objects_of
objects_append text cells [] b = refl
objects_append text cells (row ∷ a) b = ap (λ (os : List Object). object_at text cells row ∷ os) (objects_append text cells a b)

pub length_objects : (text : List ℕ) (cells : List ℤ) (rows : List ℕ) → length (objects_of text cells rows) ≡ length rows
unfolding objects_of
length_objects text cells [] = refl
length_objects text cells (row ∷ rows) = ap suc (length_objects text cells rows)

pub objects_more : (text : List ℕ) (cells : List ℤ) (rows : List ℕ) (n : ℕ) → n < length rows
    → objects_of text cells (take (suc n) rows) ≡ objects_of text cells (take n rows) ++ (object_at text cells (get_or rows n 0) ∷ [])
unfolding objects_of
objects_more text cells rows n l = ap (objects_of text cells) (take-suc rows n 0 l) ∙ objects_append text cells (take n rows) (get_or rows n 0 ∷ [])

-- ## 15

pub used_append : (i : List ℕ) (a b : List Object) → is_used i (a ++ b) ≡ (is_used i a || is_used i b)
unfolding is_used
used_append i [] b = refl
used_append i (o ∷ a) b = ap (λ (t : Bool). same_identification o.identification i || t) (used_append i a b) ∙ sym (or_assoc (same_identification o.identification i) (is_used i a) (is_used i b))

module _ (text rows : List ℕ) (cells : List ℤ) (i : List ℕ) where
  abbrev named : ℕ → Bool
  named = is_named (identification_of text rows cells) i

  used_more : (n : ℕ) → n < length rows → is_used i (objects_of text cells (take (suc n) rows)) ≡ (is_used i (objects_of text cells (take n rows)) || named n)
  unfolding is_used object_at identification_of
  used_more n l =
      ap (is_used i) (objects_more text cells rows n l)
      ∙ used_append i (objects_of text cells (take n rows)) (object_at text cells (get_or rows n 0) ∷ [])
      ∙ ap (λ (t : Bool). is_used i (objects_of text cells (take n rows)) || t) (or-false (named n))

  -- an identification is used exactly where an object is found
  pub used_last : (n : ℕ) → n ≤ length rows → is_used i (objects_of text cells (take n rows)) ≡ is_some (last_named text rows cells i n)
  unfolding is_used objects_of last_of choose
  used_last zero l = refl
  used_last (suc n) l = go (named n) refl (used_last n (omega arith))
    where
      go : (x : Bool) → named n ≡ x → is_used i (objects_of text cells (take n rows)) ≡ is_some (last_named text rows cells i n) → is_used i (objects_of text cells (take (suc n) rows)) ≡ is_some (last_named text rows cells i (suc n))
      go true h r = used_more n (omega arith) ∙ rw h (or-true (is_used i (objects_of text cells (take n rows))))
      go false h r = used_more n (omega arith) ∙ rw h (or-false (is_used i (objects_of text cells (take n rows))) ∙ r)

  -- what is found is one of the objects
  pub found_in : (n : ℕ) (found : Option ℕ) → n ≤ length rows → found ≡ last_named text rows cells i n → IfSome found (λ o. o < length rows)
  found_in n None l e = tt
  found_in n (Some o) l e = omega (arith, last_le named n, ap upto e)

  -- where it is not used, no object has it
  pub unused_none : (n : ℕ) → n ≤ length rows → is_used i (objects_of text cells (take n rows)) ≡ false → (o : ℕ) → o < n → named o ≡ false
  unused_none n l e = last_none named n (go (last_named text rows cells i n) (sym (used_last n l) ∙ e))
    where
      go : (x : Option ℕ) → is_some x ≡ false → x ≡ None
      go None h = refl
      go (Some o) h = cc

-- ## 17

-- this object, by the test of its table
module _ (rows : List ℕ) (cells : List ℤ) (t o : ℕ) where
  pub in_table_hit : cell_at cells (get_or rows o 0) ≡ t → found o ≡ in_table rows cells t (Some o)
  unfolding in_table choose
  in_table_hit e = rw (eq-eqb (cell_at cells (get_or rows o 0)) t e)

  pub in_table_miss : (cell_at cells (get_or rows o 0) ≡ t → ⊥) → missing ≡ in_table rows cells t (Some o)
  unfolding in_table choose
  in_table_miss e = rw (ne_eqb (cell_at cells (get_or rows o 0)) t e)

-- the first answer, or where it is none the second
abbrev or_else : Found → Found → Found
or_else (found n) b = found n
or_else missing b = b

or_missing : (a : Found) → or_else a missing ≡ a
or_missing (found n) = refl
or_missing missing = refl

find_append : (t k : ℕ) (i : List ℕ) (a b : List Object) → find_object t k i (a ++ b) ≡ or_else (find_object t k i a) (find_object t (k + length a) i b)
unfolding find_object choose
find_append t k i [] b = let e : k ≡ k + 0 = omega arith in ap (λ (m : ℕ). find_object t m i b) e
find_append t k i (o ∷ a) b = go (eqb o.table t && same_identification o.identification i) refl (find_append t (k + 1) i a b)
  where
    go : (x : Bool) → (eqb o.table t && same_identification o.identification i) ≡ x → find_object t (k + 1) i (a ++ b) ≡ or_else (find_object t (k + 1) i a) (find_object t ((k + 1) + length a) i b)
        → find_object t k i ((o ∷ a) ++ b) ≡ or_else (find_object t k i (o ∷ a)) (find_object t (k + length (o ∷ a)) i b)
    go true h r = rw h
    go false h r = let e : (k + 1) + length a ≡ k + suc (length a) = omega arith in rw h (r ∙ ap (λ (m : ℕ). or_else (find_object t (k + 1) i a) (find_object t m i b)) e)

-- what a reference names is one of the objects
pub found_lt : (t k : ℕ) (i : List ℕ) (os : List Object) (o : ℕ) → find_object t k i os ≡ found o → o < k + length os
unfolding find_object choose
found_lt t k i [] o e = let z : ◌≡◌ {A = ℕ} 0 1 = cc in absurd (omega arith)
found_lt t k i (x ∷ os) o e = go (eqb x.table t && same_identification x.identification i) refl (found_lt t (k + 1) i os o)
  where
    go : (y : Bool) → (eqb x.table t && same_identification x.identification i) ≡ y → (find_object t (k + 1) i os ≡ found o → o < (k + 1) + length os) → o < k + suc (length os)
    go true h r = let f : found k ≡ found o = rw h at e in let q : k ≡ o = cc in omega arith
    go false h r = omega (arith, r (rw h at e))

unique_less : (ids : ℕ → List ℕ) (n : ℕ) → Unique ids (suc n) → Unique ids n
unique_less ids n u = record { apart = λ o p a b. u.apart o p a (omega arith) }

-- of unique identifications one object at most has this one
none_before : (ids : ℕ → List ℕ) (i : List ℕ) (n : ℕ) → Unique ids (suc n) → is_named ids i n ≡ true → last_of (is_named ids i) n ≡ None
none_before ids i n u h = go (last_of (is_named ids i) n) refl
  where
    go : (k : Option ℕ) → last_of (is_named ids i) n ≡ k → last_of (is_named ids i) n ≡ None
    go None e = e
    go (Some o) e =
        let l : o < n = omega (arith, last_le (is_named ids i) n, ap upto e) in
        let a : same_identification (ids o) (ids n) ≡ true = identification_alike (ids o) (ids n) i (last_passes (is_named ids i) n o e) h in
        let z : ◌≡◌ {A = Bool} true false = sym a ∙ u.apart o n l (omega arith) in
        absurd (let w : ◌≡◌ {A = ℕ} 0 1 = cc in omega arith)

module _ (text rows : List ℕ) (cells : List ℤ) (t : ℕ) (i : List ℕ) where
  abbrev ids : ℕ → List ℕ
  ids = identification_of text rows cells

  abbrev one : ℕ → Found
  one n = choose (eqb (cell_at cells (get_or rows n 0)) t && is_named ids i n) (found n) missing

  find_more : (n : ℕ) → n < length rows → find_object t 0 i (objects_of text cells (take (suc n) rows)) ≡ or_else (find_object t 0 i (objects_of text cells (take n rows))) (one n)
  unfolding find_object object_at identification_of
  find_more n l =
      let e : 0 + length (objects_of text cells (take n rows)) ≡ n = omega (arith, length_objects text cells (take n rows), length-take-le n rows (omega arith)) in
      ap (find_object t 0 i) (objects_more text cells rows n l)
      ∙ find_append t 0 i (objects_of text cells (take n rows)) (object_at text cells (get_or rows n 0) ∷ [])
      ∙ ap (λ (m : ℕ). or_else (find_object t 0 i (objects_of text cells (take n rows))) (find_object t m i (object_at text cells (get_or rows n 0) ∷ []))) e

  -- a reference names the object that is found, if that is of its table
  pub find_last : (n : ℕ) → n ≤ length rows → Unique ids n → find_object t 0 i (objects_of text cells (take n rows)) ≡ in_table rows cells t (last_named text rows cells i n)
  unfolding find_object objects_of last_of in_table choose
  find_last zero l u = refl
  find_last (suc n) l u = go (is_named ids i n) refl (find_last n (omega arith) (unique_less ids n u))
    where
      go : (x : Bool) → is_named ids i n ≡ x → find_object t 0 i (objects_of text cells (take n rows)) ≡ in_table rows cells t (last_named text rows cells i n)
          → find_object t 0 i (objects_of text cells (take (suc n) rows)) ≡ in_table rows cells t (last_named text rows cells i (suc n))
      go true h r =
          let z : find_object t 0 i (objects_of text cells (take n rows)) ≡ missing = r ∙ ap (in_table rows cells t) (none_before ids i n u h) in
          find_more n (omega arith) ∙ rw (z, h, and-true (eqb (cell_at cells (get_or rows n 0)) t))
      go false h r = find_more n (omega arith) ∙ rw (h, and-false (eqb (cell_at cells (get_or rows n 0)) t)) (or_missing (find_object t 0 i (objects_of text cells (take n rows))) ∙ r)
