-- References of a table read from lines that are right: all are resolved, or the first that names no object is not. Assumes nothing.
use Prim.Native.Nat.{ℕ, zero, suc, ◌+◌, ◌-◌, ◌<◌}
use native.Mathlib.Omega.{arith}
use mathlib.Core.Path.{◌≡◌, refl, sym, ap, ◌∙◌}
use mathlib.Core.Bool.{Bool, true, false, ◌&&◌}
use mathlib.Core.List.{List, [], ◌∷◌, ◌++◌}
use lib.Dec.{eqb, ltb}
use lib.IntN.{ℤ, pos}
use lib.ListN.{length, get_or}
use lib.Seq.{get_or-append_seam, get_or-append-add}
use borrow.Author.Tests.{ne_eqb, eq-eqb, eqb-true, ltb-true, ltb-false}
use Rattle.meaning.specs.Bytes.{choose, same}
use Rattle.meaning.specs.Model.{AttributeType, Reference, Number, Text, Date, Enumeration, Found, found, missing, target_of}
use Rattle.meaning.specs.Field.{Field}
use Rattle.meaning.specs.Value.{same_identification}
use Rattle.meaning.specs.Row.{Pair, OfAttribute, OfComponent, OfLine}
use Rattle.meaning.specs.Reading.{Object, stretch}
use Rattle.meaning.specs.Table.{find_object, resolved, unresolved, after_resolved, put_reference, resolve_pair, resolve_pairs}
use Rattle.meaning.specs.Right.{Entry, Undefined, OfValue, OfText, OfReference, OfPoints, Delivered, Line, Means, number, date, enumeration, text, reference, no_object, identification_at, Unique, Names, IsNamed, AllNamed, names_of, number_cell, entry_cells}
use Rattle.meaning.specs.RightClaims.{field_behind, FirstOfEntries}
use Rattle.meaning.specs.RightClaims as claims
use Rattle.meaning.proofs.Tests.Refuse.{both}
use Rattle.meaning.proofs.Tests.Same.{same_refl, same_is}
use Rattle.meaning.proofs.Tests.Unequal.{no_found, same_found}
use Rattle.meaning.proofs.Reading.Stretches.{AllStand}
use Rattle.meaning.proofs.Writing.Attributes.{set_pair, moved, moved_length}
use Rattle.meaning.proofs.Right.Content.{late_cells}
use Rattle.meaning.proofs.Right.PairEntries.{Before, PairEntries, done, defined, undefined, cover, under, also_defined, also_undefined, also_cover, also_under, undrawn, along}

-- ## An object of a table and an identification

pub found_names : (target n k : ℕ) (b : List ℕ) (os : List Delivered) → find_object target n b (names_of os) ≡ found k → Names os target b
unfolding find_object names_of choose same_identification
found_names target n k b [] e = absurd (no_found k e)
found_names target n k b (o ∷ os) e = by (eqb o.table target && same o.identification.bytes b) refl e (found_names target (n + 1) k b os)
  where
    by : (x : Bool) → (eqb o.table target && same o.identification.bytes b) ≡ x → choose x (found n) (find_object target (n + 1) b (names_of os)) ≡ found k
        → (find_object target (n + 1) b (names_of os) ≡ found k → Names os target b) → Names (o ∷ os) target b
    by true h e ih =
        let q = both (eqb o.table target) _ h in
        record { number = 0; within = omega arith; table = eqb-true o.table target q.0; same = same_is o.identification.bytes b q.1 }
    by false h e ih = let r = ih e in record { number = suc r.number; within = omega (arith, r.within); table = r.table; same = r.same }

pub one_found : (n : ℕ) → found n ≡ missing → ⊥
one_found n h = let z : ◌≡◌ {A = ℕ} 0 1 = cc in omega arith

pub missing_names : (target n : ℕ) (b : List ℕ) (os : List Delivered) → find_object target n b (names_of os) ≡ missing → (j : ℕ) → j < length os → (get_or os j no_object).table ≡ target
    → identification_at os j ≡ b → ⊥
unfolding find_object names_of choose same_identification
missing_names target n b [] e j l t i = omega arith
missing_names target n b (o ∷ os) e zero l t i = one_found n (rw (eq-eqb o.table target t, i, same_refl b) at e)
missing_names target n b (o ∷ os) e (suc j) l t i = by (eqb o.table target && same o.identification.bytes b) e (λ h. missing_names target (n + 1) b os h j (omega arith) t i)
  where
    by : (x : Bool) → choose x (found n) (find_object target (n + 1) b (names_of os)) ≡ missing → (find_object target (n + 1) b (names_of os) ≡ missing → ⊥) → ⊥
    by true e ih = one_found n e
    by false e ih = ih e

-- the object that is found is the one of this identification
pub found_at : (target n k : ℕ) (b : List ℕ) (os : List Delivered) → find_object target n b (names_of os) ≡ found k → (j : ℕ) × (j < length os) × (n + j ≡ k) × (identification_at os j ≡ b)
unfolding find_object names_of choose same_identification
found_at target n k b [] e = absurd (no_found k e)
found_at target n k b (o ∷ os) e = by (eqb o.table target && same o.identification.bytes b) refl e (found_at target (n + 1) k b os)
  where
    by : (x : Bool) → (eqb o.table target && same o.identification.bytes b) ≡ x → choose x (found n) (find_object target (n + 1) b (names_of os)) ≡ found k
        → (find_object target (n + 1) b (names_of os) ≡ found k → (j : ℕ) × (j < length os) × (n + 1 + j ≡ k) × (identification_at os j ≡ b))
        → (j : ℕ) × (j < length (o ∷ os)) × (n + j ≡ k) × (identification_at (o ∷ os) j ≡ b)
    by true h e ih = let q : n ≡ k = same_found n k e in (0, omega arith, omega arith, same_is o.identification.bytes b (both (eqb o.table target) _ h).1)
    by false h e ih = let r = ih e in let l = r.1 in let q = r.2 in (suc r.0, omega arith, omega arith, r.3)

pub reference_is_its_object : (os : List Delivered) (target : ℕ) (i : List ℕ) → Unique os → (n : Names os target i) → find_object target 0 i (names_of os) ≡ found n.number
reference_is_its_object os target i unique n = by (find_object target 0 i (names_of os)) refl
  where
    same_place : (k : ℕ) → k < length os → identification_at os k ≡ i → (x y : Bool) → ltb k n.number ≡ x → ltb n.number k ≡ y → k ≡ n.number
    same_place k l e true y p q = absurd (unique k n.number (ltb-true k n.number p) n.within (e ∙ sym n.same))
    same_place k l e false true p q = absurd (unique n.number k (ltb-true n.number k q) l (n.same ∙ sym e))
    same_place k l e false false p q = omega (arith, ltb-false k n.number p, ltb-false n.number k q)

    by : (f : Found) → find_object target 0 i (names_of os) ≡ f → find_object target 0 i (names_of os) ≡ found n.number
    by missing e = absurd (missing_names target 0 i os e n.number n.within n.table n.same)
    by (found k) e =
        let r = found_at target 0 k i os e in
        let at : r.0 ≡ k = omega (arith, r.2) in
        e ∙ ap found (sym at ∙ same_place r.0 r.1 r.3 _ _ refl refl)

-- ## The entries of an object

module _ (own : List ℕ) (all : List Delivered) where
  abbrev pub names : List Object
  names = names_of all

  pub data Outcome (ps : List Pair) (es : List Entry) (object field k : ℕ) (front rest : List ℤ) : Type 0 where
    settled : AllNamed all es → resolve_pairs own names object field (length front) ps (front ++ (late_cells k es ++ rest)) ≡ resolved (front ++ (entry_cells names k es ++ rest)) → Outcome ps es object field k front rest
    broken : (at : ℕ) → FirstOfEntries all field ps es at → resolve_pairs own names object field (length front) ps (front ++ (late_cells k es ++ rest)) ≡ unresolved object at → Outcome ps es object field k front rest

  on : (p : Pair) (e : Entry) (ps : List Pair) (es : List Entry) (object field k k' : ℕ) (front rest : List ℤ) (a b x y : ℤ) → IsNamed all e → late_cells k (e ∷ es) ≡ a ∷ b ∷ late_cells k' es
      → entry_cells names k (e ∷ es) ≡ x ∷ y ∷ entry_cells names k' es
      → ((tail : List ℤ) → resolve_pairs own names object field (length front) (p ∷ ps) (front ++ (a ∷ b ∷ tail)) ≡ resolve_pairs own names object (field_behind field p) (length front + 2) ps (front ++ (x ∷ y ∷ tail)))
      → Outcome ps es object (field_behind field p) k' (front ++ (x ∷ y ∷ [])) rest → Outcome (p ∷ ps) (e ∷ es) object field k front rest
  on p e ps es object field k k' front rest a b x y is late out first (settled h q) =
      settled (is, h)
      (rw (late, out) (first (late_cells k' es ++ rest) ∙ (rw (moved front x y (late_cells k' es ++ rest), moved_length front x y [], moved front x y (entry_cells names k' es ++ rest)) at q)))
  on p e ps es object field k k' front rest a b x y is late out first (broken at h q) =
      broken at (claims.FirstOfEntries.later is h) (rw late (first (late_cells k' es ++ rest) ∙ (rw (moved front x y (late_cells k' es ++ rest), moved_length front x y []) at q)))

  -- pairs that are left as they are
  undefined_stays : (o : Bool) (type : AttributeType) (ps : List Pair) (object field : ℕ) (front tail : List ℤ) (b : ℤ)
      → resolve_pairs own names object field (length front) (OfAttribute o type ∷ ps) (front ++ (pos 0 ∷ b ∷ tail)) ≡ resolve_pairs own names object (field + 1) (length front + 2) ps (front ++ (pos 0 ∷ b ∷ tail))
  unfolding resolve_pairs resolve_pair choose
  undefined_stays o type ps object field front tail b = by (target_of type)
    where
      by : (f : Found) → after_resolved (resolve_pair own names object field (length front) f (front ++ (pos 0 ∷ b ∷ tail))) (λ ds. resolve_pairs own names object (field + 1) (length front + 2) ps ds)
          ≡ resolve_pairs own names object (field + 1) (length front + 2) ps (front ++ (pos 0 ∷ b ∷ tail))
      by missing = refl
      by (found t) = rw (get_or-append_seam front (pos 0) (b ∷ tail) (pos 0))

  -- a reference that names object n, and one that names none
  module _ (o : Bool) (target : ℕ) (f : Field) (ps : List Pair) (object field : ℕ) (front tail : List ℤ) (stands : stretch own f.start (length f.bytes) ≡ f.bytes) where
    named_becomes : (n : ℕ) → find_object target 0 f.bytes names ≡ found n
        → resolve_pairs own names object field (length front) (OfAttribute o (Reference target) ∷ ps) (front ++ (pos (1 + length f.bytes) ∷ pos f.start ∷ tail))
        ≡ resolve_pairs own names object (field + 1) (length front + 2) ps (front ++ (pos 1 ∷ pos n ∷ tail))
    unfolding resolve_pairs resolve_pair choose put_reference target_of
    named_becomes n e =
        let z : 1 + length f.bytes - 1 ≡ length f.bytes = omega arith in
        rw (
          get_or-append_seam front (pos (1 + length f.bytes)) (pos f.start ∷ tail) (pos 0),
          get_or-append-add front (pos (1 + length f.bytes) ∷ pos f.start ∷ tail) 1 (pos 0),
          ne_eqb (1 + length f.bytes) 0 (omega arith),
          z,
          stands,
          e,
          set_pair front (pos (1 + length f.bytes)) (pos f.start) tail (pos 1) (pos n),
        )

    unnamed_fails : find_object target 0 f.bytes names ≡ missing
        → resolve_pairs own names object field (length front) (OfAttribute o (Reference target) ∷ ps) (front ++ (pos (1 + length f.bytes) ∷ pos f.start ∷ tail)) ≡ unresolved object field
    unfolding resolve_pairs resolve_pair choose put_reference target_of
    unnamed_fails e =
        let z : 1 + length f.bytes - 1 ≡ length f.bytes = omega arith in
        rw (
          get_or-append_seam front (pos (1 + length f.bytes)) (pos f.start ∷ tail) (pos 0),
          get_or-append-add front (pos (1 + length f.bytes) ∷ pos f.start ∷ tail) 1 (pos 0),
          ne_eqb (1 + length f.bytes) 0 (omega arith),
          z,
          stands,
          e,
        )

  means_outcome : {type : AttributeType} {f : Field} {e : Entry} → Means type f e → (o : Bool) (ps : List Pair) (es : List Entry) (object field k : ℕ) (front rest : List ℤ)
      → stretch own f.start (length f.bytes) ≡ f.bytes → ((x y : ℤ) → Outcome ps es object (field + 1) k (front ++ (x ∷ y ∷ [])) rest) → Outcome (OfAttribute o type ∷ ps) (e ∷ es) object field k front rest
  unfolding late_cells entry_cells field_behind resolve_pairs resolve_pair target_of number_cell
  means_outcome (number {c = c} {v = v} h) o ps es object field k front rest st ih =
      on (OfAttribute o (Number c)) (OfValue v) ps es object field k k front rest (pos 1) v (pos 1) v tt refl refl (λ tail. refl) (ih (pos 1) v)
  means_outcome (date {v = v} h) o ps es object field k front rest st ih =
      on (OfAttribute o Date) (OfValue v) ps es object field k k front rest (pos 1) v (pos 1) v tt refl refl (λ tail. refl) (ih (pos 1) v)
  means_outcome (enumeration {leaves = leaves} {v = v} h) o ps es object field k front rest st ih =
      on (OfAttribute o (Enumeration leaves)) (OfValue v) ps es object field k k front rest (pos 1) v (pos 1) v tt refl refl (λ tail. refl) (ih (pos 1) v)
  means_outcome (text {longest = longest} {f = f} h l) o ps es object field k front rest st ih =
      let a : ℤ = pos (1 + length f.bytes) in
      let b : ℤ = pos f.start in
      on (OfAttribute o (Text longest)) (OfText f) ps es object field k k front rest a b a b tt refl refl (λ tail. refl) (ih a b)
  means_outcome (reference {target = target} {f = f} h) o ps es object field k front rest st ih = by (find_object target 0 f.bytes names) refl
    where
      by : (r : Found) → find_object target 0 f.bytes names ≡ r → Outcome (OfAttribute o (Reference target) ∷ ps) (OfReference target f ∷ es) object field k front rest
      by (found n) e =
          on (OfAttribute o (Reference target)) (OfReference target f) ps es object field k k front rest (pos (1 + length f.bytes)) (pos f.start) (pos 1) (pos n)
          (found_names target 0 n f.bytes all e) refl (rw e) (λ tail. named_becomes o target f ps object field front tail st n e) (ih (pos 1) (pos n))
      by missing e =
          broken field (claims.FirstOfEntries.here (λ q. missing_names target 0 f.bytes all e q.number q.within q.table q.same))
          (unnamed_fails o target f ps object field front (late_cells k es ++ rest) st e)

  pub entries_outcome : {u : ℕ} {b : Before} {ps : List Pair} {fs : List Field} {ls : List Line} {es : List Entry} → PairEntries u b ps fs ls es → AllStand own fs
      → (object field k : ℕ) (front rest : List ℤ) → Outcome ps es object field k front rest
  unfolding late_cells entry_cells field_behind resolve_pairs
  entries_outcome done st object field k front rest = settled tt refl
  entries_outcome (defined {o = o} {ps = ps} {es = es} d n r) st object field k front rest =
      means_outcome n o ps es object field k front rest st.0 (λ x y. entries_outcome r st.1 object (field + 1) k (front ++ (x ∷ y ∷ [])) rest)
  entries_outcome (undefined {type = type} {ps = ps} {es = es} e r) st object field k front rest =
      on (OfAttribute true type) Undefined ps es object field k k front rest (pos 0) (pos 0) (pos 0) (pos 0) tt refl refl (λ tail. undefined_stays true type ps object field front tail (pos 0))
      (entries_outcome r st.1 object (field + 1) k (front ++ (pos 0 ∷ pos 0 ∷ [])) rest)
  entries_outcome (cover {type = type} {ps = ps} {es = es} e r) st object field k front rest =
      on (OfAttribute true type) Undefined ps es object field k k front rest (pos 0) (pos 0) (pos 0) (pos 0) tt refl refl (λ tail. undefined_stays true type ps object field front tail (pos 0))
      (entries_outcome r tt object (field + 1) k (front ++ (pos 0 ∷ pos 0 ∷ [])) rest)
  entries_outcome (under {type = type} {ps = ps} {es = es} r) st object field k front rest =
      on (OfAttribute true type) Undefined ps es object field k k front rest (pos 0) (pos 0) (pos 0) (pos 0) tt refl refl (λ tail. undefined_stays true type ps object field front tail (pos 0))
      (entries_outcome r tt object (field + 1) k (front ++ (pos 0 ∷ pos 0 ∷ [])) rest)
  entries_outcome (also_defined {c = c} {ps = ps} {v = v} {es = es} d n r) st object field k front rest =
      on (OfComponent c) (OfValue v) ps es object field k k front rest (pos 1) v (pos 1) v tt refl refl (λ tail. refl) (entries_outcome r st.1 object (field + 1) k (front ++ (pos 1 ∷ v ∷ [])) rest)
  entries_outcome (also_undefined {c = c} {ps = ps} {es = es} e r) st object field k front rest =
      on (OfComponent c) Undefined ps es object field k k front rest (pos 0) (pos 0) (pos 0) (pos 0) tt refl refl (λ tail. refl)
      (entries_outcome r st.1 object (field + 1) k (front ++ (pos 0 ∷ pos 0 ∷ [])) rest)
  entries_outcome (also_cover {c = c} {ps = ps} {es = es} e r) st object field k front rest =
      on (OfComponent c) Undefined ps es object field k k front rest (pos 0) (pos 0) (pos 0) (pos 0) tt refl refl (λ tail. refl)
      (entries_outcome r tt object (field + 1) k (front ++ (pos 0 ∷ pos 0 ∷ [])) rest)
  entries_outcome (also_under {c = c} {ps = ps} {es = es} r) st object field k front rest =
      on (OfComponent c) Undefined ps es object field k k front rest (pos 0) (pos 0) (pos 0) (pos 0) tt refl refl (λ tail. refl)
      (entries_outcome r tt object (field + 1) k (front ++ (pos 0 ∷ pos 0 ∷ [])) rest)
  entries_outcome (undrawn {forms = forms} {cs = cs} {ps = ps} {es = es} e r) st object field k front rest =
      on (OfLine true forms cs) Undefined ps es object field k k front rest (pos 0) (pos 0) (pos 0) (pos 0) tt refl refl (λ tail. refl)
      (entries_outcome r st object field k (front ++ (pos 0 ∷ pos 0 ∷ [])) rest)
  entries_outcome (along {o = o} {forms = forms} {cs = cs} {ps = ps} {points = pts} {es = es} d r) st object field k front rest =
      let a : ℤ = pos (1 + length pts) in
      on (OfLine o forms cs) (OfPoints pts) ps es object field k (k + length pts) front rest a (pos k) a (pos k) tt refl refl (λ tail. refl)
      (entries_outcome r st object field (k + length pts) (front ++ (a ∷ pos k ∷ [])) rest)
