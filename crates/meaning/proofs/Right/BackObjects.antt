-- Objects that were read are right. Assumes nothing.
use Prim.Native.Nat.{ℕ, zero, suc, ◌+◌, ◌≤◌, ◌<◌}
use native.Mathlib.Omega.{arith}
use mathlib.Core.Path.{◌≡◌, refl, sym, ap, subst, ◌∙◌}
use mathlib.Core.Bool.{Bool, true, false, true≢false}
use mathlib.Core.List.{List, [], ◌∷◌, ◌++◌, append_assoc, append-nil}
use lib.Dec.{ltb}
use lib.IntN.{ℤ, pos}
use lib.ListN.{length, length-append}
use borrow.Author.Tests.{ltb-true, ltb-false}
use Rattle.meaning.specs.Bytes.{same}
use Rattle.meaning.specs.Model.{Model, table_at}
use Rattle.meaning.specs.Field.{ETAB}
use Rattle.meaning.specs.Value.{same_identification}
use Rattle.meaning.specs.Row.{Pair, pairs_of}
use Rattle.meaning.specs.Reading.{line_attributes, Due, table_from, object_of, nothing, due_lines, Content, with_row, point_count, Rooms, is_used}
use Rattle.meaning.specs.Lines.{go}
use Rattle.meaning.specs.Right.{Delivered, Line, Alone, ObjectLines, object, Objects, identification_at, Unique, names_of, points_of}
use Rattle.meaning.specs.Right as right
use Rattle.meaning.proofs.Tests.Refuse.{neither}
use Rattle.meaning.proofs.Tests.Same.{same_refl}
use Rattle.meaning.proofs.Right.Steps.{steps, first_of}
use Rattle.meaning.proofs.Right.Content.{content_of, content_more, points_length, AllNamesStand, names_stand_append, objects_names}
use Rattle.meaning.proofs.Right.PairEntries.{was_defined, is_covered, entries_of_pairs}
use Rattle.meaning.proofs.Right.Objects.{LinesStand, stand_left, stand_right, name_left, name_seam, object_stands}
use Rattle.meaning.proofs.Right.Rows.{flag_of}
use Rattle.meaning.proofs.Right.BackRows.{RowOf, Reads, row_reads}
use Rattle.meaning.proofs.Right.BackLines.{ObjectStep, etab, obje, object_step}

-- ## Identifications

used_at : (b : List ℕ) (os : List Delivered) → is_used b (names_of os) ≡ false → (i : ℕ) → i < length os → identification_at os i ≡ b → ⊥
unfolding is_used names_of same_identification
used_at b [] h i l e = omega arith
used_at b (o ∷ os) h zero l e =
    let q : same o.identification.bytes b ≡ true = rw e (same_refl b) in
    true≢false (sym q ∙ (neither (same o.identification.bytes b) _ h).0)
used_at b (o ∷ os) h (suc i) l e = used_at b os (neither (same_identification o.identification.bytes b) _ h).1 i (omega arith) e

unique_more : (os : List Delivered) (o : Delivered) → Unique os → is_used o.identification.bytes (names_of os) ≡ false → Unique (os ++ (o ∷ []))
unique_more os o u h i j l k e = by (ltb j (length os)) refl
  where
    by : (x : Bool) → ltb j (length os) ≡ x → ⊥
    by true y =
        let b = ltb-true j (length os) y in
        u i j l b (sym (name_left os (o ∷ []) i (omega arith)) ∙ (e ∙ name_left os (o ∷ []) j b))
    by false y =
        let z : j ≡ length os = omega (arith, ltb-false j (length os) y, length-append os (o ∷ [])) in
        used_at o.identification.bytes os h i (omega arith) (sym (name_left os (o ∷ []) i (omega arith)) ∙ (e ∙ (ap (identification_at (os ++ (o ∷ []))) z ∙ name_seam os o [])))

module _ (m : Model) (rooms : Rooms) (own : List ℕ) (z : Content) where
  abbrev pub Goes : Due → Content → List Line → Type 0
  Goes due c ls = steps m rooms own due c ls ≡ go nothing z

  pub not_done : (due : Due) (c : Content) → (due ≡ nothing → ⊥) → Goes due c [] → ⊥
  unfolding steps
  not_done due c n h = n (cc)

  abbrev pairs : ℕ → List Pair
  pairs t = pairs_of (table_at m.tables t).attributes

  -- ## Objects

  pub record ObjectsOf (t : ℕ) (marks : List ℕ) (before : List Delivered) (ls : List Line) : Type 0 where
    pub these : List Line
    pub os : List Delivered
    pub objects : Objects m t these os
    pub e : Line
    pub others : List Line
    pub is : ls ≡ these ++ (e ∷ others)
    pub end : Alone ETAB e
    pub unique : Unique (before ++ os)
    pub goes : Goes (table_from (table_at m.tables t).topic (t + 1)) (content_of marks (before ++ os)) others

  -- an object whose OBJE line is l, and what follows
  record ObjectOf (t : ℕ) (marks : List ℕ) (before : List Delivered) (l : Line) (ls : List Line) : Type 0 where
    o : Delivered
    these : List Line
    others : List Line
    is : ls ≡ these ++ others
    lines : ObjectLines m t (l ∷ these) o
    unique : Unique (before ++ (o ∷ []))
    goes : Goes (object_of t) (content_of marks (before ++ (o ∷ []))) others

  object_of_lem : (t : ℕ) (marks : List ℕ) (before : List Delivered) → AllNamesStand own before → Unique before → (l : Line) (ls : List Line) (due : Due) (x : Content)
      → ObjectStep m own t l (content_of marks before) due x → Goes due x ls → (Alone ETAB l → Goes (table_from (table_at m.tables t).topic (t + 1)) (content_of marks before) ls → ObjectsOf t marks before (l ∷ ls))
      → (ObjectOf t marks before l ls → ObjectsOf t marks before (l ∷ ls)) → ObjectsOf t marks before (l ∷ ls)
  unfolding flag_of is_covered Reads
  object_of_lem t marks before stand unique l ls _ _ (etab e) g end next = end e g
  object_of_lem t marks before stand unique l ls _ _ (obje i fs xs coded ident fresh given) g end next =
      let c : Content = content_of marks before in
      let k : ℕ = length (points_of before) in
      let head : List ℤ = pos t ∷ pos i.start ∷ pos (length i.bytes) ∷ [] in
      let front : List ℤ = c.cells ++ head in
      let at : length front ≡ length c.cells + 3 = length-append c.cells head in
      let count = points_length (points_of before) in
      let points_k : point_count c ≡ k = omega arith in
      let c₁ : Content = with_row (pos t ∷ pos i.start ∷ pos (length i.bytes) ∷ xs) c in
      let g' : Goes (due_lines t k (line_attributes (length front) (pairs t))) c₁ ls = rw at (rw points_k at g) in
      next (made (row_reads m rooms own t z (pairs t) fs was_defined refl 3 xs given k front c₁ ls (sym (append_assoc c.cells head xs)) (sym count) g'))
    where
      made : RowOf m rooms own t z was_defined (pairs t) fs xs (length (points_of before)) ((content_of marks before).cells ++ (pos t ∷ pos i.start ∷ pos (length i.bytes) ∷ []))
          (with_row (pos t ∷ pos i.start ∷ pos (length i.bytes) ∷ xs) (content_of marks before)) ls → ObjectOf t marks before l ls
      made r =
          let o : Delivered = record { table = t; identification = i; entries = r.es } in
          let x = entries_of_pairs m.undefined (table_at m.tables t).attributes fs r.these r.es r.entries in
          record {
            o = o;
            these = r.these;
            others = r.others;
            is = r.is;
            lines = object coded ident x.stand x.entries;
            unique = unique_more before o unique (rw (objects_names own marks before stand) at fresh);
            goes = subst (λ (y : Content). Goes (object_of t) y r.others) (content_more marks before o) r.goes;
          }

  unfoldable pub ObjectsAt : ℕ → Type 0
  ObjectsAt n = (ls : List Line) → length ls ≤ n → (t : ℕ) (marks : List ℕ) (before : List Delivered) → LinesStand own ls → AllNamesStand own before → Unique before
      → Goes (object_of t) (content_of marks before) ls → ObjectsOf t marks before ls

  due_object : (t : ℕ) → object_of t ≡ nothing → ⊥
  due_object t h = let y : ◌≡◌ {A = ℕ} 0 1 = cc in omega arith

  -- an object before others
  objects_joined : (t : ℕ) (marks : List ℕ) (before : List Delivered) (l : Line) (ls : List Line) → (f : ObjectOf t marks before l ls) → ObjectsOf t marks (before ++ (f.o ∷ [])) f.others
      → ObjectsOf t marks before (l ∷ ls)
  objects_joined t marks before l ls f r =
      let whole : (before ++ (f.o ∷ [])) ++ r.os ≡ before ++ (f.o ∷ r.os) = append_assoc before (f.o ∷ []) r.os in
      record {
        these = (l ∷ f.these) ++ r.these;
        os = f.o ∷ r.os;
        objects = right.Objects.more f.lines r.objects;
        e = r.e;
        others = r.others;
        is = ap (λ (y : List Line). l ∷ y) (f.is ∙ (ap (λ (y : List Line). f.these ++ y) r.is ∙ sym (append_assoc f.these r.these (r.e ∷ r.others))));
        end = r.end;
        unique = subst (λ (y : List Delivered). Unique y) whole r.unique;
        goes = subst (λ (y : List Delivered). Goes (table_from (table_at m.tables t).topic (t + 1)) (content_of marks y) r.others) whole r.goes;
      }

  -- behind an object
  objects_next : (n : ℕ) → ObjectsAt n → (t : ℕ) (marks : List ℕ) (before : List Delivered) (l : Line) (ls : List Line) → length ls ≤ n → LinesStand own (l ∷ ls) → AllNamesStand own before
      → ObjectOf t marks before l ls → ObjectsOf t marks before (l ∷ ls)
  unfolding ObjectsAt
  objects_next n ih t marks before l ls short h stand f =
      let behind : LinesStand own (f.these ++ f.others) = subst (λ (y : List Line). LinesStand own y) f.is h.1 in
      let size = ap length f.is ∙ length-append f.these f.others in
      let one = object_stands m own t f.lines (h.0, stand_left own f.these f.others behind) in
      objects_joined t marks before l ls f
      (ih f.others (omega arith) t marks (before ++ (f.o ∷ [])) (stand_right own f.these f.others behind) (names_stand_append own before (f.o ∷ []) stand one) f.unique f.goes)

  objects_end : (t : ℕ) (marks : List ℕ) (before : List Delivered) (l : Line) (ls : List Line) → Unique before → Alone ETAB l
      → Goes (table_from (table_at m.tables t).topic (t + 1)) (content_of marks before) ls → ObjectsOf t marks before (l ∷ ls)
  objects_end t marks before l ls unique e g = record {
    these = [];
    os = [];
    objects = right.Objects.none;
    e = l;
    others = ls;
    is = refl;
    end = e;
    unique = rw (append-nil before) unique;
    goes = rw (append-nil before) g;
  }

  pub objects_of_lem : (n : ℕ) → ObjectsAt n
  unfolding ObjectsAt
  objects_of_lem zero [] short t marks before h stand unique g = absurd (not_done (object_of t) (content_of marks before) (due_object t) g)
  objects_of_lem zero (l ∷ ls) short t marks before h stand unique g = absurd (omega arith)
  objects_of_lem (suc n) [] short t marks before h stand unique g = absurd (not_done (object_of t) (content_of marks before) (due_object t) g)
  objects_of_lem (suc n) (l ∷ ls) short t marks before h stand unique g =
      let f = first_of m rooms own (object_of t) nothing (content_of marks before) z l ls g in
      object_of_lem t marks before stand unique l ls f.due' f.content (object_step m rooms own l (content_of marks before) f.due' f.content t f.goes) f.others
      (λ e g'. objects_end t marks before l ls unique e g') (λ o. objects_next n (λ ks k. objects_of_lem n ks k) t marks before l ls (omega arith) h stand o)
