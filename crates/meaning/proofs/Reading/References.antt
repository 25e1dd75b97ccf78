-- References that were resolved: rows as records, in flat cells, and what resolving made of them. Assumes nothing.
use Prim.Native.Nat.{ℕ, ◌+◌, ◌*◌, ◌-◌}
use native.Mathlib.Omega.{arith}
use mathlib.Core.Path.{◌≡◌, refl, sym, ap, ◌∙◌}
use mathlib.Core.Bool.{Bool, true, false}
use mathlib.Core.List.{List, [], ◌∷◌, ◌++◌, append_assoc}
use lib.Dec.{eqb}
use lib.IntN.{ℤ, pos, nat_abs}
use lib.ListN.{length, get_or, length-append}
use lib.Seq.{get_or-append_seam, get_or-append-add}
use Rattle.meaning.specs.Bytes.{choose}
use Rattle.meaning.specs.Model.{Component, AttributeType, Found, found, missing, target_of, Table, table_at}
use Rattle.meaning.specs.Row.{Pair, OfAttribute, OfComponent, OfLine, pairs_of}
use Rattle.meaning.specs.Reading.{Object, stretch, object_at, objects_of}
use Rattle.meaning.specs.Table.{find_object, Resolved, resolved, unresolved, after_resolved, put_reference, resolve_pair, resolve_pairs, resolve_rows}
use Rattle.meaning.specs.Writing.{identification_bytes}
use Rattle.meaning.proofs.Reading.Stretches.{stretch_pos}
use Rattle.meaning.proofs.Tests.Unequal.{no_resolved}
use Rattle.meaning.proofs.Judge.Valid.{lent_objects}
use Rattle.meaning.proofs.Writing.Attributes.{set_pair, moved, moved_length}

-- ## Rows as records

pub record Row : Type 0 where
  pub table : ℕ
  pub start : ℕ
  pub size : ℕ
  pub pairs : List ℤ

abbrev pub row_cells : Row → List ℤ
row_cells r = pos r.table ∷ pos r.start ∷ pos r.size ∷ r.pairs

unfoldable pub flat_rows : List Row → List ℤ
flat_rows [] = []
flat_rows (r ∷ rs) = row_cells r ++ flat_rows rs

unfoldable pub row_starts : ℕ → List Row → List ℕ
row_starts base [] = []
row_starts base (r ∷ rs) = base ∷ row_starts (base + length (row_cells r)) rs

unfoldable pub objects_of_rows : (text : List ℕ) → List Row → List Object
objects_of_rows text [] = []
objects_of_rows text (r ∷ rs) = record { table = r.table; identification = stretch text r.start r.size } ∷ objects_of_rows text rs

pub flat_append : (rs qs : List Row) → flat_rows (rs ++ qs) ≡ flat_rows rs ++ flat_rows qs
unfolding flat_rows
flat_append [] qs = refl
flat_append (r ∷ rs) qs = rw (flat_append rs qs) (sym (append_assoc (row_cells r) (flat_rows rs) (flat_rows qs)))

pub starts_append : (base : ℕ) (rs qs : List Row) → row_starts base (rs ++ qs) ≡ row_starts base rs ++ row_starts (base + length (flat_rows rs)) qs
unfolding row_starts flat_rows
starts_append base [] qs = let z : base + 0 ≡ base = omega arith in rw z
starts_append base (r ∷ rs) qs =
    let z : base + length (row_cells r ++ flat_rows rs) ≡ base + length (row_cells r) + length (flat_rows rs) = rw (length-append (row_cells r) (flat_rows rs)) (omega arith) in
    rw z (rw (starts_append (base + length (row_cells r)) rs qs))

-- the first cells of a row in the middle
module _ (front : List ℤ) (r : Row) (rest : List ℤ) where
  pub table_at_lem : get_or (front ++ (row_cells r ++ rest)) (length front) (pos 0) ≡ pos r.table
  table_at_lem = get_or-append_seam front (pos r.table) _ (pos 0)

  pub start_at : get_or (front ++ (row_cells r ++ rest)) (length front + 1) (pos 0) ≡ pos r.start
  start_at = get_or-append-add front (row_cells r ++ rest) 1 (pos 0)

  pub size_at : get_or (front ++ (row_cells r ++ rest)) (length front + 2) (pos 0) ≡ pos r.size
  size_at = get_or-append-add front (row_cells r ++ rest) 2 (pos 0)

pub row_identification : (text : List ℕ) (front : List ℤ) (r : Row) (rest : List ℤ) → identification_bytes text (front ++ (row_cells r ++ rest)) (length front) ≡ stretch text r.start r.size
unfolding identification_bytes
row_identification text front r rest = rw (start_at front r rest, size_at front r rest) (stretch_pos text r.start r.size)

-- the rows behind the first
rows_on : (front : List ℤ) (r : Row) (rs : List Row) (rest : List ℤ) → (front ++ row_cells r) ++ (flat_rows rs ++ rest) ≡ front ++ ((row_cells r ++ flat_rows rs) ++ rest)
rows_on front r rs rest = append_assoc front (row_cells r) (flat_rows rs ++ rest) ∙ ap (λ (l : List ℤ). front ++ l) (sym (append_assoc (row_cells r) (flat_rows rs) rest))

pub objects_flat : (text : List ℕ) (rs : List Row) (front rest : List ℤ) → objects_of text (front ++ (flat_rows rs ++ rest)) (row_starts (length front) rs) ≡ objects_of_rows text rs
unfolding objects_of object_at objects_of_rows flat_rows row_starts
objects_flat text [] front rest = refl
objects_flat text (r ∷ rs) front rest =
    let ih = rw (rows_on front r rs rest, length-append front (row_cells r)) at (objects_flat text rs (front ++ row_cells r) rest) in
    rw (ih) (rw (append_assoc r.pairs (flat_rows rs) rest, table_at_lem front r (flat_rows rs ++ rest), start_at front r (flat_rows rs ++ rest), size_at front r (flat_rows rs ++ rest)))

pub lent_flat : (text : List ℕ) (rs : List Row) (front rest : List ℤ) → lent_objects text (front ++ (flat_rows rs ++ rest)) (row_starts (length front) rs) ≡ objects_of_rows text rs
unfolding lent_objects objects_of_rows flat_rows row_starts
lent_flat text [] front rest = refl
lent_flat text (r ∷ rs) front rest =
    let ih = rw (rows_on front r rs rest, length-append front (row_cells r)) at (lent_flat text rs (front ++ row_cells r) rest) in
    rw (ih) (rw (append_assoc r.pairs (flat_rows rs) rest, table_at_lem front r (flat_rows rs ++ rest), row_identification text front r (flat_rows rs ++ rest)))

-- ## What resolving made of them

module _ (text : List ℕ) (os : List Object) where
  -- a row's pairs as they are read, and as they are resolved
  pub data ResolvedTo : List Pair → List ℤ → List ℤ → Type 0 where
    nil : ResolvedTo [] [] []
    other : {o : Bool} {type : AttributeType} {ps : List Pair} {a b : ℤ} {xs ys : List ℤ} → target_of type ≡ missing → ResolvedTo ps xs ys → ResolvedTo (OfAttribute o type ∷ ps) (a ∷ b ∷ xs) (a ∷ b ∷ ys)
    empty : {o : Bool} {type : AttributeType} {ps : List Pair} {a b : ℤ} {xs ys : List ℤ} → eqb (nat_abs a) 0 ≡ true → ResolvedTo ps xs ys → ResolvedTo (OfAttribute o type ∷ ps) (a ∷ b ∷ xs) (a ∷ b ∷ ys)
    names : {o : Bool} {type : AttributeType} {ps : List Pair} {a b : ℤ} {xs ys : List ℤ} (target n : ℕ) → target_of type ≡ found target → eqb (nat_abs a) 0 ≡ false
        → find_object target 0 (stretch text (nat_abs b) (nat_abs a - 1)) os ≡ found n → ResolvedTo ps xs ys → ResolvedTo (OfAttribute o type ∷ ps) (a ∷ b ∷ xs) (pos 1 ∷ pos n ∷ ys)
    further : {x : Component} {ps : List Pair} {a b : ℤ} {xs ys : List ℤ} → ResolvedTo ps xs ys → ResolvedTo (OfComponent x ∷ ps) (a ∷ b ∷ xs) (a ∷ b ∷ ys)
    aside : {o : Bool} {forms : ℕ} {ks : List Component} {ps : List Pair} {a b : ℤ} {xs ys : List ℤ} → ResolvedTo ps xs ys → ResolvedTo (OfLine o forms ks ∷ ps) (a ∷ b ∷ xs) (a ∷ b ∷ ys)

  pub resolved_length : {ps : List Pair} {xs ys : List ℤ} → ResolvedTo ps xs ys → length ys ≡ length xs
  resolved_length nil = refl
  resolved_length (other e r) = let ih = resolved_length r in omega arith
  resolved_length (empty e r) = let ih = resolved_length r in omega arith
  resolved_length (names target n e f g r) = let ih = resolved_length r in omega arith
  resolved_length (further r) = let ih = resolved_length r in omega arith
  resolved_length (aside r) = let ih = resolved_length r in omega arith

  record PairsTo (ps : List Pair) (xs front rest out : List ℤ) : Type 0 where
    ys : List ℤ
    to : ResolvedTo ps xs ys
    is : out ≡ front ++ (ys ++ rest)

  pairs_to : (ps : List Pair) (p : Pair) (xs front rest out : List ℤ) (a b x y : ℤ) → ((ys : List ℤ) → ResolvedTo ps xs ys → ResolvedTo (p ∷ ps) (a ∷ b ∷ xs) (x ∷ y ∷ ys))
      → PairsTo ps xs (front ++ (x ∷ y ∷ [])) rest out → PairsTo (p ∷ ps) (a ∷ b ∷ xs) front rest out
  pairs_to ps p xs front rest out a b x y more r = record { ys = x ∷ y ∷ r.ys; to = more r.ys r.to; is = r.is ∙ moved front x y (r.ys ++ rest) }

  -- the pair of an attribute
  data PairTo (type : AttributeType) (front rest : List ℤ) (a b : ℤ) : Resolved → Type 0 where
    stays : ((o : Bool) (ps : List Pair) (xs ys : List ℤ) → ResolvedTo ps xs ys → ResolvedTo (OfAttribute o type ∷ ps) (a ∷ b ∷ xs) (a ∷ b ∷ ys)) → PairTo type front rest a b (resolved (front ++ (a ∷ b ∷ rest)))
    becomes : (n : ℕ) → ((o : Bool) (ps : List Pair) (xs ys : List ℤ) → ResolvedTo ps xs ys → ResolvedTo (OfAttribute o type ∷ ps) (a ∷ b ∷ xs) (pos 1 ∷ pos n ∷ ys))
        → PairTo type front rest a b (resolved (front ++ (pos 1 ∷ pos n ∷ rest)))
    fails : (object field : ℕ) → PairTo type front rest a b (unresolved object field)

  pair_to : (type : AttributeType) (object field : ℕ) (front rest : List ℤ) (a b : ℤ) → PairTo type front rest a b (resolve_pair text os object field (length front) (target_of type) (front ++ (a ∷ b ∷ rest)))
  unfolding resolve_pair put_reference choose
  pair_to type object field front rest a b = by (target_of type) refl
    where
      put : (target : ℕ) → target_of type ≡ found target → eqb (nat_abs a) 0 ≡ false → (f : Found) → find_object target 0 (stretch text (nat_abs b) (nat_abs a - 1)) os ≡ f
          → PairTo type front rest a b (put_reference object field (length front) (front ++ (a ∷ b ∷ rest)) f)
      put target e z (found n) g = rw (set_pair front a b rest (pos 1) (pos n)) (becomes n (λ o ps xs ys r. names target n e z g r))
      put target e z missing g = (fails object field)

      test : (target : ℕ) → target_of type ≡ found target → (t : Bool) → eqb (nat_abs a) 0 ≡ t
          → PairTo type front rest a b (choose t (resolved (front ++ (a ∷ b ∷ rest))) (put_reference object field (length front) (front ++ (a ∷ b ∷ rest)) (find_object target 0 (stretch text (nat_abs b) (nat_abs a - 1)) os)))
      test target e true z = (stays (λ o ps xs ys r. empty z r))
      test target e false z = (put target e z _ refl)

      by : (f : Found) → target_of type ≡ f → PairTo type front rest a b (resolve_pair text os object field (length front) f (front ++ (a ∷ b ∷ rest)))
      by missing e = stays (λ o ps xs ys r. other e r)
      by (found target) e = rw (get_or-append_seam front a (b ∷ rest) (pos 0), get_or-append-add front (a ∷ b ∷ rest) 1 (pos 0)) (test target e (eqb (nat_abs a) 0) refl)

  -- behind an attribute's pair
  after_pair : (type : AttributeType) (o : Bool) (ps : List Pair) (xs front rest out : List ℤ) (a b : ℤ) (r : Resolved) → PairTo type front (xs ++ rest) a b r → (next : List ℤ → Resolved)
      → after_resolved r next ≡ resolved out
      → ((x y : ℤ) → next (front ++ (x ∷ y ∷ (xs ++ rest))) ≡ resolved out → PairsTo ps xs (front ++ (x ∷ y ∷ [])) rest out)
      → PairsTo (OfAttribute o type ∷ ps) (a ∷ b ∷ xs) front rest out
  after_pair type o ps xs front rest out a b _ (stays more) next e ih = pairs_to ps (OfAttribute o type) xs front rest out a b a b (λ ys r. more o ps xs ys r) (ih a b e)
  after_pair type o ps xs front rest out a b _ (becomes n more) next e ih = pairs_to ps (OfAttribute o type) xs front rest out a b (pos 1) (pos n) (λ ys r. more o ps xs ys r) (ih (pos 1) (pos n) e)
  after_pair type o ps xs front rest out a b _ (fails object field) next e ih = absurd (no_resolved object field out e)

  resolved_pairs : (ps : List Pair) (xs : List ℤ) (object field : ℕ) (front rest out : List ℤ) → length xs ≡ 2 * length ps
      → resolve_pairs text os object field (length front) ps (front ++ (xs ++ rest)) ≡ resolved out → PairsTo ps xs front rest out
  unfolding resolve_pairs
  resolved_pairs [] [] object field front rest out long e = record { ys = []; to = nil; is = cc }
  resolved_pairs [] (x ∷ xs) object field front rest out long e = absurd (omega arith)
  resolved_pairs (p ∷ ps) [] object field front rest out long e = absurd (omega arith)
  resolved_pairs (p ∷ ps) (a ∷ []) object field front rest out long e = absurd (omega arith)
  resolved_pairs (OfAttribute o type ∷ ps) (a ∷ b ∷ xs) object field front rest out long e =
      after_pair type o ps xs front rest out a b _ (pair_to type object field front (xs ++ rest) a b) (λ ds. resolve_pairs text os object (field + 1) (length front + 2) ps ds) e
      (λ x y h. resolved_pairs ps xs object (field + 1) (front ++ (x ∷ y ∷ [])) rest out (omega arith) (rw (moved front x y (xs ++ rest), moved_length front x y rest) h))
  resolved_pairs (OfComponent x ∷ ps) (a ∷ b ∷ xs) object field front rest out long e =
      pairs_to ps (OfComponent x) xs front rest out a b a b (λ ys r. further r)
      (resolved_pairs ps xs object (field + 1) (front ++ (a ∷ b ∷ [])) rest out (omega arith) (rw (moved front a b (xs ++ rest), moved_length front a b rest) e))
  resolved_pairs (OfLine o forms ks ∷ ps) (a ∷ b ∷ xs) object field front rest out long e =
      pairs_to ps (OfLine o forms ks) xs front rest out a b a b (λ ys r. aside r)
      (resolved_pairs ps xs object field (front ++ (a ∷ b ∷ [])) rest out (omega arith) (rw (moved front a b (xs ++ rest), moved_length front a b rest) e))

  module _ (ts : List Table) where
    abbrev pub pairs_in : ℕ → List Pair
    pairs_in t = pairs_of (table_at ts t).attributes

    -- each row has two cells for each pair
    abbrev pub AllLong : List Row → Type 0
    AllLong [] = Unit {0}
    AllLong (r ∷ rs) = (length r.pairs ≡ 2 * length (pairs_in r.table)) × AllLong rs

    pub data ResolvedRows : List Row → List Row → Type 0 where
      nomore : ResolvedRows [] []
      more : {t start size : ℕ} {xs ys : List ℤ} {rs qs : List Row} → ResolvedTo (pairs_in t) xs ys → ResolvedRows rs qs
          → ResolvedRows (record { table = t; start = start; size = size; pairs = xs } ∷ rs) (record { table = t; start = start; size = size; pairs = ys } ∷ qs)

    pub record RowsTo (rs : List Row) (front out : List ℤ) : Type 0 where
      pub qs : List Row
      pub to : ResolvedRows rs qs
      pub is : out ≡ front ++ flat_rows qs

    -- a row that is resolved, before rows that are
    row_to : (r : Row) (rs : List Row) (front out ys : List ℤ) → ResolvedTo (pairs_in r.table) r.pairs ys → RowsTo rs (front ++ (pos r.table ∷ pos r.start ∷ pos r.size ∷ ys)) out
        → RowsTo (r ∷ rs) front out
    unfolding flat_rows
    row_to r rs front out ys w z = record {
      qs = record { table = r.table; start = r.start; size = r.size; pairs = ys } ∷ z.qs;
      to = more w z.to;
      is = z.is ∙ append_assoc front (pos r.table ∷ pos r.start ∷ pos r.size ∷ ys) (flat_rows z.qs);
    }

    rows_behind : (r : Row) (rs : List Row) (object : ℕ) (front out ds : List ℤ) → PairsTo (pairs_in r.table) r.pairs (front ++ (pos r.table ∷ pos r.start ∷ pos r.size ∷ [])) (flat_rows rs) ds
        → resolve_rows text os ts (object + 1) (row_starts (length front + length (row_cells r)) rs) ds ≡ resolved out
        → ((front' : List ℤ) → resolve_rows text os ts (object + 1) (row_starts (length front') rs) (front' ++ flat_rows rs) ≡ resolved out → RowsTo rs front' out)
        → RowsTo (r ∷ rs) front out
    rows_behind r rs object front out ds w e ih =
        row_to r rs front out w.ys w.to (ih (front ++ (pos r.table ∷ pos r.start ∷ pos r.size ∷ w.ys)) (rw (long, ← there) e))
      where
        there : ds ≡ (front ++ (pos r.table ∷ pos r.start ∷ pos r.size ∷ w.ys)) ++ flat_rows rs
        there = w.is
            ∙ (append_assoc front (pos r.table ∷ pos r.start ∷ pos r.size ∷ []) (w.ys ++ flat_rows rs)
            ∙ sym (append_assoc front (pos r.table ∷ pos r.start ∷ pos r.size ∷ w.ys) (flat_rows rs)))

        same_length : length (pos r.table ∷ pos r.start ∷ pos r.size ∷ w.ys) ≡ length (row_cells r)
        same_length = let y = resolved_length w.to in omega arith

        long : length (front ++ (pos r.table ∷ pos r.start ∷ pos r.size ∷ w.ys)) ≡ length front + length (row_cells r)
        long = length-append front (pos r.table ∷ pos r.start ∷ pos r.size ∷ w.ys) ∙ rw same_length

    pub resolved_rows : (rs : List Row) (object : ℕ) (front out : List ℤ) → AllLong rs → resolve_rows text os ts object (row_starts (length front) rs) (front ++ flat_rows rs) ≡ resolved out → RowsTo rs front out
    unfolding resolve_rows flat_rows row_starts
    resolved_rows [] object front out long e = record { qs = []; to = nomore; is = cc }
    resolved_rows (r ∷ rs) object front out long e =
        let head : List ℤ = pos r.table ∷ pos r.start ∷ pos r.size ∷ [] in
        let whole : front ++ (row_cells r ++ flat_rows rs) ≡ (front ++ head) ++ (r.pairs ++ flat_rows rs) = sym (append_assoc front head (r.pairs ++ flat_rows rs)) in
        let at : length (front ++ head) ≡ length front + 3 = length-append front head in
        by (resolve_pairs text os object 3 (length front + 3) (pairs_in r.table) (front ++ (row_cells r ++ flat_rows rs))) refl (rw (table_at_lem front r (flat_rows rs)) at e)
        (λ ds h. resolved_pairs (pairs_in r.table) r.pairs object 3 (front ++ head) (flat_rows rs) ds long.0 (rw (at, ← whole) h))
        (λ front' h. resolved_rows rs (object + 1) front' out long.1 h)
      where
        by : (x : Resolved) → resolve_pairs text os object 3 (length front + 3) (pairs_in r.table) (front ++ (row_cells r ++ flat_rows rs)) ≡ x
            → after_resolved x (λ ds. resolve_rows text os ts (object + 1) (row_starts (length front + length (row_cells r)) rs) ds) ≡ resolved out
            → ((ds : List ℤ) → resolve_pairs text os object 3 (length front + 3) (pairs_in r.table) (front ++ (row_cells r ++ flat_rows rs)) ≡ resolved ds
            → PairsTo (pairs_in r.table) r.pairs (front ++ (pos r.table ∷ pos r.start ∷ pos r.size ∷ [])) (flat_rows rs) ds)
            → ((front' : List ℤ) → resolve_rows text os ts (object + 1) (row_starts (length front') rs) (front' ++ flat_rows rs) ≡ resolved out → RowsTo rs front' out)
            → RowsTo (r ∷ rs) front out
        by (unresolved o f) p e q ih = absurd (no_resolved o f out e)
        by (resolved ds) p e q ih = rows_behind r rs object front out ds (q ds p) e ih
