-- What is read of a table's own lines, with its references resolved, is the same table. Assumes nothing.
use Prim.Native.Nat.{ℕ, ◌+◌, ◌*◌, ◌-◌}
use native.Mathlib.Omega.{arith}
use mathlib.Core.Path.{◌≡◌, refl, sym, ap, subst, ◌∙◌}
use mathlib.Core.Bool.{Bool, true, false, false≢true}
use mathlib.Core.List.{List, [], ◌∷◌, ◌++◌, append_assoc, append-nil}
use lib.IntN.{ℤ, pos}
use lib.ListN.{length, drop, get_or, length-append}
use lib.Seq.{get_or-append_seam, get_or-append-add, drop-append-add}
use borrow.Author.Tests.{ne_eqb}
use Rattle.meaning.specs.Bytes.{choose}
use Rattle.meaning.specs.Model.{Component, AttributeType, Reference, Coordinate, Number, Text, Date, Enumeration, Line, found, target_of, Model, table_at}
use Rattle.meaning.specs.Row.{Pair, OfAttribute, OfComponent, OfLine, pairs_of}
use Rattle.meaning.specs.Reading.{Content, Object, stretch, objects_of}
use Rattle.meaning.specs.Table.{find_object, Resolved, resolved, put_reference, resolve_pair, resolve_pairs, resolve_rows, resolve}
use Rattle.meaning.specs.Readback.{shown_stretch, is_text, has_start, shown_pairs, shown_objects, is_resolved_as}
use Rattle.meaning.specs.WritingClaims.{ObjectsInside, SameTable}
use Rattle.meaning.proofs.Judge.Valid.{lent_objects, Valid}
use Rattle.meaning.proofs.Judge.SameTables.{same_exactly}
use Rattle.meaning.proofs.Judge.Shown.{start_word, start_reference, valid_inside}
use Rattle.meaning.proofs.Writing.Rows.{is_plain, PairLike, alike, word_at, name_at, is_drawn, Like, nil, also}
use Rattle.meaning.proofs.Writing.Attributes.{set_pair, moved, moved_length}
use Rattle.meaning.proofs.Writing.Objects.{IdentificationShown, RowsLike, stop, row, rows_objects, like_length}
use Rattle.meaning.proofs.Writing.Tables.{AllRead}

-- ## Pairs

module _ (text own : List ℕ) where
  -- the pair a b of the table, and the pair x y that is left when references are resolved
  pub data PairSettled : Pair → (a b x y : ℤ) → Type 0 where
    equal : {p : Pair} {a b : ℤ} → has_start p a ≡ false → PairSettled p a b a b
    elsewhere : {o : Bool} {longest start : ℕ} {b : ℤ} (size : ℕ) → shown_stretch own (pos start) 1 (pos (1 + size)) ≡ shown_stretch text b 1 (pos (1 + size))
        → PairSettled (OfAttribute o (Text longest)) (pos (1 + size)) b (pos (1 + size)) (pos start)

  pub data Settled : List Pair → List ℤ → List ℤ → Type 0 where
    none : {cs : List ℤ} → Settled [] cs []
    one : {p : Pair} {ps : List Pair} {a b x y : ℤ} {cs ys : List ℤ} → PairSettled p a b x y → Settled ps cs ys → Settled (p ∷ ps) (a ∷ b ∷ cs) (x ∷ y ∷ ys)

  settled_length : {ps : List Pair} {cs ys : List ℤ} → Settled ps cs ys → length ys ≡ 2 * length ps
  settled_length none = refl
  settled_length (one p s) = let ih = settled_length s in omega arith

  settled_shown : {ps : List Pair} {cs ys : List ℤ} → Settled ps cs ys → (rest : List ℤ) → shown_pairs own ps (ys ++ rest) ≡ shown_pairs text ps cs
  unfolding shown_pairs choose
  settled_shown none rest = refl
  settled_shown (one (equal h) s) rest = rw (h, settled_shown s rest)
  settled_shown (one (elsewhere {o = o} {longest = longest} size e) s) rest = rw (start_word o longest size, e, settled_shown s rest)

-- ## References

plain_start : (p : Pair) (a : ℤ) → is_plain p a ≡ true → has_start p a ≡ false
unfolding is_plain has_start is_text
plain_start (OfAttribute o (Reference t)) a h = refl
plain_start (OfAttribute o (Coordinate ks)) a h = refl
plain_start (OfAttribute o (Number x)) a h = refl
plain_start (OfAttribute o (Text longest)) a h = rw h
plain_start (OfAttribute o Date) a h = refl
plain_start (OfAttribute o (Enumeration leaves)) a h = refl
plain_start (OfAttribute o (Line forms ks)) a h = refl
plain_start (OfComponent x) a h = refl
plain_start (OfLine o forms ks) a h = absurd (false≢true h)

module _ (own : List ℕ) (os : List Object) (object field : ℕ) (front : List ℤ) (a b : ℤ) (rest : List ℤ) where
  -- a plain pair stays
  plain_stays : (o : Bool) (type : AttributeType) → is_plain (OfAttribute o type) a ≡ true → resolve_pair own os object field (length front) (target_of type) (front ++ (a ∷ b ∷ rest)) ≡ resolved (front ++ (a ∷ b ∷ rest))
  unfolding is_plain target_of resolve_pair choose
  plain_stays o (Reference t) h = rw (get_or-append_seam front a (b ∷ rest) (pos 0), h)
  plain_stays o (Coordinate ks) h = refl
  plain_stays o (Number x) h = refl
  plain_stays o (Text longest) h = refl
  plain_stays o Date h = refl
  plain_stays o (Enumeration leaves) h = refl
  plain_stays o (Line forms ks) h = refl

text_stays : (own : List ℕ) (os : List Object) (object field longest cell : ℕ) (cs : List ℤ) → resolve_pair own os object field cell (target_of (Text longest)) cs ≡ resolved cs
unfolding target_of resolve_pair
text_stays own os object field longest cell cs = refl

name_resolved : (own : List ℕ) (os : List Object) (object field target n start size : ℕ) (front rest : List ℤ) → find_object target 0 (stretch own start size) os ≡ found n
    → resolve_pair own os object field (length front) (target_of (Reference target)) (front ++ (pos (1 + size) ∷ pos start ∷ rest)) ≡ resolved (front ++ (pos 1 ∷ pos n ∷ rest))
unfolding target_of resolve_pair choose put_reference
name_resolved own os object field target n start size front rest e =
    let z : 1 + size - 1 ≡ size = omega arith in
    rw (
      get_or-append_seam front (pos (1 + size)) (pos start ∷ rest) (pos 0),
      get_or-append-add front (pos (1 + size) ∷ pos start ∷ rest) 1 (pos 0),
      ne_eqb (1 + size) 0 (omega arith),
      z,
      e,
      set_pair front (pos (1 + size)) (pos start) rest (pos 1) (pos n),
    )

module _ (text : List ℕ) (c : Content) (own : List ℕ) where
  abbrev all : List Object
  all = lent_objects text c.cells c.rows

  record PairsResolved (ps : List Pair) (cs front rest : List ℤ) (out : Resolved) : Type 0 where
    ys : List ℤ
    is : out ≡ resolved (front ++ (ys ++ rest))
    settled : Settled text own ps cs ys

  -- behind a pair that is settled
  pair_on : {p : Pair} {a b x y : ℤ} (ps : List Pair) (cs front rest : List ℤ) (out : Resolved) → PairSettled text own p a b x y
      → PairsResolved ps cs (front ++ (x ∷ y ∷ [])) rest out → PairsResolved (p ∷ ps) (a ∷ b ∷ cs) front rest out
  pair_on {x = x} {y = y} ps cs front rest out s r = record { ys = x ∷ y ∷ r.ys; is = r.is ∙ ap resolved (moved front x y (r.ys ++ rest)); settled = one s r.settled }

  -- a pair as it is read, and what resolving makes of it before the pairs that follow
  record PairResolved (p : Pair) (object field : ℕ) (front : List ℤ) (a b x y : ℤ) : Type 0 where
    field' : ℕ
    u : ℤ
    v : ℤ
    settled : PairSettled text own p a b u v
    is : (ps : List Pair) (rest : List ℤ) → resolve_pairs own all object field (length front) (p ∷ ps) (front ++ (x ∷ y ∷ rest)) ≡ resolve_pairs own all object field' (length front + 2) ps (front ++ (u ∷ v ∷ rest))

  -- an attribute's pair
  attribute_resolved : (o : Bool) (type : AttributeType) (object field : ℕ) (front : List ℤ) (a b x y u v : ℤ) → PairSettled text own (OfAttribute o type) a b u v
      → ((rest : List ℤ) → resolve_pair own all object field (length front) (target_of type) (front ++ (x ∷ y ∷ rest)) ≡ resolved (front ++ (u ∷ v ∷ rest)))
      → PairResolved (OfAttribute o type) object field front a b x y
  unfolding resolve_pairs
  attribute_resolved o type object field front a b x y u v s e = record { field' = field + 1; u = u; v = v; settled = s; is = λ ps rest. rw (e rest) }

  component_resolved : (k : Component) (object field : ℕ) (front : List ℤ) (a b : ℤ) → PairSettled text own (OfComponent k) a b a b → PairResolved (OfComponent k) object field front a b a b
  unfolding resolve_pairs
  component_resolved k object field front a b s = record { field' = field + 1; u = a; v = b; settled = s; is = λ ps rest. refl }

  line_resolved : (o : Bool) (forms : ℕ) (ks : List Component) (object field : ℕ) (front : List ℤ) (a b : ℤ) → PairSettled text own (OfLine o forms ks) a b a b
      → PairResolved (OfLine o forms ks) object field front a b a b
  unfolding resolve_pairs
  line_resolved o forms ks object field front a b s = record { field' = field; u = a; v = b; settled = s; is = λ ps rest. refl }

  plain_resolved : (p : Pair) (a b : ℤ) → is_plain p a ≡ true → (object field : ℕ) (front : List ℤ) → PairResolved p object field front a b a b
  plain_resolved (OfAttribute o type) a b h object field front =
      attribute_resolved o type object field front a b a b a b (equal (plain_start (OfAttribute o type) a h)) (λ rest. plain_stays own all object field front a b rest o type h)
  plain_resolved (OfComponent k) a b h object field front = component_resolved k object field front a b (equal (plain_start (OfComponent k) a h))
  plain_resolved (OfLine o forms ks) a b h object field front = line_resolved o forms ks object field front a b (equal (plain_start (OfLine o forms ks) a h))

  line_start : (o : Bool) (forms : ℕ) (ks : List Component) (a : ℤ) → has_start (OfLine o forms ks) a ≡ false
  unfolding has_start
  line_start o forms ks a = refl

  pair_resolved : {p : Pair} {a b x y : ℤ} → PairLike text c own true p a b x y → (object field : ℕ) (front : List ℤ) → PairResolved p object field front a b x y
  pair_resolved (alike {p = p} {a = a} {b = b} h) object field front = plain_resolved p a b h object field front
  pair_resolved (word_at {o = o} {longest = longest} {start = start} {b = b} size e) object field front =
      attribute_resolved o (Text longest) object field front (pos (1 + size)) b (pos (1 + size)) (pos start) (pos (1 + size)) (pos start) (elsewhere size e)
      (λ rest. text_stays own all object field longest (length front) (front ++ (pos (1 + size) ∷ pos start ∷ rest)))
  pair_resolved (name_at {o = o} {target = target} {start = start} {n = n} size e) object field front =
      attribute_resolved o (Reference target) object field front (pos 1) (pos n) (pos (1 + size)) (pos start) (pos 1) (pos n) (equal (start_reference o target (pos 1)))
      (λ rest. name_resolved own all object field target n start size front rest e)
  pair_resolved (is_drawn {o = o} {forms = forms} {ks = ks} {a = a} {b = b}) object field front = line_resolved o forms ks object field front a b (equal (line_start o forms ks a))

  -- a pair before pairs that are resolved
  pairs_on : (p : Pair) (ps : List Pair) (a b x y : ℤ) (cs xs : List ℤ) (object field : ℕ) (front rest : List ℤ) (q : PairResolved p object field front a b x y)
      → PairsResolved ps cs (front ++ (q.u ∷ q.v ∷ [])) rest
      (resolve_pairs own all object q.field' (length (front ++ (q.u ∷ q.v ∷ []))) ps ((front ++ (q.u ∷ q.v ∷ [])) ++ (xs ++ rest)))
      → PairsResolved (p ∷ ps) (a ∷ b ∷ cs) front rest (resolve_pairs own all object field (length front) (p ∷ ps) (front ++ (x ∷ y ∷ (xs ++ rest))))
  pairs_on p ps a b x y cs xs object field front rest q r =
      rw (q.is ps (xs ++ rest)) (pair_on ps cs front rest _ q.settled (rw (moved front q.u q.v (xs ++ rest), moved_length front q.u q.v rest) at r))

  resolve_pairs_lem : {ps : List Pair} {cs xs : List ℤ} → Like text c own true ps cs xs → (object field : ℕ) (front rest : List ℤ)
      → PairsResolved ps cs front rest (resolve_pairs own all object field (length front) ps (front ++ (xs ++ rest)))
  unfolding resolve_pairs
  resolve_pairs_lem nil object field front rest = record { ys = []; is = refl; settled = none }
  resolve_pairs_lem (also {p = p} {ps = ps} {a = a} {b = b} {x = x} {y = y} {cs = cs} {xs = xs} r l) object field front rest =
      by (pair_resolved r object field front) (λ field' front'. resolve_pairs_lem l object field' front' rest)
    where
      by : PairResolved p object field front a b x y → ((field : ℕ) (front : List ℤ) → PairsResolved ps cs front rest (resolve_pairs own all object field (length front) ps (front ++ (xs ++ rest))))
          → PairsResolved (p ∷ ps) (a ∷ b ∷ cs) front rest (resolve_pairs own all object field (length front) (p ∷ ps) (front ++ (x ∷ y ∷ (xs ++ rest))))
      by q ih = pairs_on p ps a b x y cs xs object field front rest q (ih q.field' (front ++ (q.u ∷ q.v ∷ [])))

-- ## A row in a list of cells

module _ (at t start size : ℕ) (ys zs front rest : List ℤ) (e : length front ≡ at) where
  cell_0 : get_or (front ++ ((pos t ∷ pos start ∷ pos size ∷ (ys ++ zs)) ++ rest)) at (pos 0) ≡ pos t
  cell_0 = rw (← e) (get_or-append_seam front (pos t) _ (pos 0))

  cell_1 : get_or (front ++ ((pos t ∷ pos start ∷ pos size ∷ (ys ++ zs)) ++ rest)) (at + 1) (pos 0) ≡ pos start
  cell_1 = rw (← e) (get_or-append-add front _ 1 (pos 0))

  cell_2 : get_or (front ++ ((pos t ∷ pos start ∷ pos size ∷ (ys ++ zs)) ++ rest)) (at + 2) (pos 0) ≡ pos size
  cell_2 = rw (← e) (get_or-append-add front _ 2 (pos 0))

  cells_3 : drop (at + 3) (front ++ ((pos t ∷ pos start ∷ pos size ∷ (ys ++ zs)) ++ rest)) ≡ ys ++ (zs ++ rest)
  cells_3 = rw (← e) (drop-append-add front ((pos t ∷ pos start ∷ pos size ∷ (ys ++ zs)) ++ rest) 3 ∙ append_assoc ys zs rest)

  row_joins : (front ++ (pos t ∷ pos start ∷ pos size ∷ ys)) ++ (zs ++ rest) ≡ front ++ ((pos t ∷ pos start ∷ pos size ∷ (ys ++ zs)) ++ rest)
  row_joins = append_assoc front (pos t ∷ pos start ∷ pos size ∷ ys) (zs ++ rest) ∙ ap (λ (l : List ℤ). front ++ (pos t ∷ pos start ∷ pos size ∷ l)) (sym (append_assoc ys zs rest))

  row_long : length (front ++ (pos t ∷ pos start ∷ pos size ∷ ys)) ≡ at + (3 + length ys)
  row_long = length-append front (pos t ∷ pos start ∷ pos size ∷ ys) ∙ (let z : length (pos t ∷ pos start ∷ pos size ∷ ys) ≡ 3 + length ys = omega arith in rw (e, z))

-- ## Rows

module _ (m : Model) (text : List ℕ) (c : Content) (own : List ℕ) where
  pub data RowsSettled : (at : ℕ) → List ℕ → List ℤ → (to : ℕ) → Type 0 where
    end : {at : ℕ} → RowsSettled at [] [] at
    next : {at to t start size : ℕ} {rows : List ℕ} {ys zs : List ℤ} → get_or c.cells at (pos 0) ≡ pos t → get_or c.cells (at + 2) (pos 0) ≡ pos size
        → IdentificationShown m text c own at start size → Settled text own (pairs_of (table_at m.tables t).attributes) (drop (at + 3) c.cells) ys
        → RowsSettled (at + (3 + length ys)) rows zs to → RowsSettled at (at ∷ rows) (pos t ∷ pos start ∷ pos size ∷ (ys ++ zs)) to

  record RowsResolved (at : ℕ) (rows : List ℕ) (front : List ℤ) (to : ℕ) (out : Resolved) : Type 0 where
    ys : List ℤ
    is : out ≡ resolved (front ++ ys)
    settled : RowsSettled at rows ys to

  -- a row's first three cells
  abbrev row_head : (t start size : ℕ) → List ℤ
  row_head t start size = pos t ∷ pos start ∷ pos size ∷ []

  -- a resolved row before resolved rows
  row_on : {at to : ℕ} {rows : List ℕ} (t start size n object : ℕ) (front xs zs : List ℤ) → length front ≡ at → get_or c.cells at (pos 0) ≡ pos t
      → get_or c.cells (at + 2) (pos 0) ≡ pos size → IdentificationShown m text c own at start size
      → (q : PairsResolved text c own (pairs_of (table_at m.tables t).attributes) (drop (at + 3) c.cells) (front ++ row_head t start size) zs
      (resolve_pairs own (lent_objects text c.cells c.rows) object 3 (at + 3) (pairs_of (table_at m.tables t).attributes) (front ++ (row_head t start size ++ (xs ++ zs)))))
      → length q.ys ≡ n
      → RowsResolved (at + (3 + n)) rows (front ++ (row_head t start size ++ q.ys)) to
      (resolve_rows own (lent_objects text c.cells c.rows) m.tables (object + 1) rows ((front ++ (row_head t start size ++ q.ys)) ++ zs))
      → RowsResolved at (at ∷ rows) front to (resolve_rows own (lent_objects text c.cells c.rows) m.tables object (at ∷ rows) (front ++ (row_head t start size ++ (xs ++ zs))))
  unfolding resolve_rows
  row_on {at = at} {to = to} {rows = rows} t start size n object front xs zs e a b i q count ih =
      record {
        ys = row_head t start size ++ (q.ys ++ ih.ys);
        is = rw (cell, first) (ih.is ∙ ap resolved (append_assoc front (row_head t start size ++ q.ys) ih.ys));
        settled = next a b i q.settled (subst (λ (k : ℕ). RowsSettled (at + (3 + k)) rows ih.ys to) (sym count) ih.settled);
      }
    where
      cell : get_or (front ++ (row_head t start size ++ (xs ++ zs))) at (pos 0) ≡ pos t
      cell = rw (← e) (get_or-append_seam front (pos t) _ (pos 0))

      first : resolve_pairs own (lent_objects text c.cells c.rows) object 3 (at + 3) (pairs_of (table_at m.tables t).attributes) (front ++ (row_head t start size ++ (xs ++ zs)))
          ≡ resolved ((front ++ (row_head t start size ++ q.ys)) ++ zs)
      first = q.is ∙ ap resolved (append_assoc front (row_head t start size) (q.ys ++ zs) ∙ sym (append_assoc front (row_head t start size ++ q.ys) zs))

  resolve_rows_lem : {at to : ℕ} {rows : List ℕ} {zs : List ℤ} → RowsLike m text c own at rows zs to → (object : ℕ) (front : List ℤ) → length front ≡ at
      → RowsResolved at rows front to (resolve_rows own (lent_objects text c.cells c.rows) m.tables object rows (front ++ zs))
  unfolding resolve_rows
  resolve_rows_lem stop object front e = record { ys = []; is = refl; settled = end }
  resolve_rows_lem (row {at = at} {to = to} {t = t} {start = start} {size = size} {rows = rows} {xs = xs} {zs = zs} a b i v l r) object front e =
      by (rw (long, append_assoc front (row_head t start size) (xs ++ zs)) at (resolve_pairs_lem text c own l object 3 (front ++ row_head t start size) zs))
      (λ front' e'. resolve_rows_lem r (object + 1) front' e')
    where
      long : length (front ++ row_head t start size) ≡ at + 3
      long = length-append front (row_head t start size) ∙ rw e

      by : PairsResolved text c own (pairs_of (table_at m.tables t).attributes) (drop (at + 3) c.cells) (front ++ row_head t start size) zs
          (resolve_pairs own (lent_objects text c.cells c.rows) object 3 (at + 3) (pairs_of (table_at m.tables t).attributes) (front ++ (row_head t start size ++ (xs ++ zs))))
          → ((front' : List ℤ) → length front' ≡ at + (3 + length xs)
          → RowsResolved (at + (3 + length xs)) rows front' to (resolve_rows own (lent_objects text c.cells c.rows) m.tables (object + 1) rows (front' ++ zs)))
          → RowsResolved at (at ∷ rows) front to
          (resolve_rows own (lent_objects text c.cells c.rows) m.tables object (at ∷ rows) (front ++ (row_head t start size ++ (xs ++ zs))))
      by q ih =
          let count : length q.ys ≡ length xs = settled_length text own q.settled ∙ sym (like_length l) in
          let long' : length (row_head t start size ++ q.ys) ≡ 3 + length xs = omega arith in
          row_on t start size (length xs) object front xs zs e a b v q count (ih (front ++ (row_head t start size ++ q.ys)) (length-append front (row_head t start size ++ q.ys) ∙ rw (e, long')))

  -- ## The same table

  rows_shown : {at to : ℕ} {rows : List ℕ} {zs : List ℤ} → RowsSettled at rows zs to → (front rest : List ℤ) → length front ≡ at
      → shown_objects m own (front ++ (zs ++ rest)) rows ≡ shown_objects m text c.cells rows
  unfolding shown_objects
  rows_shown end front rest e = refl
  rows_shown (next {at = at} {t = t} {start = start} {size = size} {rows = rows} {ys = ys} {zs = zs} a b v s r) front rest e =
      let ih = rw (row_joins at t start size ys zs front rest e) at (rows_shown r (front ++ (pos t ∷ pos start ∷ pos size ∷ ys)) rest (row_long at t start size ys zs front rest e)) in
      rw (
        cell_0 at t start size ys zs front rest e,
        cell_1 at t start size ys zs front rest e,
        cell_2 at t start size ys zs front rest e,
        cells_3 at t start size ys zs front rest e,
        a,
        v,
        settled_shown text own s (zs ++ rest),
        ih,
      )

  settled_size : {at to : ℕ} {rows : List ℕ} {zs : List ℤ} → RowsSettled at rows zs to → at + length zs ≡ to
  settled_size end = omega arith
  settled_size (next {ys = ys} {zs = zs} a b i s r) = let ih = settled_size r in let z = length-append ys zs in omega arith

-- what is read of the own lines of a table that is fine is that table
pub all_same : (m : Model) (text : List ℕ) (c : Content) (own : List ℕ) (d : Content) → Valid m text c → AllRead m text c own d → is_resolved_as m own d text c (resolve m own d) ≡ true
unfolding resolve is_resolved_as
all_same m text c own d valid r =
    let objects : objects_of own d.cells d.rows ≡ lent_objects text c.cells c.rows = rw r.rows (rw (append-nil d.cells) at (rows_objects m text c own r.like [] [] refl)) in
    let q = resolve_rows_lem m text c own r.like 0 [] refl in
    let long : length q.ys ≡ length c.cells = let z = settled_size m text c own q.settled in omega arith in
    let shown : shown_objects m own q.ys c.rows ≡ shown_objects m text c.cells c.rows = rw (append-nil q.ys) at (rows_shown m text c own q.settled [] [] refl) in
    let read : Content = record { marks = d.marks; rows = c.rows; cells = q.ys; points = d.points } in
    let same : SameTable m own read text c =
    record { marks = r.marks; rows = refl; cells = long; objects = shown; inside = subst ObjectsInside (sym shown) (valid_inside m text c valid); points = r.points } in
    rw (objects, r.rows, q.is) ((same_exactly m own read text c).1 same)
