-- What a table shows of its texts: stretches that lie in the text, which those of a table that is fine all do. Assumes nothing.
use Prim.Native.Nat.{ℕ, ◌+◌, ◌-◌, ◌≤◌}
use native.Mathlib.Omega.{arith}
use mathlib.Core.Path.{◌≡◌, refl, sym, ap, subst, ◌∙◌}
use mathlib.Core.Bool.{Bool, true, false, not, ◌&&◌}
use mathlib.Core.List.{List}
use lib.Dec.{eqb}
use lib.IntN.{ℤ, pos, nat_abs}
use lib.Signed.{lt_z}
use lib.ListN.{length, get_or}
use borrow.Author.Tests.{ne_eqb, le-leb, leb-true}
use Rattle.meaning.specs.Bytes.{choose}
use Rattle.meaning.specs.Model.{AttributeType, Reference, Text, Model}
use Rattle.meaning.specs.Row.{Pair, OfAttribute, OfComponent, OfLine}
use Rattle.meaning.specs.Reading.{Content, cell_at, stretch}
use Rattle.meaning.specs.Writing.{stretch_bytes, identification_bytes}
use Rattle.meaning.specs.Readback.{Shown, of_cells, of_bytes, outside, is_within, shown_stretch, is_text, has_start, shown_pairs, shown_objects}
use Rattle.meaning.specs.WritingClaims.{Inside, PairsInside, ObjectsInside}
use Rattle.meaning.proofs.Tests.Refuse.{choose_keeps, both}
use Rattle.meaning.proofs.Reading.Fields.{Solid}
use Rattle.meaning.proofs.Reading.Stretches.{stretch_pos}
use Rattle.meaning.proofs.Judge.Cells.{at_least, no_less, solid_size, stretch_size, stretch_lies}
use Rattle.meaning.proofs.Judge.Valid.{RowOk, done, absent, plain, word, name, without, along, no_line, line, Place, Rest, finished, topic_out, topic_in, topic_end, table_out, table_in, object, table_end, Valid}

-- ## Which pairs have a start

pub start_zero : (p : Pair) → has_start p (pos 0) ≡ false
unfolding has_start
start_zero (OfAttribute o type) = by (is_text type)
  where
    by : (x : Bool) → (x && not (eqb 0 0)) ≡ false
    by true = refl
    by false = refl
start_zero (OfComponent x) = refl
start_zero (OfLine o forms ks) = refl

pub start_plain : (o : Bool) (type : AttributeType) (a : ℤ) → is_text type ≡ false → has_start (OfAttribute o type) a ≡ false
unfolding has_start
start_plain o type a e = rw e

pub start_word : (o : Bool) (longest size : ℕ) → has_start (OfAttribute o (Text longest)) (pos (1 + size)) ≡ true
unfolding has_start is_text
start_word o longest size = rw (ne_eqb (1 + size) 0 (omega arith))

pub start_reference : (o : Bool) (target : ℕ) (a : ℤ) → has_start (OfAttribute o (Reference target)) a ≡ false
unfolding has_start is_text
start_reference o target a = refl

-- ## One stretch

pub no_bytes : (a b : ℤ) (s : List ℕ) → of_cells a b ≡ of_bytes s → ⊥
no_bytes a b s h = let z : ◌≡◌ {A = ℕ} 0 1 = cc in omega arith

no_outside : (a b : ℤ) → of_cells a b ≡ outside → ⊥
no_outside a b h = let z : ◌≡◌ {A = ℕ} 0 1 = cc in omega arith

-- a stretch shows no cells
pub no_cells : (text : List ℕ) (start : ℤ) (more : ℕ) (cell a b : ℤ) → of_cells a b ≡ shown_stretch text start more cell → ⊥
unfolding shown_stretch
no_cells text start more cell a b = choose_keeps (λ (x : Shown). of_cells a b ≡ x → ⊥) _ _ _ (λ _. no_bytes a b _) (λ _. no_outside a b)

pub cells_same : (a b a' b' : ℤ) → of_cells a b ≡ of_cells a' b' → (a ≡ a') × (b ≡ b')
cells_same a b a' b' e = (cc, cc)

same_bytes : (s s' : List ℕ) → of_bytes s ≡ of_bytes s' → s ≡ s'
same_bytes s s' h = cc

module _ (text : List ℕ) (start : ℤ) (more : ℕ) (cell : ℤ) where
  -- these bytes stand in the text from the start on, and the cell says their count
  pub record Shows (s : List ℕ) : Type 0 where
    pub starts : start ≡ pos (nat_abs start)
    pub says : cell ≡ pos (more + length s)
    pub fits : nat_abs start + length s ≤ length text
    pub bytes : stretch_bytes text start (length s) ≡ s

  -- they are what the table shows
  pub shows : (s : List ℕ) → Shows s → shown_stretch text start more cell ≡ of_bytes s
  unfolding shown_stretch is_within choose
  shows s h =
      let size : nat_abs cell - more ≡ length s = ap (λ (a : ℤ). nat_abs a - more) h.says ∙ omega arith in
      let low : not (lt_z start (pos 0)) ≡ true = rw h.starts (no_less (nat_abs start) 0 (omega arith)) in
      let high : not (lt_z cell (pos more)) ≡ true = rw h.says (no_less (more + length s) more (omega arith)) in
      let there : stretch text (nat_abs start) (length s) ≡ s = sym (rw h.starts (stretch_pos text (nat_abs start) (length s))) ∙ h.bytes in
      rw (high, low, size, le-leb (nat_abs start + length s) (length text) h.fits, there)

  -- and the other way round: what does not lie outside the text stands there
  pub inside_shows : Inside (shown_stretch text start more cell) → Shows (stretch text (nat_abs start) (nat_abs cell - more))
  unfolding shown_stretch is_within choose
  inside_shows h =
      let size : ℕ = nat_abs cell - more in
      let t = both (not (lt_z cell (pos more))) (is_within text start size) (within _ _ h) in
      let u = both (not (lt_z start (pos 0))) _ t.1 in
      let a = at_least cell more t.0 in
      let b = at_least start 0 u.0 in
      let low = a.low in
      let fits : nat_abs start + size ≤ length text = leb-true _ _ u.1 in
      let long : length (stretch text (nat_abs start) size) ≡ size = ap length (sym (stretch_pos text (nat_abs start) size)) ∙ stretch_size text (nat_abs start) size fits in
      let sum : nat_abs cell ≡ more + length (stretch text (nat_abs start) size) = rw long (omega arith) in
      record {
        starts = b.is;
        says = a.is ∙ ap pos sum;
        fits = rw long fits;
        bytes = rw long (rw b.is (stretch_pos text (nat_abs start) size));
      }
    where
      within : (t : Bool) (s : List ℕ) → Inside (choose t (of_bytes s) outside) → t ≡ true
      within true s h = refl
      within false s h = absurd h

  -- the bytes that are shown
  pub shown_shows : (s : List ℕ) → shown_stretch text start more cell ≡ of_bytes s → Shows s
  shown_shows s e =
      let q = inside_shows (subst Inside (sym e) tt) in
      subst Shows (same_bytes _ s (sym (shows _ q) ∙ e)) q

  -- a text or an identification that is there and not empty
  pub text_shows : (s : List ℕ) → Solid s → cell ≡ pos (more + length s) → stretch_bytes text start (length s) ≡ s → Shows s
  text_shows s h e b =
      let r = stretch_lies text start (length s) (ap length b) (solid_size s h) in
      record { starts = (at_least start 0 r.0).is; says = e; fits = r.1; bytes = b }

-- an object's identification
pub shows_identification : (text : List ℕ) (cs : List ℤ) (row : ℕ) (s : List ℕ) → Shows text (get_or cs (row + 1) (pos 0)) 0 (get_or cs (row + 2) (pos 0)) s → identification_bytes text cs row ≡ s
unfolding identification_bytes
shows_identification text cs row s h =
    let size : cell_at cs (row + 2) ≡ length s = ap nat_abs h.says ∙ omega arith in
    ap (stretch_bytes text (get_or cs (row + 1) (pos 0))) size ∙ h.bytes

pub identification_shows : (text : List ℕ) (cs : List ℤ) (row : ℕ) → Solid (identification_bytes text cs row) → get_or cs (row + 2) (pos 0) ≡ pos (length (identification_bytes text cs row))
    → Shows text (get_or cs (row + 1) (pos 0)) 0 (get_or cs (row + 2) (pos 0)) (identification_bytes text cs row)
unfolding identification_bytes
identification_shows text cs row h e =
    text_shows text (get_or cs (row + 1) (pos 0)) 0 (get_or cs (row + 2) (pos 0)) (identification_bytes text cs row) h (e ∙ ap pos (omega arith))
    (ap (stretch_bytes text (get_or cs (row + 1) (pos 0))) (sym (ap nat_abs e)))

-- ## A table that is fine

-- a pair of no text
cells_inside : (t : Bool) (x : Shown) (a b : ℤ) → t ≡ false → Inside (choose t x (of_cells a b))
unfolding choose
cells_inside t x a b e = rw e tt

word_inside : (text : List ℕ) (o : Bool) (longest : ℕ) (b : ℤ) (f : List ℕ) → Solid f → stretch_bytes text b (length f) ≡ f
    → Inside (choose (has_start (OfAttribute o (Text longest)) (pos (1 + length f))) (shown_stretch text b 1 (pos (1 + length f))) (of_cells (pos (1 + length f)) b))
unfolding choose
word_inside text o longest b f h e = rw (start_word o longest (length f), shows text b 1 (pos (1 + length f)) f (text_shows text b 1 (pos (1 + length f)) f h refl e)) tt

row_inside : {u : ℕ} {text : List ℕ} {c : Content} {before : Bool} {k k' : ℕ} {ps : List Pair} {cs : List ℤ} → RowOk u text c before k ps cs k' → PairsInside (shown_pairs text ps cs)
unfolding shown_pairs has_start choose
row_inside done = tt
row_inside (absent {type = type} r) = (cells_inside _ _ _ _ (start_zero (OfAttribute true type)), row_inside r)
row_inside (plain {o = o} {type = type} {a = a} h g z d v r) = (cells_inside _ _ _ _ (start_plain o type a h), row_inside r)
row_inside {text = text} (word {o = o} {longest = longest} {b = b} f d v s e r) = (word_inside text o longest b f d.solid e, row_inside r)
row_inside (name {o = o} {target = target} f d v e g r) = (cells_inside _ _ _ _ (start_reference o target (pos 1)), row_inside r)
row_inside (without r) = (tt, row_inside r)
row_inside (along w r) = (tt, row_inside r)
row_inside (no_line r) = (tt, row_inside r)
row_inside (line n room p r) = (tt, row_inside r)

module _ (m : Model) (text : List ℕ) (c : Content) where
  rest_inside : {place : Place} {marks before : List ℕ} {at k : ℕ} {rows : List ℕ} → Rest m text c place marks before at k rows → ObjectsInside (shown_objects m text c.cells rows)
  unfolding shown_objects
  rest_inside (finished a b d e) = tt
  rest_inside (topic_out e r) = rest_inside r
  rest_inside (topic_in e d f r) = rest_inside r
  rest_inside (topic_end g e r) = rest_inside r
  rest_inside (table_out e r) = rest_inside r
  rest_inside (table_in e here d f g r) = rest_inside r
  rest_inside (object {t = t} {at = at} o topic r) =
      let here : cell_at c.cells at ≡ t = ap nat_abs o.table in
      let there = shows text (get_or c.cells (at + 1) (pos 0)) 0 (get_or c.cells (at + 2) (pos 0)) _ (identification_shows text c.cells at o.identification.field.solid o.size) in
      (subst Inside (sym there) tt, rw here (row_inside o.row), rest_inside r)
  rest_inside (table_end topic none behind r) = rest_inside r

  -- nothing of it lies outside the text
  pub valid_inside : Valid m text c → ObjectsInside (shown_objects m text c.cells c.rows)
  valid_inside v = rest_inside v
