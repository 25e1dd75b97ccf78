-- No object in the index, and one object more. Assumes nothing.
use Prim.Native.Nat.{ℕ, suc, ◌+◌, ◌*◌, ◌-◌, ◌%◌, ◌<◌}
use mathlib.Core.Path.{◌≡◌, refl, sym, ap, ◌∙◌}
use mathlib.Core.Bool.{Bool, true, false}
use mathlib.Core.List.{List}
use native.Mathlib.Omega.{arith}
use native.Mathlib.Numerals.{add-one}
use lib.Dec.{eqb, ltb}
use lib.ListN.{length, get_or, set, length-set, replicate}
use lib.Seq.{get_or-set_same, get_or-set_other}
use lib.IntN.{ℤ}
use Rattle.std.specs.Prelude.{Some}
use borrow.Author.Tests.{ltb-true, eqb-true, eqb-false}
use Rattle.meaning.specs.Bytes.{choose}
use Rattle.table_index.specs.Objects.{last_of}
use Rattle.table.specs.Rows.{identification_of, RowsListed}
use Rattle.table_index.specs.Index.{head_of, has_head, hash_of, word_of, Chained, usable_of, Indexed, chain_of, insert_of}
use Rattle.table_index.proofs.Last.{last_hit, last_miss}
use Rattle.table_index.proofs.Walk.{head_lt}
use Rattle.meaning.proofs.Lists.{all_zero}

pub nothing_chained : (seed : ℕ) (ids : ℕ → List ℕ) (links k : ℕ) → Chained seed ids links (replicate k 0) 0
unfolding last_of word_of
nothing_chained seed ids links k = record { link = λ o l. let z : ⊥ = omega arith in absurd z; head = λ h l. all_zero k (links + h) }

module _ (seed : ℕ) (ids : ℕ → List ℕ) (links : ℕ) (index : List ℕ) (o p : ℕ) (fits : links < length index) (room : o < links) (ch : Chained seed ids links index o) (at_head : p ≡ links + head_of seed (length index - links) (ids o)) where
  abbrev m : ℕ
  m = length index - links

  abbrev with_link : List ℕ
  with_link = set index o (get_or index p 0)

  abbrev grown : List ℕ
  grown = set with_link p (o + 1 + 4294967296 * hash_of seed (ids o))

  p_in : p < length index
  p_in = omega (arith, head_lt seed (length index - links) (ids o) (omega arith))

  -- what stands elsewhere stays
  other : (k : ℕ) → (k ≡ p → ⊥) → (k ≡ o → ⊥) → get_or grown k 0 ≡ get_or index k 0
  other k a b = get_or-set_other with_link p k _ 0 a ∙ get_or-set_other index o k (get_or index p 0) 0 b

  at_o : get_or grown o 0 ≡ get_or index p 0
  at_o = get_or-set_other with_link p o _ 0 (λ q. omega arith) ∙ get_or-set_same index o (get_or index p 0) 0 (omega arith)

  at_p : get_or grown p 0 ≡ word_of seed ids (Some o)
  unfolding word_of
  at_p = get_or-set_same with_link p _ 0 (rw length-set p_in)

  links_grown : (k : ℕ) → k < o + 1 → get_or grown k 0 ≡ word_of seed ids (last_of (has_head seed m ids (head_of seed m (ids k))) k)
  links_grown k l = go (eqb k o) refl
    where
      go : (x : Bool) → eqb k o ≡ x → get_or grown k 0 ≡ word_of seed ids (last_of (has_head seed m ids (head_of seed m (ids k))) k)
      go true e = let q : k ≡ o = eqb-true k o e in rw q (at_o ∙ ap (λ (j : ℕ). get_or index j 0) at_head ∙ ch.head (head_of seed m (ids o)) (head_lt seed m (ids o) (omega arith)))
      go false e = let q : k ≡ o → ⊥ = eqb-false k o e in other k (λ r. omega arith) q ∙ ch.link k (omega arith)

  heads_grown : (h : ℕ) → h < m → get_or grown (links + h) 0 ≡ word_of seed ids (last_of (has_head seed m ids h) (o + 1))
  heads_grown h l = go (eqb (head_of seed m (ids o)) h) refl ∙ ap (λ (k : ℕ). word_of seed ids (last_of (has_head seed m ids h) k)) (sym (add-one o))
    where
      go : (x : Bool) → eqb (head_of seed m (ids o)) h ≡ x → get_or grown (links + h) 0 ≡ word_of seed ids (last_of (has_head seed m ids h) (suc o))
      go true e = let q : links + h ≡ p = omega (arith, eqb-true (head_of seed m (ids o)) h e) in ap (λ (j : ℕ). get_or grown j 0) q ∙ at_p ∙ ap (word_of seed ids) (sym (last_hit (has_head seed m ids h) o e))
      go false e = let q : head_of seed m (ids o) ≡ h → ⊥ = eqb-false (head_of seed m (ids o)) h e in other (links + h) (λ r. q (omega arith)) (λ r. omega arith) ∙ ch.head h l ∙ ap (word_of seed ids) (sym (last_miss (has_head seed m ids h) o e))

  same_room : length grown - links ≡ m
  same_room = rw (length-set with_link, length-set index)

  pub chained_more : Chained seed ids links grown (o + 1)
  chained_more = record { link = rw same_room links_grown; head = rw same_room heads_grown }

pub usable_lt : (rows index : ℕ) → usable_of rows index ≡ true → (rows < index) × (rows < 4294967295)
usable_lt rows index h = go (ltb rows index) refl (ltb rows 4294967295) refl
  where
    go : (x : Bool) → ltb rows index ≡ x → (y : Bool) → ltb rows 4294967295 ≡ y → (rows < index) × (rows < 4294967295)
    go true a true b = (ltb-true rows index a, ltb-true rows 4294967295 b)
    go true a false b = let z : ◌≡◌ {A = Bool} false true = rw (a, b) at h in let w : ◌≡◌ {A = ℕ} 0 1 = cc in absurd (omega arith)
    go false a y b = let z : ◌≡◌ {A = Bool} false true = rw a at h in let w : ◌≡◌ {A = ℕ} 0 1 = cc in absurd (omega arith)

pub usable_few : (text rows : List ℕ) (cells : List ℤ) (index n : ℕ) → usable_of (length rows) index ≡ true → RowsListed text rows cells n → n < 4294967296
usable_few text rows cells index n u l = omega (arith, usable_lt (length rows) index u, l.in_rows)

-- an object put in front of its chain, in an index that can be used; any other stays as it is
pub insert_used : (index : List ℕ) (rows o h : ℕ) → usable_of rows (length index) ≡ true → insert_of index rows o h ≡ chain_of index (rows + h % (length index - rows)) o h
unfolding insert_of choose
insert_used index rows o h u = rw u

pub insert_unused : (index : List ℕ) (rows o h : ℕ) → usable_of rows (length index) ≡ false → insert_of index rows o h ≡ index
unfolding insert_of choose
insert_unused index rows o h u = rw u

pub length_insert : (index : List ℕ) (rows o h : ℕ) → length (insert_of index rows o h) ≡ length index
length_insert index rows o h = go (usable_of rows (length index)) refl
  where
    go : (x : Bool) → usable_of rows (length index) ≡ x → length (insert_of index rows o h) ≡ length index
    go true u = ap length (insert_used index rows o h u) ∙ simp length-set
    go false u = ap length (insert_unused index rows o h u)

pub indexed_more : (seed : ℕ) (text rows : List ℕ) (cells : List ℤ) (index : List ℕ) (o : ℕ) → o < length rows → Indexed seed text rows cells index o
    → Indexed seed text rows cells (insert_of index (length rows) o (hash_of seed (identification_of text rows cells o))) (o + 1)
indexed_more seed text rows cells index o l k t =
    let h : ℕ = hash_of seed (identification_of text rows cells o) in
    let u : usable_of (length rows) (length index) ≡ true = ap (usable_of (length rows)) (sym (length_insert index (length rows) o h)) ∙ t in
    rw (insert_used index (length rows) o h u) (chained_more seed (identification_of text rows cells) (length rows) index o _ (usable_lt _ _ u).0 l (k u) refl)
