-- The walk along a chain: what is looked for stands on it, or nowhere. Assumes nothing.
use Prim.Native.Nat.{ℕ, zero, suc, ◌+◌, ◌-◌, ◌/◌, ◌%◌, ◌≤◌, ◌<◌}
use mathlib.Core.Path.{◌≡◌, refl, sym, ap, ◌∙◌}
use mathlib.Core.Bool.{Bool, true, false}
use mathlib.Core.List.{List}
use native.Mathlib.Omega.{arith}
use native.Mathlib.Nat.{mod-lt}
use lib.ListN.{length, get_or}
use Rattle.std.specs.Prelude.{Option, None, Some}
use borrow.Author.Tests.{eq-eqb, eqb-true}
use Rattle.table_index.specs.Objects.{is_named, last_of}
use Rattle.table_index.specs.Index.{hash_of, head_of, has_head, word_of, Chained}
use Rattle.table_index.proofs.Last.{upto, upto_none, upto_some, last_le, last_passes, last_skip, scan_miss}
use Rattle.table_index.proofs.Hashes.{hash_same}

pub head_lt : (seed m : ℕ) (i : List ℕ) → 0 < m → head_of seed m i < m
head_lt seed m i h = mod-lt (hash_of seed i) h

-- what a word says
module _ (seed : ℕ) (ids : ℕ → List ℕ) where
  pub word_at : (k : Option ℕ) → upto k < 4294967296 → word_of seed ids k % 4294967296 ≡ upto k
  unfolding word_of
  word_at None h = refl
  word_at (Some o) h = omega arith

  pub word_hash : (o : ℕ) → suc o < 4294967296 → word_of seed ids (Some o) / 4294967296 ≡ hash_of seed (ids o)
  unfolding word_of
  word_hash o h = omega arith

  pub word_none : word_of seed ids None ≡ 0
  unfolding word_of
  word_none = refl

-- at a word of a walk for `i` among the first n objects
pub record Along (seed m : ℕ) (ids : ℕ → List ℕ) (n : ℕ) (i : List ℕ) (w : ℕ) : Type 0 where
  pub within : w % 4294967296 ≤ n
  pub none : w % 4294967296 ≡ 0 → w ≡ 0
  pub word : (o : ℕ) → w % 4294967296 ≡ suc o → w ≡ word_of seed ids (Some o)
  pub on : (o : ℕ) → w % 4294967296 ≡ suc o → head_of seed m (ids o) ≡ head_of seed m i
  pub rest : last_of (is_named ids i) (w % 4294967296) ≡ last_of (is_named ids i) n

module _ (seed : ℕ) (ids : ℕ → List ℕ) (n : ℕ) (i : List ℕ) (small : n < 4294967296) where
  implied : (m o : ℕ) → is_named ids i o ≡ true → has_head seed m ids (head_of seed m i) o ≡ true
  implied m o h = eq-eqb _ _ (ap (λ (x : ℕ). x % m) (hash_same seed (ids o) i h))

  -- to the last object below k with the identification's head
  pub along_to : (m k w : ℕ) → k ≤ n → last_of (is_named ids i) k ≡ last_of (is_named ids i) n → w ≡ word_of seed ids (last_of (has_head seed m ids (head_of seed m i)) k) → Along seed m ids n i w
  along_to m k w l r e =
      let q = last_le (has_head seed m ids (head_of seed m i)) k in
      let x : Option ℕ = last_of (has_head seed m ids (head_of seed m i)) k in
      let a : w % 4294967296 ≡ upto x = ap (λ (x : ℕ). x % 4294967296) e ∙ word_at seed ids _ (omega arith) in
      record {
        within = omega arith;
        none = λ z. e ∙ ap (word_of seed ids) (upto_none x (sym a ∙ z)) ∙ word_none seed ids;
        word = λ o z. e ∙ ap (word_of seed ids) (upto_some x o (sym a ∙ z));
        on = λ o z. eqb-true _ _ (last_passes (has_head seed m ids (head_of seed m i)) k o (upto_some x o (sym a ∙ z)));
        rest = ap (last_of (is_named ids i)) a ∙ last_skip (is_named ids i) (has_head seed m ids (head_of seed m i)) k (λ o _ h. implied m o h) ∙ r;
      }

  module _ (m w : ℕ) (a : Along seed m ids n i w) where
    -- a word that is not 0 leads to an object
    pub along_object : 0 < w → w % 4294967296 ≡ suc (w % 4294967296 - 1)
    along_object h = go (w % 4294967296) refl
      where
        go : (k : ℕ) → w % 4294967296 ≡ k → w % 4294967296 ≡ suc (w % 4294967296 - 1)
        go zero e = absurd (omega (arith, a.none e))
        go (suc k) e = omega arith

    -- another hash, another identification
    pub along_other : (o h : ℕ) → w % 4294967296 ≡ suc o → h ≡ hash_of seed i → (w / 4294967296 ≡ h → ⊥) → is_named ids i o ≡ false
    along_other o h e q apart = go (is_named ids i o) refl
      where
        go : (x : Bool) → is_named ids i o ≡ x → is_named ids i o ≡ false
        go true t =
            let z : w / 4294967296 ≡ h = ap (λ (x : ℕ). x / 4294967296) (a.word o e) ∙ word_hash seed ids o (omega (arith, a.within)) ∙ hash_same seed (ids o) i t ∙ sym q in
            absurd (apart z)
        go false t = t

  module _ (links : ℕ) (index : List ℕ) (ch : Chained seed ids links index n) where
    pub along_start : (p : ℕ) → links < length index → p ≡ links + head_of seed (length index - links) i → Along seed (length index - links) ids n i (get_or index p 0)
    along_start p l e = along_to (length index - links) n (get_or index p 0) (omega arith) refl (ap (λ (k : ℕ). get_or index k 0) e ∙ ch.head (head_of seed (length index - links) i) (head_lt seed (length index - links) i (omega arith)))

    pub link_le : (o : ℕ) → o < n → get_or index o 0 % 4294967296 ≤ o
    link_le o l =
        let q = last_le (has_head seed (length index - links) ids (head_of seed (length index - links) (ids o))) o in
        omega (arith, ap (λ (x : ℕ). x % 4294967296) (ch.link o l) ∙ word_at seed ids _ (omega arith))

    pub along_next : (w o : ℕ) → w % 4294967296 ≡ suc o → Along seed (length index - links) ids n i w → is_named ids i o ≡ false → Along seed (length index - links) ids n i (get_or index o 0)
    along_next w o e a f =
        let l : o < n = omega (arith, a.within) in
        along_to (length index - links) o (get_or index o 0) (omega arith)
        (scan_miss (is_named ids i) n (w % 4294967296) a.rest o e f)
        (ch.link o l ∙ ap (λ (h : ℕ). word_of seed ids (last_of (has_head seed (length index - links) ids h) o)) (a.on o e))
