-- The index: chains of objects whose identifications have the same head.
use Rattle.std.specs.Prelude.{ℕ, ◌+◌, ◌*◌, ◌-◌, ◌/◌, ◌%◌, ◌<◌, ◌≡◌, List, [], ◌∷◌, Bool, true, ◌&&◌, Option, None}
use Rattle.std.specs.Prelude.{Some, eqb, ltb, ℤ, length, get_or, set}
use Rattle.meaning.specs.Bytes.{choose}
use Rattle.table_index.specs.Objects.{last_of}
use Rattle.table.specs.Rows.{identification_of}

-- a polynomial over the bytes, modulo the prime 2 ^ 31 - 1: what lies above 31 bits is added to what lies below
unfoldable pub mix_of : ℕ → ℕ → ℕ → ℕ
mix_of k h b = (h * k + b) / 2147483648 + (h * k + b) % 2147483648

unfoldable pub hash_from : ℕ → ℕ → List ℕ → ℕ
unfolding mix_of
hash_from k h [] = h
hash_from k h (b ∷ s) = hash_from k (mix_of k h b) s

unfoldable pub hash_of : ℕ → List ℕ → ℕ
unfolding hash_from
hash_of seed i = hash_from ((seed % 1073741824 + 663608941) % 1073741824 + 1) 1 i

-- the head that an identification belongs to, of so many
abbrev pub head_of : ℕ → ℕ → List ℕ → ℕ
head_of seed heads i = hash_of seed i % heads

abbrev pub has_head : ℕ → ℕ → (ℕ → List ℕ) → ℕ → ℕ → Bool
has_head seed heads ids h o = eqb (head_of seed heads (ids o)) h

-- a word that leads to an object: 1 plus its number, and above 32 bits its hash; 0 leads to none
unfoldable pub word_of : ℕ → (ℕ → List ℕ) → Option ℕ → ℕ
unfolding hash_of
word_of seed ids None = 0
word_of seed ids (Some o) = o + 1 + 4294967296 * hash_of seed (ids o)

-- the first `links` words of the index are links, the others heads: a link leads to the last earlier object with the
-- same head, a head to the last object that has it
pub record Chained (seed : ℕ) (ids : ℕ → List ℕ) (links : ℕ) (index : List ℕ) (n : ℕ) : Type 0 where
  pub link : (o : ℕ) → o < n
      → get_or index o 0
      ≡ word_of seed ids
      (last_of (has_head seed (length index - links) ids (head_of seed (length index - links) (ids o))) o)
  pub head : (h : ℕ) → h < length index - links
      → get_or index (links + h) 0 ≡ word_of seed ids (last_of (has_head seed (length index - links) ids h) n)

-- room for a link for each row, and a head
abbrev pub usable_of : ℕ → ℕ → Bool
usable_of rows index = ltb rows index && ltb rows 4294967295

-- the index has the first n objects, where it has room enough to be used
abbrev pub Indexed : ℕ → (text rows : List ℕ) → List ℤ → (index : List ℕ) → ℕ → Type 0
Indexed seed text rows cells index n = usable_of (length rows) (length index) ≡ true
    → Chained seed (identification_of text rows cells) (length rows) index n

-- the index with object o, whose identification has the hash h, in front of its chain
abbrev pub chain_of : List ℕ → (p o h : ℕ) → List ℕ
chain_of index p o h = set (set index o (get_or index p 0)) p (o + 1 + 4294967296 * h)

unfoldable pub insert_of : List ℕ → (rows o h : ℕ) → List ℕ
insert_of index rows o h =
    choose (usable_of rows (length index)) (chain_of index (rows + h % (length index - rows)) o h) index
