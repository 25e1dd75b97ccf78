-- Laws of the hash: a turn of its loop, and that equal identifications have equal hashes. Assumes nothing.
use Prim.Native.Nat.{ℕ, ◌+◌, ◌<◌}
use mathlib.Core.Path.{◌≡◌, ap}
use mathlib.Core.Bool.{true}
use mathlib.Core.List.{List}
use native.Mathlib.Numerals.{add-one}
use lib.ListN.{length, get_or, drop}
use lib.Seq.{drop-cons, drop-length}
use Rattle.meaning.specs.Value.{same_identification}
use Rattle.meaning.proofs.Tests.Same.{same_is}
use Rattle.table_index.specs.Index.{mix_of, hash_from, hash_of}

pub hash_more : (k h : ℕ) (s : List ℕ) (i : ℕ) → i < length s → hash_from k h (drop i s) ≡ hash_from k (mix_of k h (get_or s i 0)) (drop (i + 1) s)
unfolding hash_from
hash_more k h s i l = rw (add-one, drop-cons s i 0 l)

pub hash_ends : (k h : ℕ) (s : List ℕ) (i : ℕ) → i ≡ length s → hash_from k h (drop i s) ≡ h
unfolding hash_from
hash_ends k h s i e = rw (e, drop-length s)

-- all that the index needs of equal identifications
pub hash_same : (seed : ℕ) (i j : List ℕ) → same_identification i j ≡ true → hash_of seed i ≡ hash_of seed j
unfolding same_identification
hash_same seed i j h = ap (hash_of seed) (same_is i j h)
