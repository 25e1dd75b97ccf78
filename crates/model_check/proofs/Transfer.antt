-- Rules of records that are too short for their fixed part. Assumes nothing.
use Prim.Native.Nat.{ℕ, ◌+◌, ◌≤◌, ◌<◌}
use native.Mathlib.Omega.{arith}
use mathlib.Core.Path.{◌≡◌, refl}
use mathlib.Core.Bool.{Bool, true, false, ◌&&◌, and-true, and_assoc}
use mathlib.Core.List.{List, [], ◌∷◌}
use lib.ListN.{length, drop, get_or-eq_default, drop_of_length-le}
use Rattle.meaning.specs.Bytes.{all_of, letter, byte_at}
use Rattle.meaning.specs.Check.{is_name, keeps_transfer, keeps_attribute, Seen}
use Rattle.meaning.specs.Model.{parameters_size, attribute_of}

-- no bytes are no name
pub no_name : (longest : ℕ) (n : List ℕ) → length n ≤ 0 → is_name longest n ≡ false
unfolding is_name letter
no_name longest n h = rw (get_or-eq_default n 0 {n = 0} h)

pub no_name_behind : (longest k : ℕ) (p : List ℕ) → length p ≤ k → is_name longest (drop k p) ≡ false
no_name_behind longest k p h = no_name longest (drop k p) (rw (drop_of_length-le p h) (omega arith))

-- a test among others that fails
pub fails : (t : Bool) (ts : List Bool) → all_of ts ≡ false → all_of (t ∷ ts) ≡ false
unfolding all_of
fails true ts h = h
fails false ts h = refl

pub fails_here : (t : Bool) (ts : List Bool) → t ≡ false → all_of (t ∷ ts) ≡ false
unfolding all_of
fails_here t ts h = rw h

pub short_transfer : (p : List ℕ) → length p < 4 → keeps_transfer p ≡ false
unfolding keeps_transfer
short_transfer p h = fails _ _ (fails _ _ (fails _ _ (fails _ _ (fails _ _ (fails _ _ (fails_here _ _ (no_name_behind 63 3 p (omega arith))))))))

-- the tests of a transfer record, as they are put together
pub transfer_tests : (a b c d e f g : Bool) → (a && b && c && all_of (d ∷ e ∷ f ∷ []) && g) ≡ all_of (a ∷ b ∷ c ∷ d ∷ e ∷ f ∷ g ∷ [])
unfolding all_of
transfer_tests a b c d e f g = simp (and-true, and_assoc)

pub short_attribute : (p : List ℕ) (seen : Seen) → length p ≤ 2 + parameters_size (byte_at p 1) (drop 2 p) → keeps_attribute p seen ≡ false
unfolding keeps_attribute attribute_of
short_attribute p seen h = fails _ _ (fails _ _ (fails_here _ _ (no_name_behind 24 _ p h)))
