-- Payloads as parts of the model, and names as parts of payloads. Assumes nothing.
use Prim.Native.Nat.{ℕ, ◌+◌, ◌*◌, ◌-◌, ◌/◌, ◌%◌, ◌≤◌, ◌<◌}
use native.Mathlib.Omega.{arith}
use mathlib.Core.Path.{◌≡◌, sym}
use mathlib.Core.List.{List}
use lib.ListN.{length, take, drop, length-take, drop_of_length-le}
use lib.Seq.{drop-drop}
use Rattle.meaning.specs.Bytes.{u16_at}
use Rattle.model_check.specs.Names.{name_of}
use Rattle.model_records.specs.Records.{payload_at, next_at}
use Rattle.meaning.proofs.Lists.{drop-take}

-- the part of the model from behind a record's four bytes to the next record is its payload
pub part_payload : (b : List ℕ) (at end : ℕ) → end ≡ next_at b at → take (end - (at + 4)) (drop (at + 4) b) ≡ payload_at b at
part_payload b at end e = let k : end - (at + 4) ≡ u16_at b at = omega arith in rw k

-- the name that is kept for a payload of k bytes from s on, of which the first f bytes are no name
pub word_name : (b : List ℕ) (s k f : ℕ) → f < k → k < 65536 → name_of b (65536 * (s + f) + (k - f)) ≡ drop f (take k (drop s b))
unfolding name_of
word_name b s k f h l =
    let q : (65536 * (s + f) + (k - f)) / 65536 ≡ s + f = omega arith in
    let r : (65536 * (s + f) + (k - f)) % 65536 ≡ k - f = omega arith in
    rw (q, r, drop-take f k (drop s b), drop-drop f s b)

pub word_none : (b : List ℕ) (s k f : ℕ) → k ≤ f → name_of b 0 ≡ drop f (take k (drop s b))
unfolding name_of
word_none b s k f h =
    let q : length (take k (drop s b)) ≤ f = rw (length-take k (drop s b)) (omega arith) in
    sym (drop_of_length-le (take k (drop s b)) q)
