-- Records by their byte: what stands at a byte of a model, and that the rest begins behind it.
-- Assumes nothing.
use Prim.Native.Nat.{ℕ, zero, suc, ◌+◌, ◌≤◌, ◌<◌}
use native.Mathlib.Omega.{arith}
use mathlib.Core.Path.{◌≡◌, ◌∙◌}
use mathlib.Core.List.{List, [], ◌∷◌}
use lib.ListN.{length, take, drop, length-drop, drop_of_length-le}
use lib.Seq.{get_or-drop, drop-drop}
use borrow.Author.Tests.{lt-ltb, le-ltb}
use Rattle.meaning.specs.Bytes.{refuse, u16_at}
use Rattle.meaning.specs.Model.{Records, finish, overrun, entry, records_from}

-- the records from a byte on
abbrev pub records_at : List ℕ → ℕ → Records
records_at b at = records_from 0 at (drop at b)

-- the payload of the record at a byte, and the byte of the next record
abbrev pub payload_at : List ℕ → ℕ → List ℕ
payload_at b at = take (u16_at b at) (drop (at + 4) b)

abbrev pub next_at : List ℕ → ℕ → ℕ
next_at b at = at + 4 + u16_at b at

-- passing over n bytes is dropping them
pub skipped : (n at : ℕ) (s : List ℕ) → n ≤ length s → records_from n at s ≡ records_from 0 (at + n) (drop n s)
unfolding records_from
skipped zero at s h = let e : at + 0 ≡ at = omega arith in rw e
skipped (suc n) at [] h = absurd (omega arith)
skipped (suc n) at (b ∷ s) h = let e : at + suc n ≡ at + 1 + n = omega arith in rw e (skipped n (at + 1) s (omega arith))

-- the first record of a list that begins at the byte `at`
pub first_entry : (at : ℕ) (s : List ℕ) → u16_at s 0 + 4 ≤ length s
    → records_from 0 at s ≡ entry at (u16_at s 2) (take (u16_at s 0) (drop 4 s)) (records_from 0 (at + 4 + u16_at s 0) (drop (4 + u16_at s 0) s))
unfolding records_from refuse
first_entry at [] h = absurd (omega arith)
first_entry at (b ∷ s) h =
    let size : ℕ = u16_at (b ∷ s) 0 in
    let r : records_from (size + 3) (at + 1) s ≡ records_from 0 (at + 1 + (size + 3)) (drop (size + 3) s) = skipped (size + 3) (at + 1) s (omega arith) in
    let e : at + 1 + (size + 3) ≡ at + 4 + size = omega arith in
    let f : 4 + size ≡ suc (size + 3) = omega arith in
    rw (le-ltb (length s) (size + 3) (omega arith), r, e, f)

pub first_overrun : (at : ℕ) (s : List ℕ) → 0 < length s → length s < u16_at s 0 + 4 → records_from 0 at s ≡ overrun at
unfolding records_from refuse
first_overrun at [] h l = absurd (omega arith)
first_overrun at (b ∷ s) h l = rw (lt-ltb (length s) (u16_at (b ∷ s) 0 + 3) (omega arith))

module _ (b : List ℕ) (at : ℕ) where
  sized : u16_at (drop at b) 0 ≡ u16_at b at
  sized = let e : at + 0 ≡ at = omega arith in let f : at + (0 + 1) ≡ at + 1 = omega arith in rw (get_or-drop at b 0 0, get_or-drop at b (0 + 1) 0, e, f)

  kinded : u16_at (drop at b) 2 ≡ u16_at b (at + 2)
  kinded = let f : at + (2 + 1) ≡ at + 2 + 1 = omega arith in rw (get_or-drop at b 2 0, get_or-drop at b (2 + 1) 0, f)

  -- a record that fits: it, and the records behind it
  pub entry_at : next_at b at ≤ length b → records_at b at ≡ entry at (u16_at b (at + 2)) (payload_at b at) (records_at b (next_at b at))
  entry_at h =
      let l : u16_at (drop at b) 0 + 4 ≤ length (drop at b) = rw (sized, length-drop at b) (omega arith) in
      let e : at + (4 + u16_at b at) ≡ at + 4 + u16_at b at = omega arith in
      first_entry at (drop at b) l ∙ rw (sized, kinded, drop-drop 4 at b, drop-drop (4 + u16_at b at) at b, e)

  -- one that does not
  pub overrun_at : at < length b → length b < next_at b at → records_at b at ≡ overrun at
  overrun_at h l =
      let p : 0 < length (drop at b) = rw (length-drop at b) (omega arith) in
      let q : length (drop at b) < u16_at (drop at b) 0 + 4 = rw (sized, length-drop at b) (omega arith) in
      first_overrun at (drop at b) p q

  -- no record is left
  pub finish_at : length b ≤ at → records_at b at ≡ finish at
  unfolding records_from
  finish_at h = rw (drop_of_length-le b h)
