-- The second number of writing's answer is small. Assumes nothing.
use Prim.Native.Nat.{ℕ, ◌≤◌}
use native.Mathlib.Omega.{arith}
use mathlib.Core.List.{List}
use lib.Dec.{ltb}
use lib.ListN.{length}
use borrow.Author.Tests.{ltb-false}
use Rattle.meaning.specs.Check.{Checked, good, bad, check_model}
use Rattle.meaning.specs.Answer.{accepted}
use Rattle.meaning.specs.Writing.{Lent}
use Rattle.meaning.specs.Width.{Written, writing_refused, write_bytes, write_checked, write}
use Rattle.meaning.proofs.Model.Bounds.{BadBelow, bad_below}
use Rattle.meaning.proofs.Tests.Refuse.{refuse_keeps, neither}
use Rattle.meaning.specs.Answer.{first_of}

-- the number of bytes, or the record's byte, is small
unfoldable Short : Written → Type 0
Short w = first_of w.answer ≤ 16777217

refused_short : (room number at : ℕ) → at ≤ 16777217 → Short (writing_refused room number at)
unfolding Short
refused_short room number at h = h

written_short : (n : ℕ) (output : List ℕ) → n ≤ 16777217 → Short (record { answer = accepted n 0 0; output = output })
unfolding Short
written_short n output h = h

bytes_short : (room : ℕ) (file : List ℕ) → Short (write_bytes room file)
unfolding write_bytes
bytes_short room file =
    refuse_keeps Short _ _ _ (refused_short room 21 0 (omega arith)) (λ e.
    written_short (length file) _ (omega (arith, ltb-false 16777216 (length file) (neither (ltb room (length file)) (ltb 16777216 (length file)) e).1)))

checked_short : (t : Lent) (width room : ℕ) (c : Checked) → BadBelow 65536 c → Short (write_checked t width room c)
unfolding write_checked
checked_short t width room (bad at) b = refused_short room 2 at (omega arith)
checked_short t width room (good m) b =
    refuse_keeps Short _ _ _ (refused_short room 20 0 (omega arith)) (λ _.
    refuse_keeps Short _ _ _ (refused_short room 19 0 (omega arith)) (λ _.
    bytes_short room _))

pub write_small : (b : List ℕ) (t : Lent) (width room : ℕ) → first_of (write b t width room).answer ≤ 16777217
unfolding write Short
write_small b t width room = checked_short t width room (check_model b) (bad_below b)
