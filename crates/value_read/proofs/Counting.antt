-- Digits read one by one: the value of the rest behind the digits read so far. Assumes nothing.
use Prim.Native.Nat.{ℕ, ◌+◌, ◌*◌, ◌-◌, ◌<◌}
use mathlib.Core.Path.{◌≡◌, ◌∙◌}
use mathlib.Core.Bool.{true, false}
use mathlib.Core.List.{List}
use lib.ListN.{length, drop, get_or}
use lib.Seq.{drop-length}
use Rattle.meaning.specs.Bytes.{digit, every}
use Rattle.meaning.specs.Value.{digits_after}
use Rattle.base.proofs.Scan.{every_at}
use Rattle.meaning.proofs.Lists.{drop_next}

module _ (s : List ℕ) (i : ℕ) where
  pub digit_more : (v m : ℕ) → i < length s → digits_after v (drop i s) ≡ m → digits_after (v * 10 + (get_or s i 0 - 0x30)) (drop (i + 1) s) ≡ m
  unfolding digits_after
  digit_more v m h e = rw (drop_next s i 0 h) at e

  pub digit_end : (v m : ℕ) → i ≡ length s → digits_after v (drop i s) ≡ m → v ≡ m
  unfolding digits_after
  digit_end v m h e = rw (h, drop-length s) at e

  pub digit_hit : i < length s → digit (get_or s i 0) ≡ true → every digit (drop i s) ≡ every digit (drop (i + 1) s)
  digit_hit h d = every_at digit s i h ∙ rw d

  pub digit_miss : i < length s → digit (get_or s i 0) ≡ false → every digit (drop i s) ≡ false
  digit_miss h d = every_at digit s i h ∙ rw d
