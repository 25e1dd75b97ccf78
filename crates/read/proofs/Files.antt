-- Reading, by the file's size and what the model's check finds. Assumes nothing.
use Prim.Native.Nat.{ℕ, ◌≤◌, ◌<◌}
use mathlib.Core.Path.{◌≡◌}
use mathlib.Core.List.{List}
use lib.ListN.{length}
use borrow.Author.Tests.{lt-ltb, le-ltb}
use Rattle.meaning.specs.Bytes.{refuse}
use Rattle.meaning.specs.Unfold.{unfold_file}
use Rattle.meaning.specs.Model.{Model}
use Rattle.meaning.specs.Check.{good, bad, check_model}
use Rattle.meaning.specs.Reading.{Rooms}
use Rattle.meaning.specs.Table.{refused_with, read_unfolded, read_checked, read}

module _ (b file : List ℕ) (rooms : Rooms) where
  pub too_long : 16777216 < length file → read b file rooms ≡ refused_with rooms 1 0 0
  unfolding read refuse
  too_long h = rw (lt-ltb 16777216 (length file) h)

  pub under_bad : length file ≤ 16777216 → (at : ℕ) → check_model b ≡ bad at → read b file rooms ≡ refused_with rooms 2 at 0
  unfolding read refuse read_checked
  under_bad h at e = rw (le-ltb 16777216 (length file) h, e)

  pub under_good : length file ≤ 16777216 → (m : Model) → check_model b ≡ good m → read_unfolded m rooms (unfold_file m.mark file) ≡ read b file rooms
  unfolding read refuse read_checked
  under_good h m e = rw (le-ltb 16777216 (length file) h, e)
