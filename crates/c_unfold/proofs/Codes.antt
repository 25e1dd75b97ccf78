-- The two calls for C, by what the model's check finds. Assumes nothing.
use Prim.Native.Nat.{ℕ, ◌≤◌, ◌<◌}
use native.Mathlib.Omega.{arith}
use mathlib.Core.Path.{◌≡◌, refl}
use mathlib.Core.List.{List}
use lib.ListN.{length}
use borrow.Author.Tests.{lt-ltb, le-ltb}
use Rattle.meaning.specs.Bytes.{refuse}
use Rattle.meaning.specs.Unfold.{unfold_file}
use Rattle.meaning.specs.Model.{Model}
use Rattle.meaning.specs.Check.{Checked, good, bad, check_model}
use Rattle.meaning.specs.Answer.{text_refused, text_unfolded, text_checked, unfold_text, check_answer, check, code_for_c}
use Rattle.meaning.proofs.Model.Bounds.{BadBelow, bad_below}
use Rattle.meaning.proofs.Model.GoodModels.{checked_good}

-- the answer of a check is small
pub check_small : (b : List ℕ) → code_for_c (check b) ≤ 16777218
unfolding check check_answer code_for_c
check_small b = go (check_model b) refl (bad_below b)
  where
    go : (c : Checked) → check_model b ≡ c → BadBelow 65536 c → code_for_c (check_answer c) ≤ 16777218
    go (good m) e h = omega (arith, (checked_good b m e).topic_limit)
    go (bad at) e h = omega arith

module _ (b file : List ℕ) (room : ℕ) where
  pub too_long : 16777216 < length file → unfold_text b file room ≡ text_refused room 1 0
  unfolding unfold_text refuse
  too_long h = rw (lt-ltb 16777216 (length file) h)

  pub under_bad : length file ≤ 16777216 → (at : ℕ) → check_model b ≡ bad at → unfold_text b file room ≡ text_refused room 2 at
  unfolding unfold_text refuse text_checked
  under_bad h at e = rw (le-ltb 16777216 (length file) h, e)

  pub under_good : length file ≤ 16777216 → (m : Model) → check_model b ≡ good m → unfold_text b file room ≡ text_unfolded room (unfold_file m.mark file)
  unfolding unfold_text refuse text_checked
  under_good h m e = rw (le-ltb 16777216 (length file) h, e)
