-- What the check of a model found, from its answer. Assumes nothing.
use Prim.Native.Nat.{ℕ}
use native.Mathlib.Omega.{arith}
use mathlib.Core.Path.{◌≡◌, refl, sym, ap, ◌∙◌}
use mathlib.Core.List.{List}
use lib.ListN.{length}
use Rattle.meaning.specs.Check.{Checked, good, bad, check_model}
use Rattle.meaning.specs.Answer.{accepted, refusal, check_answer, check}
use Rattle.model_records.specs.Records.{model_at}
use Rattle.model_records.proofs.Checked.{begun}

pub found_good : (b : List ℕ) (topics : ℕ) → accepted topics 0 0 ≡ check b → check_model b ≡ good (model_at b)
unfolding check check_answer
found_good b topics h = go (check_model b) refl
  where
    go : (c : Checked) → check_model b ≡ c → check_model b ≡ good (model_at b)
    go (good m) e = e ∙ ap good (sym (begun m b e).model)
    go (bad at) e = let g : accepted topics 0 0 ≡ refusal 2 at 0 = rw e at h in let z : ◌≡◌ {A = ℕ} 0 1 = cc in absurd (omega arith)

pub found_bad : (b : List ℕ) (at : ℕ) → refusal 2 at 0 ≡ check b → check_model b ≡ bad at
unfolding check check_answer
found_bad b at h = go (check_model b) refl
  where
    go : (c : Checked) → check_model b ≡ c → check_model b ≡ bad at
    go (good m) e = let g : refusal 2 at 0 ≡ accepted (length m.topics) 0 0 = rw e at h in let z : ◌≡◌ {A = ℕ} 0 1 = cc in absurd (omega arith)
    go (bad k) e = let g : refusal 2 at 0 ≡ refusal 2 k 0 = rw e at h in let same : at ≡ k = cc in e ∙ ap bad (sym same)
