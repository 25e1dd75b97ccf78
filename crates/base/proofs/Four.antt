-- Four numbers in a room. Assumes nothing.
use Prim.Native.Nat.{ℕ, zero, suc, ◌-◌}
use native.Mathlib.Omega.{arith}
use mathlib.Core.Path.{◌≡◌, refl, sym, ap}
use mathlib.Core.List.{List, [], ◌∷◌}
use lib.ListN.{set, take, replicate, length-replicate}
use lib.Seq.{take_all}
use Rattle.meaning.specs.Answer.{filled}

pub four : (n a b c d : ℕ) → set (set (set (set (replicate n 0) 0 a) 1 b) 2 c) 3 d ≡ take n (filled 0 n (a ∷ b ∷ c ∷ d ∷ []))
four zero a b c d = refl
four (suc zero) a b c d = refl
four (suc (suc zero)) a b c d = refl
four (suc (suc (suc zero))) a b c d = refl
four (suc (suc (suc (suc n)))) a b c d =
    let e : suc (suc (suc (suc n))) - 4 ≡ n = omega arith in
    rw e (ap (λ (s : List ℕ). a ∷ b ∷ c ∷ d ∷ s) (sym (take_all n (replicate n 0) (omega (arith, length-replicate {A = ℕ} n 0)))))
