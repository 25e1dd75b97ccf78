-- What a call that maps a Result's error was given, from what it gave. Assumes nothing.
use mathlib.Core.Path.{◌≡◌, refl}
use Rattle.std.proofs.Common.{Result, Ok, Err}
use Rattle.std.specs.Result.{MatchResult, IsErrAnd}

pub mapped_ok : {T E D : Type 0} (Q : E → D → Type 0) (r : Result T E) (m : Result T D) → MatchResult r (λ x. m ≡ Ok x) (λ e. IsErrAnd m (Q e)) → (x : T) → m ≡ Ok x → r ≡ Ok x
mapped_ok Q (Ok y) m cases x is = cc
mapped_ok Q (Err e) (Ok y) cases x is = absurd cases
mapped_ok Q (Err e) (Err d) cases x is = cc

pub mapped_err : {T E D : Type 0} (Q : E → D → Type 0) (r : Result T E) (m : Result T D) → MatchResult r (λ x. m ≡ Ok x) (λ e. IsErrAnd m (Q e)) → (d : D) → m ≡ Err d → (e : E) × (r ≡ Err e) × Q e d
mapped_err Q (Ok y) m cases d is = cc
mapped_err Q (Err e) (Ok y) cases d is = absurd cases
mapped_err Q (Err e) (Err f) cases d is = let same : f ≡ d = cc in (e, refl, rw same at cases)
