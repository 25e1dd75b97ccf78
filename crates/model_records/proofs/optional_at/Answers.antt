-- `model_records::optional_at` meets its contract. Assumes nothing.
use mathlib.Core.Path.{◌≡◌, sym, ap, ◌∙◌}
use native.Mathlib.Omega.{arith}
use Prim.Native.Nat.{ℕ, ◌+◌}
use lib.Dec.{eqb}
use Rattle.meaning.specs.Bytes.{byte_at}
use Rattle.meaning.specs.Model.{flag_of}
use Rattle.model_records.proofs.Types.{payload_byte}
use Rattle.model_records.proofs.optional_at.Goals as goal

pub returns : goal.returns
unfolding flag_of
returns c =
    let a = c.args in
    let e : a.at + 4 + 0 ≡ a.at + 4 = omega arith in
    ap (λ (x : ℕ). eqb x 1) (sym (payload_byte a.model.now a.at 0 (omega arith) ∙ ap (byte_at a.model.now) e))
