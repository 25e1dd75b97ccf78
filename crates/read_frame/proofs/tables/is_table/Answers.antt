-- `read_frame::is_table` meets its contract. Assumes nothing.
use Rattle.model_records.proofs.Types.{payload_part}
use lib.ListN.{take, drop}
use Prim.Native.Nat.{ℕ, ◌+◌, ◌-◌}
use mathlib.Core.Path.{ap, ◌∙◌}
use native.Mathlib.Omega.{arith}
use Rattle.read_frame.proofs.tables.is_table.Goals as goal

pub returns : goal.returns
returns c =
    let a = c.args in
    let b = a.model.now in
    let n = ap (λ (x : ℕ). take (x - (a.at + 5)) (drop (a.at + 5) b)) c.next_at-next.ensures ∙ payload_part b a.at 1 (a.at + 5) (omega arith) in
    rw n at c.same_name.ensures
