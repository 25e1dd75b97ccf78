-- `read_frame::is_topic` meets its contract. Assumes nothing.
use Rattle.model_records.proofs.Types.{payload_part}
use lib.ListN.{take, drop}
use Prim.Native.Nat.{ℕ, ◌+◌, ◌-◌}
use mathlib.Core.Path.{ap, ◌∙◌}
use native.Mathlib.Omega.{arith}
use Rattle.read_frame.proofs.topics.is_topic.Goals as goal

pub returns : goal.returns
returns c =
    let a = c.args in
    let b = a.model.now in
    let n = ap (λ (x : ℕ). take (x - (a.at + 4)) (drop (a.at + 4) b)) c.next_at-next.ensures ∙ payload_part b a.at 0 (a.at + 4) (omega arith) in
    rw n at c.same_name.ensures
