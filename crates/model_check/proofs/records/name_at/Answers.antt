-- `model_check::records::name_at` meets its contract. Assumes nothing.
use Prim.Native.Nat.{◌+◌}
use native.Mathlib.Omega.{arith}
use Rattle.model_check.proofs.Payloads.{part_payload, word_name, word_none}
use Rattle.model_check.proofs.records.name_at.Goals as goal

pub returns-then-size-from : goal.returns-then-size-from
returns-then-size-from c =
    let a = c.args in
    let q = part_payload a.model.now a.at _ c.next_at-end.ensures in
    rw (← c.kind_at-kind.ensures, ← q, ← c.name_start-from.ensures) (word_none a.model.now (a.at + 4) _ _ c.if-size-from.true)

pub returns : goal.returns
returns c =
    let a = c.args in
    let q = part_payload a.model.now a.at _ c.next_at-end.ensures in
    rw (← c.kind_at-kind.ensures, ← q, ← c.name_start-from.ensures) (word_name a.model.now (a.at + 4) _ _ c.if-size-from.false (omega arith))
