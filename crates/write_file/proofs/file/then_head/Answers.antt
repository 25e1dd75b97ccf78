-- `write_file::then_head` meets its contract. Assumes nothing.
use Prim.Native.Nat.{ℕ, ◌+◌, ◌-◌}
use mathlib.Core.Path.{ap, ◌∙◌}
use mathlib.Core.List.{[], ◌∷◌}
use lib.ListN.{take, drop}
use Rattle.meaning.specs.Field.{SCNT, slashes, MTID, MODL}
use Rattle.model_records.specs.Records.{model_at, next_at}
use Rattle.model_records.proofs.Types.{payload_part}
use Rattle.write_file.proofs.Frames.{lines_then}
use native.Mathlib.Omega.{arith}
use Rattle.write_file.proofs.file.then_head.Goals as goal

pub returns : goal.returns
returns c =
    let a = c.args in
    let q = c.requires in
    let b = a.model.now in
    let m = model_at b in
    let x = c.next_at-second.ensures in
    let y = c.next_at-first.ensures ∙ ap (λ (z : ℕ). next_at b z) x in
    let t = ap (λ (z : ℕ). take (z - 7) (drop 7 b)) x ∙ payload_part b 0 3 7 (omega arith) ∙ q.transfer in
    let n = ap (λ (z : ℕ). take (z - (c.next_at-second.result + 4)) (drop (c.next_at-second.result + 4) b)) y ∙ ap (λ (z : ℕ). take (next_at b (next_at b 0) - (z + 4)) (drop (z + 4) b)) x ∙ payload_part b (next_at b 0) 0 (next_at b 0 + 4) (omega arith) ∙ q.name in
    lines_then a.style.mark a.style.width ((SCNT ∷ []) ∷ []) ((slashes ∷ []) ∷ (MTID ∷ m.transfer ∷ []) ∷ (MODL ∷ m.name ∷ []) ∷ []) c.then_alone-begun.ensures
    (lines_then a.style.mark a.style.width ((slashes ∷ []) ∷ []) ((MTID ∷ m.transfer ∷ []) ∷ (MODL ∷ m.name ∷ []) ∷ []) c.then_alone-described.ensures
    (lines_then a.style.mark a.style.width ((MTID ∷ m.transfer ∷ []) ∷ []) ((MODL ∷ m.name ∷ []) ∷ []) (rw t at c.then_named-named.ensures) (rw n at c.then_named.ensures)))
