-- `write::writing::put_used` meets its contract. Assumes nothing.
use Prim.Native.Nat.{ℕ, ◌+◌}
use mathlib.Core.Path.{refl, ap₂}
use Rattle.model_records.specs.Records.{model_at}
use Rattle.meaning.specs.Writing.{lent_of}
use Rattle.write.proofs.Calls.{used_file, limited_as}
use Rattle.write.proofs.writing.put_used.Goals as goal

pub returns : goal.returns
returns c =
    let a = c.args in
    let p = c.requires.placed in
    let m = model_at a.model.now.bytes.now in
    let b = a.table.now in
    let t = lent_of b.text.now b.marks.now b.rows.now b.cells.now b.points.now a.used.objects a.used.cells a.used.points in
    let count = ap₂ (λ (x y : ℕ). x + y) p.topics p.tables in
    let k = c.cut.ensures in
    limited_as _ _ _ _ c.put_limited.result
    (used_file m t a.model.now.shape.mark a.width a.width (a.model.now.shape.topics + a.model.now.shape.tables) p.mark refl count)
    (rw (k.text, k.marks, k.rows, k.cells, k.points) at c.put_limited.ensures)
