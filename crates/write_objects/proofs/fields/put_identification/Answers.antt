-- `write_objects::fields::put_identification` meets its contract. Assumes nothing.
use mathlib.Core.Path.{ap₂, ◌∙◌}
use Prim.Native.Nat.{ℕ}
use mir.Syntax.{w64}
use mir.ValLaws.{to_z-of_z}
use lib.IntN.{ℤ}
use Rattle.meaning.specs.Writing.{stretch_bytes}
use Rattle.write_lines.proofs.Puts.{renamed}
use Rattle.write_objects.proofs.Typed.{identified}
use Rattle.write_objects.proofs.fields.put_identification.Goals as goal

pub returns : goal.returns
returns c =
    let a = c.args in
    let d = c.cell_behind-start in
    let k = c.size_behind-size in
    let p = c.put_stretch in
    let q = rw (to_z-of_z w64 d.result (record { sfits = d.type_inv })) at p.ensures in
    renamed _ _ a.put a.out.now _ p.result (ap₂ (λ (x : ℤ) (y : ℕ). stretch_bytes a.table.now.text.now x y) d.ensures k.ensures ∙ identified a.table.now.text.now a.table.now.cells.now a.row) q
