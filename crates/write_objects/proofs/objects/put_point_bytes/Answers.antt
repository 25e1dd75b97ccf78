-- `write_objects::objects::put_point_bytes` meets its contract. Assumes nothing.
use mir.Syntax.{w64}
use mir.ValLaws.{to_z-of_z}
use lib.IntN.{pos}
use lib.ListN.{drop, get_or}
use Rattle.meaning.specs.Writing.{point_code, point_fields, spaced}
use Rattle.model_records.specs.Components.{components_of}
use Rattle.write_lines.proofs.Puts.{then}
use Rattle.write_objects.proofs.Drawn.{point_bytes}
use Rattle.write_objects.proofs.objects.put_point_bytes.Goals as goal

pub returns : goal.returns
returns c =
    let a = c.args in
    let d = c.cell_behind-kind in
    let p = c.put_code-code in
    let q = c.put_point_fields in
    let code = point_code (get_or (drop a.at a.points.now) 0 (pos 0)) in
    let fields = point_fields (components_of a.components) (drop 1 (drop a.at a.points.now)) in
    let coded = rw (to_z-of_z w64 d.result (record { sfits = d.type_inv }), d.ensures) at p.ensures in
    rw (point_bytes code fields) (then code (spaced fields) a.put p.result q.result a.out.now _ _ coded q.ensures)
