-- `write_objects::objects::put_point` meets its contract. Assumes nothing.
use mathlib.Core.Path.{refl}
use lib.IntN.{pos}
use lib.ListN.{drop, get_or}
use Rattle.meaning.specs.Writing.{point_fields, line_bytes}
use Rattle.model_records.specs.Components.{components_of}
use Rattle.write_objects.proofs.Drawn.{point_line, point_some}
use Rattle.write_objects.proofs.objects.put_point.Goals as goal

pub returns : goal.returns
returns c =
    let a = c.args in
    let p = c.put_point_bytes-line in
    let q = c.end_line in
    let ks = components_of a.components in
    let some = point_some (get_or (drop a.at a.points.now) 0 (pos 0)) (point_fields ks (drop 1 (drop a.at a.points.now))) in
    q.ensures.ends (line_bytes (point_line ks a.at a.points.now)) a.put a.out.now refl some p.ensures
