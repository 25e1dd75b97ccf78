-- `write_objects::objects::put_line` meets its contract. Assumes nothing.
use Prim.Native.Nat.{ℕ, ◌+◌, ◌*◌, ◌-◌, ◌/◌, min}
use mathlib.Core.Path.{◌≡◌, ap, ap₂, ◌∙◌}
use mathlib.Core.List.{[], ◌∷◌}
use lib.IntN.{pos, nat_abs}
use lib.ListN.{length, drop}
use lib.Seq.{get_or-drop}
use Rattle.meaning.specs.Field.{ELIN}
use Rattle.meaning.specs.Reading.{cell_at}
use Rattle.meaning.specs.Writing.{point_lines, lines_bytes}
use Rattle.meaning.specs.Width.{cut_lines}
use Rattle.model_records.specs.Components.{components_of}
use Rattle.write_lines.proofs.Puts.{renamed, then}
use Rattle.write_objects.proofs.Joined.{cut_lines_append}
use Rattle.write_objects.proofs.Drawn.{points_meant}
use Rattle.write_objects.proofs.objects.put_line.Goals as goal

pub returns : goal.returns
returns c =
    let a = c.args in
    let k = c.count_points-count in
    let d = c.size_behind-first in
    let p = c.put_points-drawn in
    let r = c.put_elin in
    let ks = components_of a.components in
    let points = a.table.now.points.now in
    let count = min (cell_at a.table.now.cells.now a.cell - 1) (length points / 4) in
    let first = cell_at a.table.now.cells.now (a.cell + 1) in
    let e : d.result ≡ first = d.ensures ∙ ap nat_abs (get_or-drop a.cell a.table.now.cells.now 1 (pos 0)) in
    let q = renamed _ (points_meant a.style.mark a.style.width ks points count (4 * first)) a.put a.out.now _ p.result (ap₂ (λ (x y : ℕ). points_meant a.style.mark a.style.width ks points x (4 * y)) k.ensures e) p.ensures in
    rw (cut_lines_append a.style.mark a.style.width (point_lines ks count (drop (4 * first) points)) ((ELIN ∷ []) ∷ []))
    (then _ (cut_lines a.style.mark a.style.width (lines_bytes ((ELIN ∷ []) ∷ []))) a.put p.result r.result a.out.now _ _ q r.ensures)
