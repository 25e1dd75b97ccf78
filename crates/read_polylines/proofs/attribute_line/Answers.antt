-- `read_polylines::attribute_line` meets its contract. Assumes nothing.
use Prim.Native.Nat.{◌+◌}
use mathlib.Core.Path.{sym, ◌∙◌}
use Rattle.meaning.specs.Field.{fields_of}
use Rattle.base.proofs.Fill.{to_end}
use Rattle.model_records.proofs.AtRecord.{attribute_here}
use Rattle.read_polylines.proofs.Ways.{code_meant, due_line}
use Rattle.read_polylines.proofs.attribute_line.Goals as goal

pub line_at-attribute-requires : goal.line_at-attribute-requires
line_at-attribute-requires c =
    let l = c.requires.line in
    record { attribute = (attribute_here _ _ _ _ _ l.attributes.standing l.kind).good; line = l.line }

pub returns : goal.returns
returns c =
    let g = c.args in
    let l = g.line.now in
    let h = c.head_of-head in
    let a = c.line_at-attribute in
    let n = c.name_code-code in
    let m = rw (to_end l h.result.behind) at c.move_line.ensures in
    λ rooms text start er.
    due_line g.model.now a.result g.polyline g.state c.requires.line a.ensures rooms text l (fields_of start l) _ _ _ _ _
    (m rooms text (fields_of start l) (start + h.result.behind) er (h.ensures.others start) (code_meant l h.result h.ensures start ∙ sym n.ensures))
