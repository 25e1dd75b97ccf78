-- `write_objects::objects::put_line_at` meets its contract. Assumes nothing.
use mathlib.Core.Path.{sym, ap, ◌∙◌}
use mathlib.Core.List.{List}
use Prim.Native.Nat.{ℕ}
use Rattle.meaning.specs.Writing.{lines_bytes}
use Rattle.meaning.specs.Width.{cut_lines}
use Rattle.model_records.specs.Attributes.{of_kind}
use Rattle.model_records.specs.Components.{components_of}
use Rattle.write_lines.proofs.Puts.{renamed}
use Rattle.table.specs.Contents.{content}
use Rattle.write_objects.proofs.Drawn.{drawn, not_drawn, line_good}
use Rattle.write_objects.proofs.objects.put_line_at.Goals as goal

pub put_line-requires : goal.put_line-requires
put_line-requires c = line_good _ _ (rw c.in-Line.is at c.attribute_at.ensures.good)

pub returns : goal.returns
returns c =
    let a = c.args in
    let k = c.in-Line in
    let p = c.put_line in
    let type = sym c.attribute_at.ensures.type ∙ ap of_kind k.is in
    rw type (renamed _ _ a.put a.out.now _ p.result (ap (λ (l : List (List (List ℕ))). cut_lines a.style.mark a.style.width (lines_bytes l)) (drawn (content a.table.now) a.cell _ k.field-0 (components_of k.components))) p.ensures)

pub returns-in_default : goal.returns-in_default
returns-in_default c =
    let a = c.args in
    let k = c.attribute_at.result.kind in
    rw (← c.attribute_at.ensures.type) (renamed _ _ a.put a.out.now _ c.put_nothing.result (not_drawn (content a.table.now) a.cell _ a.style.mark a.style.width k c.in_default.not-Line) (c.put_nothing.ensures a.out.now))
