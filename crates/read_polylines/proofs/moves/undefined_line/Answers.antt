-- `read_polylines::undefined_line` meets its contract. Assumes nothing.
use mathlib.Core.Path.{◌∙◌}
use Rattle.read_polylines.specs.Ways.{way_of}
use Rattle.read_polylines.proofs.Ways.{mandatory, undefined_extra, undefined_next, behind_same, refused_here}
use Rattle.read_polylines.proofs.moves.undefined_line.Goals as goal

pub returns-then-not-optional : goal.returns-then-not-optional
returns-then-not-optional c =
    let g = c.args in
    λ a rooms text fs start cells points o d. refused_here _ _ _ _ cells points _ (λ x. mandatory _ rooms text (way_of g.model.now a g.polyline) fs x (o ∙ c.if-not-optional.true))

pub returns-then-not-is_bare : goal.returns-then-not-is_bare
returns-then-not-is_bare c =
    let i = c.is_bare.ensures in
    let g = c.args in
    λ a rooms text fs start cells points o d. refused_here _ _ _ _ cells points _ (λ x. undefined_extra _ rooms text (way_of g.model.now a g.polyline) fs x _ start d _ (i start) (o ∙ c.if-not-optional.false) (c.if-not-is_bare.true))

pub returns : goal.returns
returns c =
    let i = c.is_bare.ensures in
    let g = c.args in
    λ a rooms text fs start cells points o d. behind_same g.model.now a g.polyline g.state _ c.behind_line.ensures _ cells points (λ x. undefined_next _ rooms text (way_of g.model.now a g.polyline) fs x _ start d _ (i start) (o ∙ c.if-not-optional.false) (c.if-not-is_bare.false))
