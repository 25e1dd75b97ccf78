-- `read_polylines::point_line` meets its contract. Assumes nothing.
use mathlib.Core.Path.{sym, ◌∙◌}
use lib.ListN.{drop}
use Rattle.meaning.specs.Row.{component_values}
use Rattle.model_records.specs.Components.{components_of}
use Rattle.model_records.specs.Records.{model_at}
use Rattle.read_state.specs.Meaning.{line_state_of}
use Rattle.read_polylines.specs.Ways.{way_of}
use Rattle.read_polylines.proofs.Ways.{refused_here}
use Rattle.read_polylines.proofs.PointLaws.{forbidden_point, permitted_point, does_same, joined}
use Rattle.read_polylines.proofs.points.point_line.Goals as goal

pub returns-then-forbids : goal.returns-then-forbids
returns-then-forbids c =
    let g = c.args in
    let e = sym c.forbids.ensures ∙ c.if-forbids.true in
    λ b text rooms fs start cells d l un er dr co.
    refused_here b g.polyline g.state _ cells _ _
    (λ x. forbidden_point (model_at b) rooms text (way_of b g.attribute g.polyline) fs x g.kind (line_state_of g.next) (rw co e))

pub returns : goal.returns
returns c =
    let g = c.args in
    let e = sym c.forbids.ensures ∙ c.if-forbids.false in
    λ b text rooms fs start cells d l un er dr co.
    does_same b g.polyline g.state _ _ cells _ cells _ _
    (λ x. permitted_point (model_at b) rooms text (way_of b g.attribute g.polyline) fs x g.kind (line_state_of g.next) (rw co e))
    (joined b g.polyline g.state g.next g.attribute d l rooms text g.kind cells g.points.now er c.requires.points_in_bounds (component_values (model_at b).undefined 2 (components_of g.attribute.components) (drop 1 fs)) _ _
    (rw (un, dr) (c.read_point.ensures start)))
