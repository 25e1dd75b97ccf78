-- `read_polylines::move_line` meets its contract. Assumes nothing.
use mathlib.Core.Path.{refl, sym, ap, ◌∙◌}
use Rattle.meaning.specs.Reading as meaning
use Rattle.model_records.specs.Records.{model_at}
use Rattle.read_state.specs.Meaning.{line_state_of, move_of}
use Rattle.read_polylines.specs.Ways.{way_of}
use Rattle.read_polylines.proofs.Ways.{by_move, unexpected_line, refused_here}
use Rattle.read_polylines.proofs.move_line.Goals as goal

pub point_line-requires-clause-points_in_bounds : goal.point_line-requires-clause-points_in_bounds
point_line-requires-clause-points_in_bounds c = c.requires.line_given.points_fit

pub returns-in-Unexpected : goal.returns-in-Unexpected
returns-in-Unexpected c =
    let g = c.args in
    let e = sym (ap move_of c.in-Unexpected.is) ∙ c.step.ensures in
    λ rooms text fs start er dr co.
    by_move g.model.now g.polyline g.state (model_at g.model.now) rooms text (way_of g.model.now g.attribute g.polyline) fs _ _ _ _ meaning.unexpected _ (rw co e)
    _
    (refused_here g.model.now g.polyline g.state _ _ _ _ (λ x. unexpected_line (model_at g.model.now) rooms text (way_of g.model.now g.attribute g.polyline) fs x))

pub returns-in-UndefinedLine : goal.returns-in-UndefinedLine
returns-in-UndefinedLine c =
    let g = c.args in
    let e = sym (ap move_of c.in-UndefinedLine.is) ∙ c.step.ensures in
    λ rooms text fs start er dr co.
    by_move g.model.now g.polyline g.state (model_at g.model.now) rooms text (way_of g.model.now g.attribute g.polyline) fs _ _ _ _ meaning.undefined_line _ (rw co e)
    _
    (c.undefined_line.ensures g.attribute rooms text fs start _ _ refl dr)

pub returns-in-Ended : goal.returns-in-Ended
returns-in-Ended c =
    let g = c.args in
    let e = sym (ap move_of c.in-Ended.is) ∙ c.step.ensures in
    λ rooms text fs start er dr co.
    by_move g.model.now g.polyline g.state (model_at g.model.now) rooms text (way_of g.model.now g.attribute g.polyline) fs _ _ _ _ meaning.ended _ (rw co e)
    _
    (c.end_line.ensures g.attribute rooms text fs start _ c.requires.line_given.points_fit dr)

pub returns-in-Point : goal.returns-in-Point
returns-in-Point c =
    let g = c.args in
    let e = sym (ap move_of c.in-Point.is) ∙ c.step.ensures in
    λ rooms text fs start er dr co.
    by_move g.model.now g.polyline g.state (model_at g.model.now) rooms text (way_of g.model.now g.attribute g.polyline) fs _ _ _ _ (meaning.point c.in-Point.kind (line_state_of c.in-Point.next)) _ (rw co e)
    _
    (c.point_line.ensures g.model.now text rooms fs start _ c.requires.record_line c.requires.line_given.line c.requires.line_given.undefined_byte er dr co)
