-- `model_records::line_at` meets its contract. Assumes nothing.
use mathlib.Core.Path.{sym, ap, ◌∙◌}
use Rattle.model_records.specs.Attributes.{of_kind}
use Rattle.model_records.proofs.Types.{line_kind, line_type}
use Rattle.model_records.proofs.line_at.Goals as goal

pub unreachable-requires : goal.unreachable-requires
unreachable-requires c =
    let a = c.attribute_at-attribute in
    line_kind a.result.kind _ _ (a.ensures.type ∙ line_type c.args.model.now c.args.at c.requires.line) c.in_default.not-Line

pub returns : goal.returns
returns c =
    let a = c.attribute_at-attribute in
    record { type = sym a.ensures.type ∙ ap of_kind c.in-Line.is; optional = a.ensures.optional; counted = rw c.in-Line.is at a.ensures.counted }
