-- `model_check::references::refers_outside` meets its contract. Assumes nothing.
use mathlib.Core.Path.{sym, ap, ◌∙◌}
use Rattle.meaning.specs.Model.{Found}
use Rattle.meaning.specs.Check.{is_outside}
use Rattle.model_check.proofs.Judging.{no_target, target}
use Rattle.model_check.proofs.references.refers_outside.Goals as goal

pub returns-then-byte_at-ne-REFERENCE : goal.returns-then-byte_at-ne-REFERENCE
returns-then-byte_at-ne-REFERENCE c =
    λ ts e. sym (no_target ts _ c.args.payload.now (λ k. c.if-byte_at-ne-REFERENCE.true (c.byte_at.ensures ∙ k)))

pub returns : goal.returns
returns c =
    λ ts e. c.is_foreign.ensures ts e ∙ ap (λ (f : Found). is_outside ts c.args.topic f) (target c.args.payload.now _ _ (sym c.byte_at.ensures ∙ c.if-byte_at-ne-REFERENCE.false) c.byte_at-low.ensures c.byte_at-high.ensures)
