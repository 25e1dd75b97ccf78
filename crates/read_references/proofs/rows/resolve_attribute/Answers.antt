-- `read_references::resolve_attribute` meets its contract. Assumes nothing.
use native.Mathlib.Omega.{arith}
use mathlib.Core.Path.{sym, ap, ◌∙◌}
use Rattle.meaning.specs.Model.{Found, found}
use Rattle.meaning.specs.Table.{resolve_pair}
use Rattle.model_records.proofs.Types.{parts_room}
use Rattle.read_references.specs.Resolved.{objects_named}
use Rattle.read_references.proofs.Attributes.{no_reference, reference_room, a_reference}
use Rattle.read_references.proofs.rows.resolve_attribute.Goals as goal

pub bounds-model-at : goal.bounds-model-at
bounds-model-at c =
    omega (arith, c.requires.attribute_here.fits, parts_room c.args.model.now c.args.at c.requires.attribute_here)

pub returns-then-model-at-ne-REFERENCE : goal.returns-then-model-at-ne-REFERENCE
unfolding resolve_pair
returns-then-model-at-ne-REFERENCE c =
    rw (no_reference c.args.model.now c.args.at c.requires.attribute_here c.if-model-at-ne-REFERENCE.true)

pub u16_at-requires : goal.u16_at-requires
u16_at-requires c =
    omega (arith, c.requires.attribute_here.fits, reference_room c.args.model.now c.args.at c.requires.attribute_here c.if-model-at-ne-REFERENCE.false)

pub returns : goal.returns
returns c =
    let a = c.args in
    c.resolve_pair.ensures
    ∙ ap (λ (t : Found). resolve_pair a.named.now.text.now (objects_named a.named.now a.cells.now) a.object a.field a.cell t a.cells.now)
    (ap found (c.from-table.ensures ∙ c.u16_at.ensures) ∙ sym (a_reference a.model.now a.at c.requires.attribute_here c.if-model-at-ne-REFERENCE.false))
