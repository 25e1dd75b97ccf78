-- `read_objects::has_mandatory` meets its contract. Assumes nothing.
use mathlib.Core.Path.{◌∙◌}
use Rattle.model_records.proofs.Walking.{given_model, given_here}
use Rattle.read_objects.proofs.Records.{mandatory_turn, mandatory_found, mandatory_end}
use Rattle.read_objects.proofs.rows.has_mandatory.Goals as goal

pub is_mandatory-requires : goal.is_mandatory-requires
is_mandatory-requires c = (given_here _ _ _ _ c.loop-here.invariant.0 c.in-Some.ensures.steps).good

pub returns-then-is_mandatory : goal.returns-then-is_mandatory
returns-then-is_mandatory c =
    mandatory_found _ _ _ _ c.loop-here.invariant.0 c.in-Some.ensures.steps _ c.is_mandatory.ensures c.if-is_mandatory.true ∙ c.loop-here.invariant.1

pub loop-here-preserved : goal.loop-here-preserved
loop-here-preserved c =
    let i = c.loop-here.invariant in
    let g = c.in-Some.ensures.steps in
    (given_model _ _ _ _ i.0 g, mandatory_turn _ _ _ _ i.0 g _ c.is_mandatory.ensures c.if-is_mandatory.false ∙ i.1)

pub returns : goal.returns
returns c = mandatory_end _ c.loop-here.here-iterator c.loop-here.invariant.0 c.in-None.ensures.steps ∙ c.loop-here.invariant.1
