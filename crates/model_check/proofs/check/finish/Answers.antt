-- `model_check::check::finish` meets its contract. Assumes nothing.
use Rattle.model_check.specs.Walk.{checked_meant}
use Rattle.model_check.proofs.Ending.{no_end, outside, good_model}
use Rattle.model_check.proofs.check.finish.Goals as goal

pub returns-then-walker-ne-END : goal.returns-then-walker-ne-END
unfolding checked_meant
returns-then-walker-ne-END c = no_end c.args.model.now c.args.walker c.args.places.now c.requires c.if-walker-ne-END.true

pub returns-in-Some : goal.returns-in-Some
unfolding checked_meant
returns-in-Some c =
    outside c.args.model.now c.args.walker c.args.places.now c.requires c.if-walker-ne-END.false c.first_outside.result c.first_outside.ensures _ c.in-Some.is

pub returns-in-None : goal.returns-in-None
unfolding checked_meant
returns-in-None c =
    good_model c.args.model.now c.args.walker c.args.places.now c.requires c.if-walker-ne-END.false c.first_outside.result c.first_outside.ensures c.in-None.is
