-- `model_check::check::keeps_topic` meets its contract. Assumes nothing.
use Rattle.meaning.specs.Check.{keeps_topic}
use Rattle.model_check.proofs.Words.{names_length}
use Rattle.model_check.proofs.check.keeps_topic.Goals as goal

pub returns : goal.returns
unfolding keeps_topic
returns c =
    rw (names_length c.args.model.now c.args.seen.now) c.is_free.ensures
