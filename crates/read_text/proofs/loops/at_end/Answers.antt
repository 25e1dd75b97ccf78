-- `read_text::loops::at_end` meets its contract. Assumes nothing.
use mathlib.Core.Path.{refl}
use Rattle.std.proofs.Common.{rules}
use Rattle.read_text.proofs.Going.{still_due}
use Rattle.read_text.proofs.loops.at_end.Goals as goal

pub returns-in_default : goal.returns-in_default
returns-in_default c = (refl, λ b. still_due c.args.state.due b (λ e. search rules))

pub returns-in_default-2 : goal.returns-in_default-2
returns-in_default-2 c = (refl, λ b. still_due c.args.state.due b (λ e. search rules))
