-- `unfold::lines::line_feed` meets its contract. Assumes nothing.
use Rattle.std.proofs.Common.{rules}
use borrow.Author.Tests.{tests}
use mathlib.Core.Bool.{not}
use Rattle.std.proofs.lemmas.Iterator.{YieldsList-from_slice}
use Rattle.std.proofs.lemmas.Iterator.Search.{position_from_yields_List}
use Rattle.unfold.specs.First.{no_lf}
use Rattle.unfold.proofs.Leading.{feed_at}
use Rattle.unfold.proofs.lines.line_feed.Goals as goal

pub returns : goal.returns
returns c = feed_at c.args.rest.now _ (position_from_yields_List (λ b. not (no_lf b)) _ _ c.position.result c.position.ensures.ran (YieldsList-from_slice c.args.rest.now cc) (λ x b q k. search (rules, tests)))
