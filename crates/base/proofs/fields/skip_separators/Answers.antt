-- `base::fields::skip_separators` meets its contract: it is the place of the first byte that is no separator, or the end. Assumes nothing.
use mathlib.Core.Path.{◌∙◌}
use Rattle.std.proofs.Common.{rules}
use borrow.Author.Tests.{tests}
use mathlib.Core.Bool.{not}
use Rattle.std.proofs.lemmas.Iterator.{YieldsList-from_slice}
use Rattle.std.proofs.lemmas.Iterator.Search.{position_from_yields_List}
use Rattle.meaning.specs.Bytes.{separator}
use Rattle.base.proofs.Runs.{skip_found, skip_same, skip_stops}
use Rattle.base.proofs.fields.skip_separators.Goals as goal

pub returns-clause-same : goal.returns-clause-same
returns-clause-same c =
    let found = position_from_yields_List (λ b. not (separator b)) _ _ c.position.result c.position.ensures.ran (YieldsList-from_slice c.args.rest.now cc) (λ x b q k. search (rules, tests)) in
    let is = c.unwrap_or.ensures ∙ skip_found c.args.rest.now c.position.result found in
    rw is (skip_same c.args.rest.now)

pub returns-clause-stops : goal.returns-clause-stops
returns-clause-stops c =
    let found = position_from_yields_List (λ b. not (separator b)) _ _ c.position.result c.position.ensures.ran (YieldsList-from_slice c.args.rest.now cc) (λ x b q k. search (rules, tests)) in
    let is = c.unwrap_or.ensures ∙ skip_found c.args.rest.now c.position.result found in
    rw is (skip_stops c.args.rest.now)
