-- `model_check::rules::are_components` meets its contract. Assumes nothing.
use mathlib.Core.Path.{◌∙◌}
use lib.ListN.{take}
use Rattle.std.proofs.Common.{rules}
use borrow.Author.Tests.{tests}
use Rattle.std.proofs.lemmas.Iterator.{YieldsList-from_slice}
use Rattle.std.proofs.lemmas.Iterator.Search.{all_from_yields_List}
use Rattle.meaning.specs.Check.{good_component}
use Rattle.model_records.specs.Components.{component_of}
use Rattle.model_check.proofs.Components.{good_all}
use Rattle.model_check.proofs.rules.are_components.Goals as goal

pub returns : goal.returns
returns c =
    let cs = take c.args.components.count c.args.components.items in
    all_from_yields_List (λ x. good_component (component_of x)) _ _ _ c.all.ensures.ran (YieldsList-from_slice cs cc) (λ x b q k. search (rules, tests))
    ∙ good_all cs
