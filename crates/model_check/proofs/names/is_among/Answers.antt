-- `model_check::names::is_among` meets its contract. Assumes nothing.
use mathlib.Core.Path.{◌∙◌}
use Rattle.std.proofs.Common.{rules}
use borrow.Author.Tests.{tests}
use Rattle.std.proofs.lemmas.Iterator.{YieldsList-from_slice}
use Rattle.std.proofs.lemmas.Iterator.Search.{any_from_yields_List}
use Rattle.meaning.specs.Bytes.{same}
use Rattle.model_check.specs.Names.{name_of}
use Rattle.model_check.proofs.Words.{among_any}
use Rattle.model_check.proofs.names.is_among.Goals as goal

pub returns : goal.returns
returns c =
    let m = c.args.model.now in
    let n = c.args.name.now in
    any_from_yields_List (λ word. same (name_of m word) n) _ _ _ c.any.ensures.ran (YieldsList-from_slice c.args.seen.now cc) (λ x b q k. search (rules, tests))
    ∙ among_any m n c.args.seen.now
