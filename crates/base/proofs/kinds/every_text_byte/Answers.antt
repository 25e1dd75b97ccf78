-- `base::kinds::every_text_byte` meets its contract: the closure is the test. Assumes nothing.
use mathlib.Core.Path.{◌∙◌}
use Rattle.std.proofs.Common.{rules}
use borrow.Author.Tests.{tests}
use Rattle.std.proofs.lemmas.Iterator.{YieldsList-from_slice}
use Rattle.std.proofs.lemmas.Iterator.Search.{all_from_yields_List}
use Rattle.meaning.specs.Bytes.{text_byte}
use Rattle.base.proofs.Scan.{every_all}
use Rattle.base.proofs.kinds.every_text_byte.Goals as goal

pub returns : goal.returns
returns c =
    all_from_yields_List text_byte _ _ _ c.all.ensures.ran (YieldsList-from_slice c.args.l.now cc) (λ x b q k. search (rules, tests))
    ∙ every_all text_byte c.args.l.now
