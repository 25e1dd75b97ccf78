-- `write_judge::marks::are_marks` meets its contract. Assumes nothing.
use mathlib.Core.Path.{◌∙◌}
use Rattle.std.proofs.Common.{rules}
use borrow.Author.Tests.{tests}
use Rattle.std.proofs.lemmas.Iterator.{YieldsList-from_slice}
use Rattle.std.proofs.lemmas.Iterator.Search.{all_from_yields_List}
use Rattle.meaning.specs.Judge.{is_mark}
use Rattle.base.proofs.Scan.{every_all}
use Rattle.write_judge.proofs.marks.are_marks.Goals as goal

pub returns : goal.returns
unfolding is_mark
returns c =
    all_from_yields_List is_mark _ _ _ c.all.ensures.ran (YieldsList-from_slice c.args.marks.now cc) (λ x b q k. search (rules, tests))
    ∙ every_all is_mark c.args.marks.now
