-- `unfold::steps::judge` meets its contract: 3, 5 and 4 in their order, then the part. Assumes nothing.
use mathlib.Core.Path.{sym, ◌∙◌}
use Rattle.std.proofs.Common.{rules}
use Rattle.unfold.proofs.Judged.{refused_3, refused_5, refused_4, skip_within, parted}
use Rattle.unfold.proofs.steps.judge.Goals as goal

pub returns-then-continued-first : goal.returns-then-continued-first
returns-then-continued-first c =
    refused_3 _ _ _ _ _ c.requires.line_of (rw (← c.ends_in-continued.ensures) c.if-continued-first.true)

pub returns-then-unled : goal.returns-then-unled
returns-then-unled c = refused_5 _ _ _ _ _ c.requires.line_of (rw (← c.ends_in-continued.ensures) c.if-continued-first.false) (sym c.unled.ensures ∙ c.if-unled.true)

pub returns-then-not-first : goal.returns-then-not-first
returns-then-not-first c =
    refused_4 _ _ _ _ _ c.requires.line_of (rw (← c.ends_in-continued.ensures) c.if-continued-first.false) (sym c.unled.ensures ∙ c.if-unled.false) (c.requires.tested ∙ search rules)

pub slice_bounds-without_last-count : goal.slice_bounds-without_last-count
slice_bounds-without_last-count c = rw c.skipped-start.ensures (skip_within c.args.continues _ (sym c.unled.ensures ∙ c.if-unled.false))

pub slice_bounds-without_last-start : goal.slice_bounds-without_last-start
slice_bounds-without_last-start c = rw c.skipped-start.ensures (skip_within c.args.continues _ (sym c.unled.ensures ∙ c.if-unled.false))

pub returns : goal.returns
returns c =
    parted _ _ _ _ _ c.requires.line_of (rw (← c.ends_in-continued.ensures) c.if-continued-first.false) (sym c.unled.ensures ∙ c.if-unled.false) _ _ _ (sym c.ends_in-continued.ensures) (c.requires.tested ∙ search rules) c.skipped-start.ensures c.without_last-len.ensures
