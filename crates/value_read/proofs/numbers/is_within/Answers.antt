-- `value_read::numbers::is_within` meets its contract. Assumes nothing.
use mir.Syntax.{w64}
use mir.Val.{SFits}
use mir.ValLaws.{to_z-of_z}
use Rattle.std.proofs.Common.{rules}
use Rattle.model_records.specs.Components.{component_of}
use Rattle.value_read.proofs.Shapes.{within_is}
use Rattle.value_read.proofs.numbers.is_within.Goals as goal

pub returns-then-component-v : goal.returns-then-component-v
returns-then-component-v c =
    let v = c.args.v in
    let b = component_of c.args.component in
    let l : SFits w64 b.least = search rules in
    let g : SFits w64 b.greatest = search rules in
    let t = rw (to_z-of_z w64 b.least l, to_z-of_z w64 v c.ranges.v) at c.if-component-v.true in
    rw (to_z-of_z w64 v c.ranges.v, to_z-of_z w64 b.greatest g, within_is b v, t)

pub returns-else-component-v : goal.returns-else-component-v
returns-else-component-v c =
    let v = c.args.v in
    let b = component_of c.args.component in
    let l : SFits w64 b.least = search rules in
    let t = rw (to_z-of_z w64 b.least l, to_z-of_z w64 v c.ranges.v) at c.if-component-v.false in
    rw (to_z-of_z w64 b.least l, to_z-of_z w64 v c.ranges.v, within_is b v, t)
