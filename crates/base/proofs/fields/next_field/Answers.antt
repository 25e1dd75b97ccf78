-- `base::fields::next_field` meets its contract. Assumes nothing.
use Prim.Native.Nat.{ℕ}
use mathlib.Core.List.{List}
use native.Mathlib.Omega.{arith}
use Rattle.base.proofs.Fill.{to_end}
use Rattle.base.proofs.Runs.{skip_all, first_field}
use Rattle.base.proofs.fields.next_field.Goals as goal

pub returns-then-start-rest : goal.returns-then-start-rest
returns-then-start-rest c = skip_all c.args.rest.now _ c.if-start-rest.true c.skip_separators-start.ensures.same

pub field_size-len-requires : goal.field_size-len-requires
field_size-len-requires c =
    let l : List ℕ = c.args.rest.now in rw (to_end l c.skip_separators-start.result) (c.skip_separators-start.ensures.stops (omega arith))

pub returns : goal.returns
returns c =
    let l : List ℕ = c.args.rest.now in
    let skip = c.skip_separators-start in
    let e = rw (to_end l skip.result) at c.field_size-len.ensures in
    first_field l skip.result c.field_size-len.result skip.ensures.same skip.ensures.within e.within e.field
