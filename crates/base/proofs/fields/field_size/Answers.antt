-- `base::fields::field_size` meets its contract: the bytes so far are no separators. Assumes nothing.
use Prim.Native.Nat.{ℕ}
use mathlib.Core.Path.{◌≡◌, sym, ◌∙◌}
use mathlib.Core.List.{List}
use lib.ListN.{length}
use native.Mathlib.Omega.{arith}
use Rattle.base.proofs.Runs.{first_byte, run_next, run_field, stops_at, stops_behind}
use Rattle.base.proofs.fields.field_size.Goals as goal

pub loop-i-init : goal.loop-i-init
loop-i-init c = first_byte c.args.rest.now c.requires

pub returns-then-is_separator-clause-field : goal.returns-then-is_separator-clause-field
returns-then-is_separator-clause-field c =
    let l = c.args.rest.now in
    let i = c.loop-i.i in
    run_field l i (omega arith) (omega arith) c.loop-i.invariant.1 (stops_at l i (omega arith) (sym c.is_separator.ensures ∙ c.if-is_separator.true))

pub loop-i-preserved : goal.loop-i-preserved
loop-i-preserved c =
    (c.loop-i.invariant.0, run_next c.args.rest.now c.loop-i.i (omega arith) (sym c.is_separator.ensures ∙ c.if-is_separator.false) c.loop-i.invariant.1)

pub returns-clause-within : goal.returns-clause-within
returns-clause-within c = (c.loop-i.invariant.0, omega arith)

pub returns-clause-field : goal.returns-clause-field
returns-clause-field c =
    let l : List ℕ = c.args.rest.now in
    let is : c.loop-i.i ≡ length l = omega arith in
    run_field l (length l) c.loop-i.invariant.0 (omega arith) (rw is at c.loop-i.invariant.1) (stops_behind l (length l) (omega arith))
