-- `model_check::attributes::parameters_end` meets its contract. Assumes nothing.
use native.Mathlib.Omega.{arith}
use mathlib.Core.Path.{sym, ◌∙◌}
use lib.Dec.{eqb}
use borrow.Author.Tests.{ne_eqb}
use Rattle.meaning.specs.Bytes.{byte_at, choose}
use Rattle.meaning.specs.Model.{parameters_size}
use Rattle.model_check.proofs.Types.{size_line, dimension_bounds}
use Rattle.model_check.proofs.attributes.parameters_end.Goals as goal

pub overflow_mul-result : goal.overflow_mul-result
overflow_mul-result c =
    let p = c.args.payload.now in
    let e = c.read_dimension.ensures in
    omega (arith, e, (dimension_bounds (eqb c.byte_at.result 3)).1)

pub overflow_add-result : goal.overflow_add-result
overflow_add-result c =
    let e = c.read_dimension.ensures in
    omega (arith, e, (dimension_bounds (eqb c.byte_at.result 3)).1)

pub returns-in-2 : goal.returns-in-2
unfolding parameters_size choose
returns-in-2 c = rw (← c.byte_at-t.ensures, c.in-2.is)

pub returns-in-3 : goal.returns-in-3
unfolding parameters_size choose
returns-in-3 c = rw (← c.byte_at-t.ensures, c.in-3.is)

pub returns-in-4 : goal.returns-in-4
unfolding parameters_size choose
returns-in-4 c = rw (← c.byte_at-t.ensures, c.in-4.is)

pub returns-in-6 : goal.returns-in-6
unfolding parameters_size choose
returns-in-6 c = rw (← c.byte_at-t.ensures, c.in-6.is)

pub returns-in-8 : goal.returns-in-8
returns-in-8 c =
    let p = c.args.payload.now in
    rw (c.read_dimension.ensures, c.byte_at.ensures, size_line (byte_at p 1) p (sym c.byte_at-t.ensures ∙ c.in-8.is)) (omega arith)

pub returns-in_default : goal.returns-in_default
unfolding parameters_size choose
returns-in_default c =
    let t = c.byte_at-t.result in
    rw (← c.byte_at-t.ensures, ne_eqb t 2 (omega arith), ne_eqb t 3 (omega arith), ne_eqb t 4 (omega arith), ne_eqb t 6 (omega arith), ne_eqb t 8 (omega arith))
