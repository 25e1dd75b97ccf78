-- `model_records::read_kind` meets its contract. Assumes nothing.
use Prim.Native.Nat.{ℕ}
use mathlib.Core.List.{List}
use mathlib.Core.Path.{◌≡◌, ap, ◌∙◌}
use mathlib.Core.Logic.{inl, inr}
use native.Mathlib.Omega.{arith}
use lib.ListN.{length-drop}
use Rattle.base.proofs.Fill.{to_end}
use Rattle.meaning.specs.Bytes.{choose}
use Rattle.meaning.specs.Model as meaning
use Rattle.model_records.proofs.Types.{word_size, line_size, coordinate_size, number_size, coordinate_is, dimension_fits, dimension_is, line_is}
use Rattle.model_records.proofs.read_kind.Goals as goal

pub u16_at-requires : goal.u16_at-requires
u16_at-requires c = word_size c.args.parameters.now c.args.number (inl c.in-1.is) c.requires

pub read_component-requires : goal.read_component-requires
read_component-requires c = number_size c.args.parameters.now c.args.number c.in-4.is c.requires

pub u16_at-requires-in-5 : goal.u16_at-requires-in-5
u16_at-requires-in-5 c = word_size c.args.parameters.now c.args.number (inr (inl c.in-5.is)) c.requires

pub u16_at-requires-in-7 : goal.u16_at-requires-in-7
u16_at-requires-in-7 c = word_size c.args.parameters.now c.args.number (inr (inr c.in-7.is)) c.requires

pub read_components-requires-clause-n_in_bounds : goal.read_components-requires-clause-n_in_bounds
read_components-requires-clause-n_in_bounds c =
    coordinate_size c.args.parameters.now c.args.number (omega arith, omega arith) c.requires

pub returns-in-1-clause-meant : goal.returns-in-1-clause-meant
unfolding meaning.type_of choose
returns-in-1-clause-meant c = rw (c.in-1.is, c.u16_at.ensures)

pub returns-in-4-clause-meant : goal.returns-in-4-clause-meant
unfolding meaning.type_of choose
returns-in-4-clause-meant c = rw (c.in-4.is, c.read_component.ensures)

pub returns-in-5-clause-meant : goal.returns-in-5-clause-meant
unfolding meaning.type_of choose
returns-in-5-clause-meant c = rw (c.in-5.is, c.u16_at-in-5.ensures)

pub returns-in-6-clause-meant : goal.returns-in-6-clause-meant
unfolding meaning.type_of choose
returns-in-6-clause-meant c = rw c.in-6.is

pub returns-in-7-clause-meant : goal.returns-in-7-clause-meant
unfolding meaning.type_of choose
returns-in-7-clause-meant c = rw (c.in-7.is, c.u16_at-in-7.ensures)

pub returns-in-2-to-3-clause-meant : goal.returns-in-2-to-3-clause-meant
returns-in-2-to-3-clause-meant c =
    ap meaning.Coordinate c.read_components.ensures.meant ∙ coordinate_is c.args.parameters.now c.args.number (omega arith, omega arith)

pub bounds-parameters-0 : goal.bounds-parameters-0
bounds-parameters-0 c =
    let e : c.args.number ≡ 8 = omega arith in
    omega (arith, line_size c.args.parameters.now c.args.number e c.requires)

pub slice_bounds-read_components-count : goal.slice_bounds-read_components-count
slice_bounds-read_components-count c =
    let e : c.args.number ≡ 8 = omega arith in
    omega (arith, line_size c.args.parameters.now c.args.number e c.requires)

pub slice_bounds-read_components-start : goal.slice_bounds-read_components-start
slice_bounds-read_components-start c =
    let e : c.args.number ≡ 8 = omega arith in
    omega (arith, line_size c.args.parameters.now c.args.number e c.requires)

pub bounds-parameters-1 : goal.bounds-parameters-1
bounds-parameters-1 c =
    let e : c.args.number ≡ 8 = omega arith in
    omega (arith, line_size c.args.parameters.now c.args.number e c.requires)

pub read_components-requires-in_default-clause-n_bound : goal.read_components-requires-in_default-clause-n_bound
read_components-requires-in_default-clause-n_bound c = rw c.read_dimension.ensures (dimension_fits c.args.parameters.now).1

pub read_components-requires-in_default-clause-n_in_bounds : goal.read_components-requires-in_default-clause-n_in_bounds
read_components-requires-in_default-clause-n_in_bounds c =
    let q : List ℕ = c.args.parameters.now in
    let e : c.args.number ≡ 8 = omega arith in
    rw (to_end q 2, length-drop) (omega (arith, dimension_is q, c.read_dimension.ensures, line_size q c.args.number e c.requires))

pub returns-in_default-clause-meant : goal.returns-in_default-clause-meant
returns-in_default-clause-meant c =
    let q : List ℕ = c.args.parameters.now in
    let e : c.args.number ≡ 8 = omega arith in
    rw e (line_is q _ _ (c.read_dimension.ensures) (rw (to_end q 2) at c.read_components-in_default.ensures.meant))

pub returns-in_default-clause-counted : goal.returns-in_default-clause-counted
returns-in_default-clause-counted c =
    let e = c.read_components-in_default.ensures.count ∙ c.read_dimension.ensures in
    rw e (dimension_fits c.args.parameters.now)
