-- `model_check::attributes::is_type` meets its contract. Assumes nothing.
use native.Mathlib.Omega.{arith}
use mathlib.Core.Path.{sym}
use lib.Seq.{get_or-drop}
use lib.ListN.{drop}
use lib.Dec.{eqb}
use Rattle.meaning.specs.Bytes.{byte_at}
use Rattle.model_check.proofs.Types.{size_line, dimension_bounds, type_known, type_line, type_high, type_low}
use Rattle.model_check.proofs.attributes.is_type.Goals as goal

pub bounds-payload-3 : goal.bounds-payload-3
bounds-payload-3 c =
    let p = c.args.payload.now in
    omega (arith, c.requires, size_line (byte_at p 1) p c.in-8.is, (dimension_bounds (eqb (byte_at p 3) 3)).0)

pub returns-in-8 : goal.returns-in-8
returns-in-8 c =
    let p = c.args.payload.now in
    rw (type_line (byte_at p 1) (drop 2 p) c.in-8.is, get_or-drop 2 p 1 0, c.is_good.ensures, c.is_dimension.ensures, ← c.attribute_of.ensures.type)

pub returns-in-1-to-7 : goal.returns-in-1-to-7
returns-in-1-to-7 c =
    let p = c.args.payload.now in
    rw (type_known (byte_at p 1) (drop 2 p) (omega arith) (omega arith), c.is_good-in-1-to-7.ensures, ← c.attribute_of-in-1-to-7.ensures.type)

pub returns-in_default : goal.returns-in_default
returns-in_default c =
    let p = c.args.payload.now in
    sym (type_low (byte_at p 1) (drop 2 p) (omega arith))

pub returns-in_default-2 : goal.returns-in_default-2
returns-in_default-2 c =
    let p = c.args.payload.now in
    sym (type_high (byte_at p 1) (drop 2 p) (omega arith))
