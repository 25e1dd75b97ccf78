-- `read_fields::put_attribute` meets its contract. Assumes nothing.
use Prim.Native.Nat.{ℕ}
use mathlib.Core.List.{List}
use native.Mathlib.Omega.{arith}
use Rattle.meaning.specs.Row.{pairs_of_type}
use Rattle.model_records.specs.Attributes.{of_kind}
use Rattle.read_fields.specs.RowProgress.{going_over, due, own_asked}
use Rattle.read_fields.proofs.Attributes.{fills_as, line_filled, own_due}
use Rattle.read_fields.proofs.filling.put_attribute.Goals as goal

pub returns-in-Coordinate : goal.returns-in-Coordinate
returns-in-Coordinate c = rw c.in-Coordinate.is c.put_coordinate.ensures

pub returns-in-Line : goal.returns-in-Line
unfolding pairs_of_type
returns-in-Line c =
    rw (c.in-Line.is, c.put_line.ensures.cursor) (line_filled c.args.undefined c.args.start c.args.rest.now _ _ _ c.args.cursor _ _ c.requires.within c.requires.placed c.put_line.ensures.stored)

pub returns-in_default : goal.returns-in_default
returns-in_default c =
    let a = c.args in
    let r : List ℕ = a.rest.now in
    let o = a.attribute.optional in
    let own = own_due a.undefined a.start r o a.attribute.kind c.in_default.not-Coordinate c.in_default.not-Line a.cursor in
    fills_as a.undefined a.start r 2 (due a.undefined a.start r (own_asked o a.attribute.kind) a.cursor) a.cursor a.cells.now c.put_field.new.cells
    (going_over a.undefined a.start r (pairs_of_type o (of_kind a.attribute.kind)) a.cursor) 6 own (omega arith) c.put_field.result
    (rw c.ask_own-asked.ensures at c.put_field.ensures)
