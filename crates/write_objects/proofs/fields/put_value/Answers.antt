-- `write_objects::fields::put_value` meets its contract. Assumes nothing.
use mathlib.Core.Logic.{inl, inr}
use mir.Syntax.{w64}
use mir.ValLaws.{to_z-of_z}
use Rattle.meaning.specs.Writing.{type_bytes}
use Rattle.write_objects.proofs.Typed.{number_good}
use Rattle.write_objects.proofs.fields.put_value.Goals as goal

pub put_number-requires : goal.put_number-requires
put_number-requires c = number_good _ (rw c.in-Number.is at c.requires)

pub returns-in-Reference : goal.returns-in-Reference
unfolding type_bytes
returns-in-Reference c = rw c.in-Reference.is (rw (to_z-of_z w64 c.args.b c.ranges.b) at c.put_reference.ensures)

pub returns-in-Number : goal.returns-in-Number
unfolding type_bytes
returns-in-Number c = rw c.in-Number.is (rw (to_z-of_z w64 c.args.b c.ranges.b) at c.put_number.ensures)

pub returns-in-Text : goal.returns-in-Text
unfolding type_bytes
returns-in-Text c =
    let a = c.args in
    rw c.in-Text.is (rw (to_z-of_z w64 a.a c.ranges.a, to_z-of_z w64 a.b c.ranges.b) at c.put_text.ensures)

pub returns-in-Date : goal.returns-in-Date
unfolding type_bytes
returns-in-Date c = rw c.in-Date.is (rw (to_z-of_z w64 c.args.b c.ranges.b) at c.put_date.ensures)

pub returns-in-Enumeration : goal.returns-in-Enumeration
unfolding type_bytes
returns-in-Enumeration c = rw c.in-Enumeration.is (rw (to_z-of_z w64 c.args.b c.ranges.b) at c.put_leaf.ensures)

pub returns-in-Coordinate : goal.returns-in-Coordinate
unfolding type_bytes
returns-in-Coordinate c =
    let none = c.put_nothing.ensures c.args.out.now in
    elim c.in-Coordinate.is [ inl w ↦ rw w.1 none | inr w ↦ rw w.2 none ]
