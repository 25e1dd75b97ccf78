-- `read_fields::read_value` meets its contract. Assumes nothing.
use mathlib.Core.Logic.{inl, inr}
use Rattle.meaning.specs.Value.{value_of}
use Rattle.read_fields.proofs.filling.read_value.Goals as goal

pub returns-in-Reference : goal.returns-in-Reference
unfolding value_of
returns-in-Reference c = rw c.in-Reference.is c.read_reference.ensures

pub returns-in-Number : goal.returns-in-Number
unfolding value_of
returns-in-Number c = rw c.in-Number.is c.read_number.ensures

pub returns-in-Text : goal.returns-in-Text
unfolding value_of
returns-in-Text c = rw c.in-Text.is c.read_text.ensures

pub returns-in-Date : goal.returns-in-Date
unfolding value_of
returns-in-Date c = rw c.in-Date.is c.read_date.ensures

pub returns-in-Enumeration : goal.returns-in-Enumeration
unfolding value_of
returns-in-Enumeration c = rw c.in-Enumeration.is c.read_enumeration.ensures

pub returns-in-Coordinate : goal.returns-in-Coordinate
unfolding value_of
returns-in-Coordinate c = elim c.in-Coordinate.is [ inl e ↦ rw e.1 | inr e ↦ rw e.2 ]
