-- `model_check::attributes::is_good` meets its contract. Assumes nothing.
use mathlib.Core.Bool.{and_assoc}
use Rattle.meaning.specs.Bytes.{all_of}
use Rattle.meaning.specs.Check.{good_type}
use Rattle.model_check.proofs.attributes.is_good.Goals as goal

pub returns-in-Reference : goal.returns-in-Reference
unfolding good_type
returns-in-Reference c = rw c.in-Reference.is

pub returns-in-Coordinate : goal.returns-in-Coordinate
unfolding good_type
returns-in-Coordinate c = rw c.in-Coordinate.is c.are_coordinates.ensures

pub returns-in-Number : goal.returns-in-Number
unfolding good_type
returns-in-Number c = rw c.in-Number.is c.is_component.ensures

pub returns-in-Text : goal.returns-in-Text
unfolding good_type
returns-in-Text c = rw c.in-Text.is

pub returns-in-Date : goal.returns-in-Date
unfolding good_type
returns-in-Date c = rw c.in-Date.is

pub returns-in-Enumeration : goal.returns-in-Enumeration
unfolding good_type
returns-in-Enumeration c = rw c.in-Enumeration.is

pub returns-in-Line : goal.returns-in-Line
unfolding good_type all_of
returns-in-Line c = rw (c.in-Line.is, c.is_line.ensures, c.are_coordinates-in-Line.ensures, and_assoc)
