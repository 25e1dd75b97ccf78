-- What is proved of fields, values and their bytes: fields and values are those of the grammar (`Shapes`), and each
-- written value reads as itself, is told from every other, and is the shortest. Proved in
-- proofs/Values/ValueClaims.antt.
use Rattle.std.specs.Prelude.{ℕ, ◌+◌, ◌/◌, ◌%◌, ◌^◌, ◌≤◌, ◌<◌, ◌≡◌, true, not, ◌&&◌, ◌||◌, List, ◌↔◌, eqb, ℤ, pos}
use Rattle.std.specs.Prelude.{nat_abs, length}
use Rattle.meaning.specs.Model.{Component, AttributeType, Reference, Coordinate, Number, Text, Date, Enumeration}
use Rattle.meaning.specs.Model.{Line}
use Rattle.meaning.specs.Field.{Field, fields_of}
use Rattle.meaning.specs.Check.{good_component}
use Rattle.meaning.specs.Value.{pair, wrong, within, number_of, is_leap_year, is_day, date_of, enumeration_of, value_of}
use Rattle.meaning.specs.Shapes.{Runs, Numeral, Shape, InDomain, WrongShape, OutsideDomain}
use Rattle.meaning.specs.Digits.{number_bytes, date_bytes}

-- ## Fields and values are those of the grammar

-- "Fields are longest runs without space or tab": the fields of a line are these and no others.
abbrev pub FieldsExactly : Type 0
FieldsExactly = (start : ℕ) (l : List ℕ) (fs : List Field) → (fields_of start l ≡ fs) ↔ Runs start l fs

-- A number reads as this value exactly when it is a numeral of it, within the bounds.
abbrev pub NumberExactly : Type 0
NumberExactly = (c : Component) (s : List ℕ) (v : ℤ)
    → (number_of c s ≡ pair (pos 1) v) ↔ (Numeral c.decimals s v × (within c v ≡ true))

-- A date's and a leaf's value, likewise.
abbrev pub DateExactly : Type 0
DateExactly = (s : List ℕ) (v : ℤ) → (date_of s ≡ pair (pos 1) v) ↔ (Shape Date s v × InDomain Date s v)

abbrev pub EnumerationExactly : Type 0
EnumerationExactly = (leaves : ℕ) (s : List ℕ) (v : ℤ)
    → (enumeration_of leaves s ≡ pair (pos 1) v) ↔ (Shape (Enumeration leaves) s v × InDomain (Enumeration leaves) s v)

-- a type whose values are fields: coordinates are read component by component, and lines have no field
abbrev pub HasField : AttributeType → Type 0
HasField (Reference t) = Unit {0}
HasField (Coordinate cs) = ⊥
HasField (Number c) = Unit {0}
HasField (Text longest) = Unit {0}
HasField Date = Unit {0}
HasField (Enumeration leaves) = Unit {0}
HasField (Line forms cs) = ⊥

-- 13 where the field has not the shape, and 14 where it has and is outside the domain.
abbrev pub WrongExactly : Type 0
WrongExactly = (type : AttributeType) (f : Field) → HasField type
    → ((value_of type f ≡ wrong 13) ↔ WrongShape type f.bytes)
    × ((value_of type f ≡ wrong 14) ↔ OutsideDomain type f.bytes)

-- ## What is written reads as the value

-- The bytes of a number within a good component's bounds read as that number.
abbrev pub NumberReads : Type 0
NumberReads = (c : Component) (v : ℤ) → good_component c ≡ true → within c v ≡ true
    → number_of c (number_bytes c.decimals v) ≡ pair (pos 1) v

-- The bytes of a leaf's number read as that leaf.
abbrev pub EnumerationReads : Type 0
EnumerationReads = (leaves n : ℕ) → leaves < 65536 → n < leaves
    → enumeration_of leaves (number_bytes 0 (pos n)) ≡ pair (pos 1) (pos n)

-- The bytes of a day read as that day.
abbrev pub DateReads : Type 0
DateReads = (n : ℕ) → n < 10 ^ 8 → is_day (n / 10000) (n / 100 % 100) (n % 100) ≡ true
    → date_of (date_bytes (pos n)) ≡ pair (pos 1) (pos n)

-- ## Two values with the same bytes are equal

-- Of numbers with the same decimals, and so of the numbers of leaves; a cell's value has 19 digits at most.
abbrev pub NumberBytesDiffer : Type 0
NumberBytesDiffer = (d : ℕ) (v w : ℤ) → d ≤ 9 → nat_abs v < 10 ^ 19 → nat_abs w < 10 ^ 19
    → number_bytes d v ≡ number_bytes d w → v ≡ w

-- Of dates.
abbrev pub DateBytesDiffer : Type 0
DateBytesDiffer = (v w : ℤ) → nat_abs v < 10 ^ 19 → nat_abs w < 10 ^ 19 → date_bytes v ≡ date_bytes w → v ≡ w

-- ## "the shortest digits that read as the value"

-- No bytes that are shorter read as the number, whatever the component.
abbrev pub NumberShortest : Type 0
NumberShortest = (c : Component) (v : ℤ) (s : List ℕ) → number_of c s ≡ pair (pos 1) v
    → length (number_bytes c.decimals v) ≤ length s

-- No bytes that are shorter read as the leaf.
abbrev pub EnumerationShortest : Type 0
EnumerationShortest = (leaves n : ℕ) (s : List ℕ) → enumeration_of leaves s ≡ pair (pos 1) (pos n)
    → length (number_bytes 0 (pos n)) ≤ length s

-- No other bytes at all read as the day.
abbrev pub DateOnly : Type 0
DateOnly = (v : ℤ) (s : List ℕ) → date_of s ≡ pair (pos 1) v → date_bytes v ≡ s

-- ## "the day must exist in the Gregorian calendar" (02, 1); Calendar computes which days a year of each kind has

-- The rule of leap years in its usual words: 4 divides the year and 100 does not, or 400 does.
abbrev pub LeapYears : Type 0
LeapYears = (year : ℕ) → is_leap_year year ≡ ((eqb (year % 4) 0 && not (eqb (year % 100) 0)) || eqb (year % 400) 0)

-- Two leap years have the same days, and so have two years that are none.
abbrev pub DaysAlike : Type 0
DaysAlike = (year other month day : ℕ) → is_leap_year year ≡ is_leap_year other
    → is_day year month day ≡ is_day other month day

-- What is a day repeats every 400 years.
abbrev pub DaysRepeat : Type 0
DaysRepeat = (year month day : ℕ) → is_day (year + 400) month day ≡ is_day year month day
