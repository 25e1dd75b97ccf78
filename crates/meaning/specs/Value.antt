-- Values (01, "Lines and fields" and "The table"): what a defined field means, or why it is refused.
use Rattle.std.specs.Prelude.{ℕ, zero, suc, ◌+◌, ◌*◌, ◌-◌, ◌%◌, Bool, not, ◌&&◌, ◌||◌, List, [], ◌∷◌, ◌++◌, leb, ltb}
use Rattle.std.specs.Prelude.{eqb, ℤ, pos, neg_ℤ, length, take, drop}
use Rattle.std.specs.Int.Signed.{lt_z}
use Rattle.meaning.specs.Bytes.{choose, refuse, digit, text_byte, every, same, begins, byte_at}
use Rattle.meaning.specs.Model.{Component, AttributeType, Reference, Coordinate, Number, Text, Date, Enumeration}
use Rattle.meaning.specs.Model.{Line}
use Rattle.meaning.specs.Field.{Field}

-- the two cells of a defined field, or its refusal: 13 wrong shape, 14 outside its domain
pub data Value : Type 0 where
  pair : ℤ → ℤ → Value
  wrong : ℕ → Value

-- ## Digits

-- the value of digits that follow those of value n
unfoldable pub digits_after : ℕ → List ℕ → ℕ
digits_after n [] = n
digits_after n (b ∷ s) = digits_after (n * 10 + (b - 0x30)) s

abbrev pub digits_value : List ℕ → ℕ
digits_value s = digits_after 0 s

-- so many digits at least, and so many at most
unfoldable pub is_digits : ℕ → ℕ → List ℕ → Bool
is_digits least most s = leb least (length s) && leb (length s) most && every digit s

-- ## Number

-- "optional + or -"
unfoldable pub unsigned : List ℕ → List ℕ
unsigned s = choose (begins 0x2b s || begins 0x2d s) (drop 1 s) s

unfoldable pub signed : List ℕ → ℕ → ℤ
signed s n = choose (begins 0x2d s) (neg_ℤ (pos n)) (pos n)

-- the count of digits before the point, where decimals are above 0
abbrev pub whole_size : ℕ → List ℕ → ℕ
whole_size decimals s = length s - (decimals + 1)

-- "at least one digit, then if decimals are above 0 a point and exactly so many digits; at most 18 digits in all"
unfoldable pub is_number : ℕ → List ℕ → Bool
is_number zero s = is_digits 1 18 s
is_number (suc d) s =
    let whole : ℕ = whole_size (suc d) s in
    eqb (byte_at s whole) 0x2e && is_digits 1 (18 - suc d) (take whole s)
    && is_digits (suc d) (suc d) (drop (whole + 1) s)

-- the digits of a number, without its point
unfoldable pub number_digits : ℕ → List ℕ → List ℕ
number_digits zero s = s
number_digits (suc d) s = let whole : ℕ = whole_size (suc d) s in take whole s ++ drop (whole + 1) s

unfoldable pub within : Component → ℤ → Bool
within c v = not (lt_z v c.least) && not (lt_z c.greatest v)

-- "Values are scaled: 480000.00 is 48000000"
unfoldable pub number_of : Component → List ℕ → Value
number_of c s =
    let v : ℤ = signed s (digits_value (number_digits c.decimals (unsigned s))) in
    refuse (not (is_number c.decimals (unsigned s))) (wrong 13)
    (refuse (not (within c v)) (wrong 14)
    (pair (pos 1) v))

-- ## Date and enumeration

-- a leap year of "the Gregorian calendar" (02, 1): one that 4 divides, but of those that 100 divides only those that
-- 400 divides; year 0000 "counts as a leap year by the same rule"
unfoldable pub is_leap_year : ℕ → Bool
is_leap_year year = choose (eqb (year % 100) 0) (eqb (year % 400) 0) (eqb (year % 4) 0)

-- how many days a month 01 to 12 has: February 28 or 29; April, June, September and November 30; the others 31
unfoldable pub days_of_month : (year month : ℕ) → ℕ
days_of_month year month =
    choose (eqb month 2) (choose (is_leap_year year) 29 28)
    (choose (eqb month 4 || eqb month 6 || eqb month 9 || eqb month 11) 30
    31)

-- "month 01 to 12", and "the day must exist in the Gregorian calendar" (02, 1)
unfoldable pub is_day : (year month day : ℕ) → Bool
is_day year month day = leb 1 month && leb month 12 && leb 1 day && leb day (days_of_month year month)

-- "Date: eight digits"
unfoldable pub date_of : List ℕ → Value
date_of s =
    refuse (not (is_digits 8 8 s)) (wrong 13)
    (refuse
    (not (is_day (digits_value (take 4 s)) (digits_value (take 2 (drop 4 s))) (digits_value (drop 6 s))))
    (wrong 14)
    (pair (pos 1) (pos (digits_value s))))

-- "Enumeration: 1 to 18 digits, below the count of leaves"
unfoldable pub enumeration_of : ℕ → List ℕ → Value
enumeration_of leaves s =
    refuse (not (is_digits 1 18 s)) (wrong 13)
    (refuse (not (ltb (digits_value s) leaves)) (wrong 14)
    (pair (pos 1) (pos (digits_value s))))

-- ## Identification, reference, text

-- "Text: 1 plus length, start"
unfoldable pub stretch_of : Field → Value
stretch_of f = pair (pos (1 + length f.bytes)) (pos f.start)

unfoldable pub text_of : ℕ → Field → Value
text_of longest f =
    refuse (not (every text_byte f.bytes)) (wrong 13)
    (refuse (ltb longest (length f.bytes)) (wrong 14)
    (stretch_of f))

-- the shape of an identification; "Equal means equal bytes"
unfoldable pub is_identification : List ℕ → Bool
is_identification s = every text_byte s

unfoldable pub same_identification : List ℕ → List ℕ → Bool
same_identification s t = same s t

-- a reference's cells while lines are read: as of a text; the object's number comes when all lines are read
unfoldable pub reference_of : Field → Value
reference_of f = refuse (not (is_identification f.bytes)) (wrong 13) (stretch_of f)

-- ## A field of an OBJE line, by its attribute's type

-- coordinates come component by component, as numbers, and lines have no field
unfoldable pub value_of : AttributeType → Field → Value
value_of (Reference t) f = reference_of f
value_of (Coordinate cs) f = wrong 13
value_of (Number c) f = number_of c f.bytes
value_of (Text longest) f = text_of longest f
value_of Date f = date_of f.bytes
value_of (Enumeration leaves) f = enumeration_of leaves f.bytes
value_of (Line forms cs) f = wrong 13

-- ## Undefined

-- "A field that is the undefined byte alone is undefined"
unfoldable pub is_undefined : ℕ → Field → Bool
is_undefined u f = same f.bytes (u ∷ [])

-- "Two undefined bytes as a field"
unfoldable pub is_undefined_twice : ℕ → Field → Bool
is_undefined_twice u f = same f.bytes (u ∷ u ∷ [])
