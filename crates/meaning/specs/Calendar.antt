-- The calendar (02, request 1), computed: days read and written, and the calendar's own figures.
use Rattle.std.specs.Prelude.{ℕ, zero, suc, ◌+◌, ◌≡◌, refl, Bool, ◌&&◌, List, [], ◌∷◌, ◌++◌, leb, ℤ, pos, negsuc}
use Rattle.std.specs.Prelude.{get_or}
use Prim.Native.String.{String}
use Rattle.meaning.specs.Bytes.{bytes_of, choose}
use Rattle.meaning.specs.Answer.{accepted, refusal}
use Rattle.meaning.specs.Value.{is_leap_year, days_of_month, is_day}
use Rattle.meaning.specs.Writing.{Lent}
use Rattle.meaning.specs.Width.{Written}
use Rattle.meaning.specs.Compute.{compute_write}
use Rattle.meaning.specs.Neighbours.{date_model, prints_dated}

-- ## Days read, as line 7 under the model of dates

unfoldable pub prints_day : String → List ℕ
unfolding prints_dated
prints_day line7 = prints_dated "Abcdefghijklmnopqrstuvwx" line7

pub days_read :
    (prints_day "OBJE a 20000229 x y"
    ∷ prints_day "OBJE a 19000229 x y"
    ∷ prints_day "OBJE a 00000229 x y"
    ∷ prints_day "OBJE a 00000230 x y"
    ∷ prints_day "OBJE a 15000229 x y"
    ∷ prints_day "OBJE a 20000431 x y"
    -- the surveyor's, and one that is no date
    ∷ prints_day "OBJE a 19990231 x y"
    ∷ prints_day "OBJE a 1999023x x y"
    -- the rule is one for every year: no day is left out in October 1582
    ∷ prints_day "OBJE a 15821010 x y"
    ∷ prints_day "OBJE a 99991231 x y"
    ∷ [])
    ≡ (bytes_of "0 1 9 0\n0 66 1 1 20000229 2 77 2 79\n"
    ∷ bytes_of "14 7 3 0\n"
    ∷ bytes_of "0 1 9 0\n0 66 1 1 229 2 77 2 79\n"
    ∷ bytes_of "14 7 3 0\n"
    ∷ bytes_of "14 7 3 0\n"
    ∷ bytes_of "14 7 3 0\n"
    ∷ bytes_of "14 7 3 0\n"
    ∷ bytes_of "13 7 3 0\n"
    ∷ bytes_of "0 1 9 0\n0 66 1 1 15821010 2 77 2 79\n"
    ∷ bytes_of "0 1 9 0\n0 66 1 1 99991231 2 77 2 79\n"
    ∷ [])
unfolding prints_day
days_read = refl

-- ## Days written

-- the table of one object with this date
abbrev pub lent_day : ℤ → Lent
lent_day day = record {
  text = bytes_of "axy";
  marks = 1 ∷ 1 ∷ [];
  rows = 0 ∷ [];
  cells = pos 0 ∷ pos 0 ∷ pos 1 ∷ pos 1 ∷ day ∷ pos 2 ∷ pos 1 ∷ pos 2 ∷ pos 2 ∷ [];
  points = [];
  objects = 1;
  cell_count = 9;
  point_count = 0;
}

unfoldable pub writes_day : ℤ → Written
unfolding compute_write date_model
writes_day day = compute_write date_model (lent_day day) 80 102

pub day_written : writes_day (pos 229) ≡ record {
  answer = accepted 101 0 0;
  output = bytes_of "SCNT\n////\nMTID T\nMODL M\nTOPI Abcdefghijklmnopqrstuvwx\nTABL A\nOBJE a 00000229 x y\n"
      ++ bytes_of "ETAB\nETOP\nEMOD\nENDE\n" ++ (0 ∷ []);
}
unfolding writes_day
day_written = refl

-- "a table that holds one is 19" (02, 1)
pub days_refused :
    ((writes_day (pos 19000229)).answer
    ∷ (writes_day (pos 19990231)).answer
    ∷ (writes_day (pos 230)).answer
    ∷ (writes_day (pos 0)).answer
    ∷ (writes_day (pos 100000101)).answer
    ∷ (writes_day (negsuc 20000228)).answer
    ∷ [])
    ≡ (refusal 19 0 0
    ∷ refusal 19 0 0
    ∷ refusal 19 0 0
    ∷ refusal 19 0 0
    ∷ refusal 19 0 0
    ∷ refusal 19 0 0
    ∷ [])
unfolding writes_day
days_refused = refl

-- ## Which days exist, by the calendar's own figures
-- The claims LeapYears and DaysAlike (ValueClaims) carry `every_day` from these two years to every year.

-- f 0 plus f 1 and so on, up to f of the number before n
unfoldable pub sum_below : (ℕ → ℕ) → ℕ → ℕ
sum_below f zero = 0
sum_below f (suc n) = f n + sum_below f n

-- the last day of each month in a common year and in a leap year; there is no month 00
abbrev pub common_year : List ℕ
common_year = 0 ∷ 31 ∷ 28 ∷ 31 ∷ 30 ∷ 31 ∷ 30 ∷ 31 ∷ 31 ∷ 30 ∷ 31 ∷ 30 ∷ 31 ∷ []

abbrev pub leap_year : List ℕ
leap_year = 0 ∷ 31 ∷ 29 ∷ 31 ∷ 30 ∷ 31 ∷ 30 ∷ 31 ∷ 31 ∷ 30 ∷ 31 ∷ 30 ∷ 31 ∷ []

-- 1 where the year has this day and the list does not, or the list has it and the year does not
unfoldable pub differs : (year month day : ℕ) → List ℕ → ℕ
unfolding choose is_day days_of_month is_leap_year
differs year month day lasts =
    let listed : Bool = leb 1 day && leb day (get_or lasts month 0) in
    choose (is_day year month day) (choose listed 0 1) (choose listed 1 0)

-- of all months and days of two digits
unfoldable pub differences : ℕ → List ℕ → ℕ
unfolding sum_below differs
differences year lasts = sum_below (λ month. sum_below (λ day. differs year month day lasts) 100) 100

pub every_day : (differences 1999 common_year ∷ differences 2000 leap_year ∷ []) ≡ (0 ∷ 0 ∷ [])
unfolding differences
every_day = refl

-- of the years 0 to 399, 97 are leap years
pub leap_years : sum_below (λ year. choose (is_leap_year year) 1 0) 400 ≡ 97
unfolding sum_below choose is_leap_year
leap_years = refl

-- the months of the years 0 to 399 have 146,097 days in all
pub days : sum_below (λ year. sum_below (λ n. days_of_month year (n + 1)) 12) 400 ≡ 146097
unfolding sum_below choose days_of_month is_leap_year
days = refl
