-- Fields and values by a grammar (01, "Lines and fields"): a second statement beside `Field` and `Value`, of which it
-- names the record of a field, the bounds (`within`) and the days (`is_day`). ValueClaims says that both are the same.
use Rattle.std.specs.Prelude.{ℕ, suc, ◌+◌, ◌*◌, ◌-◌, ◌^◌, ◌≤◌, ◌≡◌, true, not, List, [], ◌∷◌, ◌++◌, ℤ, pos, neg_ℤ}
use Rattle.std.specs.Prelude.{length, take, drop}
use Rattle.std.specs.Int.Signed.{lt_z}
use Rattle.meaning.specs.Bytes.{separator, digit, text_byte, every}
use Rattle.meaning.specs.Model.{Component, AttributeType, Reference, Coordinate, Number, Text, Date, Enumeration}
use Rattle.meaning.specs.Model.{Line}
use Rattle.meaning.specs.Field.{Field}
use Rattle.meaning.specs.Value.{within, is_day}

-- ## Fields

-- a run ends where the line does, or before a separator
pub data RunEnds : List ℕ → Type 0 where
  at_end : RunEnds []
  at_separator : {b : ℕ} {l : List ℕ} → separator b ≡ true → RunEnds (b ∷ l)

-- "Fields are longest runs without space or tab": the fields of a line that starts at `start`
pub data Runs : (start : ℕ) → List ℕ → List Field → Type 0 where
  none : {start : ℕ} → Runs start [] []
  apart : {start b : ℕ} {l : List ℕ} {fs : List Field} → separator b ≡ true → Runs (start + 1) l fs
      → Runs start (b ∷ l) fs
  run : {start : ℕ} (r : List ℕ) {l : List ℕ} {fs : List Field} → 1 ≤ length r
      → every (λ b. not (separator b)) r ≡ true → RunEnds l → Runs (start + length r) l fs
      → Runs start (r ++ l) (record { start = start; bytes = r } ∷ fs)

-- ## Numbers

-- so many digits at least, and so many at most
pub record Digits (least most : ℕ) (s : List ℕ) : Type 0 where
  pub at_least : least ≤ length s
  pub at_most : length s ≤ most
  pub digits : every digit s ≡ true

-- the value of digits, each by its place
unfoldable pub place_value : List ℕ → ℕ
place_value [] = 0
place_value (b ∷ s) = (b - 0x30) * 10 ^ length s + place_value s

-- "optional + or -"
pub data Signed : (sign : List ℕ) (n : ℕ) → ℤ → Type 0 where
  unsigned : {n : ℕ} → Signed [] n (pos n)
  plus : {n : ℕ} → Signed (0x2b ∷ []) n (pos n)
  minus : {n : ℕ} → Signed (0x2d ∷ []) n (neg_ℤ (pos n))

-- "then if decimals are above 0 a point and exactly so many digits": what stands behind the digits before the point,
-- and its digits
pub data Decimals : (decimals : ℕ) (behind digits : List ℕ) → Type 0 where
  none : Decimals 0 [] []
  some : {d : ℕ} {digits : List ℕ} → Digits (suc d) (suc d) digits → Decimals (suc d) (0x2e ∷ digits) digits

-- "Number: optional + or -, at least one digit, then if decimals are above 0 a point and exactly so many digits; at
-- most 18 digits in all", and its value: "480000.00 is 48000000"
pub record Numeral (decimals : ℕ) (s : List ℕ) (v : ℤ) : Type 0 where
  pub sign : List ℕ
  pub whole : List ℕ
  pub behind : List ℕ
  pub fraction : List ℕ
  pub is : s ≡ sign ++ (whole ++ behind)
  pub digits : Digits 1 18 whole
  pub point : Decimals decimals behind fraction
  pub few : length whole + decimals ≤ 18
  pub value : Signed sign (place_value (whole ++ fraction)) v

-- ## Values by their types

-- these bytes have the shape of a type's values, and which value is theirs: a number, or the length of a text. Of
-- coordinates the components have one, as numbers, and lines have none
pub data Shape : AttributeType → List ℕ → ℤ → Type 0 where
  number : {c : Component} {s : List ℕ} {v : ℤ} → Numeral c.decimals s v → Shape (Number c) s v
  -- "Date: eight digits"
  date : {s : List ℕ} → Digits 8 8 s → Shape Date s (pos (place_value s))
  -- "Enumeration: 1 to 18 digits"
  enumeration : {leaves : ℕ} {s : List ℕ} → Digits 1 18 s → Shape (Enumeration leaves) s (pos (place_value s))
  -- "Identification, reference, text: bytes 21 to 7E, C0 to FF without D7 and F7"
  text : {longest : ℕ} {s : List ℕ} → every text_byte s ≡ true → Shape (Text longest) s (pos (length s))
  reference : {target : ℕ} {s : List ℕ} → every text_byte s ≡ true → Shape (Reference target) s (pos (length s))

-- a value of a type's shape lies in its domain
abbrev pub InDomain : AttributeType → List ℕ → ℤ → Type 0
InDomain (Reference t) s v = Unit {0}
InDomain (Coordinate cs) s v = Unit {0}
InDomain (Number c) s v = within c v ≡ true
InDomain (Text longest) s v = length s ≤ longest
InDomain Date s v =
    is_day (place_value (take 4 s)) (place_value (take 2 (drop 4 s))) (place_value (drop 6 s)) ≡ true
InDomain (Enumeration leaves) s v = lt_z v (pos leaves) ≡ true
InDomain (Line forms cs) s v = Unit {0}

-- 13: "field has wrong shape"
abbrev pub WrongShape : AttributeType → List ℕ → Type 0
WrongShape type s = (v : ℤ) → Shape type s v → ⊥

-- 14: "outside its domain, text too long"
pub record OutsideDomain (type : AttributeType) (s : List ℕ) : Type 0 where
  pub value : ℤ
  pub shape : Shape type s value
  pub outside : InDomain type s value → ⊥

-- shape and domain are right
pub record RightValue (type : AttributeType) (s : List ℕ) : Type 0 where
  pub value : ℤ
  pub shape : Shape type s value
  pub domain : InDomain type s value
