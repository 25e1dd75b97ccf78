-- How long lines are: a line against its fields, and the lines of a file against its bytes. Assumes nothing.
use Prim.Native.Nat.{ℕ, ◌+◌, ◌*◌, ◌≤◌}
use native.Mathlib.Omega.{arith}
use mathlib.Core.Path.{◌≡◌, refl, subst}
use mathlib.Core.Bool.{Bool, true, false, not}
use mathlib.Core.List.{List, [], ◌∷◌, ◌++◌}
use lib.ListN.{length, length-append}
use Rattle.meaning.specs.Bytes.{choose, separator}
use Rattle.meaning.specs.Unfold.{unfolded_text}
use Rattle.meaning.specs.Field.{Field, goes_on, add_to_fields, fields_of}
use Rattle.meaning.specs.Right.{Line, with_starts, Coded}

-- ## A line and its fields

-- each field has a byte
abbrev NotEmpty : List Field → Type 0
NotEmpty [] = Unit {0}
NotEmpty (f ∷ fs) = (1 ≤ length f.bytes) × NotEmpty fs

fields_not_empty : (start : ℕ) (l : List ℕ) → NotEmpty (fields_of start l)
unfolding fields_of add_to_fields
fields_not_empty start [] = tt
fields_not_empty start (b ∷ l) = by (separator b) (goes_on l) (fields_of (start + 1) l) (fields_not_empty (start + 1) l)
  where
    by : (s g : Bool) (fs : List Field) → NotEmpty fs → NotEmpty (add_to_fields s g start b fs)
    by true g fs h = h
    by false false fs h = (omega arith, h)
    by false true [] h = (omega arith, h)
    by false true (f ∷ fs) h = (omega arith, h.1)

-- the bytes of fields, each with a separator behind it
unfoldable pub bytes_with : List Field → ℕ
bytes_with [] = 0
bytes_with (f ∷ fs) = length f.bytes + 1 + bytes_with fs

-- a line is as long as its fields with a separator each, but for the last one's
fields_long : (start : ℕ) (l : List ℕ) → bytes_with (fields_of start l) ≤ length l + choose (goes_on l) 1 0
unfolding fields_of add_to_fields bytes_with choose goes_on
fields_long start [] = omega arith
fields_long start (b ∷ l) = by (separator b) (goes_on l) (fields_of (start + 1) l) (fields_long (start + 1) l)
  where
    by : (s g : Bool) (fs : List Field) → bytes_with fs ≤ length l + choose g 1 0 → bytes_with (add_to_fields s g start b fs) ≤ length (b ∷ l) + choose (not s) 1 0
    by true true fs h = omega arith
    by true false fs h = omega arith
    by false false fs h = omega arith
    by false true [] h = omega arith
    by false true (f ∷ fs) h = omega arith

-- so many fields, each of one byte at least
fields_few : (fs : List Field) → NotEmpty fs → 2 * length fs ≤ bytes_with fs
unfolding bytes_with
fields_few [] h = omega arith
fields_few (f ∷ fs) h = omega (arith, h.0, fields_few fs h.1)

-- a code and so many other fields
pub coded_long : {code : List ℕ} {l : Line} {others : List Field} → Coded code l others → length code + 2 * length others ≤ length l.bytes
unfolding bytes_with choose
coded_long {code} {l} {others} c = by (goes_on l.bytes) (fields_long l.start l.bytes)
  where
    few : NotEmpty (fields_of l.start l.bytes) → 2 * length others ≤ bytes_with others
    few h = fields_few others (subst NotEmpty c.fields h).1

    by : (g : Bool) → bytes_with (fields_of l.start l.bytes) ≤ length l.bytes + choose g 1 0 → length code + 2 * length others ≤ length l.bytes
    by true h = omega (arith, rw (c.fields, c.reads) at h, few (fields_not_empty l.start l.bytes))
    by false h = omega (arith, rw (c.fields, c.reads) at h, few (fields_not_empty l.start l.bytes))

-- ## Lines and the text

-- the bytes of lines, each with its LF
unfoldable pub bytes_in : List Line → ℕ
bytes_in [] = 0
bytes_in (l ∷ ls) = length l.bytes + 1 + bytes_in ls

pub bytes_behind : (ls : List Line) (l : Line) → bytes_in (ls ++ (l ∷ [])) ≡ bytes_in ls + (length l.bytes + 1)
unfolding bytes_in
bytes_behind [] l = omega arith
bytes_behind (k ∷ ls) l = rw (bytes_behind ls l) (omega arith)

pub bytes_text : (start : ℕ) (ls : List (List ℕ)) → bytes_in (with_starts start ls) ≡ length (unfolded_text ls)
unfolding bytes_in with_starts unfolded_text
bytes_text start [] = refl
bytes_text start (l ∷ ls) = rw (bytes_text (start + length l + 1) ls, length-append l (0x0a ∷ unfolded_text ls)) (omega arith)

-- lines that begin others
pub text_begins : (before : List (List ℕ)) (l : List ℕ) (after : List (List ℕ)) → length (unfolded_text before) + (length l + 1) ≤ length (unfolded_text (before ++ (l ∷ after)))
unfolding unfolded_text
text_begins [] l after = rw (length-append l (0x0a ∷ unfolded_text after)) (omega arith)
text_begins (k ∷ before) l after =
    rw (length-append k (0x0a ∷ unfolded_text before), length-append k (0x0a ∷ unfolded_text (before ++ (l ∷ after)))) (omega (arith, text_begins before l after))
