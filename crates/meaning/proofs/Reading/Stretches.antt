-- Where fields stand: each field of a line is the stretch of the text from its start on. Assumes nothing.
use Prim.Native.Nat.{ℕ, ◌+◌}
use native.Mathlib.Omega.{arith}
use mathlib.Core.Path.{◌≡◌, refl, sym, ap, ◌∙◌}
use mathlib.Core.Bool.{Bool, true, false, not, false≢true}
use mathlib.Core.List.{List, [], ◌∷◌, ◌++◌}
use lib.IntN.{pos}
use lib.ListN.{length, take, drop}
use lib.Seq.{drop-drop, drop-append_seam}
use borrow.Author.Tests.{le-ltb}
use Rattle.meaning.specs.Bytes.{choose, separator}
use Rattle.meaning.specs.Unfold.{unfolded_text}
use Rattle.meaning.specs.Field.{Field, goes_on, add_to_fields, fields_of}
use Rattle.meaning.specs.Reading.{stretch}
use Rattle.meaning.specs.Writing.{stretch_bytes}

-- each of these fields stands in the text where it says
abbrev pub AllStand : (text : List ℕ) → List Field → Type 0
AllStand text [] = Unit {0}
AllStand text (f ∷ fs) = (stretch text f.start (length f.bytes) ≡ f.bytes) × AllStand text fs

-- where the first of some fields starts
abbrev StartsAt : ℕ → List Field → Type 0
StartsAt start [] = Unit {0}
StartsAt start (f ∷ fs) = f.start ≡ start

first_start : (start : ℕ) (l : List ℕ) → goes_on l ≡ true → StartsAt start (fields_of start l)
unfolding fields_of goes_on add_to_fields
first_start start [] h = tt
first_start start (b ∷ l) h = by (separator b) h (goes_on l) (fields_of (start + 1) l)
  where
    by : (s : Bool) → not s ≡ true → (g : Bool) (fs : List Field) → StartsAt start (add_to_fields s g start b fs)
    by true h g fs = absurd (false≢true h)
    by false h false fs = refl
    by false h true [] = refl
    by false h true (f ∷ fs) = refl

module _ (text rest : List ℕ) where
  -- one byte on
  next_byte : (start b : ℕ) (l : List ℕ) → drop start text ≡ b ∷ (l ++ rest) → drop (start + 1) text ≡ l ++ rest
  next_byte start b l e = sym (drop-drop 1 start text) ∙ ap (drop 1) e

  pub fields_stand_lem : (start : ℕ) (l : List ℕ) → drop start text ≡ l ++ rest → AllStand text (fields_of start l)
  unfolding fields_of add_to_fields
  fields_stand_lem start [] e = tt
  fields_stand_lem start (b ∷ l) e =
      by (separator b) (goes_on l) refl (fields_of (start + 1) l) (fields_stand_lem (start + 1) l (next_byte start b l e)) (first_start (start + 1) l)
    where
      by : (s g : Bool) → goes_on l ≡ g → (fs : List Field) → AllStand text fs → (goes_on l ≡ true → StartsAt (start + 1) fs) → AllStand text (add_to_fields s g start b fs)
      by true g p fs h k = h
      by false false p fs h k = (rw e, h)
      by false true p [] h k = (rw e, tt)
      by false true p (f ∷ fs) h k =
          let at : f.start ≡ start + 1 = k p in
          let there : take (length f.bytes) (l ++ rest) ≡ f.bytes = rw (at, next_byte start b l e) at h.0 in
          (rw (e, there), h.1)

-- the text behind a line
pub text_behind : (text : List ℕ) (start : ℕ) (l : List ℕ) (ls : List (List ℕ)) → drop start text ≡ unfolded_text (l ∷ ls) → drop (start + length l + 1) text ≡ unfolded_text ls
unfolding unfolded_text
text_behind text start l ls e =
    let z : start + length l + 1 ≡ start + (length l + 1) = omega arith in
    rw (z, ← drop-drop (length l + 1) start text, e, ← drop-drop 1 (length l) (l ++ (0x0a ∷ unfolded_text ls)), drop-append_seam l (0x0a ∷ unfolded_text ls))

-- and the fields of the line
pub line_stands : (text : List ℕ) (start : ℕ) (l : List ℕ) (ls : List (List ℕ)) → drop start text ≡ unfolded_text (l ∷ ls) → AllStand text (fields_of start l)
unfolding unfolded_text
line_stands text start l ls e = fields_stand_lem text (0x0a ∷ unfolded_text ls) start l e

-- a stretch of a lent text, where its start is not below 0
pub stretch_pos : (l : List ℕ) (start size : ℕ) → stretch_bytes l (pos start) size ≡ stretch l start size
unfolding stretch_bytes choose
stretch_pos l start size = rw (le-ltb start 0 (omega arith))
