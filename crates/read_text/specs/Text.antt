-- The lines of an unfolded text, in which each line is followed by one LF.
use Rattle.std.specs.Prelude.{ℕ, suc, List, [], ◌∷◌, Bool, true, false, eqb}
use Rattle.meaning.specs.Bytes.{choose}

-- a byte before some lines: an LF ends an empty line, another byte stands in the first line
unfoldable pub add_byte : Bool → ℕ → List (List ℕ) → List (List ℕ)
add_byte true b ls = [] ∷ ls
add_byte false b [] = (b ∷ []) ∷ []
add_byte false b (l ∷ ls) = (b ∷ l) ∷ ls

unfoldable pub lines_of : List ℕ → List (List ℕ)
lines_of [] = []
lines_of (b ∷ s) = add_byte (eqb b 0x0a) b (lines_of s)

-- the count of bytes before the first LF, or of all
unfoldable pub line_end : List ℕ → ℕ
line_end [] = 0
line_end (b ∷ s) = choose (eqb b 0x0a) 0 (suc (line_end s))
