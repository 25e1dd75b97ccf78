-- What a cut of lines is (01, "What the statements have to settle"): "A cut is defined forwards, from lines, parts,
-- marks and line ends".
-- It names nothing of unfolding.
use Rattle.std.specs.Prelude.{ℕ, ◌≤◌, ◌≡◌, true, false, List, [], ◌∷◌, ◌++◌}
use Rattle.meaning.specs.Bytes.{cont, ends, all_permitted}

-- a line end: LF, or CR LF
pub data End : List ℕ → Type 0 where
  lf : End (0x0a ∷ [])
  crlf : End (0x0d ∷ 0x0a ∷ [])

-- f is a cut of the lines ls, whose bytes are all permitted, with this mark
--   last   the last part of the first line, which does not end in the mark, its line end, and a cut of the other lines
-- more   a part of the first line, the mark, a line end, CONT and a space, and a cut of the line's rest and the other
-- lines
pub data Cut (mark : ℕ) : List (List ℕ) → List ℕ → Type 0 where
  done : Cut mark [] []
  last : (p : List ℕ) {e f : List ℕ} {ls : List (List ℕ)} → all_permitted p ≡ true → ends mark p ≡ false → End e
      → Cut mark ls f → Cut mark (p ∷ ls) (p ++ (e ++ f))
  more : (p : List ℕ) {e l f : List ℕ} {ls : List (List ℕ)} → all_permitted p ≡ true → End e → Cut mark (l ∷ ls) f
      → Cut mark ((p ++ l) ∷ ls) (p ++ (mark ∷ e ++ (cont ++ f)))

-- a mark stands in 21 to 7E hex
pub record Mark (mark : ℕ) : Type 0 where
  pub low : 0x21 ≤ mark
  pub high : mark ≤ 0x7e

-- each line's bytes are permitted
abbrev pub Permitted : List (List ℕ) → Type 0
Permitted [] = Unit {0}
Permitted (l ∷ ls) = (all_permitted l ≡ true) × Permitted ls
