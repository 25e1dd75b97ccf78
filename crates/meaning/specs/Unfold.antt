-- Unfolding (01, "Unfolding"): a file's bytes, its physical lines, and the logical lines that they are unfolded to.
unfoldable pub use
    Rattle.meaning.specs.Bytes.{choose, refuse, permitted, every, all_permitted, ends, without_last, cont, prefix}
use Rattle.std.specs.Prelude.{ℕ, ◌+◌, Bool, true, false, not, ◌&&◌, List, [], ◌∷◌, ◌++◌, drop, eqb}

-- ## Physical lines

-- l without its last byte, where the test holds
unfoldable pub without_last_if : Bool → List ℕ → List ℕ
without_last_if true l = without_last l
without_last_if false l = l

-- a file is its physical lines, each without its line end, and then the bytes behind the last LF
pub data Physical : Type 0 where
  tail : List ℕ → Physical
  line : List ℕ → Physical → Physical

-- a byte that stands in the first line
unfoldable pub add : ℕ → Physical → Physical
add b (tail l) = tail (b ∷ l)
add b (line l p) = line (b ∷ l) p

-- "A physical line ends in LF"; behind the last one is the tail
unfoldable pub split_at_lf : List ℕ → Physical
split_at_lf [] = tail []
split_at_lf (b ∷ f) = choose (eqb b 0x0a) (line [] (split_at_lf f)) (add b (split_at_lf f))

-- "one CR directly before it belongs to the end"
unfoldable pub without_cr : Physical → Physical
without_cr (tail l) = tail l
without_cr (line l p) = line (without_last_if (ends 0x0d l) l) (without_cr p)

unfoldable pub physical : List ℕ → Physical
physical f = without_cr (split_at_lf f)

-- no byte and no line left
unfoldable pub none : Physical → Bool
none (tail []) = true
none (tail (b ∷ l)) = false
none (line l p) = false

-- ## Logical lines

-- the logical lines, or the first fault: its number, and the logical line where it is found
pub data Unfolded : Type 0 where
  lines : List (List ℕ) → Unfolded
  fault : ℕ → ℕ → Unfolded

-- a part of a line before what the rest of the file is unfolded to: of the same line where it is continued (there is
-- one then), and a line of its own where not
unfoldable pub put : Bool → List ℕ → Unfolded → Unfolded
put continued p (fault k n) = fault k n
put false p (lines ls) = lines (p ∷ ls)
put true p (lines []) = lines (p ∷ [])
put true p (lines (l ∷ ls)) = lines ((p ++ l) ∷ ls)

-- what is left of a physical line: without CONT and the space where it continues one
unfoldable pub drop_if : Bool → ℕ → List ℕ → List ℕ
drop_if true k l = drop k l
drop_if false k l = l

unfoldable pub next : Bool → ℕ → ℕ
next true n = n
next false n = n + 1

-- the physical lines p from logical line n on, whose first continues line n or not; where a line continues another and
-- none is left, 3 was given before
unfoldable pub unfold_lines : (mark n : ℕ) (continues : Bool) → Physical → Unfolded
unfold_lines mark n true (tail []) = fault 3 n
unfold_lines mark n false (tail []) = lines []
unfold_lines mark n continues (tail (b ∷ l)) = fault 3 n
unfold_lines mark n continues (line l p) =
    let continued : Bool = ends mark l in
    let others : Unfolded = unfold_lines mark (next continued n) continued p in
    refuse (continued && none p) (fault 3 n)
    (refuse (continues && not (prefix cont l)) (fault 5 n)
    (refuse (not (all_permitted l)) (fault 4 n)
    (put continued (without_last_if continued (drop_if continues 5 l)) others)))

unfoldable pub unfold_file : (mark : ℕ) → List ℕ → Unfolded
unfold_file mark f = unfold_lines mark 1 false (physical f)

-- "The unfolded text is each logical line followed by one LF"
unfoldable pub unfolded_text : List (List ℕ) → List ℕ
unfolded_text [] = []
unfolded_text (l ∷ ls) = l ++ (0x0a ∷ unfolded_text ls)
