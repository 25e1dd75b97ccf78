-- A line's cuts: byte by byte, and by their count and places.
use Rattle.std.specs.Prelude.{ℕ, zero, suc, ◌+◌, ◌*◌, ◌-◌, ◌≤◌, ◌<◌, ◌≡◌, Bool, List, [], ◌∷◌, ◌++◌, length, take, drop}
use Rattle.meaning.specs.Bytes.{choose, ends, cont}
use Rattle.meaning.specs.Width.{goes_whole}

-- a cut: the mark, the line's end, and CONT with its space before the next part
abbrev pub cut_bytes : (mark : ℕ) → List ℕ
cut_bytes mark = mark ∷ 0x0a ∷ cont

-- "Else as many bytes as fit before a mark, then the mark", byte by byte: the rest of a line, of which `left` bytes
-- more stand before the next mark.
-- Behind CONT and a space a line has room for width - 5 bytes: the whole rest, or width - 6 bytes of it and the mark.
-- The first of these is written together with CONT, so width - 7 are left behind it.
unfoldable pub cut_rest : (mark width left : ℕ) → List ℕ → List ℕ
cut_rest mark width left [] = cut_bytes mark ++ (0x0a ∷ [])
cut_rest mark width (suc left) (b ∷ rest) = b ∷ cut_rest mark width left rest
cut_rest mark width zero (b ∷ rest) =
    let others : List ℕ = cut_rest mark width (width - 7) rest in
    cut_bytes mark ++ choose (goes_whole mark (width - 5) (b ∷ rest)) ((b ∷ rest) ++ (0x0a ∷ [])) (b ∷ others)

-- l, cut so many times, and what stands behind it: the last cut lies behind `last` bytes of l, each other `step` bytes
-- before the next
unfoldable pub with_cuts : (mark step count last : ℕ) (l behind : List ℕ) → List ℕ
with_cuts mark step zero last l behind = l ++ behind
with_cuts mark step (suc count) last l behind =
    with_cuts mark step count (last - step) (take last l) (cut_bytes mark ++ (drop last l ++ behind))

-- "the rest goes out whole if it fits the width .. and does not end in the mark": what the last part of l has room for
unfoldable pub last_room : (mark room : ℕ) → List ℕ → ℕ
last_room mark room l = choose (ends mark l) 0 room

-- the cuts of a line of so many bytes that does not go out whole, by whether it ends in the mark: their count, and
-- behind how many bytes the last lies
pub record CutsCounted (width size : ℕ) (ended : Bool) (count last : ℕ) : Type 0 where
  pub cut : (mark : ℕ) (l : List ℕ) → length l ≡ size → ends mark l ≡ ended
      → cut_rest mark width (width - 1) l ≡ with_cuts mark (width - 6) count last l (0x0a ∷ [])
  pub placed : last ≡ 5 + count * (width - 6)
  pub few : 10 * count ≤ last
  pub near : last < size + width
