-- What it is to put bytes into a lent room, behind those that were put before.
use Rattle.std.specs.Prelude.{ℕ, ◌+◌, ◌≤◌, ◌<◌, min, ◌≡◌, List, [], ◌∷◌, length}
use Rattle.std.proofs.lemmas.List.Edits.{sets}
use Rattle.meaning.specs.Width.{cut_line}
use Rattle.write_lines.specs.declared.Put.{Put}

-- the last byte of bs, or the one before them
unfoldable pub last_in : (before : ℕ) → List ℕ → ℕ
last_in before [] = before
last_in before (b ∷ bs) = last_in b bs

-- the bytes bs are put behind what was put before: they are counted, and they stand there where there is room for all
pub record Puts (bs : List ℕ) (before : Put) (entry exit : List ℕ) (r : Put) : Type 0 where
  pub count : r.count ≡ min 4294967295 (before.count + length bs)
  pub last : r.last ≡ last_in before.last bs
  pub room : length exit ≡ length entry
  pub bytes : before.count + length bs ≤ length entry → length entry < 4294967295
      → exit ≡ sets entry before.count bs

-- whatever line was put behind the first `start` bytes now stands cut to the width, with its end
pub record Ends (mark width start : ℕ) (put : Put) (entry exit : List ℕ) (r : Put) : Type 0 where
  pub ends : (line : List ℕ) (before : Put) (e : List ℕ) → before.count ≡ start → 1 ≤ length line
      → Puts line before e entry put → Puts (cut_line mark width line) before e exit r
