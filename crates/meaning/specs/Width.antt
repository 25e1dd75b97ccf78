-- The cut to a width, and the call of writing (01, "Writing" and "Refusal numbers").
use Rattle.std.specs.Prelude.{ℕ, zero, suc, ◌+◌, ◌-◌, Bool, not, ◌&&◌, ◌||◌, List, [], ◌∷◌, ◌++◌, leb, ltb, length}
use Rattle.std.specs.Prelude.{take, drop, replicate}
use Rattle.meaning.specs.Bytes.{choose, refuse, ends, cont}
use Rattle.meaning.specs.Check.{Checked, good, bad, check_model}
use Rattle.meaning.specs.Answer.{Answer, accepted, refusal, filled}
use Rattle.meaning.specs.Writing.{Lent, content_of, lines_of}
use Rattle.meaning.specs.Readback.{is_table}

-- ## The cut to a width

-- "the rest goes out whole if it fits the width .. and does not end in the mark"
unfoldable pub goes_whole : (mark room : ℕ) → List ℕ → Bool
goes_whole mark room rest = leb (length rest) room && not (ends mark rest)

-- "the rest goes out whole if it fits the width .. and does not end in the mark. Else as many bytes as fit before a
-- mark, then the mark", and CONT and a space before the next rest: the rest of a line, for which the physical line has
-- room for so many bytes; behind CONT and a space there is room for 5 less than the width. `cuts` counts the cuts, and
-- at a permitted width it is never used up: each cut takes a byte at least, and one more may follow the last byte. At
-- width 16 the 18 bytes `OBJE a bcdefghijk` and a mark are cut to
--   `OBJE a bcdefghi\`   15 bytes and the mark
--   `CONT jk\\`          the rest, which ends in the mark, and the mark
--   `CONT `              no byte is left
unfoldable pub cut_in : (cuts mark width room : ℕ) → List ℕ → List ℕ
cut_in zero mark width room rest = []
cut_in (suc cuts) mark width room rest =
    choose (goes_whole mark room rest) (rest ++ (0x0a ∷ []))
    (take (room - 1) rest ++ (mark ∷ 0x0a ∷ (cont ++ cut_in cuts mark width (width - 5) (drop (room - 1) rest))))

-- "A line is cut only where needed"
unfoldable pub cut_line : (mark width : ℕ) → List ℕ → List ℕ
cut_line mark width l = cut_in (length l + 2) mark width width l

unfoldable pub cut_lines : (mark width : ℕ) → List (List ℕ) → List ℕ
cut_lines mark width [] = []
cut_lines mark width (l ∷ ls) = cut_line mark width l ++ cut_lines mark width ls

-- ## The call

-- an answer, and the content of the output room
pub record Written : Type 0 where
  pub answer : Answer
  pub output : List ℕ

abbrev pub writing_refused : (room number at : ℕ) → Written
writing_refused room number at = record { answer = refusal number at 0; output = replicate room 0 }

-- 21: "output room or 16,777,216 too small"; "success gives 0, bytes written, 0, 0"
unfoldable pub write_bytes : (room : ℕ) (file : List ℕ) → Written
write_bytes room file =
    refuse (ltb room (length file) || ltb 16777216 (length file)) (writing_refused room 21 0)
    (record { answer = accepted (length file) 0 0; output = filled 0 room file })

-- "In writing: 2, 20, 19, 21"
unfoldable pub write_checked : Lent → (width room : ℕ) → Checked → Written
write_checked t width room (bad at) = writing_refused room 2 at
write_checked t width room (good m) =
    refuse (ltb width 16 || ltb 65535 width) (writing_refused room 20 0)
    (refuse (not (is_table m t)) (writing_refused room 19 0)
    (write_bytes room (cut_lines m.mark width (lines_of m t.text (content_of m t)))))

-- writing a lent table under a model, at a width, into a room
unfoldable pub write : (model : List ℕ) → Lent → (width room : ℕ) → Written
write model t width room = write_checked t width room (check_model model)
