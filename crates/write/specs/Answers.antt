-- The answer of writing, and the room that it leaves.
use Rattle.std.specs.Prelude.{ℕ, ◌*◌, ◌-◌, ◌+◌, ◌≤◌, min, ◌≡◌, not, ◌||◌, List, ◌++◌, ltb, length, take, replicate}
use Rattle.std.specs.Prelude.{Result, Ok, Err}
use Rattle.base.specs.declared.reasons.Reason.{Reason}
use Rattle.base.specs.declared.reasons.Reason.TheVariants.{NoSuchLines, WidthWrong}
use Rattle.base.specs.declared.reasons.Refused.{Refused}
use Rattle.base.specs.Reasons.{number_of}
use Rattle.meaning.specs.Bytes.{refuse}
use Rattle.meaning.specs.Model.{Model}
use Rattle.meaning.specs.Answer as meaning
use Rattle.meaning.specs.Writing.{Lent}
use Rattle.meaning.specs.Readback.{is_table}
use Rattle.meaning.specs.Width.{Written, writing_refused}
use Rattle.write_lines.specs.declared.Put.{Put}

-- "success gives 0, bytes written, 0, 0"
unfoldable pub answer_of : Result ℕ Refused → meaning.Answer
answer_of (Ok bytes) = meaning.accepted bytes 0 0
answer_of (Err r) = meaning.refusal (number_of r.reason) r.first r.second

-- a refusal with no place
unfoldable pub unplaced : Result ℕ Reason → Result ℕ Refused
unplaced (Ok bytes) = Ok bytes
unplaced (Err reason) = Err (record { reason = reason; first = 0; second = 0 })

-- an answer, and what the call leaves in the room of so many bytes: behind a success what stands there; behind a
-- refusal zeros, whatever stands there before `write::write` clears it.
-- "All result buffers are zeroed by every refusal"
unfoldable pub came_to : (room : ℕ) → Result ℕ Refused → (out : List ℕ) → Written
came_to room (Ok bytes) out = record { answer = answer_of (Ok bytes); output = out }
came_to room (Err r) out = record { answer = answer_of (Err r); output = replicate room 0 }

-- 20 and 19, in this order
unfoldable pub refusal_of : Model → Lent → (width : ℕ) → Result (Unit {0}) Reason
refusal_of m t width =
    refuse (ltb width 16 || ltb 65535 width) (Err WidthWrong) (refuse (not (is_table m t)) (Err NoSuchLines) (Ok tt))

-- each count is within its lent length
pub record Fitting (m : Model) (t : Lent) : Type 0 where
  pub marks : length m.topics + length m.tables ≤ length t.marks
  pub rows : t.objects ≤ length t.rows
  pub cells : t.cell_count ≤ length t.cells
  pub points : 4 * t.point_count ≤ length t.points

-- ## The limit of 16,777,216 bytes

-- the file put into the room within the limit: it is measured, and stands there where it fits both
pub record Limited (file entry exit : List ℕ) (r : Put) : Type 0 where
  pub size : r.count ≡ min 4294967295 (length file)
  pub room : length exit ≡ length entry
  pub bytes : length file ≤ min (length entry) 16777216 → take (length file) exit ≡ file

-- what was put becomes the answer, and the room is zero behind it; 21 exactly where it measures more than the room or
-- more than the limit
unfoldable pub settled_of : Put → List ℕ → Written
settled_of put out =
    refuse (ltb (length out) put.count || ltb 16777216 put.count) (writing_refused (length out) 21 0)
    (record {
      answer = meaning.accepted put.count 0 0;
      output = take put.count out ++ replicate (length out - put.count) 0;
    })
