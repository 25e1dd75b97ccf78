-- The claims of specs/RoomClaims.antt. Assumes nothing.
use Rattle.meaning.specs.RoomClaims.{ReadingNumbers, WritingNumbers, UnfoldingNumbers, CheckNumbers, MoreRoomSameAnswer, SomeRoomIsEnough, LinesSayWhatIsUsed, CellsFit}
use Rattle.meaning.proofs.Right.Numbers as numbers
use Rattle.meaning.proofs.Right.MoreRoom as room
use Rattle.meaning.proofs.Right.UsedText as used
use Rattle.meaning.proofs.Right.Enough as enough
use Rattle.meaning.proofs.Right.CellsFit as fit

pub reading_numbers_lem : ReadingNumbers
reading_numbers_lem = numbers.reading_numbers_lem

pub writing_numbers_lem : WritingNumbers
writing_numbers_lem = numbers.writing_numbers_lem

pub unfolding_numbers_lem : UnfoldingNumbers
unfolding_numbers_lem = numbers.unfolding_numbers_lem

pub check_numbers : CheckNumbers
check_numbers = numbers.check_numbers

pub more_room_same_answer : MoreRoomSameAnswer
more_room_same_answer = room.more_room_same_answer

pub some_room_is_enough : SomeRoomIsEnough
some_room_is_enough = enough.some_room_is_enough

pub lines_say_what_is_used : LinesSayWhatIsUsed
lines_say_what_is_used = used.lines_say_what_is_used

pub cells_fit : CellsFit
cells_fit = fit.cells_fit
