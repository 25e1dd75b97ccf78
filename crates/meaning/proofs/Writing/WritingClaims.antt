-- The claims of specs/WritingClaims.antt. Assumes nothing.
use Rattle.meaning.specs.WritingClaims.{Unwritable, NoLinesEither, JudgedExactly, SameExactly, Writes, TooSmallExactly, WidthExactly, BadModelWrites, WrittenIsCut, RoundTrip, LentIsEnough, WrittenAgain, ReadIsWritable, WritingRefusalZeroes, WritingKeepsRoom, WrittenZeroBehind, CutExactly, WrittenFitsWidth}
use Rattle.meaning.proofs.Judge.Unwritable as lines
use Rattle.meaning.proofs.Judge.Exactly as judged
use Rattle.meaning.proofs.Judge.SameTables as tables
use Rattle.meaning.proofs.Writing.Refusals as refusals
use Rattle.meaning.proofs.Writing.RoundTrip as back
use Rattle.meaning.proofs.Writing.RoomsLeft as left
use Rattle.meaning.proofs.Writing.CutLines as cuts
use Rattle.meaning.proofs.Writing.WrittenAgain as again
use Rattle.meaning.proofs.Writing.ReadWritable as writable

pub unwritable : Unwritable
unwritable model m t width room e low high = refusals.unwritable model m t width room e (low, high)

pub no_lines_either : NoLinesEither
no_lines_either = lines.no_lines_either

pub judged_exactly : JudgedExactly
judged_exactly = judged.judged_exactly

pub same_exactly : SameExactly
same_exactly = tables.same_exactly

pub writes : Writes
writes = refusals.writes

pub too_small_exactly : TooSmallExactly
too_small_exactly = refusals.too_small_exactly

pub width_exactly : WidthExactly
width_exactly = refusals.width_exactly

pub bad_model_writes : BadModelWrites
bad_model_writes = refusals.bad_model_writes

pub written_is_cut : WrittenIsCut
written_is_cut = back.written_is_cut

pub round_trip : RoundTrip
round_trip = back.round_trip

pub lent_is_enough : LentIsEnough
lent_is_enough = back.lent_is_enough

pub written_again : WrittenAgain
written_again = again.written_again

pub read_is_writable : ReadIsWritable
read_is_writable = writable.read_is_writable

pub writing_refusal_zeroes : WritingRefusalZeroes
writing_refusal_zeroes model t width room = (left.writing_left model t width room).zeroes

pub writing_keeps_room : WritingKeepsRoom
writing_keeps_room model t width room = (left.writing_left model t width room).keeps

pub written_zero_behind : WrittenZeroBehind
written_zero_behind model t width room = (left.writing_left model t width room).used

pub cut_exactly : CutExactly
cut_exactly = cuts.cut_exactly

pub written_fits_width : WrittenFitsWidth
written_fits_width = left.written_fits
