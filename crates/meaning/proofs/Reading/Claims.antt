-- The claims of specs/Claims.antt. Assumes nothing.
use Prim.Native.Nat.{ℕ}
use mathlib.Core.Path.{◌≡◌, refl, sym, ◌∙◌, subst}
use mathlib.Core.List.{List}
use lib.ListN.{length}
use borrow.Author.Tests.{le-ltb}
use Rattle.meaning.specs.Bytes.{refuse}
use Rattle.meaning.specs.Unfold.{lines, fault, Unfolded, unfold_file}
use Rattle.meaning.specs.Cut.{Cut, Mark}
use Rattle.meaning.specs.Check.{bad, good, Checked, check_model}
use Rattle.meaning.specs.Answer.{Answer, text_checked, unfold_text}
use Rattle.meaning.specs.Table.{read, read_unfolded, read_checked}
use Rattle.meaning.specs.Claims.{OneCutUnder, TextUnfolds, TextRefusedExactly, CutUnfolds, UnfoldsCut, OnlyCut, OneCut, CutIsBegun, BegunIsCut, FaultExactly, CutReadsAsLines, CutUnfoldsToText, BadModelReads, CutUnder, CutsReadAlike, RefusalZeroes, BuffersKept, CountsSayWhatIsUsed, UnfoldingRefusalZeroes, UnfoldingKeepsRoom, WidthCuts}
use Rattle.meaning.proofs.Unfolding.TextLeft as text-left
use Rattle.meaning.proofs.Unfolding.Cuts as cuts
use Rattle.meaning.proofs.Unfolding.Faults as faults
use Rattle.meaning.proofs.Unfolding.Texts as texts
use Rattle.meaning.proofs.Model.Marks as marks
use Rattle.meaning.proofs.Unfolding.Widths as widths
use Rattle.meaning.proofs.Reading.Buffers as buffers

pub cut_unfolds : CutUnfolds
cut_unfolds m mark ls f c = cuts.cut_unfolds m mark c

pub unfolds_cut : UnfoldsCut
unfolds_cut m mark ls f e = cuts.unfolds_cut m mark ls f e

abbrev only_cut : (m : ℕ) → Mark m → (ls : List (List ℕ)) (f : List ℕ) → Cut m ls f → OnlyCut m f
only_cut m mark ls f c = record { of = ls; cut = c; only = λ ks d. cuts.cut_unique m mark d c }

pub one_cut : OneCut
one_cut m mark f fine = go (unfold_file m f) refl
  where
    go : (u : Unfolded) → unfold_file m f ≡ u → OnlyCut m f
    go (fault k n) e = absurd (fine k n e)
    go (lines ls) e = only_cut m mark ls f (cuts.unfolds_cut m mark ls f e).0

pub cut_is_begun : CutIsBegun
cut_is_begun m mark ls f c = faults.cut_begun m c

pub begun_is_cut : BegunIsCut
begun_is_cut m mark n f b = let s = faults.begun_cut m b in record { lines = only_cut m mark s.of f s.cut; count = s.count }

pub fault_exactly : FaultExactly
fault_exactly m mark f number line = (faults.fault_first m mark f number line, faults.first_fault m mark)

pub one_cut_under : OneCutUnder
one_cut_under model m f e fine = one_cut m.mark (marks.good_mark model m e) f (λ number line q. fine number line (faults.fault_first m.mark (marks.good_mark model m e) f number line q))

pub cut_reads_as_lines : CutReadsAsLines
unfolding read refuse read_checked read_unfolded
cut_reads_as_lines model m ls f rooms e short cut =
    rw (le-ltb 16777216 (length f) short, e, cuts.cut_unfolds m.mark (marks.good_mark model m e) cut)

pub cut_unfolds_to_text : CutUnfoldsToText
unfolding unfold_text refuse text_checked
cut_unfolds_to_text model m ls f room e short cut =
    rw (le-ltb 16777216 (length f) short, e, cuts.cut_unfolds m.mark (marks.good_mark model m e) cut)

-- ## The unfolding alone

pub text_unfolds : TextUnfolds
text_unfolds model m ls f room e short cut h = cut_unfolds_to_text model m ls f room e short cut ∙ texts.text_fits_lem ls room h

pub text_refused_exactly : TextRefusedExactly
text_refused_exactly model file room number first = (texts.refused_first model file room number first, texts.first_refuses model file room)

pub bad_model_reads : BadModelReads
unfolding read refuse read_checked
bad_model_reads model at f rooms e short = rw (le-ltb 16777216 (length f) short, e)

pub cuts_read_alike : CutsReadAlike
cuts_read_alike model ls f g rooms short-f short-g = go (check_model model) refl
  where
    go : (c : Checked) → check_model model ≡ c → CutUnder c ls f → CutUnder c ls g → read model f rooms ≡ read model g rooms
    go (good m) e cut-f cut-g = cut_reads_as_lines model m ls f rooms e short-f cut-f ∙ sym (cut_reads_as_lines model m ls g rooms e short-g cut-g)
    go (bad at) e cut-f cut-g = bad_model_reads model at f rooms e short-f ∙ sym (bad_model_reads model at g rooms e short-g)

pub refusal_zeroes : RefusalZeroes
refusal_zeroes model file rooms number first second e = subst (λ (a : Answer). buffers.Leaves rooms (read model file rooms) a) e (buffers.read_leaves model file rooms).leaves

pub buffers_kept : BuffersKept
buffers_kept model file rooms = (buffers.read_leaves model file rooms).kept

pub counts_say_what_is_used : CountsSayWhatIsUsed
counts_say_what_is_used model file rooms objects count points e = subst (λ (a : Answer). buffers.Leaves rooms (read model file rooms) a) e (buffers.read_leaves model file rooms).leaves

pub width_cuts : WidthCuts
width_cuts mark width ls least h = widths.width_cuts mark width ls least h

pub unfolding_refusal_zeroes : UnfoldingRefusalZeroes
unfolding_refusal_zeroes model file room = (text-left.unfolding_left model file room).zeroes

pub unfolding_keeps_room : UnfoldingKeepsRoom
unfolding_keeps_room model file room = (text-left.unfolding_left model file room).keeps
