-- The claims of specs/RightClaims.antt. Assumes nothing.
use Prim.Native.Nat.{ℕ}
use native.Mathlib.Omega.{arith}
use mathlib.Core.Path.{◌≡◌, refl, sym, ap, subst, ◌∙◌}
use mathlib.Core.Bool.{Bool, true, false}
use mathlib.Core.List.{List}
use lib.Dec.{ltb}
use lib.ListN.{length}
use borrow.Author.Tests.{ltb-true, ltb-false}
use Rattle.meaning.specs.Unfold.{Unfolded, lines, fault, unfold_file, unfolded_text}
use Rattle.meaning.specs.Cut.{Cut}
use Rattle.meaning.specs.Model.{Model}
use Rattle.meaning.specs.Bytes.{refuse}
use Rattle.meaning.specs.Check.{Checked, good, bad, check_model}
use Rattle.meaning.specs.Answer.{accepted, refusal}
use Rattle.meaning.specs.Reading.{Content, State, Rooms}
use Rattle.meaning.specs.Lines.{ran, stopped}
use Rattle.meaning.specs.Table.{Resolved, resolve, Result, refused_with, accepted_with, read_resolved, read_run, read_checked, read}
use Rattle.meaning.specs.Right.{DeliveredTopic, objects_of_topics, Right, table_of}
use Rattle.meaning.specs.RightClaims.{RightIsRead, ReadIsRight, IsAccepted, RightFile, AcceptedExactlyWhenRight, AcceptedWithItsTable, RefusedMeansNotRight, ReferenceIsItsObject, SampleRight, Opened, HasRoom, RefusalIsFirst, FirstIsRefusal, ReachedExactly, ReasonsAlike}
use Rattle.meaning.specs.Compute.{compute_read}
use Rattle.meaning.specs.Sample.{sample_model, with7}
use Rattle.meaning.specs.Neighbours.{reads_sample, one_more, whole_table}
use Rattle.meaning.proofs.Tests.Unequal.{not_accepted}
use Rattle.meaning.proofs.Unfolding.Cuts as cuts
use Rattle.meaning.proofs.Model.Marks as marks
use Rattle.meaning.proofs.Model.GoodModels as models
use Rattle.meaning.proofs.Reading.Claims.{cut_reads_as_lines}
use Rattle.meaning.proofs.Right.Content.{content_of}
use Rattle.meaning.proofs.Right.References as references
use Rattle.meaning.proofs.Right.Table as table
use Rattle.meaning.proofs.Right.Accepted as accepting
use Rattle.meaning.proofs.Right.First as order
use Rattle.meaning.proofs.Right.Complete as complete
use Rattle.meaning.proofs.Right.OneReason as reasons

pub right_is_read : RightIsRead
right_is_read m ls ds rooms g r e = table.right_is_read m g ls ds rooms r e

pub read_is_right : ReadIsRight
read_is_right m ls rooms a = accepting.read_is_right m rooms ls a

pub accepted_with_its_table : AcceptedWithItsTable
accepted_with_its_table model file m rooms e short f =
    let w = f.within in
    cut_reads_as_lines model m f.of file rooms e short f.cut ∙ table.right_is_read m (models.checked_good model m e) f.of w.delivered rooms w.right w.enough

is_accepted : (m : Model) (rooms : Rooms) (own : List ℕ) (ds : List DeliveredTopic) (r : Result) → r ≡ accepted_with rooms own (table_of m ds) (table_of m ds).cells → IsAccepted r.answer
unfolding accepted_with
is_accepted m rooms own ds r e = record { first = _; second = _; third = _; is = ap (λ (x : Result). x.answer) e }

pub accepted_exactly_when_right : AcceptedExactlyWhenRight
unfolding refused_with
accepted_exactly_when_right model file m rooms e short = (λ a. to (unfold_file m.mark file) refl a, λ f. from f)
  where
    -- a file that is accepted was unfolded
    to : (u : Unfolded) → unfold_file m.mark file ≡ u → IsAccepted (read model file rooms).answer → RightFile m file rooms
    to (fault number line) q a =
        absurd (not_accepted number line 0 a.first a.second a.third (sym (ap (λ (r : Result). r.answer) (order.read_faulty model file rooms m number line short e q)) ∙ a.is))
    to (lines ls) q a =
        let cut = (cuts.unfolds_cut m.mark (marks.good_mark model m e) ls file q).0 in
        let same = cut_reads_as_lines model m ls file rooms e short cut in
        record { of = ls; cut = cut; within = accepting.read_is_right m rooms ls (subst (λ (r : Result). IsAccepted r.answer) same a) }

    from : RightFile m file rooms → IsAccepted (read model file rooms).answer
    from f = is_accepted m rooms (unfolded_text f.of) f.within.delivered (read model file rooms) (accepted_with_its_table model file m rooms e short f)

pub reference_is_its_object : ReferenceIsItsObject
reference_is_its_object os target i unique n = references.reference_is_its_object os target i unique n

-- ## The sample

sample_read : (read sample_model (with7 "OBJE k1 A_1 10.0 20.5") one_more).answer ≡ accepted 2 18 3
unfolding compute_read reads_sample
sample_read = ap (λ (r : Result). r.answer) whole_table

sample_checked : (c : Checked) → check_model sample_model ≡ c → SampleRight
unfolding read refuse read_checked refused_with
sample_checked (good m) e =
    record { model = m; is_good = e; file = (accepted_exactly_when_right sample_model (with7 "OBJE k1 A_1 10.0 20.5") m one_more e (omega arith)).0 (record { first = 2; second = 18; third = 3; is = sample_read }) }
sample_checked (bad at) e = absurd (not_accepted 2 at 0 2 18 3 (sym (rw e refl) ∙ sample_read))

pub sample_right : SampleRight
sample_right = sample_checked (check_model sample_model) refl

-- ## Not right

module _ (model file : List ℕ) (m : Model) (rooms : Rooms) (number first second : ℕ) (e : check_model model ≡ good m) (h : (read model file rooms).answer ≡ refusal number first second)
    (not-1 : number ≡ 1 → ⊥) (not-6 : number ≡ 6 → ⊥) (not_16 : number ≡ 16 → ⊥) (ls : List (List ℕ)) (ds : List DeliveredTopic) (cut : Cut m.mark ls file) (r : Right m ls ds) where
  abbrev own : List ℕ
  own = unfolded_text ls

  -- another refusal is not the answer
  other : (n a b : ℕ) → (number ≡ n → ⊥) → read model file rooms ≡ refused_with rooms n a b → ⊥
  unfolding refused_with
  other n a b differs g =
      let q : refusal n a b ≡ refusal number first second = sym (ap (λ (x : Result). x.answer) g) ∙ h in
      let x : number ≡ n = cc in
      differs x

  settled_not : (s : State) → read model file rooms ≡ read_run m rooms own (ran s) → s.content ≡ content_of (table_of m ds).marks (objects_of_topics ds) → ⊥
  unfolding read_run read_resolved accepted_with
  settled_not s g c =
      let there = ap (λ (x : Content). resolve m own x) c ∙ table.right_resolved m ls ds r in
      not_accepted number first second _ _ _ (sym h ∙ ap (λ (x : Result). x.answer) (g ∙ ap (λ (x : Resolved). read_resolved rooms own s.content x) there))

  lines_not : Opened model file m ls → HasRoom m ls rooms → ⊥
  unfolding read_run
  lines_not o room = by (accepting.read_or_full m rooms ls (models.checked_good model m e) ds r.file r.unique)
    where
      by : accepting.ReadOrFull m rooms ls ds → ⊥
      by (accepting.ReadOrFull.read_all s q c) = settled_not s (order.read_opened model file rooms m ls o room (ran s) q) c
      by (accepting.ReadOrFull.too_full line q) = other 16 line 0 not_16 (order.read_opened model file rooms m ls o room (stopped 16 line 0) q)

  opened_not : Opened model file m ls → ⊥
  opened_not o = other 6 0 0 not-6 (order.read_crowded model file rooms m ls o (order.no_room_lem model file rooms m ls (λ room. lines_not o room)))

  not_right : ⊥
  not_right = by (ltb 16777216 (length file)) refl
    where
      by : (x : Bool) → ltb 16777216 (length file) ≡ x → ⊥
      by true q = other 1 0 0 not-1 (order.read_large model file rooms (ltb-true 16777216 (length file) q))
      by false q = opened_not (record { short = ltb-false 16777216 (length file) q; is_good = e; cut = cut })

pub refused_means_not_right : RefusedMeansNotRight
refused_means_not_right model file m rooms number first second e h a b c ls ds cut r = not_right model file m rooms number first second e h a b c ls ds cut r

pub refusal_is_first : RefusalIsFirst
refusal_is_first model file rooms number first second h = order.refusal_is_first model file rooms number first second h

pub first_is_refusal : FirstIsRefusal
first_is_refusal model file rooms number first second f = order.first_is_refusal model file rooms f

pub reached_exactly : ReachedExactly
reached_exactly m ls used cells points g = (complete.reached_complete m ls g used cells points, complete.complete_reached m ls g used cells points)

pub reasons_alike : ReasonsAlike
reasons_alike m used x l g = reasons.reasons_alike m used x l g
