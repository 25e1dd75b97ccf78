-- The first refusal in the fixed order: a refusal is the first one, and the first one is given. Assumes nothing.
use Prim.Native.Nat.{ℕ, ◌+◌, ◌<◌}
use native.Mathlib.Omega.{arith}
use mathlib.Core.Path.{◌≡◌, refl, sym, ap, subst, ◌∙◌}
use mathlib.Core.Bool.{Bool, true, false, ◌||◌, true≢false}
use mathlib.Core.List.{List, ◌∷◌, ◌++◌}
use lib.Dec.{ltb}
use lib.ListN.{length}
use borrow.Author.Tests.{ltb-true, ltb-false, le-ltb, lt-ltb}
use Rattle.meaning.specs.Bytes.{refuse}
use Rattle.meaning.specs.Unfold.{Unfolded, lines, fault, unfold_file, unfolded_text}
use Rattle.meaning.specs.Model.{Model}
use Rattle.meaning.specs.Check.{Checked, good, bad, check_model}
use Rattle.meaning.specs.Answer.{refusal}
use Rattle.meaning.specs.Reading.{Due, is_complete, Content, State, start_of, Rooms}
use Rattle.meaning.specs.Lines.{no, step_of, Run, ran, stopped, run, read_lines}
use Rattle.meaning.specs.Table.{Resolved, unresolved, resolve, Result, refused_with, accepted_with, read_resolved, read_run, read_text, read_unfolded, read_checked, read}
use Rattle.meaning.specs.Row.{Pair}
use Rattle.meaning.specs.WritingClaims.{Enough}
use Rattle.meaning.specs.Right.{Entry, Delivered, DeliveredTopic, objects_of_topics, with_starts, File, Unique, table_of}
use Rattle.meaning.specs.Reasons.{Place, end}
use Rattle.meaning.specs.RightClaims.{First, too_large, bad_model, bad_unfolding, no_room, bad_line, full_line, line_missing, object_missing, Opened, HasRoom, Short, ComeTo, line_behind, FirstOfEntries, FirstOfObjects}
use Rattle.meaning.specs.RightClaims as claims
use Rattle.meaning.proofs.Tests.Unequal.{not_accepted}
use Rattle.meaning.proofs.Model.Marks as marks
use Rattle.meaning.proofs.Unfolding.Cuts as cuts
use Rattle.meaning.proofs.Model.GoodModels as models
use Rattle.meaning.proofs.Reading.Claims.{fault_exactly}
use Rattle.meaning.proofs.Writing.Writable.{read_to_end}
use Rattle.meaning.proofs.Right.Content.{content_of}
use Rattle.meaning.proofs.Right.Objects.{LinesStand, lines_stand}
use Rattle.meaning.proofs.Right.Topics.{file_read}
use Rattle.meaning.proofs.Right.Table.{References, all_named, first_unnamed, references_of, entries_unnamed, objects_unnamed, lines_read, room_for}
use Rattle.meaning.proofs.Right.BackTopics.{FileOf}
use Rattle.meaning.proofs.Right.Accepted.{no_marks, lines_right, enough_of, references_read, content_is}
use Rattle.meaning.proofs.Right.Runs.{StoppedAt, stopped_at, passed_then, stopped_lines, missing_lines, complete_lines, LinesCame, stops_at, lacks, passes, lines_came}
use Rattle.meaning.proofs.Right.Places.{At, Refused, reason, full}
use Rattle.meaning.proofs.Right.Come.{Come}
use Rattle.meaning.proofs.Right.Behind.{before_stand, at_end_lem, due_nothing, run_come, line_refused, come_run, reason_refuses, full_refuses}

-- ## One first reference that names no object

entries_first : (all : List Delivered) {field at at' : ℕ} {ps : List Pair} {es : List Entry} → FirstOfEntries all field ps es at → FirstOfEntries all field ps es at' → at ≡ at'
entries_first all (claims.FirstOfEntries.here h) (claims.FirstOfEntries.here h') = refl
entries_first all (claims.FirstOfEntries.here h) (claims.FirstOfEntries.later i r) = absurd (h i)
entries_first all (claims.FirstOfEntries.later i r) (claims.FirstOfEntries.here h) = absurd (h i)
entries_first all (claims.FirstOfEntries.later i r) (claims.FirstOfEntries.later i' r') = entries_first all r r'

objects_first : (m : Model) (all : List Delivered) {n a b a' b' : ℕ} {os : List Delivered} → FirstOfObjects m all n os a b → FirstOfObjects m all n os a' b' → (a ≡ a') × (b ≡ b')
objects_first m all (claims.FirstOfObjects.here f) (claims.FirstOfObjects.here f') = (refl, entries_first all f f')
objects_first m all (claims.FirstOfObjects.here f) (claims.FirstOfObjects.later n r) = absurd (entries_unnamed all f n)
objects_first m all (claims.FirstOfObjects.later n r) (claims.FirstOfObjects.here f) = absurd (entries_unnamed all f n)
objects_first m all (claims.FirstOfObjects.later n r) (claims.FirstOfObjects.later n' r') = objects_first m all r r'

-- ## The parts of reading

-- a file that is opened is unfolded to its lines
pub opened_unfolds : (model file : List ℕ) (m : Model) (ls : List (List ℕ)) → Opened model file m ls → unfold_file m.mark file ≡ lines ls
opened_unfolds model file m ls o = cuts.cut_unfolds m.mark (marks.good_mark model m o.is_good) o.cut

module _ (model file : List ℕ) (rooms : Rooms) where
  pub read_opened : (m : Model) (ls : List (List ℕ)) → Opened model file m ls → HasRoom m ls rooms → (r : Run) → read_lines m rooms (unfolded_text ls) (start_of m) ls ≡ r
      → read model file rooms ≡ read_run m rooms (unfolded_text ls) r
  unfolding read refuse read_checked read_unfolded read_text
  read_opened m ls o room r e =
      rw (
        le-ltb 16777216 (length file) o.short,
        o.is_good,
        opened_unfolds model file m ls o,
        le-ltb rooms.text (length (unfolded_text ls)) room.text,
        le-ltb rooms.marks (length m.topics + length m.tables) room.marks,
        e,
      )

  pub read_crowded : (m : Model) (ls : List (List ℕ)) → Opened model file m ls → (ltb rooms.text (length (unfolded_text ls)) || ltb rooms.marks (length m.topics + length m.tables)) ≡ true
      → read model file rooms ≡ refused_with rooms 6 0 0
  unfolding read refuse read_checked read_unfolded read_text
  read_crowded m ls o e = rw (le-ltb 16777216 (length file) o.short, o.is_good, opened_unfolds model file m ls o, e)

  pub read_faulty : (m : Model) (number line : ℕ) → Short file → check_model model ≡ good m → unfold_file m.mark file ≡ fault number line → read model file rooms ≡ refused_with rooms number line 0
  unfolding read refuse read_checked read_unfolded
  read_faulty m number line short e h = rw (le-ltb 16777216 (length file) short, e, h)

  read_bad : (at : ℕ) → Short file → check_model model ≡ bad at → read model file rooms ≡ refused_with rooms 2 at 0
  unfolding read refuse read_checked
  read_bad at short e = rw (le-ltb 16777216 (length file) short, e)

  pub read_large : 16777216 < length file → read model file rooms ≡ refused_with rooms 1 0 0
  unfolding read refuse
  read_large l = rw (lt-ltb 16777216 (length file) l)

  pub no_room_lem : (m : Model) (ls : List (List ℕ)) → (HasRoom m ls rooms → ⊥) → (ltb rooms.text (length (unfolded_text ls)) || ltb rooms.marks (length m.topics + length m.tables)) ≡ true
  no_room_lem m ls h = by (ltb rooms.text (length (unfolded_text ls))) refl (ltb rooms.marks (length m.topics + length m.tables)) refl
    where
      by : (a : Bool) → ltb rooms.text (length (unfolded_text ls)) ≡ a → (b : Bool) → ltb rooms.marks (length m.topics + length m.tables) ≡ b → (a || b) ≡ true
      by true p b q = refl
      by false p true q = refl
      by false p false q = absurd (h (record { text = ltb-false rooms.text (length (unfolded_text ls)) p; marks = ltb-false rooms.marks (length m.topics + length m.tables) q }))

-- a reference that names no object is refused with 17
unnamed : (m : Model) (rooms : Rooms) (own marks : List ℕ) (os : List Delivered) (c : Content) (object field : ℕ) → References m own marks os → c ≡ content_of marks os → FirstOfObjects m os 0 os object field
    → read_resolved rooms own c (resolve m own c) ≡ refused_with rooms 17 object field
unfolding read_resolved
unnamed m rooms own marks os c object field (all_named r h) e f = absurd (objects_unnamed m os f r)
unnamed m rooms own marks os c object field (first_unnamed a b f' h) e f =
    let q = objects_first m os f' f in
    let there : resolve m own c ≡ unresolved object field = ap (λ (x : Content). resolve m own x) e ∙ (h ∙ (ap (λ (x : ℕ). unresolved x b) q.0 ∙ ap (λ (x : ℕ). unresolved object x) q.1)) in
    rw there

module _ (model file : List ℕ) (rooms : Rooms) where
  -- ## The first one is given

  -- a line that is refused behind lines that passed
  refused_given : (m : Model) (before : List (List ℕ)) (l : List ℕ) (after : List (List ℕ)) (s : State) (n field : ℕ) → Opened model file m (before ++ (l ∷ after)) → HasRoom m (before ++ (l ∷ after)) rooms
      → run m rooms (unfolded_text (before ++ (l ∷ after))) (start_of m) before ≡ ran s → step_of m rooms (unfolded_text (before ++ (l ∷ after))) l s ≡ no n field
      → read model file rooms ≡ refused_with rooms n (1 + length before) field
  unfolding read_run start_of
  refused_given m before l after s n field o room p h =
      let ls : List (List ℕ) = before ++ (l ∷ after) in
      read_opened model file rooms m ls o room _ (stopped_lines m rooms (unfolded_text ls) (start_of m) ls n (1 + length before) field (passed_then m rooms (unfolded_text ls) before after l (start_of m) s n field p h))

  missing_given : (m : Model) (ls : List (List ℕ)) {x : Place} {used : List (List ℕ)} {cells points : ℕ} → Opened model file m ls → HasRoom m ls rooms → ComeTo m rooms ls x used cells points → (x ≡ end → ⊥)
      → read model file rooms ≡ refused_with rooms 7 (1 + length ls) 1
  unfolding read_run start_of
  missing_given m ls {x = x} o room k other =
      let own : List ℕ = unfolded_text ls in
      let r = come_run m rooms own ls (lines_stand own 0 ls refl) (models.checked_good model m o.is_good) k in
      read_opened model file rooms m ls o room _ (missing_lines m rooms own (start_of m) r.state ls r.runs (by r.state.due r.stands.at _ refl))
    where
      by : (due : Due) → At due x → (b : Bool) → is_complete due ≡ b → is_complete due ≡ false
      by due at true e = absurd (other (at_end_lem at e))
      by due at false e = e

  object_given : (m : Model) (ls : List (List ℕ)) (ds : List DeliveredTopic) (object field : ℕ) → Opened model file m ls → File m (with_starts 0 ls) ds → Unique (objects_of_topics ds) → Enough m ls (table_of m ds) rooms
      → FirstOfObjects m (objects_of_topics ds) 0 (objects_of_topics ds) object field → read model file rooms ≡ refused_with rooms 17 object field
  unfolding read_run
  object_given m ls ds object field o structure unique enough f =
      let own : List ℕ = unfolded_text ls in
      let to = lines_read m (models.checked_good model m o.is_good) rooms ls ds structure unique (room_for m rooms ds enough.rows enough.cells enough.points) in
      let there = references_of m own (table_of m ds).marks (objects_of_topics ds) (file_read m own structure (lines_stand own 0 ls refl)) in
      read_opened model file rooms m ls o (record { text = enough.text; marks = enough.marks }) _ (read_to_end m rooms own (start_of m) to.final ls to.runs to.due)
      ∙ unnamed m rooms own (table_of m ds).marks (objects_of_topics ds) to.final.content object field there to.content f

  pub first_is_refusal : {number first second : ℕ} → First model file rooms number first second → read model file rooms ≡ refused_with rooms number first second
  first_is_refusal (too_large l) = read_large model file rooms l
  first_is_refusal (bad_model {at = at} short e) = read_bad model file rooms at short e
  first_is_refusal (bad_unfolding {m = m} {number = number} {line = line} short e f) =
      read_faulty model file rooms m number line short e ((fault_exactly m.mark (marks.good_mark model m e) file number line).1 f)
  first_is_refusal (no_room {m = m} {ls = ls} o h) = read_crowded model file rooms m ls o (no_room_lem model file rooms m ls h)
  first_is_refusal (bad_line {m = m} {number = number} {field = field} before l after o room k why) =
      let good = models.checked_good model m o.is_good in
      let own : List ℕ = unfolded_text (before ++ (l ∷ after)) in
      let stand = before_stand before (l ∷ after) in
      let r = come_run m rooms own before stand good k in
      refused_given m before l after r.state number field o room r.runs (reason_refuses m rooms own before stand good k r l number field why)
  first_is_refusal (full_line {m = m} {y = y} {g = g} before l after o room k f no-space) =
      let good = models.checked_good model m o.is_good in
      let own : List ℕ = unfolded_text (before ++ (l ∷ after)) in
      let stand = before_stand before (l ∷ after) in
      let r = come_run m rooms own before stand good k in
      refused_given m before l after r.state 16 0 o room r.runs (full_refuses m rooms own before stand good k r l y g f no-space)
  first_is_refusal (line_missing {m = m} {ls = ls} o room k other) = missing_given m ls o room k other
  first_is_refusal (object_missing {m = m} {ls = ls} {ds = ds} {object = object} {field = field} o structure unique enough f) = object_given m ls ds object field o structure unique enough f

  -- ## A refusal is the first one

  module _ (number first second : ℕ) (h : (read model file rooms).answer ≡ refusal number first second) where
    abbrev Answered : Type 0
    Answered = First model file rooms number first second

    -- the first one that is given is the answer
    given : (n a b : ℕ) → First model file rooms n a b → Answered
    unfolding refused_with
    given n a b f =
        let q : refusal n a b ≡ refusal number first second = sym (ap (λ (r : Result). r.answer) (first_is_refusal f)) ∙ h in
        let x : n ≡ number = cc in
        let y : a ≡ first = cc in
        let z : b ≡ second = cc in
        subst (λ (k : ℕ). First model file rooms k first second) x (subst (λ (k : ℕ). First model file rooms n k second) y (subst (λ (k : ℕ). First model file rooms n a k) z f))

    -- a line that was refused
    stop_given : (m : Model) (before : List (List ℕ)) (l : List ℕ) (after : List (List ℕ)) (s : State) (n field : ℕ) → Opened model file m (before ++ (l ∷ after)) → HasRoom m (before ++ (l ∷ after)) rooms
        → run m rooms (unfolded_text (before ++ (l ∷ after))) (start_of m) before ≡ ran s → step_of m rooms (unfolded_text (before ++ (l ∷ after))) l s ≡ no n field → Answered
    stop_given m before l after s n field o room e q = by n field (line_refused m rooms own before stand l s n field e come q)
      where
        own : List ℕ
        own = unfolded_text (before ++ (l ∷ after))

        stand : LinesStand (unfolded_text (before ++ (l ∷ after))) (with_starts 0 before)
        stand = before_stand before (l ∷ after)

        come : Come m rooms (unfolded_text (before ++ (l ∷ after))) (with_starts 0 before) s.due s.content
        come = run_come m rooms own before stand s e

        come_to : ComeTo m rooms before come.place come.used (length s.content.cells) (length s.content.points)
        come_to = record { reached = come.reached; room = come.room }

        by : (n field : ℕ) → Refused m rooms (unfolded_text (before ++ (l ∷ after))) come.used s.due s.content come.place (line_behind before l) n field → Answered
        by n field (reason why) = given n (1 + length before) field (bad_line before l after o room come_to why)
        by _ _ (full f no-space) = given 16 (1 + length before) 0 (full_line before l after o room come_to f no-space)

    stops_given : (m : Model) (ls : List (List ℕ)) → Opened model file m ls → HasRoom m ls rooms → (n line field : ℕ) → run m rooms (unfolded_text ls) (start_of m) ls ≡ stopped n line field → Answered
    stops_given m ls o room n line field e = there (stopped_at m rooms (unfolded_text ls) ls (start_of m) n line field e)
      where
        there : StoppedAt m rooms (unfolded_text ls) (start_of m) ls n line field → Answered
        there at =
            let is = at.is in
            stop_given m at.before at.l at.after at.state n field (rw is at o) (rw is at room) (rw is at at.runs) (rw is at at.refuses)

    lacks_given : (m : Model) (ls : List (List ℕ)) → Opened model file m ls → HasRoom m ls rooms → (s : State) → run m rooms (unfolded_text ls) (start_of m) ls ≡ ran s → is_complete s.due ≡ false → Answered
    unfolding is_complete
    lacks_given m ls o room s e d =
        let own : List ℕ = unfolded_text ls in
        let come = run_come m rooms own ls (lines_stand own 0 ls refl) s e in
        given 7 (1 + length ls) 1
        (line_missing o room (record { reached = come.reached; room = come.room }) (λ q. true≢false (sym (ap is_complete (due_nothing come.stands.at q)) ∙ d)))

    pass_given : (m : Model) (ls : List (List ℕ)) → Opened model file m ls → HasRoom m ls rooms → (s : State) → run m rooms (unfolded_text ls) (start_of m) ls ≡ ran s → is_complete s.due ≡ true → Answered
    unfolding read_run read_resolved accepted_with
    pass_given m ls o room s e d =
        let read_to = complete_lines m rooms (unfolded_text ls) (start_of m) s ls e d in
        by read_to (lines_right m rooms ls s read_to)
      where
        outcome : read_lines m rooms (unfolded_text ls) (start_of m) ls ≡ ran s → (f : FileOf m rooms (unfolded_text ls) s.content (no_marks m) (with_starts 0 ls))
            → References m (unfolded_text ls) (table_of m f.ds).marks (objects_of_topics f.ds) → Answered
        outcome read_to f (all_named r q) =
            let there = ap (λ (c : Content). resolve m (unfolded_text ls) c) (sym (content_is m rooms ls s f)) ∙ q in
            absurd (not_accepted number first second _ _ _ (sym h ∙ ap (λ (r : Result). r.answer) (read_opened model file rooms m ls o room _ read_to ∙ ap (λ (x : Resolved). read_resolved rooms (unfolded_text ls) s.content x) there)))
        outcome read_to f (first_unnamed a b n q) = given 17 a b (object_missing o f.structure f.unique (enough_of m rooms ls room s read_to f) n)

        by : read_lines m rooms (unfolded_text ls) (start_of m) ls ≡ ran s → FileOf m rooms (unfolded_text ls) s.content (no_marks m) (with_starts 0 ls) → Answered
        by read_to f = outcome read_to f (references_read m rooms ls s f)

    lines_given : (m : Model) (ls : List (List ℕ)) → Opened model file m ls → HasRoom m ls rooms → Answered
    lines_given m ls o room = by (lines_came m rooms (unfolded_text ls) (start_of m) ls)
      where
        by : LinesCame m rooms (unfolded_text ls) (start_of m) ls → Answered
        by (stops_at n line field e) = stops_given m ls o room n line field e
        by (lacks s e d) = lacks_given m ls o room s e d
        by (passes s e d) = pass_given m ls o room s e d

    room_given : (m : Model) (ls : List (List ℕ)) → Opened model file m ls → Answered
    room_given m ls o = by (ltb rooms.text (length (unfolded_text ls))) refl (ltb rooms.marks (length m.topics + length m.tables)) refl
      where
        by : (a : Bool) → ltb rooms.text (length (unfolded_text ls)) ≡ a → (b : Bool) → ltb rooms.marks (length m.topics + length m.tables) ≡ b → Answered
        by true p b q = given 6 0 0 (no_room o (λ r. omega (arith, ltb-true rooms.text (length (unfolded_text ls)) p, r.text)))
        by false p true q = given 6 0 0 (no_room o (λ r. omega (arith, ltb-true rooms.marks (length m.topics + length m.tables) q, r.marks)))
        by false p false q = lines_given m ls o (record { text = ltb-false rooms.text (length (unfolded_text ls)) p; marks = ltb-false rooms.marks (length m.topics + length m.tables) q })

    model_given : Short file → Answered
    model_given short = by (check_model model) refl
      where
        unfolded : (m : Model) → check_model model ≡ good m → (u : Unfolded) → unfold_file m.mark file ≡ u → Answered
        unfolded m e (fault n line) q = given n line 0 (bad_unfolding short e ((fault_exactly m.mark (marks.good_mark model m e) file n line).0 q))
        unfolded m e (lines ls) q = room_given m ls (record { short = short; is_good = e; cut = (cuts.unfolds_cut m.mark (marks.good_mark model m e) ls file q).0 })

        by : (c : Checked) → check_model model ≡ c → Answered
        by (bad at) e = given 2 at 0 (bad_model short e)
        by (good m) e = unfolded m e _ refl

    pub refusal_is_first : Answered
    refusal_is_first = by (ltb 16777216 (length file)) refl
      where
        by : (x : Bool) → ltb 16777216 (length file) ≡ x → Answered
        by true e = given 1 0 0 (too_large (ltb-true 16777216 (length file) e))
        by false e = model_given (ltb-false 16777216 (length file) e)
